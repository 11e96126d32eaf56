-- `put_numbers` meets its contract. The loop's invariant: where the numbers that are left are written here, all are written.
-- The measure is the numbers that are left.
use Rattle.line.proofs.Stores.{Putting}
use Rattle.line.proofs.put_numbers.Given as goal

abbrev pub invariant-loop-value : goal.invariant-loop-value
invariant-loop-value l = Putting l.values l.initial.out l.at l.out l.next l.value-index
