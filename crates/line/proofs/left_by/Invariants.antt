-- `left_by` meets its contract. The loop's invariant: what was taken from the room is what the numbers before i need.
-- The measure is the numbers that are left.
use Rattle.line.proofs.Stores.{Counting}
use Rattle.line.proofs.left_by.Given as goal

abbrev pub invariant-loop-value : goal.invariant-loop-value
invariant-loop-value l = Counting l.values l.room l.left l.value-index
