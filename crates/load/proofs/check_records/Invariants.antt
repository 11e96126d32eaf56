-- The loop's invariant in `check_records`: what there is to refuse from the first record on is what there is to refuse from here on.
use mathlib.Core.List.{map}
use Rattle.table.proofs.Checks.{Passing}
use Rattle.stored.specs.Answer.{stored_check}
use Rattle.load.proofs.Walk.{entry_of}
use Rattle.load.proofs.check_records.Given as goal

abbrev pub invariant-loop-position : goal.invariant-loop-position
invariant-loop-position l = Passing stored_check (map entry_of l.records) l.position
