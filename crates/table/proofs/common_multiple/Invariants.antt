-- The loop's invariant in `common_multiple`: the multiple is that of the trains so far, and none of them
-- has passed the limit.
use Rattle.table.specs.Row.{entries}
use Rattle.table.proofs.RunningMultiple.{Running}
use Rattle.table.proofs.common_multiple.Given as goal

abbrev pub invariant-loop-position : goal.invariant-loop-position
invariant-loop-position l = Running (entries l.row) l.multiple l.position
