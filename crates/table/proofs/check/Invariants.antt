-- The loop's invariant in `check`: what there is to refuse from the first train on is what there is to
-- refuse from here on.
use Rattle.table.specs.Row.{entries}
use Rattle.table.specs.Answer.{entry_check}
use Rattle.table.proofs.Checks.{Passing}
use Rattle.table.proofs.check.Given as goal

abbrev pub invariant-loop-position : goal.invariant-loop-position
invariant-loop-position l = Passing entry_check (entries l.row) l.position
