-- The loop's invariant in `read_ticks`: no train so far has a time that is too long, and the array holds
-- them and zeros behind them.
use Rattle.table.specs.Row.{entries}
use Rattle.table.proofs.Ticking.{Filling}
use Rattle.table.proofs.read_ticks.Given as goal

abbrev pub invariant-loop-position : goal.invariant-loop-position
invariant-loop-position l = Filling l.tick (entries l.row) l.trains l.position
