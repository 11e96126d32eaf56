-- The loop's invariant in `scan_behind`: all pairs before that of `second` are free, and what there is to find from the first of
-- them on is what there is to find from here on.
use Rattle.judge.proofs.Walk.{Behind}
use Rattle.judge.proofs.scan_behind.Given as goal

abbrev pub invariant-loop-second : goal.invariant-loop-second
invariant-loop-second l = Behind l.trains l.first l.before l.second l.divisions
