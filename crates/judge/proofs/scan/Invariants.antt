-- The loop's invariant in `scan`: all pairs before those of `first` are free, and what there is to find from the first pair on
-- is what there is to find from here on.
use Rattle.judge.proofs.Walk.{Walking}
use Rattle.judge.proofs.scan.Given as goal

abbrev pub invariant-loop-first : goal.invariant-loop-first
invariant-loop-first l = Walking l.trains l.first l.divisions
