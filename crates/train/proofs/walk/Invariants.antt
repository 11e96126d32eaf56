-- The loop's invariant: the walk stands at a stroke of `late`, and what there is to find from the first stroke on is what
-- there is to find from here on.
use Rattle.train.proofs.Search.{Walking}
use Rattle.train.proofs.walk.Given as goal

abbrev pub invariant-loop-turn : goal.invariant-loop-turn
invariant-loop-turn l = Walking l.early l.late l.turns l.turn
