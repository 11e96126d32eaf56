-- The proof of what specs/Promises.antt states.
-- Assumes nothing.
use Rattle.judge.specs.Promises.{Promises}
use Rattle.judge.proofs.Ordered as ordered
use Rattle.judge.proofs.Walk as walk
use Rattle.judge.proofs.Meaning as meaning

pub promises : Promises
promises =
    record {
      pairs_all = ordered.pairs_all;
      pairs_before = ordered.pairs_before;
      pairs_count = walk.pairs_count;
      pairs_most = walk.pairs_most;
      refuse_exactly = meaning.refuse_exactly;
      refuse_only = meaning.refuse_only;
      accept_schedulable = meaning.accept_schedulable;
      collide_exactly = meaning.collide_exactly;
      accept_figures = meaning.accept_figures;
      collide_figures = meaning.collide_figures;
      accept_divisions_per_pair = meaning.accept_divisions_per_pair;
      collide_divisions_per_pair = meaning.collide_divisions_per_pair;
      accept_divisions = meaning.accept_divisions;
      collide_divisions = meaning.collide_divisions;
      verdict_same = meaning.verdict_same;
    }
