-- One more call that failed is one more behind those before it. Assumes nothing.
use Rattle.std.proofs.lemmas.Fn.{FoldsTo-push}
use Rattle.stream.proofs.tried.Goals as goal

pub loop-try-preserved : goal.loop-try-preserved
loop-try-preserved g c = (_, FoldsTo-push _ _ _ _ c.in-Err.error _ c.loop-try.invariant.1 c.in-Err.ensures)
