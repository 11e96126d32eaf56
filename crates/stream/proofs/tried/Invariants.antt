-- The calls that failed so far. Assumes nothing.
use Rattle.std.specs.Prelude.{List, Err}
use Rattle.std.specs.List.{FoldsTo}
use Rattle.stream.proofs.tried.Given as goal

abbrev pub invariant-loop-try : goal.invariant-loop-try
invariant-loop-try g l = (errors : List _) × FoldsTo (λ p error q. goal.F-step g p (Err error) q) l.fn.call errors l.call
