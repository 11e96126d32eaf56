-- `write` ends: each turn leaves fewer bytes. Where the rest is written, all of the bytes are. Assumes nothing.
use Rattle.std.proofs.Common.{ℕ, List, length}
use Rattle.std.specs.Prelude.{Option}
use Rattle.std.specs.Io.KnownBytes.{Appends}
use Rattle.stream.proofs.write.Given as goal

abbrev pub invariant-loop-rest : goal.invariant-loop-rest
invariant-loop-rest g l =
    (last : Option (List ℕ)) → Appends (g.W.Write.contents l.output) last l.rest → Appends (g.W.Write.contents l.fn.output) last l.bytes

abbrev pub decreases-loop-rest : goal.decreases-loop-rest
decreases-loop-rest g l = length l.rest
