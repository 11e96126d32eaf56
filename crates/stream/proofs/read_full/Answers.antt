-- The bytes that were read last follow those before them. Assumes nothing.
use Rattle.std.proofs.Common.{rules, sym, subst}
use Rattle.std.specs.Io.KnownBytes.{Consumes}
use Rattle.std.proofs.KnownBytes.{Consumes-trans}
use Rattle.stream.proofs.Fronts.{front_grows}
use Rattle.stream.proofs.read_full.Goals as goal

pub loop-done-preserved : goal.loop-done-preserved
loop-done-preserved g c =
    let loop = c.loop-done in
    let got = c.in_ok-count in
    let joined = front_grows loop.done _ got.count loop.buffer c.read.new.buffer loop.invariant.1 got.ensures.front.0 in
    (search rules, search rules, subst (Consumes _ _) (sym joined) (Consumes-trans _ _ _ _ _ c.loop-done.invariant.2 c.in_ok-count.ensures.taken))
