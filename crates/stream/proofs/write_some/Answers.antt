-- The call that answered appended what it took; those that failed before it left the output as it was. Assumes nothing.
use Rattle.std.proofs.Common.{rules, refl, ◌≡◌}
use Rattle.std.specs.Io.KnownBytes.{Keeps}
use Rattle.std.proofs.KnownBytes.{Keeps-refl}
use Rattle.stream.proofs.Tries.{all_keep}
use Rattle.stream.proofs.write_some.Goals as goal

pub returns-in-Ok : goal.returns-in-Ok
returns-in-Ok g c =
    let ran = c.in-Ok.ensures in
    let kept =
    all_keep _
    (λ first last.
    Keeps (g.W.Write.contents first.0.now) (g.W.Write.contents last.0.now)
    × (last.0.ghost_name ≡ first.0.ghost_name)
    × (last.1.now ≡ first.1.now))
    (λ first. (Keeps-refl _, refl, refl)) (λ first before after error k call. search rules) ran.0 _ _ ran.2 in
    search rules
