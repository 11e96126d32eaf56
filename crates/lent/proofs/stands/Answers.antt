-- `stands` meets its contract: what is looked at is the text from the index on.
use mathlib.Core.Path.{refl, ap, ◌∙◌}
use mathlib.Core.List.{List}
use Prim.Native.Nat.{ℕ}
use denote.Ref.{Bor}
use Rattle.std.proofs.lemmas.Bool.Decides.{Decides-eqb}
use Rattle.std.proofs.lemmas.Slice.Eq.{starts_is}
use Rattle.lent.specs.Words.{begins_with}
use Rattle.lent.proofs.Words.{begins_told, rest_at}
use Rattle.lent.proofs.stands.Goals as goal

pub returns : goal.returns
returns c =
    begins_told c.args.word.now c.unwrap_or.result.now _ (starts_is Decides-eqb _ _ _ c.starts_with.ensures.value)
    ∙ ap (begins_with c.args.word.now)
    (ap (λ (r : Bor (List ℕ)). r.now) c.unwrap_or.ensures ∙ rest_at _ _ c.get.result _ refl c.get.ensures.lookup.0)
