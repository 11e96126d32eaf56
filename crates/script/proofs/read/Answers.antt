-- `read` meets its contract: what is left without a CR, and then the text.
use mathlib.Core.Path.{ap, ◌∙◌}
use mathlib.Core.List.{List, [], ◌∷◌}
use Prim.Native.Nat.{ℕ}
use denote.Ref.{Bor}
use Rattle.std.proofs.lemmas.Bool.Decides.{Decides-eqb}
use Rattle.std.proofs.lemmas.Slice.Eq.{strip_suffix_is}
use Rattle.script.specs.Says.{return}
use Rattle.script.proofs.Ways.{text_of, line_too_long, line_read}
use Rattle.script.proofs.read.Goals as goal

pub returns-then-text-gt-LONGEST-clause-answer : goal.returns-then-text-gt-LONGEST-clause-answer
returns-then-text-gt-LONGEST-clause-answer c =
    line_too_long _ _
    (ap (λ (t : Bor (List ℕ)). t.now) c.unwrap_or-text.ensures
    ∙ text_of _ c.args.line (strip_suffix_is Decides-eqb c.args.line.now (return ∷ []) _ c.strip_suffix.ensures.cases))
    c.if-text-gt-LONGEST.true

pub returns-clause-answer : goal.returns-clause-answer
returns-clause-answer c =
    c.call_in.ensures
    ∙ line_read _ _
    (ap (λ (t : Bor (List ℕ)). t.now) c.unwrap_or-text.ensures
    ∙ text_of _ c.args.line (strip_suffix_is Decides-eqb c.args.line.now (return ∷ []) _ c.strip_suffix.ensures.cases))
    c.if-text-gt-LONGEST.false
