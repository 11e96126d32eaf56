-- `spaced` meets its contract: there is a space, and behind it a number.
use mathlib.Core.Path.{sym, ap, ◌∙◌}
use native.Mathlib.Nat.{le_refl}
use Rattle.std.proofs.Common.{None, Some, [], ◌∷◌}
use Rattle.std.proofs.lemmas.Bool.Decides.{Decides-eqb}
use Rattle.std.proofs.lemmas.Slice.{between_to_end}
use Rattle.std.proofs.lemmas.Slice.Eq.{strip_prefix_is}
use Rattle.decimal.specs.Answer.{found}
use Rattle.script.specs.Says.{space}
use Rattle.script.proofs.Ways.{spaced_other, spaced_is}
use Rattle.script.proofs.spaced.Goals as goal

pub returns-in_err-digits : goal.returns-in_err-digits
returns-in_err-digits c =
    rw c.from_residual.ensures
    (spaced_other _ (strip_prefix_is Decides-eqb c.args.text.now (space ∷ []) None c.in_err-digits.ensures.cases))

pub returns-in_err-number : goal.returns-in_err-number
returns-in_err-number c =
    rw c.from_residual-in_err-number.ensures
    (spaced_is _ _ None
    (strip_prefix_is Decides-eqb c.args.text.now (space ∷ []) (Some c.in_ok-digits.digits) c.in_ok-digits.ensures.cases)
    c.in_err-number.ensures)

pub returns : goal.returns
returns c =
    spaced_is _ _ (Some c.in_ok-number.number)
    (strip_prefix_is Decides-eqb c.args.text.now (space ∷ []) (Some c.in_ok-digits.digits) c.in_ok-digits.ensures.cases)
    c.in_ok-number.ensures
    ∙ ap (found c.in_ok-number.number.value) (sym (between_to_end c.in_ok-digits.digits.now c.in_ok-number.number.end _ (le_refl _)))
