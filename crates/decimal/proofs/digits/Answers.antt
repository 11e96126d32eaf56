-- `digits` meets its contract. The loop's invariant: the number that is found from the first digit on is the one that is found
-- from here on, behind those that were passed.
use mathlib.Core.Path.{refl, ap, ◌∙◌}
use native.Mathlib.Omega.{arith}
use native.Mathlib.Nat.{le_refl}
use Rattle.std.proofs.lemmas.Slice.{between_to_end}
use lib.ListN.{length, length-drop}
use Rattle.decimal.specs.Answer.{digits_from}
use Rattle.decimal.proofs.Ways.{is_one, answered, digits_end, digits_stop, digits_on, digits_over, found_there, found_nothing}
use Rattle.decimal.proofs.digits.Goals as goal

pub loop-passed-init : goal.loop-passed-init
loop-passed-init c = ap (digits_from 0) (between_to_end c.args.text.now c.args.at _ (le_refl _))

pub returns-then-not-is_ascii_digit : goal.returns-then-not-is_ascii_digit
returns-then-not-is_ascii_digit c =
    found_there _ _ _ _ _ _ (between_to_end c.args.text.now c.args.at _ (le_refl _)) c.requires (omega (arith, c.loop-passed-test.true))
    (digits_stop _ _ _ c.loop-passed-test.true (is_one _ c.is_ascii_digit.ensures.value c.if-not-is_ascii_digit.true)
    ∙ c.loop-passed.invariant)

pub returns-in_err-value : goal.returns-in_err-value
returns-in_err-value c =
    c.from_residual.ensures
    ∙ found_nothing _ _
    (digits_over _ _ _ c.loop-passed-test.true (is_one _ c.is_ascii_digit.ensures.value c.if-not-is_ascii_digit.false) _ refl
    (omega (arith, c.in_err-value.ensures))
    ∙ c.loop-passed.invariant)

pub loop-passed-preserved : goal.loop-passed-preserved
loop-passed-preserved c =
    digits_on _ _ _ c.loop-passed-test.true (is_one _ c.is_ascii_digit.ensures.value c.if-not-is_ascii_digit.false) _
    c.in_ok-value.ensures.1
    (omega (arith, c.in_ok-value.ensures.0, c.in_ok-value.ensures.1))
    ∙ c.loop-passed.invariant

pub returns : goal.returns
returns c =
    let rest = between_to_end c.args.text.now c.args.at _ (le_refl _) in
    ap (answered c.loop-passed.value) (omega (arith, c.loop-passed-test.false, c.loop-passed.auto.passed-end, ap length rest, length-drop c.args.at c.args.text.now))
    ∙ found_there _ _ _ _ _ _ rest c.requires (omega (arith, c.loop-passed.auto.passed-end))
    (digits_end _ _ _ c.loop-passed-test.false ∙ c.loop-passed.invariant)
