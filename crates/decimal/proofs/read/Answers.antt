-- `read` meets its contract: a law for each return.
use mathlib.Core.Path.{sym, ap, ◌∙◌}
use native.Mathlib.Omega.{arith}
use Rattle.decimal.specs.Answer.{is_digit}
use Rattle.decimal.proofs.Ways.{is_one, number_end, number_no_digit, number_digits}
use Rattle.decimal.proofs.read.Goals as goal

pub returns-in_err-get : goal.returns-in_err-get
returns-in_err-get c =
    c.from_residual.ensures ∙ number_end c.args.text.now c.args.at (omega (arith, c.in_err-get.ensures.lookup))

pub returns-then-not-is_ascii_digit : goal.returns-then-not-is_ascii_digit
returns-then-not-is_ascii_digit c =
    number_no_digit c.args.text.now c.args.at
    (ap is_digit (sym (c.in_ok-get.ensures.lookup.3.1 0))
    ∙ is_one c.in_ok-get.field-0.now c.is_ascii_digit.ensures.value c.if-not-is_ascii_digit.true)

pub returns : goal.returns
returns c =
    c.digits.ensures
    ∙ number_digits c.args.text.now c.args.at
    (ap is_digit (sym (c.in_ok-get.ensures.lookup.3.1 0))
    ∙ is_one c.in_ok-get.field-0.now c.is_ascii_digit.ensures.value c.if-not-is_ascii_digit.false)
