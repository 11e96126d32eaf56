-- `single` meets its contract: there is a number, and nothing follows it.
use mathlib.Core.Path.{sym, ap, ◌∙◌}
use mathlib.Core.Bool.{Bool}
use Rattle.std.specs.Bool.{then_some}
use Rattle.script.specs.Answer.{single_of}
use Rattle.script.proofs.Ways.{single_then}
use Rattle.script.proofs.single.Goals as goal

pub returns-in_err-value : goal.returns-in_err-value
unfolding single_of
returns-in_err-value c = c.from_residual.ensures ∙ ap single_of (sym c.in_err-value.ensures)

pub returns : goal.returns
returns c =
    c.then_some.ensures
    ∙ ap (λ (empty : Bool). then_some empty c.in_ok-value.value) c.is_empty.ensures
    ∙ single_then _ _ _ c.in_ok-value.ensures
