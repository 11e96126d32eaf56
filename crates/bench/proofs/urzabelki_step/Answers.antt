-- `urzabelki_step` meets its contract: what `step` answers has room in the number, since the place of a run is a word.
use mathlib.Core.Path.{sym, ap, subst, ◌∙◌}
use Rattle.bench.specs.Answer.{Fits, tick_parts}
use Rattle.bench.proofs.Dispatching.{step_fits}
use Rattle.bench.proofs.urzabelki_step.Goals as goal

pub code-requires : goal.code-requires
code-requires c =
    let word = c.wide-running in
    subst Fits (sym (c.from.ensures ∙ ap tick_parts c.step.ensures.answer)) (step_fits _ _ _ word.ensures.0 word.ensures.1)
