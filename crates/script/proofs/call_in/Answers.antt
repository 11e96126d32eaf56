-- `call_in` meets its contract: one word after the other.
use mathlib.Core.Path.{ap, ◌∙◌}
use Rattle.std.proofs.Common.{None, Some}
use Rattle.std.specs.Option.{option_map}
use Rattle.std.proofs.lemmas.Bool.Decides.{Decides-eqb}
use Rattle.std.proofs.lemmas.Slice.Eq.{strip_prefix_is}
use Rattle.script.specs.declared.Call.TheVariants.{Fresh, Withdraw, Step}
use Rattle.script.specs.Says.{fresh_word, admit_word, withdraw_word, step_word}
use Rattle.script.proofs.Ways.{called, spelt_step, spelt_admit, spelt_withdraw, spelt_fresh, spelt_none}
use Rattle.script.proofs.call_in.Goals as goal

pub returns-in-Some : goal.returns-in-Some
returns-in-Some c =
    called Step _ _ c.map.ensures.cases
    ∙ ap (option_map Step) c.single.ensures
    ∙ spelt_step _ _ (strip_prefix_is Decides-eqb c.args.text.now step_word (Some c.in-Some.numbers) c.in-Some.ensures.cases)

pub returns-in-Some-strip_prefix : goal.returns-in-Some-strip_prefix
returns-in-Some-strip_prefix c =
    c.admit.ensures
    ∙ spelt_admit _ _
    (strip_prefix_is Decides-eqb c.args.text.now admit_word (Some c.in-Some-strip_prefix.numbers) c.in-Some-strip_prefix.ensures.cases)

pub returns-in-Some-strip_prefix-2 : goal.returns-in-Some-strip_prefix-2
returns-in-Some-strip_prefix-2 c =
    called Withdraw _ _ c.map-in-Some-strip_prefix-2.ensures.cases
    ∙ ap (option_map Withdraw) c.single-in-Some-strip_prefix-2.ensures
    ∙ spelt_withdraw _ _
    (strip_prefix_is Decides-eqb c.args.text.now withdraw_word (Some c.in-Some-strip_prefix-2.numbers) c.in-Some-strip_prefix-2.ensures.cases)

pub returns-in_err-strip_prefix : goal.returns-in_err-strip_prefix
returns-in_err-strip_prefix c =
    c.from_residual.ensures
    ∙ spelt_none _
    (strip_prefix_is Decides-eqb c.args.text.now step_word None c.in_default.ensures.cases)
    (strip_prefix_is Decides-eqb c.args.text.now admit_word None c.in_default-strip_prefix.ensures.cases)
    (strip_prefix_is Decides-eqb c.args.text.now withdraw_word None c.in_default-strip_prefix-2.ensures.cases)
    (strip_prefix_is Decides-eqb c.args.text.now fresh_word None c.in_err-strip_prefix.ensures.cases)

pub returns : goal.returns
returns c =
    called Fresh _ _ c.map-2.ensures.cases
    ∙ ap (option_map Fresh) c.single-2.ensures
    ∙ spelt_fresh _ _
    (strip_prefix_is Decides-eqb c.args.text.now fresh_word (Some c.in_ok-strip_prefix.field-0) c.in_ok-strip_prefix.ensures.cases)
