-- `read_heading` meets its contract: each word is that of the text behind the one before it.
use mathlib.Core.Path.{ap, ◌∙◌}
use Rattle.listing.specs.Means.{phase_word, period_word, duration_word}
use Rattle.listing.specs.Answer.{word_in}
use Rattle.importer.specs.Inside.{behind}
use Rattle.importer.proofs.Ways.{behind_none, behind_some, heading_ended}
use Rattle.importer.proofs.Ways.{first_missing, first_alone, second_missing, second_alone, third_missing}
use Rattle.importer.proofs.read_heading.Goals as goal

pub returns-in_err-text : goal.returns-in_err-text
returns-in_err-text c =
    ap behind c.from_residual.ensures
    ∙ first_missing (word_in phase_word) (word_in period_word) (word_in duration_word) (λ _ _ _. tt) _ (behind_none _ _ c.read_label.ensures c.in_err-text.was)

pub returns-in_err-strip_prefix : goal.returns-in_err-strip_prefix
returns-in_err-strip_prefix c =
    ap behind c.from_residual-in_err-strip_prefix.ensures
    ∙ first_alone (word_in phase_word) (word_in period_word) (word_in duration_word) (λ _ _ _. tt) _ _ _ (behind_some _ _ c.read_label.ensures _ c.in_ok-text.was) c.in_err-strip_prefix.ensures.cases

pub returns-in_err-text-2 : goal.returns-in_err-text-2
returns-in_err-text-2 c =
    ap behind c.from_residual-in_err-text-2.ensures
    ∙ second_missing (word_in phase_word) (word_in period_word) (word_in duration_word) (λ _ _ _. tt) _ _ _ (behind_some _ _ c.read_label.ensures _ c.in_ok-text.was)
    _ c.in_ok-strip_prefix.ensures.cases.0 c.in_ok-strip_prefix.ensures.cases.1 (behind_none _ _ c.read_label-2.ensures c.in_err-text-2.was)

pub returns-in_err-strip_prefix-2 : goal.returns-in_err-strip_prefix-2
returns-in_err-strip_prefix-2 c =
    ap behind c.from_residual-in_err-strip_prefix-2.ensures
    ∙ second_alone (word_in phase_word) (word_in period_word) (word_in duration_word) (λ _ _ _. tt) _ _ _ (behind_some _ _ c.read_label.ensures _ c.in_ok-text.was)
    _ c.in_ok-strip_prefix.ensures.cases.0 c.in_ok-strip_prefix.ensures.cases.1 _ _ (behind_some _ _ c.read_label-2.ensures _ c.in_ok-text-2.was) c.in_err-strip_prefix-2.ensures.cases

pub returns-in_err-text-3 : goal.returns-in_err-text-3
returns-in_err-text-3 c =
    ap behind c.from_residual-in_err-text-3.ensures
    ∙ third_missing (word_in phase_word) (word_in period_word) (word_in duration_word) (λ _ _ _. tt) _ _ _ (behind_some _ _ c.read_label.ensures _ c.in_ok-text.was)
    _ c.in_ok-strip_prefix.ensures.cases.0 c.in_ok-strip_prefix.ensures.cases.1 _ _ (behind_some _ _ c.read_label-2.ensures _ c.in_ok-text-2.was)
    _ c.in_ok-strip_prefix-2.ensures.cases.0 c.in_ok-strip_prefix-2.ensures.cases.1 (behind_none _ _ c.read_label-3.ensures c.in_err-text-3.was)

pub returns : goal.returns
returns c =
    c.read_end.ensures
    ∙ heading_ended (word_in phase_word) (word_in period_word) (word_in duration_word) _ _ (behind_some _ _ c.read_label.ensures _ c.in_ok-text.was)
    _ c.in_ok-strip_prefix.ensures.cases.0 c.in_ok-strip_prefix.ensures.cases.1 _ (behind_some _ _ c.read_label-2.ensures _ c.in_ok-text-2.was)
    _ c.in_ok-strip_prefix-2.ensures.cases.0 c.in_ok-strip_prefix-2.ensures.cases.1 _ (behind_some _ _ c.read_label-3.ensures _ c.in_ok-text-3.was)
