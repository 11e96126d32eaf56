-- `read_entry` meets its contract: each field is that of the text behind the one before it.
use mathlib.Core.Path.{ap, ◌∙◌}
use Rattle.listing.specs.Means.{entry}
use Rattle.listing.specs.Answer.{time_in, phase_in}
use Rattle.importer.specs.Inside.{told}
use Rattle.importer.proofs.Ways.{told_none, told_some, behind_none, behind_some}
use Rattle.importer.proofs.Ways.{first_missing, first_alone, second_missing, second_alone, third_missing, unended, whole}
use Rattle.importer.proofs.read_entry.Goals as goal

pub returns-in_err-phase : goal.returns-in_err-phase
returns-in_err-phase c =
    ap told c.from_residual.ensures
    ∙ first_missing phase_in time_in time_in entry _ (told_none _ _ (c.read_field.ensures phase_in (λ l r h. h)) c.in_err-phase.was)

pub returns-in_err-strip_prefix : goal.returns-in_err-strip_prefix
returns-in_err-strip_prefix c =
    ap told c.from_residual-in_err-strip_prefix.ensures
    ∙ first_alone phase_in time_in time_in entry _ _ _ (told_some _ _ (c.read_field.ensures phase_in (λ l r h. h)) _ _ c.in_ok-phase.was) c.in_err-strip_prefix.ensures.cases

pub returns-in_err-period : goal.returns-in_err-period
returns-in_err-period c =
    ap told c.from_residual-in_err-period.ensures
    ∙ second_missing phase_in time_in time_in entry _ _ _ (told_some _ _ (c.read_field.ensures phase_in (λ l r h. h)) _ _ c.in_ok-phase.was)
    _ c.in_ok-strip_prefix.ensures.cases.0 c.in_ok-strip_prefix.ensures.cases.1 (told_none _ _ (c.read_field-2.ensures time_in (λ l r h. h)) c.in_err-period.was)

pub returns-in_err-strip_prefix-2 : goal.returns-in_err-strip_prefix-2
returns-in_err-strip_prefix-2 c =
    ap told c.from_residual-in_err-strip_prefix-2.ensures
    ∙ second_alone phase_in time_in time_in entry _ _ _ (told_some _ _ (c.read_field.ensures phase_in (λ l r h. h)) _ _ c.in_ok-phase.was)
    _ c.in_ok-strip_prefix.ensures.cases.0 c.in_ok-strip_prefix.ensures.cases.1 _ _ (told_some _ _ (c.read_field-2.ensures time_in (λ l r h. h)) _ _ c.in_ok-period.was) c.in_err-strip_prefix-2.ensures.cases

pub returns-in_err-duration : goal.returns-in_err-duration
returns-in_err-duration c =
    ap told c.from_residual-in_err-duration.ensures
    ∙ third_missing phase_in time_in time_in entry _ _ _ (told_some _ _ (c.read_field.ensures phase_in (λ l r h. h)) _ _ c.in_ok-phase.was)
    _ c.in_ok-strip_prefix.ensures.cases.0 c.in_ok-strip_prefix.ensures.cases.1 _ _ (told_some _ _ (c.read_field-2.ensures time_in (λ l r h. h)) _ _ c.in_ok-period.was)
    _ c.in_ok-strip_prefix-2.ensures.cases.0 c.in_ok-strip_prefix-2.ensures.cases.1 (told_none _ _ (c.read_field-3.ensures time_in (λ l r h. h)) c.in_err-duration.was)

pub returns-in_err-read_end : goal.returns-in_err-read_end
returns-in_err-read_end c =
    ap told c.from_residual-in_err-read_end.ensures
    ∙ unended phase_in time_in time_in entry _ _ _ (told_some _ _ (c.read_field.ensures phase_in (λ l r h. h)) _ _ c.in_ok-phase.was)
    _ c.in_ok-strip_prefix.ensures.cases.0 c.in_ok-strip_prefix.ensures.cases.1 _ _ (told_some _ _ (c.read_field-2.ensures time_in (λ l r h. h)) _ _ c.in_ok-period.was)
    _ c.in_ok-strip_prefix-2.ensures.cases.0 c.in_ok-strip_prefix-2.ensures.cases.1 _ _ (told_some _ _ (c.read_field-3.ensures time_in (λ l r h. h)) _ _ c.in_ok-duration.was) (behind_none _ _ c.read_end.ensures c.in_err-read_end.was)

pub returns : goal.returns
returns c =
    whole phase_in time_in time_in entry _ _ _ (told_some _ _ (c.read_field.ensures phase_in (λ l r h. h)) _ _ c.in_ok-phase.was)
    _ c.in_ok-strip_prefix.ensures.cases.0 c.in_ok-strip_prefix.ensures.cases.1 _ _ (told_some _ _ (c.read_field-2.ensures time_in (λ l r h. h)) _ _ c.in_ok-period.was)
    _ c.in_ok-strip_prefix-2.ensures.cases.0 c.in_ok-strip_prefix-2.ensures.cases.1 _ _ (told_some _ _ (c.read_field-3.ensures time_in (λ l r h. h)) _ _ c.in_ok-duration.was) _ (behind_some _ _ c.read_end.ensures _ c.in_ok-read_end.was)
