-- `read_field` meets its contract: with a quote, or without.
use mathlib.Core.Path.{ap, ◌∙◌}
use Rattle.importer.specs.Inside.{told}
use Rattle.importer.proofs.Ways.{told_none, told_some, byte_other, byte_same, field_plain, field_quoted, field_missing}
use Rattle.importer.proofs.read_field.Goals as goal

pub returns-in_default : goal.returns-in_default
returns-in_default g c = λ reads h. h _ _ c.read.ensures ∙ field_plain reads _ c.in_default.ensures.cases

pub returns-in_err-value : goal.returns-in_err-value
returns-in_err-value g c =
    λ reads h.
    ap told c.from_residual.ensures
    ∙ field_missing reads _ _ c.in-Some.ensures.cases.0 c.in-Some.ensures.cases.1
    (told_none _ _ (h _ _ c.read-2.ensures) c.in_err-value.was)

pub returns-in_err-strip_prefix : goal.returns-in_err-strip_prefix
returns-in_err-strip_prefix g c =
    λ reads h.
    ap told c.from_residual-in_err-strip_prefix.ensures
    ∙ byte_other 33 _ _ c.in_err-strip_prefix.ensures.cases
    ∙ field_quoted reads _ _ c.in-Some.ensures.cases.0 c.in-Some.ensures.cases.1 _
    (told_some _ _ (h _ _ c.read-2.ensures) _ _ c.in_ok-value.was)

pub returns : goal.returns
returns g c =
    λ reads h.
    byte_same 33 _ _ _ c.in_ok-strip_prefix.ensures.cases.0 c.in_ok-strip_prefix.ensures.cases.1
    ∙ field_quoted reads _ _ c.in-Some.ensures.cases.0 c.in-Some.ensures.cases.1 _
    (told_some _ _ (h _ _ c.read-2.ensures) _ _ c.in_ok-value.was)
