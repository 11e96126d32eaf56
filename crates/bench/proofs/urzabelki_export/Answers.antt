-- `urzabelki_export` meets its contract: what `export` answers for the words of a row has room in the number.
use mathlib.Core.Path.{sym, ap, subst, ◌∙◌}
use Rattle.bench.specs.Answer.{Fits, value_parts}
use Rattle.bench.proofs.Listings.{export_fits}
use Rattle.bench.proofs.urzabelki_export.Goals as goal

pub code-requires : goal.code-requires
code-requires c = subst Fits (sym (c.from.ensures ∙ ap value_parts c.export.ensures.answer)) (export_fits _ _ (λ i. (c.type_inv.row i).fits))
