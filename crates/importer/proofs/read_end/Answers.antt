-- `read_end` meets its contract: the end of the text, or CRLF.
use mathlib.Core.Path.{sym, ◌∙◌}
use borrow.Author.Tests.{eqb-true, eqb-false}
use Rattle.importer.proofs.Ways.{ended_end, ended_on}
use Rattle.importer.proofs.read_end.Goals as goal

pub returns-then-is_empty : goal.returns-then-is_empty
returns-then-is_empty c = ended_end _ (eqb-true _ _ (sym c.is_empty.ensures ∙ c.if-is_empty.true))

pub returns : goal.returns
returns c = ended_on _ (eqb-false _ _ (sym c.is_empty.ensures ∙ c.if-is_empty.false)) _ c.strip_prefix.ensures.cases
