-- `read_word` meets its contract: the word does not stand there, or the text behind it is answered.
use mathlib.Core.Path.{ap, ◌∙◌}
use Rattle.importer.specs.Inside.{told}
use Rattle.importer.proofs.Ways.{word_other, word_same}
use Rattle.importer.proofs.read_word.Goals as goal

pub returns-in_err-strip_prefix : goal.returns-in_err-strip_prefix
returns-in_err-strip_prefix c = ap told c.from_residual.ensures ∙ word_other _ _ c.in_err-strip_prefix.ensures.cases

pub returns : goal.returns
returns c = word_same _ _ _ c.in_ok-strip_prefix.ensures.cases.0 c.in_ok-strip_prefix.ensures.cases.1
