-- `read_label` meets its contract: the word, in quotes or without.
use Rattle.std.proofs.Common.{rules}
use Rattle.listing.specs.Answer.{word_in}
use Rattle.importer.proofs.Ways.{told_some}
use Rattle.importer.proofs.read_label.Goals as goal

pub returns : goal.returns
returns c = told_some _ _ (c.read_field.ensures (word_in c.args.word.now) (λ l r h. search rules)) _ _ c.in_ok-rest.was
