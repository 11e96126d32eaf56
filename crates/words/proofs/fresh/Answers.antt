-- `fresh` meets its contract: all words are 0 but the count.
use Rattle.std.proofs.Common.{refl}
use Rattle.words.proofs.Standing.{fresh_words}
use Rattle.words.proofs.fresh.Goals as goal

pub returns : goal.returns
returns c = (fresh_words _, refl)
