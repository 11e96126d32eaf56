-- `put_tail` meets its contract: a slice is written over.
use Rattle.std.proofs.Common.{refl, sym, ◌∙◌, rules}
use Rattle.lent.proofs.Over.{over_slice, over_sets}
use Rattle.words.proofs.put_tail.Goals as goal

pub returns : goal.returns
returns c = over_slice c.args.words.now _ _ 256 _ c.copy_from_slice.ensures.after refl ∙ sym (over_sets c.args.words.now 256 _ (search rules))
