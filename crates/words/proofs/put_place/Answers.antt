-- `put_place` meets its contract: a slice is written over.
use Rattle.std.proofs.Common.{◌*◌, sym, ◌∙◌, arith}
use Rattle.lent.proofs.Over.{over_slice, over_sets}
use Rattle.words.specs.Record.{place_words}
use Rattle.words.proofs.Standing.{four}
use Rattle.words.proofs.put_place.Goals as goal

pub returns : goal.returns
returns c =
    let a = c.args in
    over_slice a.words.now (place_words a.here) _ (a.place * 4) _ (c.copy_from_slice.ensures.after ∙ c.words_of.ensures) (omega (arith, four a.here.held))
    ∙ sym (over_sets a.words.now (a.place * 4) (place_words a.here) (omega (arith, four a.here.held)))
