-- `load_and_save` meets its contract: a refusal of loading, or what is saved from the row that was loaded.
use mathlib.Core.Path.{refl, sym}
use native.Mathlib.Omega.{arith}
use lib.ListN.{length}
use lib.Seq.{length-take-le}
use Rattle.std.proofs.Common.{rules}
use Rattle.round.proofs.Trips.{again_stops, again_within, again_saves}
use Rattle.round.proofs.load_and_save.Goals as goal

pub returns-in_err-count-clause-answer : goal.returns-in_err-count-clause-answer
returns-in_err-count-clause-answer c =
    let k = again_stops _ (length c.args.out.now) _ c.in_err-count.ensures.answer in
    search (rules, k)

pub slice_bounds-row-end : goal.slice_bounds-row-end
slice_bounds-row-end c = omega (arith, again_within _ _ c.in_ok-count.ensures.answer)

pub slice_bounds-save-end : goal.slice_bounds-save-end
slice_bounds-save-end c = sym (length-take-le _ _ (omega (arith, again_within _ _ c.in_ok-count.ensures.answer)))

pub returns : goal.returns
returns c =
    let read = c.in_ok-count.ensures in
    let both =
    again_saves _ _ read.answer _ _ _ _ _ (λ i. (c.type_inv.bytes i).fits) refl read.entries c.save.ensures.answer c.save.ensures.bytes in
    record {
      answer = both.0;
      memory = both.1;
    }
