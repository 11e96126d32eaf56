-- `save_and_load` meets its contract: a refusal of saving, or what is loaded from the bytes that were written.
use mathlib.Core.Path.{refl, sym}
use native.Mathlib.Omega.{arith}
use lib.ListN.{length}
use lib.Seq.{length-take-le}
use Rattle.std.proofs.Common.{rules}
use Rattle.round.proofs.Trips.{kept_stops, kept_within, kept_loads}
use Rattle.round.proofs.save_and_load.Goals as goal

pub returns-in_err-end-clause-answer : goal.returns-in_err-end-clause-answer
returns-in_err-end-clause-answer c =
    let k = kept_stops _ (length c.args.back.now) _ (omega arith) _ c.in_err-end.ensures.answer in
    search (rules, k)

pub slice_bounds-out-end : goal.slice_bounds-out-end
slice_bounds-out-end c = omega (arith, kept_within _ _ (omega arith) _ c.in_ok-end.ensures.answer)

pub slice_bounds-load-end : goal.slice_bounds-load-end
slice_bounds-load-end c =
    sym (length-take-le _ _ (omega (arith, kept_within _ _ (omega arith) _ c.in_ok-end.ensures.answer)))

pub returns : goal.returns
returns c =
    let wrote = c.in_ok-end.ensures in
    let both = kept_loads _ _ (omega arith) _ wrote.answer _ _ _ _ _ refl wrote.bytes c.load.ensures.answer c.load.ensures.entries in
    record {
      answer = both.0;
      memory = both.1;
    }
