-- `list` meets its contract: a refusal of loading, or what is exported from the row that was loaded.
use mathlib.Core.Path.{sym}
use native.Mathlib.Omega.{arith}
use lib.ListN.{length}
use lib.Seq.{length-take-le}
use Rattle.std.proofs.Common.{rules}
use Rattle.convert.proofs.Listings.{list_stops, list_within, list_exports, list_puts}
use Rattle.convert.proofs.list.Goals as goal

pub returns-in_err-count-clause-answer : goal.returns-in_err-count-clause-answer
returns-in_err-count-clause-answer c =
    let k = list_stops _ (length c.args.text.now) _ c.in_err-count.ensures.answer in search (rules, k)

pub slice_bounds-export-end : goal.slice_bounds-export-end
slice_bounds-export-end c = sym (length-take-le _ _ (omega (arith, list_within _ _ c.in_ok-count.ensures.answer)))

pub returns : goal.returns
returns c =
    let read = c.in_ok-count.ensures in
    record {
      answer = list_exports _ _ read.answer (λ i. (c.type_inv.bytes i).fits) _ _ read.entries _ _ c.export.ensures.answer;
      memory = list_puts _ _ read.answer (λ i. (c.type_inv.bytes i).fits) _ _ read.entries _ _ _ c.export.ensures.bytes;
    }
