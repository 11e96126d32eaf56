-- `store` meets its contract: a refusal of import, or what is saved from the row that was imported.
use mathlib.Core.Path.{sym}
use native.Mathlib.Omega.{arith}
use lib.ListN.{length}
use lib.Seq.{length-take-le}
use Rattle.std.proofs.Common.{rules}
use Rattle.convert.proofs.Storing.{store_stops, store_within, store_saves, store_puts}
use Rattle.convert.proofs.store.Goals as goal

pub returns-in_err-count-clause-answer : goal.returns-in_err-count-clause-answer
returns-in_err-count-clause-answer c =
    let k = store_stops _ (length c.args.bytes.now) _ c.in_err-count.ensures.answer in search (rules, k)

pub slice_bounds-save-end : goal.slice_bounds-save-end
slice_bounds-save-end c = sym (length-take-le _ _ (omega (arith, store_within _ _ c.in_ok-count.ensures.answer)))

pub returns-clause-answer : goal.returns-clause-answer
returns-clause-answer c =
    let read = c.in_ok-count.ensures in store_saves _ _ read.answer _ _ read.entries _ _ c.save.ensures.answer

pub returns-clause-memory : goal.returns-clause-memory
returns-clause-memory c =
    let read = c.in_ok-count.ensures in store_puts _ _ read.answer _ _ read.entries _ _ _ c.save.ensures.bytes
