-- `scan` meets its contract: each record is read behind the one before it, and its train is checked where none before it was refused.
use mathlib.Core.Path.{sym, ◌∙◌}
use borrow.Author.Tests.{eqb-true, eqb-false}
use Rattle.std.proofs.Common.{rules}
use Rattle.importer.proofs.Ways.{told_some}
use Rattle.importer.proofs.Answers.{train_less, scan_bad, scan_on, scan_ends}
use Rattle.importer.proofs.scan.Goals as goal

pub returns-in_err-entry : goal.returns-in_err-entry
returns-in_err-entry c =
    let k = scan_bad _ _ _ _ c.loop-rest.invariant (eqb-false _ _ (sym c.is_empty.ensures ∙ c.loop-rest-test.true))
    _ c.read_entry.ensures _ c.in_err-entry.ensures.value in search (rules, k)

pub loop-rest-smaller : goal.loop-rest-smaller
loop-rest-smaller c = train_less _ _ _ (told_some _ _ c.read_entry.ensures _ _ c.in_ok-entry.ensures.ok_part)

pub loop-rest-preserved : goal.loop-rest-preserved
loop-rest-preserved c =
    scan_on _ _ _ _ c.loop-rest.invariant _ _ (told_some _ _ c.read_entry.ensures _ _ c.in_ok-entry.ensures.ok_part)
    _ _ c.check.ensures c.and-trains.ensures

pub returns : goal.returns
returns c = scan_ends _ _ _ _ c.loop-rest.invariant (eqb-true _ _ (sym c.is_empty.ensures ∙ c.loop-rest-test.false))
