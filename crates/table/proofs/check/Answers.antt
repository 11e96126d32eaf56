-- `check` meets its contract: each train is tried in its turn, by what the invariant says of those before it.
use mathlib.Core.Path.{sym, ap, ◌∙◌}
use Rattle.std.proofs.Common.{rules}
use Rattle.table.specs.Answer.{entry_check}
use native.Mathlib.Omega.{arith}
use Rattle.table.proofs.Entries.{records_length, records_at}
use Rattle.table.proofs.Checks.{passing_on, passing_refused, passing_ends, checked_trains}
use Rattle.table.proofs.check.Goals as goal

pub returns-in_err-check : goal.returns-in_err-check
returns-in_err-check c =
    let read = c.records-numbers-items.ensures in
    let h = c.loop-position-test.true in
    let found = sym (c.in_err-check.ensures ∙ ap (entry_check _) (c.from.ensures ∙ records_at _ _ read _ _ h)) in
    let trains = checked_trains _ c.if-row-ne0.false c.if-row-gt-LONGEST_ROW.false in
    let refused =
    passing_refused _ _ _ c.loop-position.invariant _ (omega (arith, records_length _ _ read)) found ∙ trains in
    search (rules, refused)

pub loop-position-preserved : goal.loop-position-preserved
loop-position-preserved c =
    let read = c.records-numbers-items.ensures in
    let h = c.loop-position-test.true in
    let found = sym (c.in_ok-check.ensures ∙ ap (entry_check _) (c.from.ensures ∙ records_at _ _ read _ _ h)) in
    passing_on _ _ _ c.loop-position.invariant (omega (arith, records_length _ _ read)) found

pub returns : goal.returns
returns c =
    let read = c.records-numbers-items.ensures in
    passing_ends _ _ _ c.loop-position.invariant (omega (arith, records_length _ _ read))
    ∙ checked_trains _ c.if-row-ne0.false c.if-row-gt-LONGEST_ROW.false
