-- `check_records` meets its contract: each train is tried in its turn, by what the invariant says of those before it.
use mathlib.Core.Path.{sym, ap, ◌∙◌}
use Rattle.std.proofs.Common.{rules}
use Rattle.table.proofs.Checks.{passing_on, passing_refused, passing_ends}
use Rattle.stored.specs.Answer.{stored_check}
use Rattle.load.proofs.Walk.{walk_at, walk_in, walk_out}
use Rattle.load.proofs.check_records.Goals as goal

pub returns-in_err-check_record : goal.returns-in_err-check_record
returns-in_err-check_record c =
    let h = c.loop-position-test.true in
    let found = sym (c.in_err-check_record.ensures ∙ ap (stored_check _) (c.get_record.ensures ∙ walk_at _ _ _ h)) in
    let k = passing_refused _ _ _ c.loop-position.invariant _ (walk_in _ _ h) found in
    search (rules, k)

pub loop-position-preserved : goal.loop-position-preserved
loop-position-preserved c =
    let h = c.loop-position-test.true in
    let found = sym (c.in_ok-check_record.ensures ∙ ap (stored_check _) (c.get_record.ensures ∙ walk_at _ _ _ h)) in
    passing_on _ _ _ c.loop-position.invariant (walk_in _ _ h) found

pub returns : goal.returns
returns c =
    passing_ends _ _ _ c.loop-position.invariant (walk_out _ _ c.loop-position-test.false)
