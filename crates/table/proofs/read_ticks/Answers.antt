-- `read_ticks` meets its contract: each train in ticks joins those before it, or is too long. The rest is found by the laws of the
-- loop.
use mathlib.Core.Path.{sym, ap, ◌∙◌}
use Rattle.std.proofs.Common.{rules}
use Rattle.table.specs.Inside.{train_timed}
use native.Mathlib.Omega.{arith}
use Rattle.table.proofs.Entries.{records_length, records_at}
use Rattle.table.proofs.Ticking.{filling_refused, filling_on, filling_ends}
use Rattle.table.proofs.read_ticks.Goals as goal

pub returns-in_err-trains : goal.returns-in_err-trains
returns-in_err-trains c =
    let read = c.records-records.ensures in
    let timed = c.in_ticks.ensures ∙ ap (train_timed _) (c.from.ensures ∙ records_at _ _ read _ _ c.loop-position-test.true) in
    let refused =
    filling_refused _ _ _ _ c.loop-position.invariant _ _ (omega (arith, records_length _ _ read)) timed
    c.in_err-trains.ensures.value in
    search (rules, refused)

pub loop-position-preserved : goal.loop-position-preserved
loop-position-preserved c =
    let read = c.records-records.ensures in
    let timed = c.in_ticks.ensures ∙ ap (train_timed _) (c.from.ensures ∙ records_at _ _ read _ _ c.loop-position-test.true) in
    filling_on _ _ _ _ c.loop-position.invariant _ (omega (arith, records_length _ _ read))
    (sym c.in_ok-trains.ensures.ok_part ∙ timed)

pub returns : goal.returns
returns c =
    let long = records_length _ _ c.records-records.ensures in
    filling_ends _ _ _ _ c.loop-position.invariant _ long (omega (arith, long))
