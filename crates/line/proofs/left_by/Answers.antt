-- `left_by` meets its contract. The loop's invariant: what was taken from the room is what the numbers before i need.
-- The measure is the numbers that are left.
use Rattle.std.proofs.Common.{rules}
use Rattle.line.proofs.Stores.{counting_begins, counting_on, counting_short, counting_ends}
use Rattle.line.proofs.left_by.Goals as goal

pub loop-value-init : goal.loop-value-init
loop-value-init c = counting_begins _ _

pub returns-in_err-left : goal.returns-in_err-left
returns-in_err-left c =
    let short = counting_short _ _ _ _ _ c.loop-value-test.true c.width.ensures.0 c.loop-value.invariant c.in_err-left.ensures in
    search (rules, short)

pub loop-value-preserved : goal.loop-value-preserved
loop-value-preserved c =
    counting_on _ _ _ _ _ _ c.loop-value-test.true c.width.ensures.0 c.in_ok-left.ensures.0 c.in_ok-left.ensures.1 c.loop-value.invariant

pub returns : goal.returns
returns c = counting_ends _ _ _ c.loop-value.value-index _ c.loop-value-test.false c.loop-value.invariant c.checked_sub-2.ensures
