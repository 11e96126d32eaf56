-- `common_multiple` meets its contract: the loop begins with no train and the multiple 1, and each train's denominators join it. The
-- rest is found by the laws of the loop.
use mathlib.Core.Path.{sym, ap, ◌∙◌}
use Rattle.std.proofs.Common.{rules}
use Rattle.std.specs.Prelude.{Some}
use Rattle.fraction.specs.Answer.{running_from}
use Rattle.table.specs.declared.Entry.{Entry}
use Rattle.table.specs.Row.{denominators_of}
use native.Mathlib.Omega.{arith}
use Rattle.table.proofs.Entries.{records_length, records_at}
use Rattle.table.proofs.RunningMultiple.{running_begins, running_refused, running_on, running_ends}
use Rattle.table.proofs.common_multiple.Goals as goal

pub loop-position-init : goal.loop-position-init
loop-position-init c = running_begins _

pub loop-position-preserved : goal.loop-position-preserved
loop-position-preserved c =
    let read = c.records-numbers-items.ensures in
    running_on _ _ _ c.loop-position.invariant _ (omega (arith, records_length _ _ read))
    (sym c.in_ok-multiple.ensures.ok_part
    ∙ c.multiple.ensures
    ∙ ap (λ (e : Entry). running_from (Some c.loop-position.multiple) (denominators_of e))
    (c.from.ensures ∙ records_at _ _ read _ _ c.loop-position-test.true))

pub returns-in_err-multiple : goal.returns-in_err-multiple
returns-in_err-multiple c =
    let read = c.records-numbers-items.ensures in
    let k =
    running_refused _ _ _ c.loop-position.invariant _ _ (omega (arith, records_length _ _ read))
    (c.multiple.ensures
    ∙ ap (λ (e : Entry). running_from (Some c.loop-position.multiple) (denominators_of e))
    (c.from.ensures ∙ records_at _ _ read _ _ c.loop-position-test.true))
    c.in_err-multiple.ensures.value in
    search (rules, k)

pub returns : goal.returns
returns c = running_ends _ _ _ c.loop-position.invariant (omega (arith, records_length _ _ c.records-numbers-items.ensures))
