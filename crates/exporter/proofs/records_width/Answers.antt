-- `records_width` meets its contract: the width of each record joins those before it.
use mathlib.Core.Path.{ap, ◌∙◌}
use native.Mathlib.Omega.{arith}
use lib.ListN.{length-map}
use Rattle.table.specs.Row.{entries, lowest_entry}
use Rattle.table.proofs.Entries.{entries_length}
use Rattle.table.proofs.Rows.{lowest_here, lowest_in, lowest_out}
use Rattle.exporter.proofs.Lines.{measuring_on, measuring_ends}
use Rattle.exporter.proofs.records_width.Goals as goal

pub overflow_add-width : goal.overflow_add-width
overflow_add-width c =
    let given = c.args.row.now in
    let bound = c.loop-numbers.invariant.bound in
    let inside = lowest_in _ _ c.records-numbers-items.ensures _ c.loop-numbers-test.true in
    omega (arith, bound, inside, length-map (entries given) lowest_entry, entries_length given, c.record_width-width.ensures.1)

pub loop-numbers-preserved : goal.loop-numbers-preserved
loop-numbers-preserved c =
    measuring_on _ _ _ _ _ (lowest_in _ _ c.records-numbers-items.ensures _ c.loop-numbers-test.true)
    (ap lowest_entry c.from.ensures ∙ lowest_here _ _ c.records-numbers-items.ensures _ _ c.loop-numbers-test.true) c.record_width-width.ensures
    c.loop-numbers.invariant

pub returns : goal.returns
returns c =
    let given = c.args.row.now in
    let inv = c.loop-numbers.invariant in
    let count = length-map (entries given) lowest_entry in (
      measuring_ends _ _ _ (lowest_out _ _ c.records-numbers-items.ensures _ c.loop-numbers-test.false) inv,
      omega (arith, inv.so_far, inv.bound, count, entries_length given),
    )
