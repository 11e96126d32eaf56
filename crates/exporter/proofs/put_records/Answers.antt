-- `put_records` meets its contract: each record is written behind the one before it, to what is left of the text.
use mathlib.Core.Path.{ap, ◌∙◌}
use native.Mathlib.Omega.{arith}
use lib.ListN.{length-drop}
use Rattle.std.proofs.lemmas.List.{take_rest}
use Rattle.table.specs.Row.{no_entry, lowest_entry}
use Rattle.table.proofs.Rows.{lowest_here, lowest_in, lowest_out}
use Rattle.exporter.proofs.Lines.{putting_room, putting_on, putting_end, putting_ends}
use Rattle.exporter.proofs.put_records.Goals as goal

pub put_record-end-requires : goal.put_record-end-requires
put_record-end-requires c =
    let room = putting_room _ _ _ _ _ _ c.requires c.loop-numbers.invariant (lowest_in _ _ c.records-numbers-items.ensures _ c.loop-numbers-test.true)
    (ap lowest_entry c.from.ensures ∙ lowest_here _ _ c.records-numbers-items.ensures _ _ c.loop-numbers-test.true) in
    simp (take_rest, length-drop) (omega (arith, room))

pub overflow_add-end : goal.overflow_add-end
overflow_add-end c =
    omega (
      arith,
      putting_room _ _ _ _ _ _ c.requires c.loop-numbers.invariant (lowest_in _ _ c.records-numbers-items.ensures _ c.loop-numbers-test.true)
          (ap lowest_entry c.from.ensures ∙ lowest_here _ _ c.records-numbers-items.ensures _ _ c.loop-numbers-test.true),
    )

pub loop-numbers-preserved : goal.loop-numbers-preserved
loop-numbers-preserved c =
    putting_on _ _ _ _ _ _ c.requires c.loop-numbers.invariant (lowest_in _ _ c.records-numbers-items.ensures _ c.loop-numbers-test.true)
    (ap lowest_entry c.from.ensures ∙ lowest_here _ _ c.records-numbers-items.ensures _ _ c.loop-numbers-test.true)
    _ _ c.put_record-end.ensures.end c.put_record-end.ensures.bytes

pub returns-clause-end : goal.returns-clause-end
returns-clause-end c =
    putting_end _ _ _ _ _ no_entry c.requires c.loop-numbers.invariant (lowest_out _ _ c.records-numbers-items.ensures _ c.loop-numbers-test.false)

pub returns-clause-bytes : goal.returns-clause-bytes
returns-clause-bytes c =
    putting_ends _ _ _ _ _ no_entry c.requires c.loop-numbers.invariant (lowest_out _ _ c.records-numbers-items.ensures _ c.loop-numbers-test.false)
