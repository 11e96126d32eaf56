-- `put_records` meets its contract. The loop's invariant: the trains up to this position are written, and nothing else.
use mathlib.Core.Path.{refl, ap, ◌∙◌}
use mathlib.Core.List.{map}
use native.Mathlib.Omega.{arith}
use lib.ListN.{length-map}
use Rattle.lent.proofs.Over.{over_slice}
use Rattle.lent.proofs.Records.{flat_length, writing_begins, writing_on, writing_ends}
use Rattle.table.specs.Row.{record_length, entries, no_entry, lowest_entry}
use Rattle.table.proofs.Entries.{records_length}
use Rattle.table.proofs.Rows.{lowest_here, lowest_in, lowest_out}
use Rattle.stored.specs.Layout.{record_of}
use Rattle.save.proofs.Stores.{whole_part}
use Rattle.save.proofs.put_records.Goals as goal

pub loop-position-init : goal.loop-position-init
loop-position-init c = writing_begins _ _ _ _ 0 _

pub slice_bounds-record-end : goal.slice_bounds-record-end
slice_bounds-record-end c =
    omega (arith, records_length _ _ c.records-numbers-items.ensures)

pub loop-position-preserved : goal.loop-position-preserved
loop-position-preserved c =
    let read = c.records-numbers-items.ensures in
    let h = c.loop-position-test.true in
    let long = records_length _ _ read in
    writing_on _ _ _ _ 0 _ _ _ _ _ _ no_entry (lowest_in _ _ read _ h) (omega arith) (omega arith)
    (ap lowest_entry c.from.ensures ∙ lowest_here _ _ read _ _ h) c.loop-position.invariant
    (over_slice _ _ _ _ _ c.put_record.ensures (omega arith))

pub returns : goal.returns
returns c =
    let es = map lowest_entry (entries c.args.row.now) in
    let long = length-map (entries c.args.row.now) lowest_entry in
    whole_part _ c.args.out.now _ (omega (arith, flat_length record_of record_length (λ e. refl) es, long))
    (writing_ends _ _ _ _ 0 _ _ _ (lowest_out _ _ c.records-numbers-items.ensures _ c.loop-position-test.false) c.loop-position.invariant)
