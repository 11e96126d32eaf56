-- `put_entries` meets its contract: each train is read behind the one before it, and written behind it.
use native.Mathlib.Omega.{arith}
use Rattle.importer.proofs.Ways.{told_there, told_some}
use Rattle.importer.proofs.Writes.{putting_begins, putting_never, putting_on}
use Rattle.importer.proofs.put_entries.Goals as goal

pub loop-position-init : goal.loop-position-init
loop-position-init c = putting_begins _ _ _ c.requires

pub unwrap-requires : goal.unwrap-requires
unwrap-requires c =
    told_there _ _ c.read_entry.ensures (putting_never _ _ _ _ _ c.loop-position.invariant (omega (arith, c.requires.counted)))

pub loop-position-preserved : goal.loop-position-preserved
loop-position-preserved c =
    putting_on _ _ _ _ _ c.loop-position.invariant (omega (arith, c.requires.counted))
    _ _ (told_some _ _ c.read_entry.ensures _ _ c.unwrap.ensures) _ c.lowest.ensures _ c.put.ensures c.put.auto.row
