-- `put_entries` meets its contract: each train is written behind those that the invariant says are written.
use mathlib.Core.Path.{◌∙◌}
use native.Mathlib.Omega.{arith}
use Rattle.lent.proofs.Over.{fitted_room}
use Rattle.lent.proofs.Records.{writing_begins, writing_on}
use Rattle.table.specs.Row.{no_entry}
use Rattle.load.proofs.Walk.{walk_at, walk_in}
use Rattle.load.proofs.put_entries.Goals as goal

pub loop-position-init : goal.loop-position-init
loop-position-init c = writing_begins _ _ _ _ 0 _

pub loop-position-preserved : goal.loop-position-preserved
loop-position-preserved c =
    let h = c.loop-position-test.true in
    writing_on _ _ _ _ 0 _ _ _ _ _ _ no_entry (walk_in _ _ h) (omega arith) (omega arith)
    (c.get_record.ensures ∙ walk_at _ _ _ h) c.loop-position.invariant
    (c.put.ensures ∙ fitted_room _ _ _ (omega arith))
