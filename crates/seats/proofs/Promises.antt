-- The proof of what specs/Promises.antt states: an accepted table is schedulable, and the trains of a schedulable table are admitted.
-- Assumes nothing.
use Prim.Native.Nat.{◌≤◌}
use mathlib.Core.Path.{ap}
use native.Mathlib.Omega.{arith}
use lib.ListN.{length}
use Rattle.table.specs.Row.{trains}
use Rattle.table.specs.Paper as table-paper
use Rattle.table.proofs.Readings.{trains_length, passed_few}
use Rattle.table.proofs.Promises as table
use Rattle.judge.proofs.Promises as judge
use Rattle.dispatcher.specs.History.{place_count}
use Rattle.dispatcher.proofs.Promises as dispatcher
use Rattle.seats.specs.Promises.{Promises}

pub promises : Promises
promises =
    record {
      accepted_seated = λ row L d accepted count.
          let so = ((judge.promises).accept_schedulable row).0 (L, d, accepted) in
          let few : length (trains row) ≤ place_count = omega (arith, passed_few row so.0, trains_length row) in
          (dispatcher.promises).all_seated count (trains row) few (λ i. (table.promises).trains_limits row i (ap table-paper.paper so.0))
          (λ i j l k f t both. so.1 t i j l k f both.0 both.1);
    }
