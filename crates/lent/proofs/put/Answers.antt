-- `put` meets its contract: without room nothing is written, else all of the bytes.
use Prim.Native.Nat.{◌+◌, ◌<◌}
use mathlib.Core.Path.{refl}
use native.Mathlib.Omega.{arith}
use lib.ListN.{length}
use Rattle.lent.proofs.Over.{over_slice, put_short, put_room}
use Rattle.lent.proofs.put.Goals as goal
use Rattle.lent.proofs.put.Goals.{then-out-at-via-then-out-at, then-out-at-via-else-out-at+then-out-at-2}

pub returns-then-out-at : goal.returns-then-out-at
returns-then-out-at c =
    let short : length c.args.out.now < c.args.at + length c.args.bytes.now =
    elim c.then-out-at.branch [ then-out-at-via-then-out-at w ↦ omega arith | then-out-at-via-else-out-at+then-out-at-2 w ↦ omega arith ] in
    let both = put_short c.args.out.now c.args.bytes.now c.args.at short in
    record { end = both.0; bytes = both.1 }

pub returns : goal.returns
returns c =
    let both =
    put_room c.args.out.now c.args.bytes.now c.args.at _ _ (omega arith) refl
    (over_slice _ _ _ _ _ c.copy_from_slice.ensures.after (omega arith)) in
    record { end = both.0; bytes = both.1 }
