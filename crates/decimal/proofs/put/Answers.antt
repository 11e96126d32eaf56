-- `put` meets its contract: without room nothing is written, else the digits are.
use Prim.Native.Nat.{◌+◌, ◌<◌}
use mathlib.Core.Path.{◌≡◌}
use native.Mathlib.Omega.{arith}
use lib.ListN.{length}
use Rattle.decimal.specs.Answer.{decimal}
use Rattle.lent.proofs.Over.{over_slice, put_short, put_room}
use Rattle.decimal.proofs.put.Goals as goal
use Rattle.decimal.proofs.put.Goals.{then-out-at-via-then-out-at, then-out-at-via-else-out-at+then-out-at-2}

pub returns-then-out-at : goal.returns-then-out-at
returns-then-out-at c =
    let taken : c.width-taken.result ≡ length (decimal c.args.n) = c.width-taken.ensures.0 in
    let short : length c.args.out.now < c.args.at + length (decimal c.args.n) =
    elim c.then-out-at.branch [ then-out-at-via-then-out-at w ↦ omega arith | then-out-at-via-else-out-at+then-out-at-2 w ↦ omega arith ] in
    let both = put_short c.args.out.now (decimal c.args.n) c.args.at short in
    record { end = both.0; bytes = both.1 }

pub returns : goal.returns
returns c =
    let taken : c.width-taken.result ≡ length (decimal c.args.n) = c.width-taken.ensures.0 in
    let both =
    put_room c.args.out.now (decimal c.args.n) c.args.at _ _ (omega arith) (omega arith)
    (over_slice _ _ _ _ _ c.put_digits.ensures (omega arith)) in
    record { end = both.0; bytes = both.1 }
