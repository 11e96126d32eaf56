-- `put_digits` meets its contract: a law for the beginning of the loop, its turn and its end.
use native.Mathlib.Omega.{arith}
use Rattle.decimal.proofs.Stores.{backwards_begins, backwards_on, backwards_ends}
use Rattle.decimal.proofs.put_digits.Goals as goal

pub loop-place-init : goal.loop-place-init
loop-place-init c = backwards_begins _ _ c.requires

pub loop-place-preserved : goal.loop-place-preserved
loop-place-preserved c = backwards_on _ _ _ _ c.loop-place-test.true (omega (arith, c.loop-place.auto.digits, c.loop-place.auto.place)) c.loop-place.invariant

pub returns : goal.returns
returns c = backwards_ends _ _ _ _ c.loop-place-test.false c.loop-place.invariant
