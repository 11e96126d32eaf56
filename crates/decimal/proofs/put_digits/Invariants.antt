-- `put_digits` meets its contract. The loop's invariant: from the place on the digits are written, and those before it are the
-- digits of what is left.
use Rattle.decimal.proofs.Stores.{Backwards}
use Rattle.decimal.proofs.put_digits.Given as goal

abbrev pub invariant-loop-place : goal.invariant-loop-place
invariant-loop-place l = Backwards l.digits l.n l.left l.place
