-- `width` meets its contract: one more than the power of ten that the number reaches.
use native.Mathlib.Omega.{arith}
use Rattle.decimal.proofs.Notation.{width_is}
use Rattle.decimal.proofs.width.Goals as goal

pub returns : goal.returns
returns c = (
  width_is c.ilog10.result c.args.n (omega (arith, c.max.ensures, c.ilog10.ensures.power_le)) (omega (arith, c.max.ensures, c.ilog10.ensures.next_power_gt)),
  omega (arith, c.ilog10.ensures.bound),
)
