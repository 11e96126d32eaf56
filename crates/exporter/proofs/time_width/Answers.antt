-- `time_width` meets its contract: the digits of n, and where there is an m, a slash and the digits of m.
use mathlib.Core.Path.{◌∙◌}
use native.Mathlib.Omega.{arith}
use Rattle.exporter.proofs.Stores.{whole_at, parts_at}
use Rattle.exporter.proofs.time_width.Goals as goal

pub returns-then-terms-eq1 : goal.returns-then-terms-eq1
returns-then-terms-eq1 c =
    let digits = rw c.from.ensures at (c.width-above.ensures.0) in
    (digits ∙ whole_at _ _ c.lowest-terms.ensures c.if-terms-eq1.true, omega arith)

pub returns : goal.returns
returns c =
    let above = rw c.from.ensures at (c.width-above.ensures.0) in
    let below = rw c.from-2.ensures at (c.width.ensures.0) in
    (omega (arith, above, below, parts_at _ _ c.lowest-terms.ensures c.if-terms-eq1.false), omega arith)
