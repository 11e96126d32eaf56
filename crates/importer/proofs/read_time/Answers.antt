-- `read_time` meets its contract: a number, and the denominator behind it if a slash stands there.
use mathlib.Core.Path.{ap, ◌∙◌}
use Rattle.importer.specs.Inside.{told}
use Rattle.importer.proofs.Ways.{number_none, number_some, divided_missing, divided_whole, parted_missing, parted_zero, parted_some}
use Rattle.importer.proofs.read_time.Goals as goal

pub returns-in_err-above : goal.returns-in_err-above
returns-in_err-above c = ap told c.from_residual.ensures ∙ divided_missing _ (number_none _ _ c.read.ensures c.in_err-above.was)

pub returns-in_default : goal.returns-in_default
returns-in_default c = divided_whole _ _ _ (number_some _ _ c.read.ensures _ c.in_ok-above.was) c.in_default.ensures.cases

pub returns-in_err-below : goal.returns-in_err-below
returns-in_err-below c =
    ap told c.from_residual-in_err-below.ensures
    ∙ parted_missing _ _ _ (number_some _ _ c.read.ensures _ c.in_ok-above.was) _ c.in-Some.ensures.cases.0 c.in-Some.ensures.cases.1
    (number_none _ _ c.read-2.ensures c.in_err-below.was)

pub returns-then-below-eq0 : goal.returns-then-below-eq0
returns-then-below-eq0 c =
    parted_zero _ _ _ (number_some _ _ c.read.ensures _ c.in_ok-above.was) _ c.in-Some.ensures.cases.0 c.in-Some.ensures.cases.1
    _ _ (number_some _ _ c.read-2.ensures _ c.in_ok-below.was) c.if-below-eq0.true

pub returns : goal.returns
returns c =
    parted_some _ _ _ (number_some _ _ c.read.ensures _ c.in_ok-above.was) _ c.in-Some.ensures.cases.0 c.in-Some.ensures.cases.1
    _ _ (number_some _ _ c.read-2.ensures _ c.in_ok-below.was) c.if-below-eq0.false
