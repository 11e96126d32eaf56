-- `digits` meets its contract. The loop's invariant: the number that is found from the first digit on is the one that is found
-- from here on, behind those that were passed.
use mathlib.Core.Path.{◌≡◌}
use lib.ListN.{drop}
use Rattle.decimal.specs.Answer.{digits_from}
use Rattle.decimal.proofs.digits.Given as goal

abbrev pub invariant-loop-passed : goal.invariant-loop-passed
invariant-loop-passed l = digits_from l.value (drop l.passed l.digit-items) ≡ digits_from 0 (drop l.at l.text)
