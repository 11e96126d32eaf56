-- The measure of `method` is the second number, which falls to the remainder.
use Rattle.euclid.proofs.+method.Given as goal

abbrev pub decreases-method : goal.decreases-method
decreases-method l = l.b
