-- The last way through the test of the numbers, the ways through the test of a pair, the answer of `compare`, and that which
-- of two trains is named first makes no difference.
-- Assumes nothing.
use Prim.Native.Nat.{ℕ, ◌+◌, ◌-◌, ◌%◌, ◌<◌, ◌≤◌}
use mathlib.Core.Path.{◌≡◌, sym, ap, ◌∙◌}
use mathlib.Core.Bool.{Bool}
use native.Mathlib.Omega.{arith}
use lib.Dec.{leb}
use borrow.Author.Tests.{le-leb, lt-leb, lt-ltb}
use Rattle.euclid.specs.declared.Common.{Common}
use Rattle.euclid.specs.Answer.{gcd, common}
use Rattle.euclid.proofs.Divisor.{gcd_comm}
use Rattle.train.specs.declared.Train.{Train}
use Rattle.train.specs.Answer.{expression, free, pair}

-- the test, where there is a divisor and the first part holds
module _ (g difference first second : ℕ) where
  pub expression_last : (g ≡ 0 → ⊥) → first ≤ difference % g → leb (difference % g + second) g ≡ expression g difference first second
  unfolding expression
  expression_last h k = simp (lt-ltb 0 g (omega arith), le-leb first (difference % g) k)

module _ (a b : Train) where
  pub free_ordered : a.phase ≤ b.phase → expression (gcd a.period b.period) (b.phase - a.phase) a.duration b.duration ≡ free a b
  unfolding free
  free_ordered h = simp (le-leb a.phase b.phase h)

  pub free_later : b.phase < a.phase → expression (gcd a.period b.period) (a.phase - b.phase) b.duration a.duration ≡ free a b
  unfolding free
  free_later h = simp (lt-leb a.phase b.phase h)

-- the answer of `compare`, from what is common to the periods and the test of the numbers
pub compared :
    (a b : Train) (c : Common) (r : Bool) (difference first second : ℕ) →
    c ≡ common a.period b.period → r ≡ expression c.divisor difference first second →
    expression (gcd a.period b.period) difference first second ≡ free a b →
    record { free = r; divisions = c.divisions } ≡ pair a b
compared a b c r difference first second c-is r-is f-is =
    let f : r ≡ free a b = r-is ∙ ap (λ (k : Common). expression k.divisor difference first second) c-is ∙ f-is in
    λ i. record { free = f i; divisions = (c-is i).divisions }

-- which of two trains is named first makes no difference, where the phases differ
pub free_turned : (a b : Train) → b.phase < a.phase → free a b ≡ free b a
free_turned a b h =
    sym (free_later a b h)
    ∙ ap (λ (g : ℕ). expression g (a.phase - b.phase) b.duration a.duration) (gcd_comm a.period b.period)
    ∙ free_ordered b a (omega arith)

-- what `compare` is proved by
pub ruleset compare_ways = (compared, free_ordered, free_later)
