-- What the words mean, with no algorithm.
--     SameValue f h            two fractions are one number
--     LowestTerms f            f is in lowest terms
--     Above f h                f is a larger number than h
--     IsTicks time tick k      the time is k ticks, with nothing lost
--     AllDivide ds m           every number of the list divides m
--     IsCommonMultiple ds l    l is the least common multiple of the list
use Rattle.std.specs.Prelude.{ℕ, ◌*◌, ◌<◌, ◌≡◌, List, [], ◌∷◌}
use Rattle.std.specs.Int.{◌∣◌}
use Rattle.euclid.specs.Divisor.{IsGcd}
use Rattle.fraction.specs.declared.Fraction.{Fraction}

-- n/m and n'/m' are one number: n · m' = n' · m.
abbrev pub SameValue : Fraction → Fraction → Type 0
SameValue f h = f.numerator * h.denominator ≡ h.numerator * f.denominator

-- The fraction has a denominator, and nothing but 1 divides both of its numbers.
pub record LowestTerms (f : Fraction) : Type 0 where
  pub positive : 0 < f.denominator
  pub coprime : IsGcd f.numerator f.denominator 1

-- n/m is above n'/m': n' · m < n · m'.
abbrev pub Above : Fraction → Fraction → Type 0
Above f h = h.numerator * f.denominator < f.numerator * h.denominator

-- A time n/m is k ticks of a/b: k · m · a = n · b.
abbrev pub IsTicks : (time tick : Fraction) → ℕ → Type 0
IsTicks time tick k = k * (time.denominator * tick.numerator) ≡ time.numerator * tick.denominator

-- Every number of the list divides m.
abbrev pub AllDivide : List ℕ → ℕ → Type 0
AllDivide [] m = Unit {0}
AllDivide (d ∷ ds) m = (d ∣ m) × AllDivide ds m

-- Every number of the list divides l, and l divides whatever they all divide. Of no number it is 1.
pub record IsCommonMultiple (ds : List ℕ) (l : ℕ) : Type 0 where
  pub multiple : AllDivide ds l
  pub least : (m : ℕ) → AllDivide ds m → l ∣ m
