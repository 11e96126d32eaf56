-- What is proved of fractions, a line each; proofs/Promises.antt proves the whole record.
use Rattle.std.specs.Prelude.{ℕ, ◌*◌, ◌/◌, ◌<◌, ◌≡◌, true, ◌↔◌, List, Some}
use Rattle.std.specs.Int.{◌∣◌}
use Rattle.fraction.specs.declared.Fraction.{Fraction}
use Rattle.fraction.specs.Value.{SameValue, LowestTerms, Above, IsTicks, IsCommonMultiple}
use Rattle.fraction.specs.Answer.{lowest, is_lowest, above, whole_ticks, limited, common_multiple, running}

pub record Promises : Type 0 where
  -- Lowest terms are the same number, are lowest, and are the only such fraction; 0/m is 0/1; twice is once.
  pub lowest_same : (f : Fraction) → SameValue f (lowest f)
  pub lowest_terms : (f : Fraction) → 0 < f.denominator → LowestTerms (lowest f)
  pub lowest_only : (f h : Fraction) → 0 < f.denominator → SameValue f h → LowestTerms h → h ≡ lowest f
  pub lowest_zero : (m : ℕ) → 0 < m → lowest (record { numerator = 0; denominator = m }) ≡ record { numerator = 0; denominator = 1 }
  pub lowest_twice : (f : Fraction) → lowest (lowest f) ≡ lowest f
  -- The test for lowest terms finds just those.
  pub is_lowest_lem : (f : Fraction) → (is_lowest f ≡ true) ↔ LowestTerms f
  -- L is the least common multiple of the denominators, and taking them one after the other finds it, or that it is above the limit,
  -- where no denominator is 0, which is to say that L is not.
  pub multiple_is : (ds : List ℕ) → IsCommonMultiple ds (common_multiple ds)
  pub multiple_only : (ds : List ℕ) (l : ℕ) → IsCommonMultiple ds l → l ≡ common_multiple ds
  pub running_is : (ds : List ℕ) → 0 < common_multiple ds → running ds ≡ limited (common_multiple ds)
  -- Ticks are exact; there are whole ticks whenever there can be; and a time n/m is n · (L/m) ticks of 1/L.
  pub ticks_exact : (time tick : Fraction) (k : ℕ) → whole_ticks time tick ≡ Some k → IsTicks time tick k
  pub ticks_found :
      (time tick : Fraction) (k : ℕ) →
      0 < time.denominator → 0 < tick.numerator → IsTicks time tick k → whole_ticks time tick ≡ Some k
  pub ticks_parts :
      (n m l : ℕ) → 0 < m → m ∣ l →
      whole_ticks (record { numerator = n; denominator = m }) (record { numerator = 1; denominator = l }) ≡ Some (n * (l / m))
  -- Other terms of the same time make no difference to its ticks.
  pub ticks_lowest : (f tick : Fraction) → whole_ticks (lowest f) tick ≡ whole_ticks f tick
  -- The test for above finds just that. One time is above another exactly when it is more ticks, whatever the tick; and other terms make no
  -- difference.
  pub above_is : (f h : Fraction) → (above f h ≡ true) ↔ Above f h
  pub above_ticks :
      (f h tick : Fraction) (j k : ℕ) →
      0 < f.denominator → 0 < h.denominator → 0 < tick.numerator → 0 < tick.denominator →
      IsTicks f tick j → IsTicks h tick k → Above f h ↔ (k < j)
  pub above_same :
      (f f' h h' : Fraction) →
      0 < f.denominator → 0 < f'.denominator → 0 < h.denominator → 0 < h'.denominator →
      SameValue f f' → SameValue h h' → Above f h ↔ Above f' h'
