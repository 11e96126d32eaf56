-- The laws of whole ticks.
-- Core: ticks_no_unit, ticks_whole, ticks_rest, the three answers. The rest follows from these.
-- Assumes nothing.
use Prim.Native.Nat.{ℕ, ◌*◌, ◌/◌, ◌%◌, ◌<◌, ◌≤◌, ◌∣◌}
use mathlib.Core.Path.{◌≡◌, refl, sym, ap, ◌∙◌}
use mathlib.Core.Logic.{◌↔◌}
use native.Mathlib.Nat.{div-add-mod', mul-pos, mul-zero, mul-mod_left, mul-div_cancel, mul-div_cancel', eq_of_mul-eq-mul_left}
use native.Mathlib.Decide.{ℕ_discrete, dec_le}
use native.Mathlib.Omega.{arith}
use borrow.Author.Tests.{eq-eqb, ne_eqb}
use Rattle.fraction.specs.declared.Fraction.{Fraction}
use Rattle.euclid.specs.Answer.{gcd}
use Rattle.euclid.proofs.Divisor.{gcd_pos_right}
use Rattle.std.specs.Prelude.{Option, None, Some}
use Rattle.fraction.specs.Value.{IsTicks}
use Rattle.fraction.specs.Answer.{lowest, whole_ticks}
use Rattle.fraction.proofs.Lowest.{lowest_none, lowest_terms, parts}

-- ---- Core laws

-- the answer, of a time of n parts, u to a tick
module _
    (time tick : Fraction) (n u : ℕ)
    (n-is : n ≡ time.numerator * tick.denominator) (u-is : u ≡ time.denominator * tick.numerator) where
  pub ticks_no_unit : u ≡ 0 → None ≡ whole_ticks time tick
  unfolding whole_ticks
  ticks_no_unit h = rw (← n-is, ← u-is) (simp (eq-eqb u 0 h))

  pub ticks_whole : (u ≡ 0 → ⊥) → n % u ≡ 0 → Some (n / u) ≡ whole_ticks time tick
  unfolding whole_ticks
  ticks_whole h k = rw (← n-is, ← u-is) (simp (ne_eqb u 0 h, eq-eqb (n % u) 0 k))

  pub ticks_rest : (u ≡ 0 → ⊥) → (n % u ≡ 0 → ⊥) → None ≡ whole_ticks time tick
  unfolding whole_ticks
  ticks_rest h k = rw (← n-is, ← u-is) (simp (ne_eqb u 0 h, ne_eqb (n % u) 0 k))

-- ---- Derived

pub ticks_exact : (time tick : Fraction) (k : ℕ) → whole_ticks time tick ≡ Some k → IsTicks time tick k
ticks_exact time tick k e = go (ℕ_discrete u 0) (ℕ_discrete (n % u) 0)
  where
    n : ℕ
    n = time.numerator * tick.denominator

    u : ℕ
    u = time.denominator * tick.numerator

    go : Dec (u ≡ 0) → Dec (n % u ≡ 0) → IsTicks time tick k
    go (yes h) d = let none = ticks_no_unit time tick n u refl refl h in cc
    go (no h) (no r) = let none = ticks_rest time tick n u refl refl h r in cc
    go (no h) (yes r) =
        let w = ticks_whole time tick n u refl refl h r in
        let q : k ≡ n / u = cc in
        ap (λ (x : ℕ). x * u) q ∙ omega (arith, div-add-mod' n u)

pub ticks_found :
    (time tick : Fraction) (k : ℕ) →
    0 < time.denominator → 0 < tick.numerator → IsTicks time tick k → whole_ticks time tick ≡ Some k
ticks_found time tick k pm pa e =
    let u : ℕ = time.denominator * tick.numerator in
    let u-pos : 0 < u = mul-pos pm pa in
    sym (ticks_whole time tick (k * u) u e refl (λ z. omega arith) (mul-mod_left k u)) ∙ ap Some (mul-div_cancel k u-pos)

pub ticks_parts :
    (n m l : ℕ) → 0 < m → m ∣ l →
    whole_ticks (record { numerator = n; denominator = m }) (record { numerator = 1; denominator = l }) ≡ Some (n * (l / m))
ticks_parts n m l h d =
    ticks_found (record { numerator = n; denominator = m }) (record { numerator = 1; denominator = l }) (n * (l / m)) h (omega arith)
    (omega (arith, ap (λ (x : ℕ). n * x) (mul-div_cancel' m d)))

-- a time and its lowest terms are the same number of ticks
lowest_is_ticks : (f tick : Fraction) (k : ℕ) → 0 < f.denominator → IsTicks f tick k ↔ IsTicks (lowest f) tick k
lowest_is_ticks f tick k h =
    let p = parts f h in
    let g : ℕ = gcd f.numerator f.denominator in
    let n = ap (λ (x : ℕ). x * tick.denominator) p.numerator in
    let m = ap (λ (x : ℕ). k * (x * tick.numerator)) p.denominator in (
      (λ e.
          eq_of_mul-eq-mul_left g (gcd_pos_right f.numerator f.denominator h)
          (k * ((lowest f).denominator * tick.numerator)) ((lowest f).numerator * tick.denominator) (omega (arith, e, n, m))),
      (λ e. omega (arith, n, m, ap (λ (x : ℕ). g * x) e)),
    )

pub ticks_lowest : (f tick : Fraction) → whole_ticks (lowest f) tick ≡ whole_ticks f tick
ticks_lowest f tick = go (dec_le 1 f.denominator) (dec_le 1 tick.numerator)
  where
    -- without a unit neither is whole
    unit_none : (h : Fraction) → tick.numerator ≡ 0 → whole_ticks h tick ≡ None
    unit_none h z =
        sym (ticks_no_unit h tick _ _ refl refl (ap (λ (x : ℕ). h.denominator * x) z ∙ mul-zero h.denominator))

    never :
        (r : Option ℕ) → whole_ticks f tick ≡ r → whole_ticks (lowest f) tick ≡ None → 0 < f.denominator → 0 < tick.numerator →
        None ≡ whole_ticks f tick
    never None q e h u = sym q
    never (Some j) q e h u =
        let found = ticks_found (lowest f) tick j (lowest_terms f h).positive u ((lowest_is_ticks f tick j h).0 (ticks_exact f tick j q)) in cc

    same :
        (r : Option ℕ) → whole_ticks (lowest f) tick ≡ r → 0 < f.denominator → 0 < tick.numerator →
        whole_ticks (lowest f) tick ≡ whole_ticks f tick
    same (Some k) e h u = e ∙ sym (ticks_found f tick k h u ((lowest_is_ticks f tick k h).1 (ticks_exact (lowest f) tick k e)))
    same None e h u = e ∙ never (whole_ticks f tick) refl e h u

    go : Dec (1 ≤ f.denominator) → Dec (1 ≤ tick.numerator) → whole_ticks (lowest f) tick ≡ whole_ticks f tick
    go (no h) d = ap (λ (x : Fraction). whole_ticks x tick) (sym (lowest_none f (omega arith)))
    go (yes h) (no u) = unit_none (lowest f) (omega arith) ∙ sym (unit_none f (omega arith))
    go (yes h) (yes u) = same (whole_ticks (lowest f) tick) refl h u

-- a time is n · (L/m) ticks of 1/L, where n/m are its lowest terms and m divides L
pub ticks_multiple :
    (f : Fraction) (l : ℕ) → 0 < f.denominator → (lowest f).denominator ∣ l →
    whole_ticks f (record { numerator = 1; denominator = l }) ≡ Some ((lowest f).numerator * (l / (lowest f).denominator))
ticks_multiple f l h d =
    sym (ticks_lowest f (record { numerator = 1; denominator = l }))
    ∙ ticks_parts (lowest f).numerator (lowest f).denominator l (lowest_terms f h).positive d
