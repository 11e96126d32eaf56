-- The decimal notation of a number.
-- Core: decimal_one and decimal_more, its two equations, and decimal_induction. All other laws rest on these.
-- Assumes nothing.
use Prim.Native.Nat.{ℕ, zero, suc, ◌+◌, ◌*◌, ◌-◌, ◌/◌, ◌%◌, ◌^◌, ◌<◌, ◌≤◌, max}
use mathlib.Core.Path.{◌≡◌, refl, sym, ap, ◌∙◌}
use mathlib.Core.Logic.{⊎_elim}
use mathlib.Core.List.{List, [], ◌∷◌, ◌++◌}
use native.Mathlib.Nat.{div-lt_iff_lt-mul, pow-suc, not-suc-le-zero, le_refl, eq-zero-or-pos}
use native.Mathlib.Omega.{arith}
use lib.ListN.{length, get_or, take, length-append, get_or-append}
use lib.Seq.{take-suc, take-length}
use Rattle.decimal.specs.Digits.{Digit, Digits, none, more, value_from, value, IsDecimal}
use Rattle.decimal.specs.Answer.{digit, leading_within, decimal}

-- ---- Core laws

-- any two bounds that are large enough give the same
leading_enough : (f h n : ℕ) → n ≤ f → n ≤ h → leading_within f n ≡ leading_within h n
unfolding leading_within
leading_enough zero zero n p q = refl
leading_enough zero (suc h) zero p q = refl
leading_enough zero (suc h) (suc n) p q = absurd (not-suc-le-zero p)
leading_enough (suc f) zero zero p q = refl
leading_enough (suc f) zero (suc n) p q = absurd (not-suc-le-zero q)
leading_enough (suc f) (suc h) zero p q = refl
leading_enough (suc f) (suc h) (suc n) p q =
    ap (λ (ds : List ℕ). ds ++ (digit (suc n % 10) ∷ []))
    (leading_enough f h (suc n / 10) (omega arith) (omega arith))

-- the digits before the last are the notation of what they stand for, where there are any
leading_decimal : (most n : ℕ) → 0 < n → n ≤ most → leading_within most n ≡ decimal n
unfolding leading_within decimal
leading_decimal most zero p h = absurd (omega arith)
leading_decimal zero (suc n) p h = absurd (omega arith)
leading_decimal (suc most) (suc n) p h =
    ap (λ (ds : List ℕ). ds ++ (digit (suc n % 10) ∷ []))
    (leading_enough most (suc n) (suc n / 10) (omega arith) (omega arith))

pub decimal_one : (n : ℕ) → n < 10 → decimal n ≡ digit n ∷ []
unfolding leading_within decimal
decimal_one zero h = refl
decimal_one (suc n) h =
    let q : suc n / 10 ≡ 0 = omega arith in
    let r : suc n % 10 ≡ suc n = omega arith in
    ap (λ (m : ℕ). leading_within (suc n) m ++ (digit (suc n % 10) ∷ [])) q ∙ ap (λ (m : ℕ). digit m ∷ []) r

pub decimal_more : (n : ℕ) → 10 ≤ n → decimal n ≡ decimal (n / 10) ++ (digit (n % 10) ∷ [])
unfolding decimal
decimal_more n h =
    ap (λ (ds : List ℕ). ds ++ (digit (n % 10) ∷ [])) (leading_decimal n (n / 10) (omega arith) (omega arith))

-- the last digit, and those before it, which are the notation of n / 10 where there are any
pub decimal_last :
    (n : ℕ) → (ds : List ℕ) × (decimal n ≡ ds ++ (digit (n % 10) ∷ [])) × (0 < length ds → ds ≡ decimal (n / 10))
decimal_last n =
    ⊎_elim
    (λ (z : n / 10 ≡ 0).
    ([], decimal_one n (omega arith) ∙ ap (λ (m : ℕ). digit m ∷ []) (omega arith), λ h. absurd (omega arith)))
    (λ (p : 0 < n / 10). (decimal (n / 10), decimal_more n (omega arith), λ h. refl))
    (eq-zero-or-pos (n / 10))

-- What holds of the numbers of one digit, and of n where it holds of n / 10, holds of every number.
module _ (P : ℕ → Type 0) (one : (n : ℕ) → n < 10 → P n) (step : (n : ℕ) → 10 ≤ n → P (n / 10) → P n) where
  below : (f n : ℕ) → n ≤ f → P n
  below zero n h = one n (omega arith)
  below (suc f) n h =
      ⊎_elim
      (λ (z : n / 10 ≡ 0). one n (omega arith))
      (λ (p : 0 < n / 10). step n (omega arith) (below f (n / 10) (omega arith)))
      (eq-zero-or-pos (n / 10))

  pub decimal_induction : (n : ℕ) → P n
  decimal_induction n = below n n (le_refl n)

-- ---- How long

-- n digits are enough below 10 to the n
pub decimal_length : (k n : ℕ) → n < 10 ^ suc k → length (decimal n) ≤ suc k
decimal_length zero n h = rw (decimal_one n (omega arith)) (le_refl 1)
decimal_length (suc k) n h =
    ⊎_elim
    (λ (z : n / 10 ≡ 0). rw (decimal_one n (omega arith)) (omega arith))
    (λ (p : 0 < n / 10).
    let shorter : n / 10 < 10 ^ suc k = (div-lt_iff_lt-mul (omega arith)).1 (rw pow-suc at h) in
    rw (decimal_more n (omega arith), length-append) (omega (arith, decimal_length k (n / 10) shorter)))
    (eq-zero-or-pos (n / 10))

pub decimal_u64 : (n : ℕ) → n < 2 ^ 64 → length (decimal n) ≤ 20
decimal_u64 n h = decimal_length 19 n (omega arith)

pub decimal_u32 : (n : ℕ) → n < 2 ^ 32 → length (decimal n) ≤ 10
decimal_u32 n h = decimal_length 9 n (omega arith)

pub length_one : (n : ℕ) → n < 10 → 1 ≡ length (decimal n)
length_one n h = rw (decimal_one n h)

pub length_more : (n : ℕ) → 10 ≤ n → length (decimal (n / 10)) + 1 ≡ length (decimal n)
length_more n h = sym (ap length (decimal_more n h) ∙ length-append (decimal (n / 10)) (digit (n % 10) ∷ []))

power_some : (k : ℕ) → 0 < 10 ^ k
power_some zero = omega arith
power_some (suc k) = omega (arith, power_some k, pow-suc 10 k)

-- a number has one digit more than the power of ten that it reaches
power_length : (k n : ℕ) → 10 ^ k ≤ n → n < 10 * 10 ^ k → k + 1 ≡ length (decimal n)
power_length zero n from below = length_one n (omega arith)
power_length (suc k) n from below =
    let power : 10 ^ suc k ≡ 10 ^ k * 10 = pow-suc 10 k in
    ap (λ (m : ℕ). m + 1) (omega (arith, power_length k (n / 10) (omega arith) (omega arith)))
    ∙ length_more n (omega (arith, power_some k))

pub width_is : (k n : ℕ) → 10 ^ k ≤ max n 1 → max n 1 < 10 * 10 ^ k → k + 1 ≡ length (decimal n)
width_is zero n from below = length_one n (omega arith)
width_is (suc k) n from below =
    let power : 10 ^ suc k ≡ 10 ^ k * 10 = pow-suc 10 k in
    let some : 0 < 10 ^ k = power_some k in
    power_length (suc k) n (omega arith) (omega arith)

-- there is a digit
pub decimal_some : (n : ℕ) → 0 < length (decimal n)
unfolding decimal
decimal_some n = omega (arith, length-append (leading_within n (n / 10)) (digit (n % 10) ∷ []))

-- ---- What it stands for

-- one digit more
pub value_more : (v : ℕ) (ds : List ℕ) (d : ℕ) → value_from v (ds ++ (d ∷ [])) ≡ value_from v ds * 10 + (d - 48)
unfolding value_from
value_more v [] d = refl
value_more v (e ∷ ds) d = value_more (v * 10 + (e - 48)) ds d

digits_more : (ds : List ℕ) (d : ℕ) → Digits ds → Digit d → Digits (ds ++ (d ∷ []))
digits_more [] d none h = more h none
digits_more (e ∷ ds) d (more g gs) h = more g (digits_more ds d gs h)

is_digit : (n : ℕ) → n < 10 → Digit (digit n)
is_digit n h = record { from = omega arith; to = omega arith }

-- the notation of n: what is proved of it by induction
decimal_is_one : (n : ℕ) → n < 10 → IsDecimal n (decimal n)
unfolding value_from
decimal_is_one n h =
    rw (decimal_one n h)
    (record {
      digits = more (is_digit n h) none;
      some = omega arith;
      leading = λ l. absurd (omega arith);
      stands_for = omega arith;
    })

first_kept : (ds : List ℕ) (d : ℕ) → 0 < length ds → get_or (ds ++ (d ∷ [])) 0 0 ≡ get_or ds 0 0
first_kept ds d h = get_or-append ds (d ∷ []) 0 0 h

-- the first digit of a number above 0 is not 0
decimal_leading : (n : ℕ) → 0 < n → 48 < get_or (decimal n) 0 0
decimal_leading =
    decimal_induction
    (λ n. 0 < n → 48 < get_or (decimal n) 0 0)
    (λ n h p. rw (decimal_one n h) (omega arith))
    (λ n h before p.
    rw (decimal_more n h, first_kept (decimal (n / 10)) (digit (n % 10)) (decimal_some (n / 10)))
    (before (omega arith)))

decimal_is_more : (n : ℕ) → 10 ≤ n → IsDecimal (n / 10) (decimal (n / 10)) → IsDecimal n (decimal n)
decimal_is_more n h before =
    let ds : List ℕ = decimal (n / 10) in
    let d : ℕ = digit (n % 10) in
    rw (decimal_more n h)
    (record {
      digits = digits_more ds d before.digits (is_digit (n % 10) (omega arith));
      some = omega (arith, length-append ds (d ∷ []));
      leading = λ l. rw (first_kept ds d before.some) (decimal_leading (n / 10) (omega arith));
      stands_for = value_more 0 ds d ∙ omega (arith, before.stands_for);
    })

pub decimal_is : (n : ℕ) → IsDecimal n (decimal n)
decimal_is = decimal_induction (λ n. IsDecimal n (decimal n)) decimal_is_one decimal_is_more

pub decimal_value : (n : ℕ) → value (decimal n) ≡ n
decimal_value n = (decimal_is n).stands_for

-- ---- That there is no other

value_grows : (v : ℕ) (ds : List ℕ) → v ≤ value_from v ds
unfolding value_from
value_grows v [] = le_refl v
value_grows v (d ∷ ds) = omega (arith, value_grows (v * 10 + (d - 48)) ds)

-- what does not begin with 0 is not 0
value_pos : (ds : List ℕ) (k : ℕ) → 48 < get_or ds 0 0 → 0 < value (take (suc k) ds)
unfolding value_from
value_pos [] k h = absurd (omega arith)
value_pos (d ∷ ds) k h = omega (arith, value_grows (0 * 10 + (d - 48)) (take k ds))

pub digits_at : (ds : List ℕ) (i : ℕ) → Digits ds → i < length ds → Digit (get_or ds i 0)
digits_at [] i none h = absurd (omega arith)
digits_at (d ∷ ds) zero (more g gs) h = g
digits_at (d ∷ ds) (suc i) (more g gs) h = digits_at ds i gs (omega arith)

leading_none : (most : ℕ) → leading_within most 0 ≡ []
unfolding leading_within
leading_none zero = refl
leading_none (suc most) = refl

module _ (ds : List ℕ) (all : Digits ds) (leading : 1 < length ds → 48 < get_or ds 0 0) where
  -- if the digits before this one are those of the number before it, this is its last
  next :
      (k : ℕ) → k < length ds →
      ((most : ℕ) → value (take k ds) ≤ most → take k ds ≡ leading_within most (value (take k ds))) →
      take (suc k) ds ≡ decimal (value (take (suc k) ds))
  unfolding decimal
  next k h before =
      let d : ℕ = get_or ds k 0 in
      let m : ℕ = value (take k ds) in
      let g = digits_at ds k all h in
      let w : value (take (suc k) ds) ≡ m * 10 + (d - 48) = ap value (take-suc ds k 0 h) ∙ value_more 0 (take k ds) d in
      let q : (m * 10 + (d - 48)) / 10 ≡ m = omega (arith, g.from, g.to) in
      let r : digit ((m * 10 + (d - 48)) % 10) ≡ d = omega (arith, g.from, g.to) in
      rw w (rw (q, r) (take-suc ds k 0 h ∙ ap (λ (l : List ℕ). l ++ (d ∷ [])) (before (m * 10 + (d - 48)) (omega arith))))

  only_so_far : (k : ℕ) → k < length ds → take (suc k) ds ≡ decimal (value (take (suc k) ds))
  unfolding value_from
  only_so_far zero h = next zero h (λ most l. sym (leading_none most))
  only_so_far (suc k) h =
      next (suc k) h
      (λ most l.
      only_so_far k (omega arith)
      ∙ sym (leading_decimal most (value (take (suc k) ds)) (value_pos ds k (leading (omega arith))) l))

pub decimal_only : (n : ℕ) (ds : List ℕ) → IsDecimal n ds → ds ≡ decimal n
decimal_only n ds is =
    let e : suc (length ds - 1) ≡ length ds = omega (arith, is.some) in
    let whole : take (suc (length ds - 1)) ds ≡ ds = ap (λ (k : ℕ). take k ds) e ∙ take-length ds in
    sym whole
    ∙ only_so_far ds is.digits is.leading (length ds - 1) (omega (arith, is.some))
    ∙ ap (λ (l : List ℕ). decimal (value l)) whole
    ∙ ap decimal is.stands_for
