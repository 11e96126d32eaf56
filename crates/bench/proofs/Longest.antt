-- How long the numbers of a verdict on a table are in print, and its line with them.
-- Core: soon, and short_line. The rest follows from these.
-- Assumes nothing.
use Prim.Native.Nat.{ℕ, ◌+◌, ◌*◌, ◌/◌, ◌^◌, ◌<◌, ◌≤◌, ◌∣◌, max}
use mathlib.Core.Path.{◌≡◌, subst, ap, ◌∙◌}
use native.Mathlib.Decide.{dec_lt}
use native.Mathlib.Nat.{div-le_self, mul-le-mul, mul-le-mul_right, max-le, le_of_dvd, dvd_refl}
use native.Mathlib.Omega.{arith}
use lib.ListN.{length}
use Rattle.std.specs.Prelude.{Ok}
use Rattle.euclid.specs.Answer.{gcd, lcm}
use Rattle.euclid.proofs.Multiple.{lcm_is}
use Rattle.train.specs.declared.Train.{Train}
use Rattle.train.specs.Claims.{Limits, max_ticks}
use Rattle.train.specs.Answer.{reach}
use Rattle.judge.specs.declared.Verdict.{Verdict}
use Rattle.judge.specs.Paper.{Shown, accept, collide, refuse}
use Rattle.decimal.proofs.Notation.{decimal_length}
use Rattle.line.specs.Answer.{accept_word, refuse_word, line, line_of, written}
use Rattle.line.proofs.Lines.{two_length, collide_length, answer_room}
use Rattle.bench.specs.Answer.{longest_line}

-- Positions and the number of a refusal have at most two digits, a tick 14, L seven and a division count five.
abbrev pub Short : Shown → Type 0
Short (accept L divisions) = (L < 10 ^ 7) × (divisions < 10 ^ 5)
Short (collide first second tick L divisions) =
    (first < 10 ^ 2) × (second < 10 ^ 2) × (tick < 10 ^ 14) × (L < 10 ^ 7) × (divisions < 10 ^ 5)
Short (refuse number train) = (number < 10 ^ 2) × (train < 10 ^ 2)

-- ---- Core laws

-- two periods that are equal have themselves as their multiple, and of two that differ one is below the limit
multiple_small : (a b : ℕ) → 0 < a → a ≤ max_ticks → b ≤ max_ticks → lcm a b ≤ 99_999_990_000_000
unfolding lcm
multiple_small a b some la lb = go (dec_lt a b) (dec_lt b a)
  where
    below_product : a / gcd a b * b ≤ a * b
    below_product = mul-le-mul_right b (div-le_self a (gcd a b))

    go : Dec (a < b) → Dec (b < a) → lcm a b ≤ 99_999_990_000_000
    go (yes h) other =
        let below : a ≤ 9_999_999 = omega arith in
        omega (arith, below_product, mul-le-mul below lb)
    go (no h) (yes k) =
        let below : b ≤ 9_999_999 = omega arith in
        omega (arith, below_product, mul-le-mul la below)
    go (no h) (no k) =
        let same : a ≡ b = omega arith in
        let divides : lcm a b ∣ a = (lcm_is a b).least a (dvd_refl a) (subst (λ (n : ℕ). n ∣ a) same (dvd_refl a)) in
        omega (arith, le_of_dvd some divides)

-- two trains within the limits meet at a tick of at most 14 digits
pub soon : (a b : Train) → Limits a → Limits b → reach a b ≤ 10 ^ 14
soon a b la lb =
    let phases : max a.phase b.phase ≤ max_ticks = max-le la.phase lb.phase in
    omega (arith, multiple_small a.period b.period (omega (arith, la.strict.some, la.strict.fits)) la.period lb.period)

pub short_line : (s : Shown) → Short s → length (line s) ≤ longest_line
unfolding line
short_line (accept L divisions) w =
    omega (arith, two_length accept_word L divisions, decimal_length 6 L w.0, decimal_length 4 divisions w.1)
short_line (collide first second tick L divisions) w =
    omega (
      arith,
      collide_length first second tick L divisions,
      decimal_length 1 first w.0,
      decimal_length 1 second w.1,
      decimal_length 13 tick w.2,
      decimal_length 6 L w.3,
      decimal_length 4 divisions w.4,
    )
short_line (refuse number train) w =
    omega (arith, two_length refuse_word number train, decimal_length 1 number w.0, decimal_length 1 train w.1)

-- ---- Room

-- as much room as the longest line has is enough for a line that is no longer
pub room_suffices :
    (v : Verdict) (room : ℕ) → length (line_of v) ≤ longest_line → longest_line ≤ room → written v room ≡ Ok (length (line_of v))
room_suffices v room h enough =
    let from-the-front : 0 + length (line_of v) ≡ length (line_of v) = omega arith in
    answer_room (line_of v) 0 room (omega arith) ∙ ap (λ (n : ℕ). Ok n) from-the-front
