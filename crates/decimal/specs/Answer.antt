-- The functions that the contracts cite. Promises says what they have to do with the words of Digits.
--     digit n                  the byte of a digit
--     leading_within most n    the digits of n, and none for 0, in at most that many digits
--     decimal n                the decimal notation of n, whose length `width` answers
--     is_digit b               whether a byte is a digit
--     longer v b               the number v with one digit more
--     Found A                  what was looked for at the front of a text, and the text behind it, or nothing
--     digits_from v text       the number whose digits go on there, after those that stand for v
--     number_in text           the number that digits say at the front of a text
--     indexed length f         the same with the index behind the number, in a text of that length
--     number_at text at        what `read` answers
use Rattle.std.specs.Prelude.{ℕ, zero, suc, ◌+◌, ◌*◌, ◌-◌, ◌/◌, ◌%◌, ◌^◌, Bool, false, cond, List, [], ◌∷◌, ◌++◌, ltb, leb, length, get_or, drop, Option, None, Some}
use Rattle.decimal.specs.declared.Number.{Number}
use Rattle.decimal.specs.Digits.{worth}

-- The byte of a digit.
abbrev pub digit : ℕ → ℕ
digit n = 48 + n

-- The digits of a number, the last by its remainder; 0 has none. With an end in sight, so that it can be computed.
unfoldable pub leading_within : (most n : ℕ) → List ℕ
leading_within zero n = []
leading_within (suc most) zero = []
leading_within (suc most) (suc n) = leading_within most (suc n / 10) ++ (digit (suc n % 10) ∷ [])

-- The last digit always stands, so that 0 is written `0`. There are no more digits before it than n counts.
unfoldable pub decimal : ℕ → List ℕ
decimal n = leading_within n (n / 10) ++ (digit (n % 10) ∷ [])

-- Whether a byte is a digit.
unfoldable pub is_digit : ℕ → Bool
is_digit b = cond (ltb b 48) false (leb b 57)

-- A number with one digit more at its end.
abbrev pub longer : ℕ → ℕ → ℕ
longer v b = v * 10 + worth b

-- What was looked for at the front of a text, and what stands behind it.
pub data Found (A : Type 0) : Type 0 where
  nothing : Found A
  found : A → List ℕ → Found A

-- The digits go on as far as they go; a number of 2^32 or more is none.
unfoldable pub digits_from : ℕ → List ℕ → Found ℕ
digits_from v [] = found v []
digits_from v (b ∷ bs) =
    cond (is_digit b) (cond (ltb (longer v b) (2 ^ 32)) (digits_from (longer v b) bs) nothing) (found v (b ∷ bs))

-- At least one digit.
unfoldable pub number_in : List ℕ → Found ℕ
number_in text = cond (is_digit (get_or text 0 0)) (digits_from 0 text) nothing

-- The index behind a number that was found is where the rest of the text begins.
abbrev pub indexed : (length· : ℕ) → Found ℕ → Option Number
indexed length· nothing = None
indexed length· (found n rest) = Some (record { value = n; end = length· - length rest })

-- The number that begins at an index of a text.
abbrev pub number_at : (text : List ℕ) (at : ℕ) → Option Number
number_at text at = indexed (length text) (number_in (drop at text))
