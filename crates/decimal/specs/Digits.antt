-- What digits say, with no algorithm. A byte is a number, and a text is a list of bytes (ASCII).
--     Digit d                      the byte is one of the digits 0 to 9
--     Digits ds                    every byte of a text is a digit
--     worth d                      what a digit counts
--     value_from v ds, value ds    the number that digits stand for, after those that stand for v, and from the first on
--     IsDecimal n ds               the text is the decimal notation of n
--     Number n ds                  the text is one or more digits that stand for n, a number of 32 bits
--     Stops text                   the text does not begin with a digit
use Rattle.std.specs.Prelude.{ℕ, ◌+◌, ◌*◌, ◌-◌, ◌^◌, ◌<◌, ◌≤◌, ◌≡◌, List, [], ◌∷◌, length, get_or}

-- The digits 0 to 9 are the bytes 48 to 57.
pub record Digit (d : ℕ) : Type 0 where
  pub from : 48 ≤ d
  pub to : d ≤ 57

-- Every byte of a text is a digit.
pub data Digits : List ℕ → Type 0 where
  none : Digits []
  more : {d : ℕ} {ds : List ℕ} → Digit d → Digits ds → Digits (d ∷ ds)

-- What a digit counts.
abbrev pub worth : ℕ → ℕ
worth d = d - 48

-- With each further digit, what stands before it counts ten times as much (Horner).
unfoldable pub value_from : ℕ → List ℕ → ℕ
value_from v [] = v
value_from v (d ∷ ds) = value_from (v * 10 + worth d) ds

-- The number that digits stand for.
abbrev pub value : List ℕ → ℕ
value ds = value_from 0 ds

-- The decimal notation of n: at least one digit, no leading 0 where there are more, and the value n.
pub record IsDecimal (n : ℕ) (ds : List ℕ) : Type 0 where
  pub digits : Digits ds
  pub some : 0 < length ds
  pub leading : 1 < length ds → 48 < get_or ds 0 0
  pub stands_for : value ds ≡ n

-- A number that is read: one or more digits, of whatever value below 2^32. Zeros may lead.
pub record Number (n : ℕ) (ds : List ℕ) : Type 0 where
  pub digits : Digits ds
  pub some : 0 < length ds
  pub stands_for : value ds ≡ n
  pub small : n < 2 ^ 32

-- The text is empty, or its first byte is no digit.
abbrev pub Stops : List ℕ → Type 0
Stops text = Digit (get_or text 0 0) → ⊥
