-- What is proved of numbers as text, a line each; proofs/Promises.antt proves the whole record.
use Rattle.std.specs.Prelude.{ℕ, ◌^◌, ◌<◌, ◌≤◌, ◌≡◌, ◌↔◌, List, [], ◌++◌, length, Some}
use Rattle.decimal.specs.Digits.{IsDecimal, Number, Stops}
use Rattle.decimal.specs.declared.Number as declared
use Rattle.decimal.specs.Answer.{decimal, found, number_in, number_at}

pub record Promises : Type 0 where
  -- What is written for a number is its decimal notation, and there is no other.
  pub decimal_is : (n : ℕ) → IsDecimal n (decimal n)
  pub decimal_only : (n : ℕ) (ds : List ℕ) → IsDecimal n ds → ds ≡ decimal n
  -- A number of 32 bits has at most 10 digits, one of 64 bits at most 20, and the greatest of each has as many.
  pub decimal_fits_32 : (n : ℕ) → n < 2 ^ 32 → length (decimal n) ≤ 10
  pub decimal_fits_64 : (n : ℕ) → n < 2 ^ 64 → length (decimal n) ≤ 20
  pub decimal_reaches_32 : length (decimal 4_294_967_295) ≡ 10
  pub decimal_reaches_64 : length (decimal 18_446_744_073_709_551_615) ≡ 20
  -- A text is a number's exactly when it is one or more digits that stand for it.
  pub number_exactly : (text : List ℕ) (n : ℕ) → (number_in text ≡ found n []) ↔ Number n text
  -- In front of other text a number is found exactly where its digits stand and go on no further.
  pub front_exactly :
      (text : List ℕ) (n : ℕ) (rest : List ℕ) →
      (number_in text ≡ found n rest) ↔ ((ds : List ℕ) × Number n ds × (text ≡ ds ++ rest) × Stops rest)
  -- What is written is read back.
  pub read_back : (n : ℕ) (rest : List ℕ) → n < 2 ^ 32 → Stops rest → number_in (decimal n ++ rest) ≡ found n rest
  -- The index that `read` answers stands behind the one where the number began, and within the text.
  pub read_index :
      (text : List ℕ) (at : ℕ) (number : declared.Number) → number_at text at ≡ Some number →
      (at < number.end) × (number.end ≤ length text)
