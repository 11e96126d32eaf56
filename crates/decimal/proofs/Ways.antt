-- A number that is read at an index of a text: the ways through the code, and what callers get.
-- Core: digits_at, what the definition is at an index, and found_again, that the index tells the rest of the text.
-- Assumes nothing.
use Prim.Native.Nat.{ℕ, ◌+◌, ◌-◌, ◌^◌, ◌<◌, ◌≤◌}
use mathlib.Core.Path.{◌≡◌, refl, sym, ap, ◌∙◌}
use mathlib.Core.Bool.{Bool, true, false, cond, ◌&&◌}
use mathlib.Core.List.{List}
use native.Mathlib.Nat.{add-zero}
use native.Mathlib.Numerals.{add-one}
use native.Mathlib.Omega.{arith}
use lib.Dec.{ltb, leb}
use Rattle.std.specs.Char.{is_ascii_digit}
use Rattle.std.specs.Prelude.{Option, None, Some}
use lib.ListN.{length, get_or, drop, drop_of_length-le, length-append, length-drop}
use lib.Seq.{drop-cons, get_or-drop, drop-drop, drop-append_seam}
use borrow.Author.Tests.{lt-ltb, le-ltb, lt-leb, le-leb, ltb-true, ltb-false}
use Rattle.decimal.specs.declared.Number.{Number}
use Rattle.decimal.specs.Answer.{is_digit, longer, Found, nothing, found, digits_from, number_in, indexed, number_at}
use Rattle.decimal.specs.Inside.{found_at}
use Rattle.decimal.proofs.Numbers.{Numbered, found_is}

-- ---- Digits

-- the test of the library is that of the definition
pub ascii_digit : (b : ℕ) → is_ascii_digit b ≡ is_digit b
unfolding is_digit
ascii_digit b = go (ltb b 48) refl
  where
    go : (t : Bool) → ltb b 48 ≡ t → leb 48 b && leb b 57 ≡ cond t false (leb b 57)
    go true e = rw (lt-leb 48 b (ltb-true b 48 e))
    go false e = rw (le-leb 48 b (ltb-false b 48 e))

pub is_one : (b : ℕ) {t u : Bool} → t ≡ is_ascii_digit b → t ≡ u → is_digit b ≡ u
is_one b e f = sym (ascii_digit b) ∙ sym e ∙ f

module _ (v : ℕ) (text : List ℕ) (at : ℕ) where
  pub digits_end : length text ≤ at → found v (drop at text) ≡ digits_from v (drop at text)
  unfolding digits_from
  digits_end h = rw (drop_of_length-le text h)

  digits_at :
      at < length text →
      digits_from v (drop at text)
      ≡ cond (is_digit (get_or text at 0))
      (cond (ltb (longer v (get_or text at 0)) (2 ^ 32)) (digits_from (longer v (get_or text at 0)) (drop (at + 1) text)) nothing)
      (found v (drop at text))
  unfolding digits_from
  digits_at h = rw (add-one, drop-cons text at 0 h)

  module _ (within : at < length text) where
    pub digits_stop : is_digit (get_or text at 0) ≡ false → found v (drop at text) ≡ digits_from v (drop at text)
    digits_stop h = rw (digits_at within, h)

    module _ (digit : is_digit (get_or text at 0) ≡ true) (w : ℕ) (w-is : w ≡ longer v (get_or text at 0)) where
      pub digits_on : w < 2 ^ 32 → digits_from w (drop (at + 1) text) ≡ digits_from v (drop at text)
      digits_on h = rw (digits_at within, digit, ← w-is, lt-ltb w (2 ^ 32) h)

      pub digits_over : 2 ^ 32 ≤ w → nothing ≡ digits_from v (drop at text)
      digits_over h = rw (digits_at within, digit, ← w-is, le-ltb w (2 ^ 32) h)

abbrev pub answered : (value end : ℕ) → Option Number
answered value end = Some (record { value = value; end = end })

-- the index where the rest begins, and the number that is found before it
pub found_there :
    (v : ℕ) (text : List ℕ) (at k : ℕ) (items : List ℕ) (f : Found ℕ) → items ≡ drop at text → at ≤ length text → k ≤ length items →
    found v (drop k items) ≡ f → answered v (at + k) ≡ indexed (length text) f
found_there v text at k items f i h l e =
    let ends : at + k ≡ length text - length (drop k items) = omega (arith, length-drop k items, ap length i, length-drop at text) in
    ap (answered v) ends ∙ ap (indexed (length text)) e

pub found_nothing : (length· : ℕ) (f : Found ℕ) → nothing ≡ f → None ≡ indexed length· f
found_nothing length· f e = ap (indexed length·) e

-- ---- A number

module _ (text : List ℕ) (at : ℕ) where
  pub number_end : length text ≤ at → None ≡ number_at text at
  unfolding number_in is_digit
  number_end h = rw (drop_of_length-le text h)

  number_first : number_in (drop at text) ≡ cond (is_digit (get_or text at 0)) (digits_from 0 (drop at text)) nothing
  unfolding number_in
  number_first = rw (get_or-drop at text 0 0, add-zero)

  pub number_no_digit : is_digit (get_or text at 0) ≡ false → None ≡ number_at text at
  number_no_digit h = found_nothing (length text) (number_in (drop at text)) (rw (number_first, h))

  pub number_digits : is_digit (get_or text at 0) ≡ true → indexed (length text) (digits_from 0 (drop at text)) ≡ number_at text at
  number_digits h =
      let e : digits_from 0 (drop at text) ≡ number_in (drop at text) = rw (number_first, h) in
      ap (indexed (length text)) e

-- ---- What callers get

module _ (text : List ℕ) (at n : ℕ) (rest : List ℕ) (r : Numbered (drop at text) n rest) where
  -- a number stands within the text, and the rest behind it
  pub ends_at : length text - length rest ≡ at + length r.ds
  ends_at = omega (arith, r.number.some, length-drop at text, ap length r.whole, length-append r.ds rest)

  pub rest_there : drop (length text - length rest) text ≡ rest
  rest_there =
      ap (λ (i : ℕ). drop i text) ends_at
      ∙ sym (drop-drop (length r.ds) at text)
      ∙ ap (drop (length r.ds)) r.whole
      ∙ drop-append_seam r.ds rest

-- the index that is read tells what was found, and the text behind it
pub found_again : (text : List ℕ) (at : ℕ) → found_at text (number_at text at) ≡ number_in (drop at text)
found_again text at = go (number_in (drop at text)) refl
  where
    go : (f : Found ℕ) → number_in (drop at text) ≡ f → found_at text (indexed (length text) f) ≡ f
    go nothing e = refl
    go (found n rest) e = ap (found n) (rest_there text at n rest (found_is (drop at text) n rest e))

-- it stands behind the index where it began, and within the text
pub read_index :
    (text : List ℕ) (at : ℕ) (number : Number) → number_at text at ≡ Some number →
    (at < number.end) × (number.end ≤ length text)
read_index text at number e = go (number_in (drop at text)) refl e
  where
    go :
        (f : Found ℕ) → number_in (drop at text) ≡ f → indexed (length text) f ≡ Some number →
        (at < number.end) × (number.end ≤ length text)
    go nothing g e = absurd (let z : ◌≡◌ {A = ℕ} 0 1 = cc in omega arith)
    go (found m rest) g e =
        let r = found_is (drop at text) m rest g in
        let there : length text - length rest ≡ number.end = cc in
        (omega (arith, ends_at text at m rest r, r.number.some), omega arith)
