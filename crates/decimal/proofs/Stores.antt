-- What the stores of `put_digits` write, on plain values: the digits from the last to the first.
-- Core: Backwards, what is written so far, and what is left to write.
-- Assumes nothing.
use Prim.Native.Nat.{ℕ, ◌+◌, ◌-◌, ◌/◌, ◌%◌, ◌<◌, ◌≤◌}
use mathlib.Core.Path.{◌≡◌, refl, sym, ap, ◌∙◌}
use mathlib.Core.List.{List, [], ◌∷◌, ◌++◌, append_assoc, append-nil}
use native.Mathlib.Omega.{arith}
use lib.ListN.{length, set, drop, length-append}
use lib.Seq.{drop-length}
use Rattle.std.proofs.lemmas.List.{drop-set}
use Rattle.decimal.specs.Answer.{digit, decimal}
use Rattle.decimal.proofs.Notation.{decimal_last}

-- from a place on the digits are written, and those before it are the digits of what is left of n
pub record Backwards (digits : List ℕ) (n left place : ℕ) : Type 0 where
  pub ahead : List ℕ
  pub whole : decimal n ≡ ahead ++ drop place digits
  pub there : length ahead ≡ place
  pub are_left : 0 < place → ahead ≡ decimal left

-- behind the end nothing is written
pub backwards_begins : (digits : List ℕ) (n : ℕ) → length digits ≡ length (decimal n) → Backwards digits n n (length digits)
backwards_begins digits n h =
    record {
      ahead = decimal n;
      whole = sym (ap (λ (ds : List ℕ). decimal n ++ ds) (drop-length digits) ∙ append-nil (decimal n));
      there = sym h;
      are_left = λ _. refl;
    }

-- the last of the digits that are ahead is the remainder of what is left
pub backwards_on :
    (digits : List ℕ) (n left place : ℕ) → 0 < place → place ≤ length digits → Backwards digits n left place →
    Backwards (set digits (place - 1) (digit (left % 10))) n (left / 10) (place - 1)
backwards_on digits n left place more within b =
    let last = decimal_last left in
    let now : b.ahead ≡ last.0 ++ (digit (left % 10) ∷ []) = b.are_left more ∙ last.1 in
    let one : length b.ahead ≡ length last.0 + 1 = ap length now ∙ length-append last.0 (digit (left % 10) ∷ []) in
    let e : place ≡ place - 1 + 1 = omega arith in
    record {
      ahead = last.0;
      whole =
          b.whole
          ∙ ap (λ (ds : List ℕ). ds ++ drop place digits) now
          ∙ append_assoc last.0 (digit (left % 10) ∷ []) (drop place digits)
          ∙ ap (λ (k : ℕ). last.0 ++ (digit (left % 10) ∷ drop k digits)) e
          ∙ ap (λ (ds : List ℕ). last.0 ++ ds) (sym (drop-set digits (place - 1) (digit (left % 10)) (omega arith)));
      there = omega (arith, b.there, one);
      are_left = λ h. last.2 (omega (arith, b.there, one));
    }

-- at the first place there is none ahead
pub backwards_ends : (digits : List ℕ) (n left place : ℕ) → place ≤ 0 → Backwards digits n left place → digits ≡ decimal n
backwards_ends digits n left place h b = go b.ahead b.there b.whole
  where
    go : (ds : List ℕ) → length ds ≡ place → decimal n ≡ ds ++ drop place digits → digits ≡ decimal n
    go [] t w = ap (λ (k : ℕ). drop k digits) t ∙ sym w
    go (d ∷ ds) t w = absurd (omega arith)
