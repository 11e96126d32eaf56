-- The ways through the code, on plain values: a law for each return.
-- Core: no_word, that a text which is no word and a rest does not begin with the word. The rest follows from the definitions.
-- Assumes nothing.
use Prim.Native.Nat.{ℕ, suc, ◌-◌, ◌<◌, ◌≤◌}
use mathlib.Core.Path.{◌≡◌, refl, sym, ap, ◌∙◌}
use mathlib.Core.Bool.{Bool, true, false, cond}
use mathlib.Core.List.{List, [], ◌∷◌, ◌++◌}
use native.Mathlib.Omega.{arith}
use denote.Ref.{Bor}
use lib.ListN.{length, get_or, take, drop, length-append, take-append-drop}
use lib.Seq.{length-take-le, take-length, drop-length, drop-cons, take-append_seam, get_or-append_seam}
use borrow.Author.Tests.{eqb-true, lt-ltb, le-ltb, ne_eqb}
use lib.Dec.{eqb}
use Rattle.std.specs.Prelude.{Option, None, Some, IsSomeAnd, MatchOption}
use Rattle.std.specs.Option.{option_map, unwrap_or}
use Rattle.std.specs.Bool.{then_some}
use Rattle.lent.specs.Words.{begins_with}
use Rattle.lent.proofs.Words.{begins_is}
use Rattle.decimal.specs.declared.Number.{Number}
use Rattle.decimal.specs.Answer.{nothing, found, number_at}
use Rattle.decimal.specs.Inside.{found_at}
use Rattle.decimal.proofs.Ways.{found_again}
use Rattle.script.specs.declared.Call.{Call}
use Rattle.script.specs.declared.Call.TheVariants.{Fresh, Withdraw, Step}
use Rattle.script.specs.Says.{space, return, fresh_word, admit_word, withdraw_word, step_word, longest}
use Rattle.script.specs.Answer.{spaced_in, single_of, single_in, delay_of, spelt, text_length, call_in}

-- ---- A word

-- the text is not the word and something behind it
abbrev IsNo : (word text : List ℕ) → Type 0
IsNo word text = (rest : List ℕ) → text ≡ word ++ rest → ⊥

no_word : (word text : List ℕ) → IsNo word text → begins_with word text ≡ false
no_word word text other = go (begins_with word text) refl
  where
    go : (b : Bool) → begins_with word text ≡ b → b ≡ false
    go true e = absurd (other (drop (length word) text) (begins_is word text e))
    go false e = refl

-- ---- A number

-- no number stands where no space does
pub spaced_other : (text : List ℕ) → IsNo (space ∷ []) text → spaced_in text ≡ nothing
unfolding spaced_in
spaced_other [] other = refl
spaced_other (b ∷ bs) other = rw (ne_eqb b space (λ e. other bs (λ i. e i ∷ bs)))

-- what a call read behind a space is what is found there
pub spaced_is :
    (text digits : List ℕ) (r : Option Number) → text ≡ space ∷ digits → r ≡ number_at digits 0 → spaced_in text ≡ found_at digits r
unfolding spaced_in
spaced_is text digits r e f = ap spaced_in e ∙ sym (found_again digits 0) ∙ ap (found_at digits) (sym f)

pub single_then : (text : List ℕ) (n : ℕ) (rest : List ℕ) → spaced_in text ≡ found n rest → then_some (eqb (length rest) 0) n ≡ single_in text
unfolding single_of
single_then text n [] e = ap single_of (sym e)
single_then text n (b ∷ bs) e = rw (ne_eqb (length (b ∷ bs)) 0 (λ h. omega arith)) (ap single_of (sym e))

-- ---- A call by its word

-- the call with the number, if there is one
pub called :
    (f : ℕ → Call) (n : Option ℕ) (r : Option Call) → MatchOption n (r ≡ None) (λ v. IsSomeAnd r (λ call. call ≡ f v)) → r ≡ option_map f n
called f None r h = h
called f (Some v) None h = elim h [ ]
called f (Some v) (Some call) h = ap Some h

module _ (text : List ℕ) where
  pub spelt_step : (rest : List ℕ) → text ≡ step_word ++ rest → option_map Step (single_in rest) ≡ spelt text
  unfolding spelt begins_with
  spelt_step rest e = ap spelt (sym e)

  pub spelt_admit : (rest : List ℕ) → text ≡ admit_word ++ rest → delay_of (spaced_in rest) ≡ spelt text
  unfolding spelt begins_with
  spelt_admit rest e = ap spelt (sym e)

  pub spelt_withdraw : (rest : List ℕ) → text ≡ withdraw_word ++ rest → option_map Withdraw (single_in rest) ≡ spelt text
  unfolding spelt begins_with
  spelt_withdraw rest e = ap spelt (sym e)

  pub spelt_fresh : (rest : List ℕ) → text ≡ fresh_word ++ rest → option_map Fresh (single_in rest) ≡ spelt text
  unfolding spelt begins_with
  spelt_fresh rest e = ap spelt (sym e)

  pub spelt_none :
      IsNo step_word text → IsNo admit_word text → IsNo withdraw_word text → IsNo fresh_word text → None ≡ spelt text
  unfolding spelt
  spelt_none s a w f =
      rw (no_word step_word text s, no_word admit_word text a, no_word withdraw_word text w, no_word fresh_word text f)

-- ---- A line

-- the last byte
pub drop_last : (l : List ℕ) → 0 < length l → drop (length l - 1) l ≡ get_or l (length l - 1) 0 ∷ []
drop_last l h =
    let index : suc (length l - 1) ≡ length l = omega arith in
    drop-cons l (length l - 1) 0 (omega arith)
    ∙ ap (λ (k : ℕ). get_or l (length l - 1) 0 ∷ drop k l) index
    ∙ ap (λ (r : List ℕ). get_or l (length l - 1) 0 ∷ r) (drop-length l)

-- a text and a CR
pub text_returned : (text : List ℕ) → text_length (text ++ return ∷ []) ≡ length text
unfolding text_length
text_returned text =
    let long : length (text ++ return ∷ []) - 1 ≡ length text = omega (arith, length-append text (return ∷ [])) in
    rw (long, get_or-append_seam text return [] 0)

-- a line without a CR
text_whole : (line : List ℕ) → ((text : List ℕ) → line ≡ text ++ return ∷ [] → ⊥) → line ≡ take (text_length line) line
unfolding text_length
text_whole [] none = refl
text_whole (b ∷ bs) none = go (eqb (get_or (b ∷ bs) (length (b ∷ bs) - 1) 0) return) refl
  where
    line : List ℕ
    line = b ∷ bs

    go :
        (t : Bool) → eqb (get_or line (length line - 1) 0) return ≡ t →
        line ≡ take (cond t (length line - 1) (length line)) line
    go true e =
        absurd
        (none (take (length line - 1) line)
        (sym (take-append-drop (length line - 1) line)
        ∙ ap (λ (r : List ℕ). take (length line - 1) line ++ r)
        (drop_last line (omega arith) ∙ ap (λ (d : ℕ). d ∷ []) (eqb-true _ return e))))
    go false e = sym (take-length line)

-- what is left of a line without the CR at its end
pub text_of :
    (r : Option (Bor (List ℕ))) (line : Bor (List ℕ)) →
    MatchOption r ((text : List ℕ) → line.now ≡ text ++ return ∷ [] → ⊥) (λ text. line.now ≡ text.now ++ return ∷ []) →
    (unwrap_or r line).now ≡ take (text_length line.now) line.now
text_of None line h = text_whole line.now h
text_of (Some text) line h =
    sym
    (ap (λ (l : List ℕ). take (text_length l) l) h
    ∙ ap (λ (n : ℕ). take n (text.now ++ return ∷ [])) (text_returned text.now)
    ∙ take-append_seam text.now (return ∷ []))

pub length_within : (line : List ℕ) → text_length line ≤ length line
unfolding text_length
length_within line = go (eqb (get_or line (length line - 1) 0) return)
  where
    go : (b : Bool) → cond b (length line - 1) (length line) ≤ length line
    go true = omega arith
    go false = omega arith

module _ (line text : List ℕ) (text-is : text ≡ take (text_length line) line) where
  text_long : length text ≡ text_length line
  text_long = ap length text-is ∙ length-take-le (text_length line) line (length_within line)

  pub line_too_long : longest < length text → None ≡ call_in line
  unfolding call_in
  line_too_long h = rw (lt-ltb longest (text_length line) (omega (arith, text_long)))

  pub line_read : length text ≤ longest → spelt text ≡ call_in line
  unfolding call_in
  line_read h = rw (le-ltb longest (text_length line) (omega (arith, text_long))) (ap spelt text-is)
