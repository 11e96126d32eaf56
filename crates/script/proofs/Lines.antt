-- A line and the call that it says: what is read of it, it says, and what it says is read of it.
-- Core: spelt_said and spells_spelt, of a text; line_said and says_read, of a line.
-- Assumes nothing.
use Prim.Native.Nat.{ℕ, ◌+◌, ◌-◌, ◌<◌, ◌≤◌}
use mathlib.Core.Path.{◌≡◌, refl, sym, ap, subst, ◌∙◌}
use mathlib.Core.Bool.{Bool, true, false, cond}
use mathlib.Core.Logic.{⊎_elim}
use mathlib.Core.List.{List, [], ◌∷◌, ◌++◌, append-nil}
use native.Mathlib.Nat.{eq-zero-or-pos}
use native.Mathlib.Omega.{arith}
use Rattle.std.specs.Prelude.{Option, None, Some, IfSome}
use Rattle.std.specs.Option.{option_map}
use lib.Dec.{ltb, eqb}
use lib.ListN.{length, get_or, take, drop, length-append, take-append-drop}
use lib.Seq.{length-take-le, drop-length, take_all, take-append_seam, get_or-append-add}
use borrow.Author.Tests.{ltb-false, eqb-true, lt-ltb, le-ltb, ne_eqb}
use Rattle.lent.specs.Words.{begins_with}
use Rattle.lent.proofs.Words.{begins_is}
use Rattle.decimal.specs.Digits.{Digit, Number}
use Rattle.decimal.specs.Answer.{Found, nothing, found}
use Rattle.decimal.proofs.Notation.{digits_at}
use Rattle.script.specs.declared.Call.{Call}
use Rattle.script.specs.declared.Call.TheVariants.{Fresh, Admit, Withdraw, Step}
use Rattle.script.specs.Says.{space, return, fresh_word, admit_word, withdraw_word, step_word}
use Rattle.script.specs.Says.{Spells, fresh, admit, withdraw, step, longest, Ending, plain, returned, Says, says}
use Rattle.script.specs.Answer.{spaced_in, single_in, period_of, delay_of, spelt, text_length, call_in}
use Rattle.script.proofs.Ways.{drop_last, text_returned, length_within}
use Rattle.script.proofs.Numbers.{AsSpaced, AsSingle, spaced_found, spaced_read, space_stops, single_found, single_read}

-- ---- A call or none

if_some : (P Q : Call → Type 0) → ((c : Call) → P c → Q c) → (c : Option Call) → IfSome c P → IfSome c Q
if_some P Q f None p = tt
if_some P Q f (Some c) p = f c p

pub none_said : (P : Call → Type 0) → ((c : Call) → P c → ⊥) → (c : Option Call) → IfSome c P → c ≡ None
none_said P n None p = refl
none_said P n (Some c) p = absurd (n c p)

-- ---- What is read of a text, it says

module _ (text : List ℕ) where
  abbrev Said : Option Call → Type 0
  Said call = IfSome call (Spells text)

  fresh_said : text ≡ fresh_word ++ drop 5 text → (s : Option ℕ) → AsSingle (drop 5 text) s → Said (option_map Fresh s)
  fresh_said e None r = tt
  fresh_said e (Some n) r =
      subst (λ (t : List ℕ). Spells t (Fresh n)) (sym (e ∙ ap (λ (l : List ℕ). fresh_word ++ l) r.whole)) (fresh r.number)

  withdraw_said : text ≡ withdraw_word ++ drop 8 text → (s : Option ℕ) → AsSingle (drop 8 text) s → Said (option_map Withdraw s)
  withdraw_said e None r = tt
  withdraw_said e (Some n) r =
      subst (λ (t : List ℕ). Spells t (Withdraw n)) (sym (e ∙ ap (λ (l : List ℕ). withdraw_word ++ l) r.whole))
      (withdraw r.number)

  step_said : text ≡ step_word ++ drop 4 text → (s : Option ℕ) → AsSingle (drop 4 text) s → Said (option_map Step s)
  step_said e None r = tt
  step_said e (Some n) r =
      subst (λ (t : List ℕ). Spells t (Step n)) (sym (e ∙ ap (λ (l : List ℕ). step_word ++ l) r.whole)) (step r.number)

  duration_said :
      (delay period : ℕ) (ds es rest : List ℕ) → Number delay ds → Number period es →
      text ≡ admit_word ++ (space ∷ ds ++ (space ∷ es ++ rest)) →
      (s : Option ℕ) → AsSingle rest s → Said (option_map (Admit delay period) s)
  duration_said delay period ds es rest j k e None r = tt
  duration_said delay period ds es rest j k e (Some n) r =
      subst (λ (t : List ℕ). Spells t (Admit delay period n))
      (sym (e ∙ ap (λ (l : List ℕ). admit_word ++ (space ∷ ds ++ (space ∷ es ++ l))) r.whole))
      (admit j k r.number)

  period_said :
      (delay : ℕ) (ds rest : List ℕ) → Number delay ds → text ≡ admit_word ++ (space ∷ ds ++ rest) →
      (f : Found ℕ) → AsSpaced rest f → Said (period_of delay f)
  period_said delay ds rest j e nothing r = tt
  period_said delay ds rest j e (found period after) r =
      duration_said delay period ds r.ds after j r.number
      (e ∙ ap (λ (l : List ℕ). admit_word ++ (space ∷ ds ++ l)) r.whole)
      (single_in after) (single_found after)

  delay_said : text ≡ admit_word ++ drop 5 text → (f : Found ℕ) → AsSpaced (drop 5 text) f → Said (delay_of f)
  delay_said e nothing r = tt
  delay_said e (found delay after) r =
      period_said delay r.ds after r.number (e ∙ ap (λ (l : List ℕ). admit_word ++ l) r.whole)
      (spaced_in after) (spaced_found after)

  pub spelt_said : Said (spelt text)
  unfolding spelt
  spelt_said =
      go (begins_with step_word text) refl (begins_with admit_word text) refl (begins_with withdraw_word text) refl
      (begins_with fresh_word text) refl
    where
      go :
          (s : Bool) → begins_with step_word text ≡ s → (a : Bool) → begins_with admit_word text ≡ a →
          (w : Bool) → begins_with withdraw_word text ≡ w → (f : Bool) → begins_with fresh_word text ≡ f →
          Said
          (cond s (option_map Step (single_in (drop 4 text)))
          (cond a (delay_of (spaced_in (drop 5 text)))
          (cond w (option_map Withdraw (single_in (drop 8 text)))
          (cond f (option_map Fresh (single_in (drop 5 text)))
          None))))
      go true e a h w i f j = step_said (begins_is step_word text e) (single_in (drop 4 text)) (single_found (drop 4 text))
      go false e true h w i f j = delay_said (begins_is admit_word text h) (spaced_in (drop 5 text)) (spaced_found (drop 5 text))
      go false e false h true i f j = withdraw_said (begins_is withdraw_word text i) (single_in (drop 8 text)) (single_found (drop 8 text))
      go false e false h false i true j = fresh_said (begins_is fresh_word text j) (single_in (drop 5 text)) (single_found (drop 5 text))
      go false e false h false i false j = tt

-- ---- What a text says is read of it

pub spells_spelt : {text : List ℕ} {call : Call} → Spells text call → spelt text ≡ Some call
unfolding spelt begins_with
spells_spelt (fresh {c} {ds} k) = ap (λ (n : Option ℕ). option_map Fresh n) (single_read c ds k)
spells_spelt (withdraw {place} {ds} k) = ap (λ (n : Option ℕ). option_map Withdraw n) (single_read place ds k)
spells_spelt (step {c} {ds} k) = ap (λ (n : Option ℕ). option_map Step n) (single_read c ds k)
spells_spelt (admit {delay} {period} {duration} {ds} {es} {fs} j k l) =
    ap delay_of (spaced_read delay ds (space ∷ es ++ space ∷ fs) j (space_stops (es ++ space ∷ fs)))
    ∙ ap (period_of delay) (spaced_read period es (space ∷ fs) k (space_stops fs))
    ∙ ap (λ (n : Option ℕ). option_map (Admit delay period) n) (single_read duration fs l)

-- ---- The end of a line

-- the last byte is a digit
record EndsInDigit (l : List ℕ) : Type 0 where
  some : 0 < length l
  last : Digit (get_or l (length l - 1) 0)

number_ends : (n : ℕ) (ds : List ℕ) → Number n ds → EndsInDigit ds
number_ends n ds k = record { some = k.some; last = digits_at ds (length ds - 1) k.digits (omega (arith, k.some)) }

ends_behind : (xs ys : List ℕ) → EndsInDigit ys → EndsInDigit (xs ++ ys)
ends_behind xs ys e =
    let index : length (xs ++ ys) - 1 ≡ length xs + (length ys - 1) = omega (arith, length-append xs ys, e.some) in
    record {
      some = omega (arith, length-append xs ys, e.some);
      last = rw (index, get_or-append-add xs ys (length ys - 1) 0) e.last;
    }

spells_ends : {text : List ℕ} {call : Call} → Spells text call → EndsInDigit text
spells_ends (fresh {c} {ds} k) = ends_behind (fresh_word ++ space ∷ []) ds (number_ends c ds k)
spells_ends (withdraw {place} {ds} k) = ends_behind (withdraw_word ++ space ∷ []) ds (number_ends place ds k)
spells_ends (step {c} {ds} k) = ends_behind (step_word ++ space ∷ []) ds (number_ends c ds k)
spells_ends (admit {delay} {period} {duration} {ds} {es} {fs} j k l) =
    ends_behind (admit_word ++ space ∷ []) _
    (ends_behind ds _ (ends_behind (space ∷ []) _ (ends_behind es _ (ends_behind (space ∷ []) fs (number_ends duration fs l)))))

-- what stands behind the text of a line may stand there
ending : (line : List ℕ) → Ending (drop (text_length line) line)
unfolding text_length
ending line = go line (eqb (get_or line (length line - 1) 0) return) refl
  where
    go :
        (l : List ℕ) (b : Bool) → eqb (get_or l (length l - 1) 0) return ≡ b →
        Ending (drop (cond b (length l - 1) (length l)) l)
    go [] true e = absurd (let z : ◌≡◌ {A = ℕ} 0 1 = cc in omega arith)
    go [] false e = plain
    go (b ∷ bs) true e =
        subst (λ (r : List ℕ). Ending r)
        (sym (drop_last (b ∷ bs) (omega arith) ∙ ap (λ (d : ℕ). d ∷ []) (eqb-true _ return e)))
        returned
    go (b ∷ bs) false e = subst (λ (r : List ℕ). Ending r) (sym (drop-length (b ∷ bs))) plain

-- ---- Lines

pub line_said : (line : List ℕ) → IfSome (call_in line) (Says line)
unfolding call_in
line_said line = go (ltb longest (text_length line)) refl
  where
    text : List ℕ
    text = take (text_length line) line

    lined : (c : Call) → text_length line ≤ longest → Spells text c → Says line c
    lined c h s =
        let short : length text ≤ longest = rw (length-take-le (text_length line) line (length_within line)) h in
        subst (λ (l : List ℕ). Says l c) (take-append-drop (text_length line) line) (says s short (ending line))

    go : (b : Bool) → ltb longest (text_length line) ≡ b → IfSome (cond b None (spelt text)) (Says line)
    go true e = tt
    go false e = if_some (Spells text) (Says line) (λ c s. lined c (ltb-false longest (text_length line) e) s) (spelt text) (spelt_said text)

-- the text of a line that says a call is what stands in front of its end
text_is : (text end : List ℕ) → EndsInDigit text → Ending end → text_length (text ++ end) ≡ length text
unfolding text_length
text_is text [] d plain =
    let last : get_or text (length text - 1) 0 ≡ return → ⊥ = λ e. omega (arith, d.last.from) in
    rw (append-nil text, ne_eqb (get_or text (length text - 1) 0) return last)
text_is text (r ∷ []) d returned = text_returned text
text_is text (r ∷ (_ ∷ _)) d none = elim none [ ]

pub says_read : {line : List ℕ} {call : Call} → Says line call → call_in line ≡ Some call
unfolding call_in
says_read (says {text} {end} {call} s h e) =
    rw (text_is text end (spells_ends s) e, le-ltb longest (length text) h, take-append_seam text end) (spells_spelt s)

-- ---- Long lines

-- a line that is longer than a text and a CR says nothing
long_none : (line : List ℕ) → longest + 1 < length line → call_in line ≡ None
unfolding call_in text_length
long_none line h = go (eqb (get_or line (length line - 1) 0) return)
  where
    go :
        (b : Bool) →
        cond (ltb longest (cond b (length line - 1) (length line))) None (spelt (take (cond b (length line - 1) (length line)) line))
        ≡ None
    go true = rw (lt-ltb longest (length line - 1) (omega arith))
    go false = rw (lt-ltb longest (length line) (omega arith))

pub front_read : (line : List ℕ) → call_in (take (longest + 2) line) ≡ call_in line
front_read line =
    ⊎_elim
    (λ (z : length line - (longest + 2) ≡ 0). ap call_in (take_all (longest + 2) line (omega arith)))
    (λ (p : 0 < length line - (longest + 2)).
    let cut : length (take (longest + 2) line) ≡ longest + 2 = length-take-le (longest + 2) line (omega arith) in
    long_none (take (longest + 2) line) (omega arith) ∙ sym (long_none line (omega arith)))
    (eq-zero-or-pos (length line - (longest + 2)))
