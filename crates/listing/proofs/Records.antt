-- A record of three fields, with its end.
-- Core: three_found and three_read. What is so of the heading and of a train follows from these.
-- Assumes nothing.
use Prim.Native.Nat.{ℕ, ◌+◌, ◌<◌, ◌≤◌}
use mathlib.Core.Path.{◌≡◌, refl, sym, ap, subst, ◌∙◌}
use mathlib.Core.Bool.{Bool, true, false, cond}
use mathlib.Core.List.{List, [], ◌∷◌, ◌++◌, append_assoc}
use native.Mathlib.Nat.{le_refl}
use native.Mathlib.Omega.{arith}
use lib.Dec.{eqb}
use lib.ListN.{length, get_or, drop, length-append}
use borrow.Author.Tests.{eqb-true}
use Rattle.decimal.specs.Answer.{Found, nothing, found}
use Rattle.table.specs.declared.Entry.{Entry}
use Rattle.listing.specs.Grammar.{Field, Record, Ends, of_text, of_line, comma, return, newline}
use Rattle.listing.specs.Means.{Time, Phase, entry, Good, good, heading, phase_word, period_word, duration_word}
use Rattle.listing.specs.Answer.{after, passing, field_in, ended, three_in, time_in, phase_in, word_in, heading_in, entry_in}
use Rattle.listing.proofs.Fronts.{at_end, at_comma, at_return, AsFront, Exact}
use Rattle.listing.proofs.Times.{begins_with_lem, time_exact, phase_exact}
use Rattle.listing.proofs.Words.{IsWord, word_exact, letters, letters_plain}
use Rattle.listing.proofs.Fields.{AsBefore, passing_found, FieldOf, field_found, field_read}

-- ---- The end of a record

module _ {A : Type 0} (C : List ℕ → A → Type 0) where
  -- a text that says a stands at the front of l, with an end, and then the rest
  pub record Ended (l : List ℕ) (a : A) (rest : List ℕ) : Type 0 where
    pub text : List ℕ
    pub behind : List ℕ
    pub says : C text a
    pub ends : Ends behind rest
    pub whole : l ≡ text ++ behind

  abbrev pub AsEnded : List ℕ → Found A → Type 0
  AsEnded l nothing = Unit {0}
  AsEnded l (found a rest) = Ended l a rest

  ended_found : (l : List ℕ) (f : Found A) → AsFront C l f → AsEnded l (ended f)
  unfolding ended passing
  ended_found l nothing r = tt
  ended_found l (found a []) r =
      record { text = r.value; behind = []; says = r.says; ends = of_text; whole = r.whole }
  ended_found l (found a (b ∷ bs)) r = go (eqb b return) refl (eqb (get_or bs 0 0) newline) refl
    where
      go :
          (t : Bool) → eqb b return ≡ t → (u : Bool) → eqb (get_or bs 0 0) newline ≡ u →
          AsEnded l (cond t (cond u (found a (drop 1 bs)) nothing) nothing)
      go true e true g =
          record {
            text = r.value;
            behind = 13 ∷ 10 ∷ drop 1 bs;
            says = r.says;
            ends = of_line;
            whole =
                r.whole
                ∙ ap (λ (x : List ℕ). r.value ++ x)
                (λ i. eqb-true b return e i ∷ begins_with_lem bs 10 (λ z. omega arith) (eqb-true _ _ g) i);
          }
      go true e false g = tt
      go false e u g = tt

-- ---- Three fields

module _ {A B : Type 0} (C D E : List ℕ → A → Type 0) (make : A → A → A → B) where
  -- the values of three fields say b
  pub data Three : List (List ℕ) → B → Type 0 where
    three : {p q r : List ℕ} {x y z : A} → C p x → D q y → E r z → Three (p ∷ q ∷ r ∷ []) (make x y z)

  -- a text is a record of three fields whose values say b
  pub record RecordOf (t : List ℕ) (b : B) : Type 0 where
    pub values : List (List ℕ)
    pub is : Record values t
    pub says : Three values b

  module _
      (read-c read-d read-e : List ℕ → Found A)
      (exact-c : Exact C read-c) (exact-d : Exact D read-d) (exact-e : Exact E read-e) where
    abbrev AsRecord : List ℕ → Found B → Type 0
    AsRecord l f = AsEnded RecordOf l f

    third_found :
        (l l2 s t : List ℕ) (x y : A) → FieldOf C s x → FieldOf D t y → l ≡ s ++ 44 ∷ (t ++ 44 ∷ l2) →
        (f : Found A) → AsEnded (FieldOf E) l2 f → AsRecord l (after f nothing (λ z l3. found (make x y z) l3))
    unfolding after
    third_found l l2 s t x y c d w nothing r = tt
    third_found l l2 s t x y c d w (found z rest) r =
        record {
          text = s ++ 44 ∷ (t ++ 44 ∷ r.text);
          behind = r.behind;
          says = record {
            values = c.value ∷ d.value ∷ r.says.value ∷ [];
            is = Record.more c.is (Record.more d.is (Record.last r.says.is));
            says = three c.says d.says r.says.says;
          };
          ends = r.ends;
          whole =
              w
              ∙ ap (λ (k : List ℕ). s ++ 44 ∷ (t ++ 44 ∷ k)) r.whole
              ∙ ap (λ (k : List ℕ). s ++ 44 ∷ k) (sym (append_assoc t (44 ∷ r.text) r.behind))
              ∙ sym (append_assoc s (44 ∷ (t ++ 44 ∷ r.text)) r.behind);
        }

    second_found :
        (l l1 s : List ℕ) (x : A) → FieldOf C s x → l ≡ s ++ 44 ∷ l1 → (f : Found A) → AsBefore (FieldOf D) 44 l1 f →
        AsRecord l
        (after f nothing λ y l2.
        after (ended (field_in read-e l2)) nothing λ z l3.
        found (make x y z) l3)
    unfolding after
    second_found l l1 s x c w nothing r = tt
    second_found l l1 s x c w (found y rest) r =
        third_found l rest s r.value x y c r.says (w ∙ ap (λ (k : List ℕ). s ++ 44 ∷ k) r.whole)
        (ended (field_in read-e rest))
        (ended_found (FieldOf E) rest (field_in read-e rest) (field_found E read-e exact-e rest))

    first_found :
        (l : List ℕ) (f : Found A) → AsBefore (FieldOf C) 44 l f →
        AsRecord l
        (after f nothing λ x l1.
        after (passing comma (field_in read-d l1)) nothing λ y l2.
        after (ended (field_in read-e l2)) nothing λ z l3.
        found (make x y z) l3)
    unfolding after
    first_found l nothing r = tt
    first_found l (found x rest) r =
        second_found l rest r.value x r.says r.whole
        (passing comma (field_in read-d rest))
        (passing_found (FieldOf D) 44 rest (λ z. omega arith) (field_in read-d rest) (field_found D read-d exact-d rest))

    pub three_found : (l : List ℕ) → AsRecord l (three_in read-c read-d read-e make l)
    unfolding three_in
    three_found l =
        first_found l (passing comma (field_in read-c l))
        (passing_found (FieldOf C) 44 l (λ z. omega arith) (field_in read-c l) (field_found C read-c exact-c l))

-- ---- What stands there is found

module _ {A : Type 0} (C : List ℕ → A → Type 0) (read : List ℕ → Found A) (exact : Exact C read) where
  passing_read : (v t rest : List ℕ) (a : A) → Field v t → C v a → passing comma (field_in read (t ++ 44 ∷ rest)) ≡ found a rest
  unfolding passing
  passing_read v t rest a s c = ap (passing comma) (field_read C read exact v t (44 ∷ rest) a s c at_comma)

  ended_read : (v t e rest : List ℕ) (a : A) → Field v t → C v a → Ends e rest → ended (field_in read (t ++ e)) ≡ found a rest
  unfolding ended passing
  ended_read v t e rest a s c of_text = ap ended (field_read C read exact v t [] a s c at_end)
  ended_read v t e rest a s c of_line = ap ended (field_read C read exact v t (13 ∷ 10 ∷ rest) a s c at_return)

module _ {A B : Type 0} (C D E : List ℕ → A → Type 0) (make : A → A → A → B)
    (read-c read-d read-e : List ℕ → Found A)
    (exact-c : Exact C read-c) (exact-d : Exact D read-d) (exact-e : Exact E read-e) where
  fields_read :
      (p q r s t u e rest : List ℕ) (x y z : A) → Field p s → Field q t → Field r u → C p x → D q y → E r z → Ends e rest →
      three_in read-c read-d read-e make ((s ++ 44 ∷ (t ++ 44 ∷ u)) ++ e) ≡ found (make x y z) rest
  unfolding three_in after
  fields_read p q r s t u e rest x y z a b c f g h k =
      rw (
        append_assoc s (44 ∷ (t ++ 44 ∷ u)) e,
        append_assoc t (44 ∷ u) e,
        passing_read C read-c exact-c p s (t ++ 44 ∷ (u ++ e)) x a f,
        passing_read D read-d exact-d q t (u ++ e) y b g,
        ended_read E read-e exact-e r u e rest z c h k,
      )

  record_read :
      (p q r l e rest : List ℕ) (x y z : A) → Record (p ∷ q ∷ r ∷ []) l → C p x → D q y → E r z → Ends e rest →
      three_in read-c read-d read-e make (l ++ e) ≡ found (make x y z) rest
  record_read p q r l e rest x y z (Record.more {t = s} a (Record.more {t = t} b (Record.last {t = u} c))) f g h k =
      fields_read p q r s t u e rest x y z a b c f g h k
  record_read p q r l e rest x y z (Record.more a (Record.more b (Record.more c m))) f g h k = elim m [ ]

  pub three_read :
      (vs : List (List ℕ)) (l e rest : List ℕ) (b : B) → Record vs l → Three C D E make vs b → Ends e rest →
      three_in read-c read-d read-e make (l ++ e) ≡ found b rest
  three_read vs l e rest b is (three {p = p} {q = q} {r = r} {x = x} {y = y} {z = z} f g h) k =
      record_read p q r l e rest x y z is f g h k

-- ---- A train, and the heading

-- a text is a record that says a train
pub record Trained (t : List ℕ) (e : Entry) : Type 0 where
  pub values : List (List ℕ)
  pub is : Record values t
  pub says : Good values e

three_good : {vs : List (List ℕ)} {e : Entry} → Three Phase Time Time entry vs e → Good vs e
three_good (three f g h) = good f g h

good_three : {vs : List (List ℕ)} {e : Entry} → Good vs e → Three Phase Time Time entry vs e
good_three (good f g h) = three f g h

pub entry_found : (l : List ℕ) → AsEnded Trained l (entry_in l)
entry_found l =
    go (entry_in l)
    (three_found Phase Time Time entry phase_in time_in time_in
    phase_exact time_exact time_exact l)
  where
    go : (f : Found Entry) → AsEnded (RecordOf Phase Time Time entry) l f → AsEnded Trained l f
    go nothing r = tt
    go (found a rest) r =
        record {
          text = r.text;
          behind = r.behind;
          says = record { values = r.says.values; is = r.says.is; says = three_good r.says.says };
          ends = r.ends;
          whole = r.whole;
        }

pub entry_read :
    (vs : List (List ℕ)) (l e rest : List ℕ) (a : Entry) → Record vs l → Good vs a → Ends e rest → entry_in (l ++ e) ≡ found a rest
entry_read vs l e rest a is g k =
    three_read Phase Time Time entry phase_in time_in time_in
    phase_exact time_exact time_exact vs l e rest a is (good_three g) k

-- a text is the heading
abbrev pub Headed : List ℕ → Unit {0} → Type 0
Headed t u = Record heading t

abbrev noted : Unit {0} → Unit {0} → Unit {0} → Unit {0}
noted _ _ _ = tt

abbrev Words : List (List ℕ) → Unit {0} → Type 0
Words vs u = Three (IsWord phase_word) (IsWord period_word) (IsWord duration_word) noted vs u

three_heading : {vs : List (List ℕ)} {u : Unit {0}} → Words vs u → vs ≡ heading
three_heading (three f g h) = λ i. f i ∷ g i ∷ h i ∷ []

phase_word_lem : Exact (IsWord phase_word) (word_in phase_word)
unfolding letters
phase_word_lem = word_exact phase_word (letters_plain phase_word refl)

period_word_lem : Exact (IsWord period_word) (word_in period_word)
unfolding letters
period_word_lem = word_exact period_word (letters_plain period_word refl)

duration_word_lem : Exact (IsWord duration_word) (word_in duration_word)
unfolding letters
duration_word_lem = word_exact duration_word (letters_plain duration_word refl)

pub heading_found : (l : List ℕ) → AsEnded Headed l (heading_in l)
heading_found l =
    go (heading_in l)
    (three_found (IsWord phase_word) (IsWord period_word) (IsWord duration_word) noted
    (word_in phase_word) (word_in period_word) (word_in duration_word) phase_word_lem period_word_lem duration_word_lem l)
  where
    go : (f : Found (Unit {0})) → AsEnded (RecordOf (IsWord phase_word) (IsWord period_word) (IsWord duration_word) noted) l f → AsEnded Headed l f
    go nothing r = tt
    go (found a rest) r =
        record {
          text = r.text;
          behind = r.behind;
          says = subst (λ (vs : List (List ℕ)). Record vs r.text) (three_heading r.says.says) r.says.is;
          ends = r.ends;
          whole = r.whole;
        }

pub heading_read : (l e rest : List ℕ) → Record heading l → Ends e rest → heading_in (l ++ e) ≡ found tt rest
heading_read l e rest is k =
    three_read (IsWord phase_word) (IsWord period_word) (IsWord duration_word) noted
    (word_in phase_word) (word_in period_word) (word_in duration_word) phase_word_lem period_word_lem duration_word_lem
    heading l e rest tt is (three {x = tt} {y = tt} {z = tt} refl refl refl) k

-- ---- A record is not empty

record_long : {p q : List ℕ} {vs : List (List ℕ)} {t : List ℕ} → Record (p ∷ q ∷ vs) t → 0 < length t
record_long (Record.more {t = s} {ts = ts} a b) = omega (arith, length-append s (44 ∷ ts))

ends_short : {e rest : List ℕ} → Ends e rest → length rest ≤ length e
ends_short of_text = le_refl 0
ends_short of_line = omega arith

shorter : (l t e rest : List ℕ) → 0 < length t → Ends e rest → l ≡ t ++ e → length rest < length l
shorter l t e rest h k w = let same : length l ≡ length t + length e = ap length w ∙ length-append t e in
    omega (arith, ends_short k)

good_long : {vs : List (List ℕ)} {e : Entry} {t : List ℕ} → Good vs e → Record vs t → 0 < length t
good_long (good f g h) is = record_long is

pub entry_shorter : (l rest : List ℕ) (a : Entry) → entry_in l ≡ found a rest → length rest < length l
entry_shorter l rest a e = let r = subst (AsEnded Trained l) e (entry_found l) in
    shorter l r.text r.behind rest (good_long r.says.says r.says.is) r.ends r.whole
