-- The ways through the code that reads, on plain values: one law for each return.
-- Core: begins_stripped and byte_stripped, what the library says of a prefix in the words of listing. The rest follows from these.
-- Assumes nothing.
use Prim.Native.Nat.{ℕ, suc, ◌+◌, ◌-◌}
use denote.Ref.{Bor}
use mathlib.Core.Path.{◌≡◌, refl, sym, ap, ◌∙◌}
use mathlib.Core.Bool.{Bool, true, false, cond, ◌&&◌}
use mathlib.Core.List.{List, [], ◌∷◌}
use native.Mathlib.Omega.{arith}
use lib.Dec.{eqb, eqb-zero-suc}
use lib.ListN.{length, get_or, take, drop}
use borrow.Author.Tests.{eq-eqb, ne_eqb}
use Rattle.std.specs.Prelude.{Option, Some, None, MatchOption}
use Rattle.std.specs.Option.{IsSome, option_or}
use Rattle.std.specs.Cmp.Lexicographic.{pointwise}
use Rattle.std.proofs.lemmas.List.{take_rest}
use Rattle.lent.specs.Words.{begins_with}
use Rattle.decimal.specs.declared.Number.{Number}
use Rattle.decimal.specs.Answer.{Found, nothing, found, number_in, number_at}
use Rattle.decimal.specs.Inside.{found_at}
use Rattle.decimal.proofs.Ways.{found_again}
use Rattle.fraction.specs.declared.Fraction.{Fraction}
use Rattle.listing.specs.Grammar.{quote, comma, return, newline}
use Rattle.listing.specs.Means.{slash, fraction, blank_phase}
use Rattle.listing.specs.Answer.{after, parted, divided, time_in, or_blank, phase_in, word_in, passing, field_in, ended, three_in}
use Rattle.importer.specs.Inside.{standing, told, behind}

-- ---- A prefix

and_true : (b : Bool) → (b && true) ≡ b
and_true true = refl
and_true false = refl

-- a prefix is a word that stands at the front
begins_stripped : (word l : List ℕ) → pointwise eqb (take (length word) l) word ≡ begins_with word l
unfolding begins_with
begins_stripped [] l = refl
begins_stripped (w ∷ ws) [] = refl
begins_stripped (w ∷ ws) (t ∷ ts) = go (eqb t w) (begins_stripped ws ts)
  where
    go :
        (b : Bool) → pointwise eqb (take (length ws) ts) ws ≡ begins_with ws ts →
        (b && pointwise eqb (take (length ws) ts) ws) ≡ cond b (begins_with ws ts) false
    go true e = e
    go false e = refl

-- a prefix of one byte is the byte that is read there
byte_stripped : (b : ℕ) (l : List ℕ) → pointwise eqb (take 1 l) (suc b ∷ []) ≡ eqb (get_or l 0 0) (suc b)
byte_stripped b [] = sym (eqb-zero-suc b)
byte_stripped b (x ∷ xs) = and_true (eqb x (suc b))

-- what `strip_prefix` says of a word and of a byte
module _ (word l : List ℕ) where
  pub word_other : pointwise eqb (take (length word) l) word ≡ false → nothing ≡ word_in word l
  unfolding word_in
  word_other e = rw (← begins_stripped word l, e)

  pub word_same :
      (rest : List ℕ) → pointwise eqb (take (length word) l) word ≡ true → rest ≡ drop (length word) l → standing rest ≡ word_in word l
  unfolding word_in
  word_same rest e r = rw (← begins_stripped word l, e) (ap standing r)

module _ {A : Type 0} (b : ℕ) (a : A) (l : List ℕ) where
  pub byte_other : pointwise eqb (take 1 l) (suc b ∷ []) ≡ false → nothing ≡ passing (suc b) (found a l)
  unfolding passing
  byte_other e = rw (← byte_stripped b l, e)

  pub byte_same :
      (rest : List ℕ) → pointwise eqb (take 1 l) (suc b ∷ []) ≡ true → rest ≡ drop 1 l → found a rest ≡ passing (suc b) (found a l)
  unfolding passing
  byte_same rest e r = rw (← byte_stripped b l, e) (ap (found a) r)

-- ---- What was read

-- it is what was found, once the code has looked
module _ {A : Type 0} (r : Option (A × Bor (List ℕ))) (f : Found A) (e : told r ≡ f) where
  pub told_none : r ≡ None → nothing ≡ f
  told_none is = ap told (sym is) ∙ e

  -- what does not read nothing has read something
  pub told_there : (nothing ≡ f → ⊥) → IsSome r
  told_there never = there r (λ is. never (told_none is))
    where
      there : (o : Option (A × Bor (List ℕ))) → (o ≡ None → ⊥) → IsSome o
      there None h = absurd (h refl)
      there (Some v) h = refl

  pub told_some : (a : A) (rest : Bor (List ℕ)) → r ≡ Some (a, rest) → found a rest.now ≡ f
  told_some a rest is = ap told (sym is) ∙ e

module _ (r : Option (Bor (List ℕ))) (f : Found (Unit {0})) (e : behind r ≡ f) where
  pub behind_none : r ≡ None → nothing ≡ f
  behind_none is = ap behind (sym is) ∙ e

  pub behind_some : (rest : Bor (List ℕ)) → r ≡ Some rest → standing rest.now ≡ f
  behind_some rest is = ap behind (sym is) ∙ e

-- ---- The end of a record

pub ended_end : (l : List ℕ) → length l ≡ 0 → standing l ≡ ended (standing l)
unfolding ended
ended_end [] e = refl
ended_end (b ∷ bs) e = absurd (omega arith)

-- what `strip_prefix` says of CRLF
pub ended_on :
    (l : List ℕ) → (length l ≡ 0 → ⊥) → (r : Option (Bor (List ℕ))) →
    MatchOption r (pointwise eqb (take 2 l) (return ∷ newline ∷ []) ≡ false)
    (λ x.
    (pointwise eqb (take 2 l) (return ∷ newline ∷ []) ≡ true) × (x.now ≡ drop 2 l) × (length x.now + 2 ≡ length l)) →
    behind r ≡ ended (standing l)
unfolding ended passing
ended_on [] h r m = absurd (h refl)
ended_on (b ∷ bs) h r m = go (eqb b return) r m
  where
    line :
        (t : Bool) (q : Option (Bor (List ℕ))) →
        MatchOption q (t ≡ false) (λ x. (t ≡ true) × (x.now ≡ drop 1 bs) × (length x.now + 2 ≡ length (b ∷ bs))) →
        behind q ≡ cond t (standing (drop 1 bs)) nothing
    line true None k = absurd (let z : ◌≡◌ {A = ℕ} 0 1 = cc in omega arith)
    line true (Some x) k = ap standing k.1
    line false None k = refl
    line false (Some x) k = absurd (let z : ◌≡◌ {A = ℕ} 0 1 = cc in omega arith)

    go :
        (t : Bool) (q : Option (Bor (List ℕ))) →
        MatchOption q ((t && pointwise eqb (take 1 bs) (newline ∷ [])) ≡ false)
        (λ x.
        ((t && pointwise eqb (take 1 bs) (newline ∷ [])) ≡ true) × (x.now ≡ drop 1 bs) × (length x.now + 2 ≡ length (b ∷ bs))) →
        behind q ≡ cond t (cond (eqb (get_or bs 0 0) newline) (standing (drop 1 bs)) nothing) nothing
    go true q k = rw (← byte_stripped 9 bs) (line (pointwise eqb (take 1 bs) (newline ∷ [])) q k)
    go false None k = refl
    go false (Some x) k = absurd (let z : ◌≡◌ {A = ℕ} 0 1 = cc in omega arith)

-- what stands behind does not depend on what was read
abbrev holding : {A : Type 0} → A → Found (Unit {0}) → Found A
holding a nothing = nothing
holding a (found u rest) = found a rest

passing_any : {A : Type 0} (byte : ℕ) (a : A) (l : List ℕ) → holding a (passing byte (standing l)) ≡ passing byte (found a l)
unfolding passing
passing_any byte a l = go (eqb (get_or l 0 0) byte)
  where
    go : (t : Bool) → holding a (cond t (standing (drop 1 l)) nothing) ≡ cond t (found a (drop 1 l)) nothing
    go true = refl
    go false = refl

ended_any : {A : Type 0} (a : A) (l : List ℕ) → holding a (ended (standing l)) ≡ ended (found a l)
unfolding ended
ended_any a [] = refl
ended_any a (b ∷ bs) = go (eqb b return)
  where
    go :
        (t : Bool) → holding a (cond t (passing newline (standing bs)) nothing) ≡ cond t (passing newline (found a bs)) nothing
    go true = passing_any newline a bs
    go false = refl

-- ---- A number, and a time

-- what is read at the front, and what stands behind it in the slice that the code goes on with
module _ (l : List ℕ) where
  pub number_none : (r : Option Number) → r ≡ number_at l 0 → r ≡ None → nothing ≡ number_in l
  number_none r e is = ap (found_at l) (sym is ∙ e) ∙ found_again l 0

  pub number_some :
      (r : Option Number) → r ≡ number_at l 0 → (n : Number) → r ≡ Some n →
      found n.value (take (length l - n.end) (drop n.end l)) ≡ number_in l
  number_some r e n is = ap (found n.value) (take_rest l n.end) ∙ ap (found_at l) (sym is ∙ e) ∙ found_again l 0

  pub divided_missing : nothing ≡ number_in l → nothing ≡ time_in l
  unfolding divided
  divided_missing e = rw (← e)

  module _ (n : ℕ) (rest : List ℕ) (e : found n rest ≡ number_in l) where
    pub divided_whole : pointwise eqb (take 1 rest) (slash ∷ []) ≡ false → found (fraction n 1) rest ≡ time_in l
    unfolding divided
    divided_whole h = rw (← e, ← byte_stripped 46 rest, h)

    module _ (last : List ℕ) (h : pointwise eqb (take 1 rest) (slash ∷ []) ≡ true) (is : last ≡ drop 1 rest) where
      over : (f : Found ℕ) → f ≡ number_in last → parted n f ≡ time_in l
      unfolding divided
      over f g = rw (← e, ← byte_stripped 46 rest, h) (ap (parted n) (g ∙ ap number_in is))

      pub parted_missing : nothing ≡ number_in last → nothing ≡ time_in l
      unfolding parted
      parted_missing g = over nothing g

      module _ (m : ℕ) (end : List ℕ) (g : found m end ≡ number_in last) where
        pub parted_zero : m ≡ 0 → nothing ≡ time_in l
        unfolding parted
        parted_zero z = rw (eq-eqb m 0 z) at (over (found m end) g)

        pub parted_some : (m ≡ 0 → ⊥) → found (fraction n m) end ≡ time_in l
        unfolding parted
        parted_some z = rw (ne_eqb m 0 z) at (over (found m end) g)

-- a time, or where there is none a blank
pub phase_lem :
    (l : Bor (List ℕ)) (r : Option (Fraction × Bor (List ℕ))) → told r ≡ time_in l.now →
    told (option_or r (Some (blank_phase, l))) ≡ phase_in l.now
unfolding or_blank
phase_lem l None e = ap (or_blank l.now) e
phase_lem l (Some v) e = ap (or_blank l.now) e

-- ---- A field

module _ {A : Type 0} (read : List ℕ → Found A) (l : List ℕ) where
  pub field_plain : pointwise eqb (take 1 l) (quote ∷ []) ≡ false → read l ≡ field_in read l
  unfolding field_in
  field_plain h = rw (← byte_stripped 33 l, h)

  module _ (inner : List ℕ) (h : pointwise eqb (take 1 l) (quote ∷ []) ≡ true) (is : inner ≡ drop 1 l) where
    pub field_quoted : (f : Found A) → f ≡ read inner → passing quote f ≡ field_in read l
    unfolding field_in
    field_quoted f e = rw (← byte_stripped 33 l, h) (ap (passing quote) (e ∙ ap read is))

    pub field_missing : nothing ≡ read inner → nothing ≡ field_in read l
    unfolding passing
    field_missing e = field_quoted nothing e

-- ---- A record of three fields

after_holding :
    {A B : Type 0} (c : A) (f : Found (Unit {0})) (next : A → List ℕ → Found B) →
    after f nothing (λ _ rest. next c rest) ≡ after (holding c f) nothing next
unfolding after
after_holding c nothing next = refl
after_holding c (found u rest) next = refl

after_same : (f : Found (Unit {0})) → f ≡ after f nothing (λ _ rest. standing rest)
unfolding after
after_same nothing = refl
after_same (found u rest) = refl

module _ {A B : Type 0} (r s t : List ℕ → Found A) (make : A → A → A → B) (l : List ℕ) where
  pub first_missing : nothing ≡ field_in r l → nothing ≡ three_in r s t make l
  unfolding three_in after passing
  first_missing e = rw (← e)

  module _ (a : A) (l1 : List ℕ) (e1 : found a l1 ≡ field_in r l) where
    pub first_alone : pointwise eqb (take 1 l1) (comma ∷ []) ≡ false → nothing ≡ three_in r s t make l
    unfolding three_in after
    first_alone h = rw (← e1, ← byte_other 43 a l1 h)

    module _ (l2 : List ℕ) (c1 : pointwise eqb (take 1 l1) (comma ∷ []) ≡ true) (b1 : l2 ≡ drop 1 l1) where
      pub second_missing : nothing ≡ field_in s l2 → nothing ≡ three_in r s t make l
      unfolding three_in after passing
      second_missing e = rw (← e1, ← byte_same 43 a l1 l2 c1 b1, ← e)

      module _ (b : A) (l3 : List ℕ) (e2 : found b l3 ≡ field_in s l2) where
        pub second_alone : pointwise eqb (take 1 l3) (comma ∷ []) ≡ false → nothing ≡ three_in r s t make l
        unfolding three_in after
        second_alone h = rw (← e1, ← byte_same 43 a l1 l2 c1 b1, ← e2, ← byte_other 43 b l3 h)

        module _ (l4 : List ℕ) (c2 : pointwise eqb (take 1 l3) (comma ∷ []) ≡ true) (b2 : l4 ≡ drop 1 l3) where
          pub third_missing : nothing ≡ field_in t l4 → nothing ≡ three_in r s t make l
          unfolding three_in after ended
          third_missing e = rw (← e1, ← byte_same 43 a l1 l2 c1 b1, ← e2, ← byte_same 43 b l3 l4 c2 b2, ← e)

          module _ (c : A) (l5 : List ℕ) (e3 : found c l5 ≡ field_in t l4) where
            three_ended : after (ended (standing l5)) nothing (λ _ l6. found (make a b c) l6) ≡ three_in r s t make l
            unfolding three_in after
            three_ended =
                rw (← e1, ← byte_same 43 a l1 l2 c1 b1, ← e2, ← byte_same 43 b l3 l4 c2 b2, ← e3, ← ended_any c l5)
                (after_holding c (ended (standing l5)) _)

            pub unended : nothing ≡ ended (standing l5) → nothing ≡ three_in r s t make l
            unfolding after
            unended e = rw (← e) at three_ended

            pub whole : (l6 : List ℕ) → standing l6 ≡ ended (standing l5) → found (make a b c) l6 ≡ three_in r s t make l
            unfolding after
            whole l6 e = rw (← e) at three_ended

-- of words nothing is made, so that what the end says is all
module _ (r s t : List ℕ → Found (Unit {0})) (l l1 : List ℕ) (e1 : standing l1 ≡ field_in r l) where
  module _
      (l2 : List ℕ) (c1 : pointwise eqb (take 1 l1) (comma ∷ []) ≡ true) (b1 : l2 ≡ drop 1 l1) (l3 : List ℕ)
      (e2 : standing l3 ≡ field_in s l2)
    where
      module _
          (l4 : List ℕ) (c2 : pointwise eqb (take 1 l3) (comma ∷ []) ≡ true) (b2 : l4 ≡ drop 1 l3) (l5 : List ℕ)
          (e3 : standing l5 ≡ field_in t l4)
        where
          pub heading_ended : ended (standing l5) ≡ three_in r s t (λ _ _ _. tt) l
          heading_ended =
              after_same (ended (standing l5)) ∙ three_ended r s t (λ _ _ _. tt) l tt l1 e1 l2 c1 b1 tt l3 e2 l4 c2 b2 tt l5 e3
