-- Digits and the number that they stand for: what is found is there, and what is there is found.
-- Core: digits_found and digits_read. The laws of a number, number_found and number_read, follow from these.
-- Assumes nothing.
use Prim.Native.Nat.{ℕ, ◌^◌, ◌<◌, ◌≤◌}
use mathlib.Core.Path.{◌≡◌, refl, sym, ap, subst, ◌∙◌}
use mathlib.Core.Bool.{Bool, true, false, cond}
use mathlib.Core.Logic.{◌↔◌}
use mathlib.Core.List.{List, [], ◌∷◌, ◌++◌, append-nil}
use native.Mathlib.Nat.{le_refl}
use native.Mathlib.Omega.{arith}
use lib.Dec.{ltb, leb}
use lib.ListN.{length, get_or}
use borrow.Author.Tests.{lt-ltb, le-ltb, le-leb, ltb-true, ltb-false, leb-true}
use Rattle.decimal.specs.Digits.{Digit, Digits, none, more, value_from, Number, Stops}
use Rattle.decimal.specs.Answer.{decimal, is_digit, longer, Found, nothing, found, digits_from, number_in}
use Rattle.decimal.proofs.Notation.{decimal_is}

-- ---- A digit

module _ (b : ℕ) where
  pub digit_from : 48 ≤ b → leb b 57 ≡ is_digit b
  unfolding is_digit
  digit_from h = simp (le-ltb b 48 h)

  pub is_from : is_digit b ≡ true → 48 ≤ b
  unfolding is_digit
  is_from h = go (ltb b 48) refl h
    where
      go : (t : Bool) → ltb b 48 ≡ t → cond t false (leb b 57) ≡ true → 48 ≤ b
      go true e g = absurd (let z : ◌≡◌ {A = ℕ} 0 1 = cc in omega arith)
      go false e g = ltb-false b 48 e

pub digit_of : (b : ℕ) → is_digit b ≡ true → Digit b
digit_of b e = record { from = is_from b e; to = leb-true b 57 (digit_from b (is_from b e) ∙ e) }

pub digit_is : (b : ℕ) → Digit b → is_digit b ≡ true
digit_is b d = sym (digit_from b d.from) ∙ le-leb b 57 d.to

pub no_digit : (b : ℕ) → (Digit b → ⊥) → is_digit b ≡ false
no_digit b n = go (is_digit b) refl
  where
    go : (t : Bool) → is_digit b ≡ t → t ≡ false
    go true e = absurd (n (digit_of b e))
    go false e = refl

pub digit_not : (b : ℕ) → is_digit b ≡ false → Digit b → ⊥
digit_not b e d =
    let z : ◌≡◌ {A = Bool} true false = sym (digit_is b d) ∙ e in
    let y : ◌≡◌ {A = ℕ} 0 1 = cc in omega arith

-- ---- Core laws

-- some digits at the front of a text stand for a number behind v, and they end where the rest begins
pub record Reads (v : ℕ) (l : List ℕ) (n : ℕ) (rest : List ℕ) : Type 0 where
  pub ds : List ℕ
  pub digits : Digits ds
  pub whole : l ≡ ds ++ rest
  pub stands_for : value_from v ds ≡ n
  pub small : n < 2 ^ 32
  pub stops : Stops rest

-- what was found is so read
abbrev pub AsFound : (v : ℕ) (l : List ℕ) → Found ℕ → Type 0
AsFound v l nothing = Unit {0}
AsFound v l (found n rest) = Reads v l n rest

one_more : (v b : ℕ) (bs : List ℕ) (f : Found ℕ) → Digit b → AsFound (longer v b) bs f → AsFound v (b ∷ bs) f
unfolding value_from
one_more v b bs nothing d r = tt
one_more v b bs (found n rest) d r =
    record {
      ds = b ∷ r.ds;
      digits = more d r.digits;
      whole = ap (λ (l : List ℕ). b ∷ l) r.whole;
      stands_for = r.stands_for;
      small = r.small;
      stops = r.stops;
    }

pub digits_found : (v : ℕ) (l : List ℕ) → v < 2 ^ 32 → AsFound v l (digits_from v l)
unfolding digits_from is_digit value_from
digits_found v [] h = record { ds = []; digits = none; whole = refl; stands_for = refl; small = h; stops = digit_not 0 refl }
digits_found v (b ∷ bs) h = go (is_digit b) refl (ltb (longer v b) (2 ^ 32)) refl (digits_found (longer v b) bs)
  where
    go :
        (t : Bool) → is_digit b ≡ t → (u : Bool) → ltb (longer v b) (2 ^ 32) ≡ u →
        (longer v b < 2 ^ 32 → AsFound (longer v b) bs (digits_from (longer v b) bs)) →
        AsFound v (b ∷ bs) (cond t (cond u (digits_from (longer v b) bs) nothing) (found v (b ∷ bs)))
    go true e true g next = one_more v b bs (digits_from (longer v b) bs) (digit_of b e) (next (ltb-true _ _ g))
    go true e false g next = tt
    go false e u g next = record { ds = []; digits = none; whole = refl; stands_for = refl; small = h; stops = digit_not b e }

value_grows : (v : ℕ) (ds : List ℕ) → v ≤ value_from v ds
unfolding value_from
value_grows v [] = le_refl v
value_grows v (d ∷ ds) = omega (arith, value_grows (longer v d) ds)

pub digits_read :
    (v : ℕ) (ds rest : List ℕ) → Digits ds → value_from v ds < 2 ^ 32 → Stops rest →
    digits_from v (ds ++ rest) ≡ found (value_from v ds) rest
unfolding digits_from value_from
digits_read v [] [] none h s = refl
digits_read v [] (b ∷ bs) none h s = rw (no_digit b s)
digits_read v (d ∷ ds) rest (more g gs) h s =
    let below : longer v d < 2 ^ 32 = omega (arith, value_grows (longer v d) ds) in
    rw (digit_is d g, lt-ltb (longer v d) (2 ^ 32) below) (digits_read (longer v d) ds rest gs h s)

-- ---- A number

-- a number stands at the front of a text, and it ends where the rest begins
pub record Numbered (l : List ℕ) (n : ℕ) (rest : List ℕ) : Type 0 where
  pub ds : List ℕ
  pub number : Number n ds
  pub whole : l ≡ ds ++ rest
  pub stops : Stops rest

abbrev pub AsNumber : List ℕ → Found ℕ → Type 0
AsNumber l nothing = Unit {0}
AsNumber l (found n rest) = Numbered l n rest

-- digits that begin with a digit are some
some_digits : (l ds rest : List ℕ) → is_digit (get_or l 0 0) ≡ true → l ≡ ds ++ rest → Stops rest → 0 < length ds
some_digits l [] rest e w s = absurd (s (digit_of _ (sym (ap (λ (r : List ℕ). is_digit (get_or r 0 0)) w) ∙ e)))
some_digits l (d ∷ ds) rest e w s = omega arith

numbered : (l : List ℕ) (f : Found ℕ) → is_digit (get_or l 0 0) ≡ true → AsFound 0 l f → AsNumber l f
numbered l nothing e r = tt
numbered l (found n rest) e r =
    record {
      ds = r.ds;
      number = record {
        digits = r.digits;
        some = some_digits l r.ds rest e r.whole r.stops;
        stands_for = r.stands_for;
        small = r.small;
      };
      whole = r.whole;
      stops = r.stops;
    }

pub number_found : (l : List ℕ) → AsNumber l (number_in l)
unfolding number_in
number_found l = go (is_digit (get_or l 0 0)) refl
  where
    go : (t : Bool) → is_digit (get_or l 0 0) ≡ t → AsNumber l (cond t (digits_from 0 l) nothing)
    go true e = numbered l (digits_from 0 l) e (digits_found 0 l (omega arith))
    go false e = tt

-- a number begins with a digit
number_begins : (n : ℕ) (ds rest : List ℕ) → Number n ds → is_digit (get_or (ds ++ rest) 0 0) ≡ true
number_begins n ds rest k = go ds k.digits k.some
  where
    go : (es : List ℕ) → Digits es → 0 < length es → is_digit (get_or (es ++ rest) 0 0) ≡ true
    go [] none h = absurd (omega arith)
    go (d ∷ es) (more g gs) h = digit_is d g

pub number_read : (n : ℕ) (ds rest : List ℕ) → Number n ds → Stops rest → number_in (ds ++ rest) ≡ found n rest
unfolding number_in
number_read n ds rest k s =
    let small : value_from 0 ds < 2 ^ 32 = omega (arith, k.small, k.stands_for) in
    rw (number_begins n ds rest k) (digits_read 0 ds rest k.digits small s ∙ ap (λ (m : ℕ). found m rest) k.stands_for)

-- where no digit stands there is no number
pub number_none : (l : List ℕ) → Stops l → number_in l ≡ nothing
unfolding number_in
number_none l s = rw (no_digit (get_or l 0 0) s)

-- ---- What is written is a number that can be read

pub decimal_number : (n : ℕ) → n < 2 ^ 32 → Number n (decimal n)
decimal_number n h =
    let is = decimal_is n in
    record { digits = is.digits; some = is.some; stands_for = is.stands_for; small = h }

pub read_back : (n : ℕ) (rest : List ℕ) → n < 2 ^ 32 → Stops rest → number_in (decimal n ++ rest) ≡ found n rest
read_back n rest h s = number_read n (decimal n) rest (decimal_number n h) s

-- ---- Exactly

pub found_is : (l : List ℕ) (n : ℕ) (rest : List ℕ) → number_in l ≡ found n rest → Numbered l n rest
found_is l n rest e = go (number_in l) (number_found l) e
  where
    go : (f : Found ℕ) → AsNumber l f → f ≡ found n rest → Numbered l n rest
    go nothing r e = absurd (let z : ◌≡◌ {A = ℕ} 0 1 = cc in omega arith)
    go (found m after) r e =
        let a : m ≡ n = cc in
        let b : after ≡ rest = cc in
        record {
          ds = r.ds;
          number = subst (λ (k : ℕ). Number k r.ds) a r.number;
          whole = r.whole ∙ ap (λ (k : List ℕ). r.ds ++ k) b;
          stops = subst Stops b r.stops;
        }

pub front_exactly :
    (text : List ℕ) (n : ℕ) (rest : List ℕ) →
    (number_in text ≡ found n rest) ↔ ((ds : List ℕ) × Number n ds × (text ≡ ds ++ rest) × Stops rest)
front_exactly text n rest = (
  (λ e. let r = found_is text n rest e in (r.ds, r.number, r.whole, r.stops)),
  (λ x. ap number_in x.2 ∙ number_read n x.0 rest x.1 x.3),
)

pub nothing_stops : Stops []
unfolding is_digit
nothing_stops = digit_not 0 refl

pub number_exactly : (text : List ℕ) (n : ℕ) → (number_in text ≡ found n []) ↔ Number n text
number_exactly text n = (
  (λ e.
      let r = found_is text n [] e in
      subst (Number n) (sym (r.whole ∙ append-nil r.ds)) r.number),
  (λ k. ap number_in (sym (append-nil text)) ∙ number_read n text [] k nothing_stops),
)
