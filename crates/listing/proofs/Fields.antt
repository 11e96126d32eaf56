-- A field, in quotes or without, and the byte behind it.
-- Core: field_found and field_read.
-- Assumes nothing.
use Prim.Native.Nat.{ℕ}
use mathlib.Core.Path.{◌≡◌, refl, sym, ap, ◌∙◌}
use mathlib.Core.Bool.{Bool, true, false, cond}
use mathlib.Core.List.{List, [], ◌∷◌, ◌++◌, append_assoc}
use native.Mathlib.Omega.{arith}
use lib.Dec.{eqb}
use lib.ListN.{get_or, drop}
use borrow.Author.Tests.{eqb-true, ne_eqb}
use Rattle.decimal.specs.Answer.{Found, nothing, found}
use Rattle.listing.specs.Grammar.{TextData, low, middle, high, NonEscaped, Inside, a_text, a_comma, a_return, a_newline, a_quote}
use Rattle.listing.specs.Grammar.{Field, plain, quoted, quote}
use Rattle.listing.specs.Answer.{passing, field_in}
use Rattle.listing.proofs.Fronts.{Border, at_end, at_comma, at_return, border, at_quote, AsFront, Exact}
use Rattle.listing.proofs.Times.{begins_with_lem}

-- ---- What may stand without quotes stands for itself

pub no_data : (b : ℕ) → TextData b → ((b ≡ 34 → ⊥) × (b ≡ 44 → ⊥) × (b ≡ 13 → ⊥) × (b ≡ 10 → ⊥))
no_data b (low g h) = (λ e. omega arith, λ e. omega arith, λ e. omega arith, λ e. omega arith)
no_data b (middle g h) = (λ e. omega arith, λ e. omega arith, λ e. omega arith, λ e. omega arith)
no_data b (high g h) = (λ e. omega arith, λ e. omega arith, λ e. omega arith, λ e. omega arith)

plain_head : (b : ℕ) (v : List ℕ) → NonEscaped (b ∷ v) → TextData b
plain_head b v (NonEscaped.more d p) = d

plain_tail : (b : ℕ) (v : List ℕ) → NonEscaped (b ∷ v) → NonEscaped v
plain_tail b v (NonEscaped.more d p) = p

inside_self : {v : List ℕ} → NonEscaped v → Inside v v
inside_self NonEscaped.none = Inside.none
inside_self (NonEscaped.more d p) = a_text d (inside_self p)

inside_plain : {v t : List ℕ} → Inside v t → NonEscaped v → t ≡ v
inside_plain Inside.none p = refl
inside_plain (a_text {b = b} {v = v} d i) p = ap (λ (l : List ℕ). b ∷ l) (inside_plain i (plain_tail b v p))
inside_plain (a_comma {v = v} i) p = absurd ((no_data 44 (plain_head 44 v p)).1 refl)
inside_plain (a_return {v = v} i) p = absurd ((no_data 13 (plain_head 13 v p)).2 refl)
inside_plain (a_newline {v = v} i) p = absurd ((no_data 10 (plain_head 10 v p)).3 refl)
inside_plain (a_quote {v = v} i) p = absurd ((no_data 34 (plain_head 34 v p)).0 refl)

-- a field without quotes begins with none
pub no_quote : (v rest : List ℕ) → NonEscaped v → Border rest → eqb (get_or (v ++ rest) 0 0) quote ≡ false
no_quote v rest NonEscaped.none at_end = refl
no_quote v rest NonEscaped.none at_comma = refl
no_quote v rest NonEscaped.none at_return = refl
no_quote v rest (NonEscaped.more {b = b} d p) g = ne_eqb b 34 (no_data b d).0

-- ---- A byte behind what was found

module _ {A : Type 0} (C : List ℕ → A → Type 0) where
  -- a text that says a stands at the front of l, then the byte b, and then the rest
  pub record Before (b : ℕ) (l : List ℕ) (a : A) (rest : List ℕ) : Type 0 where
    pub value : List ℕ
    pub says : C value a
    pub whole : l ≡ value ++ b ∷ rest

  abbrev pub AsBefore : ℕ → List ℕ → Found A → Type 0
  AsBefore b l nothing = Unit {0}
  AsBefore b l (found a rest) = Before b l a rest

  pub passing_found : (b : ℕ) (l : List ℕ) → (b ≡ 0 → ⊥) → (f : Found A) → AsFront C l f → AsBefore b l (passing b f)
  unfolding passing
  passing_found b l n nothing r = tt
  passing_found b l n (found a rest) r = go (eqb (get_or rest 0 0) b) refl
    where
      go : (t : Bool) → eqb (get_or rest 0 0) b ≡ t → AsBefore b l (cond t (found a (drop 1 rest)) nothing)
      go true e =
          record {
            value = r.value;
            says = r.says;
            whole = r.whole ∙ ap (λ (x : List ℕ). r.value ++ x) (begins_with_lem rest b n (eqb-true _ _ e));
          }
      go false e = tt

-- ---- A field

-- a text is a field whose value says a
pub record FieldOf {A : Type 0} (C : List ℕ → A → Type 0) (t : List ℕ) (a : A) : Type 0 where
  pub value : List ℕ
  pub says : C value a
  pub is : Field value t

module _ {A : Type 0} (C : List ℕ → A → Type 0) (read : List ℕ → Found A) (exact : Exact C read) where
  quoted_field : (l : List ℕ) (f : Found A) → get_or l 0 0 ≡ quote → AsBefore C 34 (drop 1 l) f → AsFront (FieldOf C) l f
  quoted_field l nothing e r = tt
  quoted_field l (found a rest) e r =
      record {
        value = 34 ∷ (r.value ++ 34 ∷ []);
        says = record {
          value = r.value;
          says = r.says;
          is = quoted (inside_self (exact.tame r.value a r.says));
        };
        whole =
            begins_with_lem l 34 (λ z. omega arith) e
            ∙ ap (λ (x : List ℕ). 34 ∷ x) (r.whole ∙ sym (append_assoc r.value (34 ∷ []) rest));
      }

  plain_field : (l : List ℕ) (f : Found A) → AsFront C l f → AsFront (FieldOf C) l f
  plain_field l nothing r = tt
  plain_field l (found a rest) r =
      record {
        value = r.value;
        says = record { value = r.value; says = r.says; is = plain (exact.tame r.value a r.says) };
        whole = r.whole;
      }

  pub field_found : (l : List ℕ) → AsFront (FieldOf C) l (field_in read l)
  unfolding field_in
  field_found l = go (eqb (get_or l 0 0) quote) refl
    where
      go : (t : Bool) → eqb (get_or l 0 0) quote ≡ t → AsFront (FieldOf C) l (cond t (passing quote (read (drop 1 l))) (read l))
      go true e =
          quoted_field l (passing quote (read (drop 1 l))) (eqb-true _ _ e)
          (passing_found C 34 (drop 1 l) (λ z. omega arith) (read (drop 1 l)) (exact.sound (drop 1 l)))
      go false e = plain_field l (read l) (exact.sound l)

  pub field_read : (v t rest : List ℕ) (a : A) → Field v t → C v a → Border rest → field_in read (t ++ rest) ≡ found a rest
  unfolding field_in passing
  field_read v t rest a (plain p) s g = rw (no_quote v rest p g) (exact.complete v rest a s (border g))
  field_read v t rest a (quoted {t = u} i) s g =
      rw (inside_plain i (exact.tame v a s), append_assoc v (34 ∷ []) rest, exact.complete v (34 ∷ rest) a s at_quote)
