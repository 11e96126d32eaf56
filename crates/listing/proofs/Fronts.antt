-- What a reader finds at the front of a text, and when it finds just what stands there.
-- Assumes nothing.
use Prim.Native.Nat.{ℕ}
use mathlib.Core.Path.{◌≡◌}
use mathlib.Core.List.{List, [], ◌∷◌, ◌++◌}
use Rattle.decimal.specs.Answer.{Found, nothing, found}
use Rattle.listing.specs.Grammar.{NonEscaped}

-- what may stand behind a field
pub data Border : List ℕ → Type 0 where
  at_end : Border []
  at_comma : {l : List ℕ} → Border (44 ∷ l)
  at_return : {l : List ℕ} → Border (13 ∷ l)

-- what may stand behind the value of a field
pub data Edge : List ℕ → Type 0 where
  border : {l : List ℕ} → Border l → Edge l
  at_quote : {l : List ℕ} → Edge (34 ∷ l)

module _ {A : Type 0} (C : List ℕ → A → Type 0) where
  -- a text that says a stands at the front of l, and the rest behind it
  pub record Front (l : List ℕ) (a : A) (rest : List ℕ) : Type 0 where
    pub value : List ℕ
    pub says : C value a
    pub whole : l ≡ value ++ rest

  -- what was found stands there
  abbrev pub AsFront : List ℕ → Found A → Type 0
  AsFront l nothing = Unit {0}
  AsFront l (found a rest) = Front l a rest

  -- a reader finds just the values that say something
  pub record Exact (read : List ℕ → Found A) : Type 0 where
    pub sound : (l : List ℕ) → AsFront l (read l)
    pub complete : (v rest : List ℕ) (a : A) → C v a → Edge rest → read (v ++ rest) ≡ found a rest
    pub tame : (v : List ℕ) (a : A) → C v a → NonEscaped v
