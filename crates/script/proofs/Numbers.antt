-- A number behind a space: what is found is there, and what is there is found.
-- Core: spaced_found and spaced_read, by decimal's laws of a number. Those of the only number of a text, single_found and
-- single_read, follow from these.
-- Assumes nothing.
use Prim.Native.Nat.{ℕ}
use mathlib.Core.Path.{◌≡◌, refl, sym, ap, ◌∙◌}
use mathlib.Core.Bool.{Bool, true, false, cond}
use mathlib.Core.List.{List, [], ◌∷◌, ◌++◌, append-nil}
use native.Mathlib.Omega.{arith}
use Rattle.std.specs.Prelude.{Option, None, Some}
use lib.Dec.{eqb}
use borrow.Author.Tests.{eqb-true}
use Rattle.decimal.specs.Digits.{Number, Stops}
use Rattle.decimal.specs.Answer.{Found, nothing, found, number_in}
use Rattle.decimal.proofs.Numbers.{AsNumber, number_found, number_read, nothing_stops}
use Rattle.script.specs.Says.{space}
use Rattle.script.specs.Answer.{spaced_in, single_of, single_in}

-- ---- A number behind a space

-- a space and a number stand at the front of a text, and they end where the rest begins
pub record Spaced (l : List ℕ) (n : ℕ) (rest : List ℕ) : Type 0 where
  pub ds : List ℕ
  pub number : Number n ds
  pub whole : l ≡ space ∷ (ds ++ rest)

abbrev pub AsSpaced : List ℕ → Found ℕ → Type 0
AsSpaced l nothing = Unit {0}
AsSpaced l (found n rest) = Spaced l n rest

behind_space : (b : ℕ) (bs : List ℕ) (f : Found ℕ) → b ≡ space → AsNumber bs f → AsSpaced (b ∷ bs) f
behind_space b bs nothing e r = tt
behind_space b bs (found n rest) e r = record { ds = r.ds; number = r.number; whole = λ i. e i ∷ r.whole i }

pub spaced_found : (l : List ℕ) → AsSpaced l (spaced_in l)
unfolding spaced_in
spaced_found [] = tt
spaced_found (b ∷ bs) = go (eqb b space) refl
  where
    go : (t : Bool) → eqb b space ≡ t → AsSpaced (b ∷ bs) (cond t (number_in bs) nothing)
    go true e = behind_space b bs (number_in bs) (eqb-true b space e) (number_found bs)
    go false e = tt

pub spaced_read : (n : ℕ) (ds rest : List ℕ) → Number n ds → Stops rest → spaced_in (space ∷ (ds ++ rest)) ≡ found n rest
unfolding spaced_in
spaced_read n ds rest k s = number_read n ds rest k s

-- a number ends before a space
pub space_stops : (rest : List ℕ) → Stops (space ∷ rest)
space_stops rest d = omega (arith, d.from)

-- ---- The only number of a text

pub record Alone (l : List ℕ) (n : ℕ) : Type 0 where
  pub ds : List ℕ
  pub number : Number n ds
  pub whole : l ≡ space ∷ ds

abbrev pub AsSingle : List ℕ → Option ℕ → Type 0
AsSingle l None = Unit {0}
AsSingle l (Some n) = Alone l n

alone : (l : List ℕ) (f : Found ℕ) → AsSpaced l f → AsSingle l (single_of f)
unfolding single_of
alone l nothing r = tt
alone l (found n []) r =
    record { ds = r.ds; number = r.number; whole = r.whole ∙ ap (λ (ds : List ℕ). space ∷ ds) (append-nil r.ds) }
alone l (found n (b ∷ bs)) r = tt

pub single_found : (l : List ℕ) → AsSingle l (single_in l)
single_found l = alone l (spaced_in l) (spaced_found l)

pub single_read : (n : ℕ) (ds : List ℕ) → Number n ds → single_in (space ∷ ds) ≡ Some n
unfolding single_of
single_read n ds k =
    ap (λ (es : List ℕ). single_in (space ∷ es)) (sym (append-nil ds)) ∙ ap single_of (spaced_read n ds [] k nothing_stops)
