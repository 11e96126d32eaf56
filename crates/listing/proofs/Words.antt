-- Words: one is found just where it stands, and letters need no quotes.
-- Assumes nothing.
use Prim.Native.Nat.{ℕ}
use mathlib.Core.Path.{◌≡◌, refl, sym, ap, subst, ◌∙◌}
use mathlib.Core.Bool.{Bool, true, false, cond, false≢true}
use mathlib.Core.List.{List, [], ◌∷◌, ◌++◌}
use lib.Dec.{leb}
use lib.ListN.{length, drop}
use lib.Seq.{drop-append_seam}
use borrow.Author.Tests.{leb-true}
use Rattle.lent.specs.Words.{begins_with}
use Rattle.lent.proofs.Words.{begins_is, begins_self}
use Rattle.decimal.specs.Answer.{nothing, found}
use Rattle.listing.specs.Grammar.{high, NonEscaped, none, more}
use Rattle.listing.specs.Answer.{word_in}
use Rattle.listing.proofs.Fronts.{Edge, AsFront, Exact}

-- a value that is the word
abbrev pub IsWord : (word v : List ℕ) → Unit {0} → Type 0
IsWord word v u = v ≡ word

word_found : (word l : List ℕ) → AsFront (IsWord word) l (word_in word l)
unfolding word_in
word_found word l = go (begins_with word l) refl
  where
    go : (t : Bool) → begins_with word l ≡ t → AsFront (IsWord word) l (cond t (found tt (drop (length word) l)) nothing)
    go true e = record { value = word; says = refl; whole = begins_is word l e }
    go false e = tt

word_read : (word v rest : List ℕ) (u : Unit {0}) → v ≡ word → Edge rest → word_in word (v ++ rest) ≡ found u rest
unfolding word_in
word_read word v rest u e g =
    ap (λ (w : List ℕ). word_in word (w ++ rest)) e
    ∙ rw (begins_self word rest, drop-append_seam word rest)

pub word_exact : (word : List ℕ) → NonEscaped word → Exact (IsWord word) (word_in word)
word_exact word p =
    record {
      sound = word_found word;
      complete = word_read word;
      tame = λ v u e. subst NonEscaped (sym e) p;
    }

-- Whether every byte of a word may stand without quotes, as letters may.
unfoldable pub letters : List ℕ → Bool
letters [] = true
letters (b ∷ bs) = cond (leb 45 b) (cond (leb b 126) (letters bs) false) false

pub letters_plain : (word : List ℕ) → letters word ≡ true → NonEscaped word
unfolding letters
letters_plain [] e = none
letters_plain (b ∷ bs) e = go (leb 45 b) (leb b 126) refl refl (letters_plain bs) e
  where
    go :
        (t u : Bool) → leb 45 b ≡ t → leb b 126 ≡ u → (letters bs ≡ true → NonEscaped bs) →
        cond t (cond u (letters bs) false) false ≡ true → NonEscaped (b ∷ bs)
    go true true f g rest h = more (high {b = b} (leb-true 45 b f) (leb-true b 126 g)) (rest h)
    go true false f g rest h = absurd (false≢true h)
    go false u f g rest h = absurd (false≢true h)
