-- A word in a text.
-- Core: begins_is and begins_self, that a text begins with a word exactly when it is the word and something behind it. The rest follows
-- from these.
-- Assumes nothing.
use Prim.Native.Nat.{ℕ, ◌+◌, ◌-◌, ◌<◌, ◌≤◌}
use mathlib.Core.Path.{◌≡◌, refl, sym, ap, ◌∙◌}
use mathlib.Core.Bool.{Bool, true, false, cond}
use mathlib.Core.Logic.{◌⊎◌}
use mathlib.Core.List.{List, [], ◌∷◌, ◌++◌}
use native.Mathlib.Omega.{arith}
use denote.Ref.{Bor}
use Rattle.std.specs.Prelude.{Option, None, Some, MatchOption}
use Rattle.std.specs.Option.{unwrap_or}
use lib.Dec.{eqb}
use lib.ListN.{length, take, drop, drop_of_length-le}
use native.Mathlib.Nat.{le_refl}
use Rattle.std.proofs.lemmas.Slice.{between_to_end}
use borrow.Author.Tests.{eqb-true, eq-eqb}
use Rattle.lent.specs.Words.{begins_with}

-- a text that begins with a word is the word and something behind it
pub begins_is : (word text : List ℕ) → begins_with word text ≡ true → text ≡ word ++ drop (length word) text
unfolding begins_with
begins_is [] text e = refl
begins_is (w ∷ ws) [] e = absurd (let z : ◌≡◌ {A = ℕ} 0 1 = cc in omega arith)
begins_is (w ∷ ws) (t ∷ ts) e = go (eqb t w) refl e (begins_is ws ts)
  where
    go :
        (b : Bool) → eqb t w ≡ b → cond b (begins_with ws ts) false ≡ true →
        (begins_with ws ts ≡ true → ts ≡ ws ++ drop (length ws) ts) → t ∷ ts ≡ w ∷ (ws ++ drop (length ws) ts)
    go true e f next = λ i. eqb-true t w e i ∷ next f i
    go false e f next = absurd (let z : ◌≡◌ {A = ℕ} 0 1 = cc in omega arith)

-- and a word with anything behind it begins with the word
pub begins_self : (word rest : List ℕ) → begins_with word (word ++ rest) ≡ true
unfolding begins_with
begins_self [] rest = refl
begins_self (w ∷ ws) rest = rw (eq-eqb w w refl) (begins_self ws rest)

-- a test that tells the same tells whether a text begins with a word
pub begins_told :
    (word text : List ℕ) (told : Bool) →
    (told ≡ true → text ≡ word ++ drop (length word) text) × ((rest : List ℕ) → text ≡ word ++ rest → told ≡ true) →
    told ≡ begins_with word text
begins_told word text true tells = sym (ap (begins_with word) (tells.0 refl) ∙ begins_self word (drop (length word) text))
begins_told word text false tells = go (begins_with word text) refl
  where
    go : (b : Bool) → begins_with word text ≡ b → false ≡ b
    go true e = tells.1 (drop (length word) text) (begins_is word text e)
    go false e = refl

-- what is looked at from an index on: of an index beyond the end, nothing
pub rest_at :
    (text : List ℕ) (at : ℕ) (r : Option (Bor (List ℕ))) (empty : Bor (List ℕ)) → empty.now ≡ [] →
    MatchOption r ((length text < at) ⊎ (length text < length text))
    (λ x. (at ≤ length text) × (length text ≤ length text) × (x.now ≡ take (length text - at) (drop at text)) × (length x.now + at ≡ length text)) →
    (unwrap_or r empty).now ≡ drop at text
rest_at text at None empty e h =
    let beyond : length text ≤ at = omega (arith, h) in
    e ∙ sym (drop_of_length-le text beyond)
rest_at text at (Some x) empty e h =
    h.2 ∙ between_to_end text at (length text) (le_refl (length text))
