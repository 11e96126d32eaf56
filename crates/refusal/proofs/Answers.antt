-- What the paper has of an answer: the laws from "it is refusal r" to "it has this number and this train or place", for any type
-- of answers; and the refusals of an order in their turn. Core: gives_exactly, refusals_both, refusals_in_turn.
-- Assumes nothing.
use Prim.Native.Nat.{ℕ, suc}
use mathlib.Core.Path.{◌≡◌, refl, ap, ◌∙◌}
use mathlib.Core.Logic.{◌↔◌}
use mathlib.Core.List.{List, [], ◌∷◌, ◌++◌}
use native.Mathlib.Omega.{arith}
use lib.ListN.{length}
use Rattle.refusal.specs.declared.Refusal.{Refusal}
use Rattle.refusal.specs.Paper.{paper, Said, passes, answers, refuse, refusing}
use Rattle.refusal.specs.Order.{Check, in_turn, First, Gives, refusals_of, at_each}

-- ---- Numbers for refusals

-- The paper has of an answer that is a refusal its number and its train or place, and of no other answer has it those of one.
pub record Tells {A S : Type 0} (said : A → S) (refused : Refusal → A) (shown : ℕ → ℕ → S) : Type 0 where
  pub is : (r : Refusal) → said (refused r) ≡ shown (paper r).number (paper r).place
  pub only :
      (x : A) (number place : ℕ) → said x ≡ shown number place →
      (r : Refusal) × (x ≡ refused r) × (paper r ≡ record { number = number; place = place })

-- an answer that follows an order has a number and a train or place exactly when the order gives them
pub gives_exactly :
    {A S : Type 0} (said : A → S) (refused : Refusal → A) (shown : ℕ → ℕ → S) → Tells said refused shown →
    (order : List Check) (x : A) → ((r : Refusal) → (x ≡ refused r) ↔ First order r) →
    (number place : ℕ) → (said x ≡ shown number place) ↔ Gives order number place
gives_exactly said refused shown tells order x follows number place = (
  (λ e. let found = tells.only x number place e in (found.0, (follows found.0).0 found.1, found.2)),
  (λ g. ap said ((follows g.0).1 g.1) ∙ tells.is g.0 ∙ (λ i. shown (g.2 i).number (g.2 i).place)),
)

-- ---- Where the paper has one of three things to say

zero_not_one : ◌≡◌ {A = ℕ} 0 1 → ⊥
zero_not_one z = omega arith

-- a refusal with a number and a place has these
pub refusing_only :
    (r : Refusal) (number place : ℕ) → refusing r ≡ refuse number place → paper r ≡ record { number = number; place = place }
refusing_only r number place e =
    let a : (paper r).number ≡ number = cc in
    let b : (paper r).place ≡ place = cc in
    λ i. record { number = a i; place = b i }

pub passes_not_refuse : {number place : ℕ} → passes ≡ refuse number place → ⊥
passes_not_refuse e = zero_not_one cc

pub answers_not_refuse : {value number place : ℕ} → answers value ≡ refuse number place → ⊥
answers_not_refuse e = zero_not_one cc

pub answers_only : {value other : ℕ} → answers value ≡ answers other → value ≡ other
answers_only e = cc

-- ---- The refusals of an order

pub refusals_both : (earlier later : List Check) → refusals_of (earlier ++ later) ≡ refusals_of earlier ++ refusals_of later
unfolding refusals_of
refusals_both [] later = refl
refusals_both (c ∷ earlier) later = ap (◌∷◌ (refusing c.refusal)) (refusals_both earlier later)

-- elements in turn, each with the refusals of its position
pub refusals_in_turn :
    {A : Type 0} (checks : ℕ → A → List Check) (refusals : ℕ → List Said) → ((i : ℕ) (x : A) → refusals_of (checks i x) ≡ refusals i) →
    (i : ℕ) (xs : List A) → refusals_of (in_turn checks i xs) ≡ at_each refusals i (length xs)
unfolding in_turn at_each refusals_of
refusals_in_turn checks refusals same i [] = refl
refusals_in_turn checks refusals same i (x ∷ xs) =
    refusals_both (checks i x) (in_turn checks (suc i) xs)
    ∙ ap (λ (l : List Said). l ++ refusals_of (in_turn checks (suc i) xs)) (same i x)
    ∙ ap (◌++◌ (refusals i)) (refusals_in_turn checks refusals same (suc i) xs)
