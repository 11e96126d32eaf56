-- Outcomes in the paper's numbers: what an outcome that follows an order passes or is refused with, and the refusals of the orders.
-- Core: outcome_tells, passed_is. The rest follows from these.
-- Assumes nothing.
use Prim.Native.Nat.{ℕ}
use mathlib.Core.Path.{◌≡◌, refl, sym, ap, ◌∙◌}
use mathlib.Core.Logic.Iff
use mathlib.Core.Logic.{◌↔◌}
use mathlib.Core.List.{List, [], ◌∷◌, ◌++◌}
use lib.ListN.{length}
use Rattle.std.specs.Prelude.{Ok, Err}
use Rattle.refusal.specs.declared.Refusal.{Refusal}
use Rattle.refusal.specs.Paper as refusals
use Rattle.refusal.specs.Paper.{Said, passes, refuse}
use Rattle.refusal.specs.Order.{Check, in_turn, None, Gives, refusals_of, at_each}
use Rattle.refusal.proofs.Answers.{Tells, gives_exactly, refusing_only, passes_not_refuse, refusals_both, refusals_in_turn}
use Rattle.table.specs.declared.Entry.{Entry}
use Rattle.table.specs.Row.{entries, tick}
use Rattle.table.specs.Answer.{Outcome}
use Rattle.table.specs.Given.{train_checks, checked_order, multiple_checks, long_checks, order}
use Rattle.table.specs.Paper.{paper}
use Rattle.table.proofs.InOrder.{Follows}

-- ---- Outcomes

outcome_tells : Tells paper Err refuse
outcome_tells = record { is = λ r. refl; only = found }
  where
    found :
        (o : Outcome) (number place : ℕ) → paper o ≡ refuse number place →
        (r : Refusal) × (o ≡ Err r) × (refusals.paper r ≡ record { number = number; place = place })
    found (Ok tt) number place e = absurd (passes_not_refuse e)
    found (Err r) number place e = (r, refl, refusing_only r number place e)

pub passed_is : (o : Outcome) → (paper o ≡ passes) ↔ (o ≡ Ok tt)
passed_is (Ok tt) = ((λ e. refl), (λ e. refl))
passed_is (Err r) = ((λ e. absurd (passes_not_refuse (sym e))), (λ e. ap paper e))

module _ (o : Outcome) (order : List Check) (follows : Follows o order) where
  pub follows_gives : (number place : ℕ) → (paper o ≡ refuse number place) ↔ Gives order number place
  follows_gives = gives_exactly paper Err refuse outcome_tells order o follows.refused

  pub follows_passes : (paper o ≡ passes) ↔ None order
  follows_passes = Iff.trans (passed_is o) follows.passed

-- ---- The refusals of the orders

pub train_in_order : (i : ℕ) (e : Entry) → refusals_of (train_checks i e) ≡ refuse 2 i ∷ refuse 3 i ∷ refuse 4 i ∷ []
unfolding refusals_of
train_in_order i e = refl

module _ (row : List ℕ) where
  pub checked_in_order :
      refusals_of (checked_order row) ≡ refuse 1 64 ∷ at_each (λ i. refuse 2 i ∷ refuse 3 i ∷ refuse 4 i ∷ []) 0 (length (entries row))
  unfolding refusals_of
  checked_in_order = ap (◌∷◌ (refuse 1 64)) (refusals_in_turn train_checks _ train_in_order 0 (entries row))

  pub row_in_order :
      refusals_of (order row)
      ≡ refusals_of (checked_order row)
      ++ at_each (λ i. refuse 5 i ∷ []) 0 (length (entries row))
      ++ at_each (λ i. refuse 6 i ∷ []) 0 (length (entries row))
  unfolding refusals_of
  row_in_order =
      let fives = in_turn (multiple_checks (entries row)) 0 (entries row) in
      let sixes = in_turn (long_checks (tick (entries row))) 0 (entries row) in
      refusals_both (checked_order row ++ fives) sixes
      ∙ ap (λ (l : List Said). l ++ refusals_of sixes) (refusals_both (checked_order row) fives)
      ∙ (λ k. refusals_of (checked_order row) ++ five k ++ six k)
    where
      five : refusals_of (in_turn (multiple_checks (entries row)) 0 (entries row)) ≡ at_each (λ i. refuse 5 i ∷ []) 0 (length (entries row))
      five = refusals_in_turn (multiple_checks (entries row)) _ (λ i e. refl) 0 (entries row)

      six : refusals_of (in_turn (long_checks (tick (entries row))) 0 (entries row)) ≡ at_each (λ i. refuse 6 i ∷ []) 0 (length (entries row))
      six = refusals_in_turn (long_checks (tick (entries row))) _ (λ i e. refl) 0 (entries row)
