-- A number or a refusal, in the paper's words: the same laws for import and for export.
-- Core: answer_tells, answer_is, after_refused, after_number. The rest follows from these.
-- Assumes nothing.
use Prim.Native.Nat.{ℕ}
use mathlib.Core.Path.{◌≡◌, refl, sym, ap}
use mathlib.Core.Logic.Iff
use mathlib.Core.Logic.{◌↔◌}
use mathlib.Core.List.{List}
use native.Mathlib.Omega.{arith}
use Rattle.std.specs.Prelude.{Result, Ok, Err}
use Rattle.refusal.specs.declared.Refusal.{Refusal}
use Rattle.refusal.specs.Paper.{paper, answers, refuse}
use Rattle.refusal.specs.Order.{Check, None, Gives}
use Rattle.refusal.proofs.Answers.{Tells, gives_exactly, refusing_only, answers_not_refuse, answers_only}
use Rattle.table.specs.Answer.{Outcome, or_else}
use Rattle.table.proofs.Checks.{refused_not_passed}
use Rattle.table.proofs.InOrder.{Follows}
use Rattle.listing.specs.Paper.{paper_answer}

zero_not_one : ◌≡◌ {A = ℕ} 0 1 → ⊥
zero_not_one z = omega arith

pub answer_tells : Tells paper_answer Err refuse
answer_tells = record { is = λ r. refl; only = found }
  where
    found :
        (x : Result ℕ Refusal) (number place : ℕ) → paper_answer x ≡ refuse number place →
        (r : Refusal) × (x ≡ Err r) × (paper r ≡ record { number = number; place = place })
    found (Ok n) number place e = absurd (answers_not_refuse e)
    found (Err r) number place e = (r, refl, refusing_only r number place e)

pub answer_is : (x : Result ℕ Refusal) (n : ℕ) → (paper_answer x ≡ answers n) ↔ (x ≡ Ok n)
answer_is (Ok m) n = ((λ e. ap Ok (answers_only e)), (λ e. ap paper_answer e))
answer_is (Err r) n = ((λ e. absurd (answers_not_refuse (sym e))), (λ e. ap paper_answer e))

after_refused : (o : Outcome) (n : ℕ) (r : Refusal) → (or_else o (Ok n) ≡ Err r) ↔ (o ≡ Err r)
after_refused (Ok _) n r = ((λ e. absurd (zero_not_one cc)), (λ e. absurd (refused_not_passed r (sym e))))
after_refused (Err q) n r = ((λ e. cc), (λ e. cc))

after_number : (o : Outcome) (n k : ℕ) → (or_else o (Ok n) ≡ Ok k) ↔ ((o ≡ Ok tt) × (k ≡ n))
after_number (Ok _) n k = ((λ e. (refl, cc)), (λ e. ap Ok (sym e.1)))
after_number (Err q) n k = ((λ e. absurd (zero_not_one cc)), (λ e. absurd (refused_not_passed q e.0)))

-- an answer after checks that follow an order has a number and a place exactly when the order gives them, and a value where none holds
module _ (o : Outcome) (order : List Check) (follows : Follows o order) (value : ℕ) where
  pub answer_gives : (number place : ℕ) → (paper_answer (or_else o (Ok value)) ≡ refuse number place) ↔ Gives order number place
  answer_gives =
      gives_exactly paper_answer Err refuse answer_tells order (or_else o (Ok value))
      (λ r. Iff.trans (after_refused o value r) (follows.refused r))

  pub answer_passes : (n : ℕ) → (paper_answer (or_else o (Ok value)) ≡ answers n) ↔ (None order × (n ≡ value))
  answer_passes n =
      Iff.trans (answer_is (or_else o (Ok value)) n)
      (Iff.trans (after_number o value n) ((λ w. (follows.passed.0 w.0, w.1)), (λ w. (follows.passed.1 w.0, w.1))))
