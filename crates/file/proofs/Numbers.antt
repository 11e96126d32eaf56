-- The verdict on a stored table in the paper's numbers. Core: verdict_tells. The rest is the laws of the constructors in these words.
-- Assumes nothing.
use Prim.Native.Nat.{ℕ}
use mathlib.Core.Path.{◌≡◌, refl, ap, ◌∙◌}
use mathlib.Core.Logic.{◌↔◌}
use mathlib.Core.List.{List, ◌++◌}
use native.Mathlib.Omega.{arith}
use lib.ListN.{length, take}
use Rattle.refusal.specs.declared.Refusal.{Refusal}
use Rattle.refusal.specs.Paper as refusals
use Rattle.refusal.specs.Paper.{answers}
use Rattle.refusal.specs.Order.{Gives}
use Rattle.refusal.proofs.Answers.{Tells, gives_exactly}
use Rattle.table.specs.Row.{longest_row, row_of}
use Rattle.table.specs.Given.{order}
use Rattle.judge.specs.declared.Verdict.{Verdict}
use Rattle.judge.specs.declared.Verdict.TheVariants.{Accepted, Collide, Refused}
use Rattle.judge.specs.Paper.{refuse, paper}
use Rattle.judge.specs.Answer.{verdict}
use Rattle.stored.specs.Found.{trains_in}
use Rattle.stored.specs.Given.{load_order}
use Rattle.stored.specs.Paper.{paper_answer}
use Rattle.stored.specs.Answer.{saved, buffer_after}
use Rattle.stored.proofs.Numbers.{answer_is, buffer_is}
use Rattle.file.specs.Answer.{file_verdict}
use Rattle.file.proofs.Judging as judging

verdict_tells : Tells paper Refused refuse
verdict_tells = record { is = λ r. refl; only = found }
  where
    found :
        (v : Verdict) (number train : ℕ) → paper v ≡ refuse number train →
        (r : Refusal) × (v ≡ Refused r) × (refusals.paper r ≡ record { number = number; place = train })
    found (Accepted figures) number train e = cc
    found (Collide meeting figures) number train e = cc
    found (Refused r) number train e =
        let a : (refusals.paper r).number ≡ number = cc in
        let b : (refusals.paper r).place ≡ train = cc in
        (r, refl, λ i. record { number = a i; place = b i })

pub file_refused :
    (bs : List ℕ) (number train : ℕ) →
    (paper (file_verdict bs) ≡ refuse number train) ↔ Gives (load_order bs longest_row ++ order (row_of (trains_in bs))) number train
file_refused bs =
    gives_exactly paper Refused refuse verdict_tells (load_order bs longest_row ++ order (row_of (trains_in bs))) (file_verdict bs)
    (judging.file_refused bs)

pub verdict_kept :
    (row out : List ℕ) (n : ℕ) → paper_answer (saved row (length out)) ≡ answers n → file_verdict (take n (buffer_after row out)) ≡ verdict row
verdict_kept row out n e =
    let wrote = (answer_is (saved row (length out)) n).0 e in
    ap (λ (l : List ℕ). file_verdict (take n l)) (buffer_is row out _ wrote) ∙ judging.verdict_kept row out n wrote
