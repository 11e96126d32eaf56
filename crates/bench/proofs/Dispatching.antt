-- The answers of a dispatcher have room in the number that is handed back: a place is below 64, or a word of 32 bits.
-- Core: placed, withdrawal_fits, tick_fits. The rest follows from these.
-- Assumes nothing.
use Prim.Native.Nat.{ℕ, ◌+◌, ◌^◌, ◌<◌, ◌≤◌}
use mathlib.Core.Path.{◌≡◌, subst}
use mathlib.Core.List.{List}
use native.Mathlib.Omega.{arith}
use lib.ListN.{get_or}
use borrow.Author.Tests.{ltb-true}
use Rattle.std.proofs.lemmas.Bool.{cond_both}
use Rattle.std.specs.Prelude.{Result, Ok, Err, MatchResult, nat_lt}
use Rattle.refusal.specs.declared.Refusal.{Refusal}
use Rattle.refusal.specs.declared.Refusal.TheVariants.{NoTrainThere, WrongCount}
use Rattle.refusal.specs.Paper.{none, paper}
use Rattle.train.specs.declared.Train.{Train}
use Rattle.train.specs.Answer.{within_limits}
use Rattle.dispatcher.specs.declared.Dispatcher.{Dispatcher}
use Rattle.dispatcher.specs.declared.Called.{Called}
use Rattle.dispatcher.specs.declared.Tick.{Tick}
use Rattle.dispatcher.specs.declared.Sought.TheVariants as sought
use Rattle.dispatcher.specs.History.{place_count}
use Rattle.dispatcher.specs.Answer.{is_sought, is_next, lowest, held_at, next_count, admission, withdrawal, stepping}
use Rattle.words.specs.Record.{last_at, record_in}
use Rattle.words.specs.Answer.{admission_in, withdrawal_in, stepping_in}
use Rattle.bench.specs.Answer.{Fits, value_parts, withdrawal_parts, tick_parts}
use Rattle.bench.proofs.Fitting.{refused_fits, plain_fits, value_fits}

-- ---- Admissions

-- A train is admitted to a place below 64, and a refusal names such a place, or 64.
abbrev AdmissionPlaced : Result ℕ Refusal → Type 0
AdmissionPlaced a = MatchResult a (λ q. q < place_count) (λ r. (paper r).place ≤ none)

placed : (d : Dispatcher) (train : Train) → AdmissionPlaced (admission d train).answer
unfolding admission
placed d train =
    let empty : ℕ = lowest (is_sought sought.Empty) d.places in
    let met : ℕ = lowest (is_sought (sought.Colliding (next_count d) train)) d.places in
    cond_both (within_limits train) _ _ (λ (a : Called (Result ℕ Refusal)). AdmissionPlaced a.answer)
    (λ within. cond_both (nat_lt empty place_count) _ _ (λ (a : Called (Result ℕ Refusal)). AdmissionPlaced a.answer)
    (λ room. cond_both (nat_lt met place_count) _ _ (λ (a : Called (Result ℕ Refusal)). AdmissionPlaced a.answer)
    (λ meets. omega (arith, ltb-true met place_count meets)) (λ free. ltb-true empty place_count room))
    (λ full. omega arith))
    (λ outside. omega arith)

module _ (ws : List ℕ) (delay period duration : ℕ) where
  pub admit_place : (q : ℕ) → (admission_in ws delay period duration).answer ≡ Ok q → q < place_count
  admit_place q e = subst AdmissionPlaced e (placed (record_in ws) _)

  pub admit_names : (r : Refusal) → (admission_in ws delay period duration).answer ≡ Err r → (paper r).place ≤ none
  admit_names r e = subst AdmissionPlaced e (placed (record_in ws) _)

  pub admit_fits : Fits (value_parts (admission_in ws delay period duration).answer)
  admit_fits =
      value_fits (admission_in ws delay period duration).answer (λ q e. omega (arith, admit_place q e))
      (λ r e. omega (arith, admit_names r e))

-- ---- Withdrawals and steps

withdrawal_fits : (d : Dispatcher) (q : ℕ) → Fits (withdrawal_parts (withdrawal d q).answer)
unfolding withdrawal
withdrawal_fits d q =
    cond_both (is_sought sought.Empty (held_at d q)) _ _ (λ (w : Called (Result (Unit {0}) Refusal)). Fits (withdrawal_parts w.answer))
    (λ empty. refused_fits NoTrainThere (omega arith))
    (λ held. plain_fits _ _ (omega arith) (omega arith))

-- a train that starts is at a place below 64
tick_fits : (d : Dispatcher) (count : ℕ) → d.run.place < 2 ^ 32 → Fits (tick_parts (stepping d count).answer)
unfolding stepping
tick_fits d count word =
    let due : ℕ = lowest (is_sought (sought.Due count)) d.places in
    cond_both (is_next d count) _ _ (λ (s : Called (Result Tick Refusal)). Fits (tick_parts s.answer))
    (λ right. cond_both (nat_lt 0 d.run.left) _ _ (λ (s : Called (Result Tick Refusal)). Fits (tick_parts s.answer))
    (λ on. plain_fits _ _ (omega arith) word)
    (λ over. cond_both (nat_lt due place_count) _ _ (λ (s : Called (Result Tick Refusal)). Fits (tick_parts s.answer))
    (λ starts. plain_fits _ _ (omega arith) (omega (arith, ltb-true due place_count starts)))
    (λ idle. plain_fits _ _ (omega arith) (omega arith))))
    (λ wrong. refused_fits WrongCount (omega arith))

-- what withdraw answers in words
pub withdraw_fits : (ws : List ℕ) (q : ℕ) → Fits (withdrawal_parts (withdrawal_in ws q).answer)
withdraw_fits ws q = withdrawal_fits (record_in ws) q

-- what step answers, where the place of the run in progress was read
pub step_fits :
    (ws : List ℕ) (count running : ℕ) → running ≡ get_or ws (last_at + 1) 0 → running < 2 ^ 32 →
    Fits (tick_parts (stepping_in ws count).answer)
step_fits ws count running is word = tick_fits (record_in ws) count (subst (λ (n : ℕ). n < 2 ^ 32) is word)
