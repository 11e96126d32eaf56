-- The answers of saving and loading in the paper's numbers, and what a call with that answer leaves in the lent memory.
-- Core: answer_tells, answer_is. The rest is the laws of the constructors in these words.
-- Assumes nothing.
use Prim.Native.Nat.{ℕ, ◌*◌, ◌<◌, ◌≤◌}
use mathlib.Core.Path.{◌≡◌, refl, sym, ap, subst, ◌∙◌}
use mathlib.Core.Logic.Iff
use mathlib.Core.Logic.{◌↔◌}
use mathlib.Core.List.{List, [], ◌∷◌, ◌++◌, map}
use lib.ListN.{length, take, drop}
use Rattle.std.specs.Prelude.{Result, Ok, Err}
use Rattle.refusal.specs.declared.Refusal.{Refusal}
use Rattle.refusal.specs.declared.Refusal.TheVariants.{BufferTooShort}
use Rattle.refusal.specs.Paper.{Said, paper, answers, refuse}
use Rattle.refusal.specs.Order.{Check, ◌when◌, in_turn, None, Gives, refusals_of, at_each}
use Rattle.refusal.proofs.Answers.{Tells, gives_exactly, refusing_only, answers_not_refuse, answers_only, refusals_both, refusals_in_turn}
use Rattle.table.specs.declared.Entry.{Entry}
use Rattle.table.specs.Row.{Words, numbers, record_length, entries, row_of, lowest_row, lowest_entry}
use Rattle.table.specs.Answer.{Outcome, or_else}
use Rattle.table.specs.Given.{checked_order}
use Rattle.table.proofs.InOrder.{Follows}
use Rattle.table.proofs.Numbers.{checked_in_order}
use Rattle.stored.specs.Layout.{head_length, bytes_of, Bytes, StoredAs}
use Rattle.stored.specs.Found.{count_in, trains_in}
use Rattle.stored.specs.Given.{save_order, stored_checks, head_checks, load_order}
use Rattle.stored.specs.Paper.{paper_answer}
use Rattle.stored.specs.Answer.{save_check, saved, saved_in, buffer_after, load_check, loaded, loaded_in, row_after}
use Rattle.stored.proofs.Lengths.{records_length}
use Rattle.stored.proofs.Following as following
use Rattle.stored.proofs.Following.{save_follows, load_follows, answer_refused, answer_value}
use Rattle.stored.proofs.Accepted as accepted
use Rattle.stored.proofs.RoundTrip as round_trip
use Rattle.stored.proofs.Written as written

-- ---- Answers

answer_tells : Tells paper_answer Err refuse
answer_tells = record { is = λ r. refl; only = found }
  where
    found :
        (x : Result ℕ Refusal) (number place : ℕ) → paper_answer x ≡ refuse number place →
        (r : Refusal) × (x ≡ Err r) × (paper r ≡ record { number = number; place = place })
    found (Ok n) number place e = absurd (answers_not_refuse e)
    found (Err r) number place e = (r, refl, refusing_only r number place e)

pub answer_is : (x : Result ℕ Refusal) (n : ℕ) → (paper_answer x ≡ answers n) ↔ (x ≡ Ok n)
answer_is (Ok m) n = ((λ e. ap Ok (answers_only e)), (λ e. ap paper_answer e))
answer_is (Err r) n = ((λ e. absurd (answers_not_refuse (sym e))), (λ e. ap paper_answer e))

-- an answer after checks that follow an order has a number and a train exactly when the order gives them, and a value where none holds
module _ (o : Outcome) (order : List Check) (follows : Follows o order) (value : ℕ) where
  pub answer_gives : (number train : ℕ) → (paper_answer (or_else o (Ok value)) ≡ refuse number train) ↔ Gives order number train
  answer_gives =
      gives_exactly paper_answer Err refuse answer_tells order (or_else o (Ok value))
      (λ r. Iff.trans (answer_refused o value r) (follows.refused r))

  pub answer_passes : (n : ℕ) → (paper_answer (or_else o (Ok value)) ≡ answers n) ↔ (None order × (n ≡ value))
  answer_passes n =
      Iff.trans (answer_is (or_else o (Ok value)) n)
      (Iff.trans (answer_value o value n) ((λ w. (follows.passed.0 w.0, sym w.1)), (λ w. (follows.passed.1 w.0, sym w.1))))

-- what a call leaves is what its answer says
pub buffer_is : (row out : List ℕ) (answer : Result ℕ Refusal) → saved row (length out) ≡ answer → buffer_after row out ≡ saved_in answer row out
buffer_is row out answer e = ap (λ (a : Result ℕ Refusal). saved_in a row out) e

pub row_is : (bs before : List ℕ) (answer : Result ℕ Refusal) → loaded bs (length before) ≡ answer → row_after bs before ≡ loaded_in answer bs before
row_is bs before answer e = ap (λ (a : Result ℕ Refusal). loaded_in a bs before) e

-- ---- Saving

pub save_in_order :
    (row : List ℕ) (room : ℕ) →
    refusals_of (save_order row room)
    ≡ refuse 1 64 ∷ (at_each (λ i. refuse 2 i ∷ refuse 3 i ∷ refuse 4 i ∷ []) 0 (length (entries row)) ++ (refuse 8 64 ∷ []))
unfolding refusals_of
save_in_order row room =
    refusals_both (checked_order row) _ ∙ ap (λ (l : List Said). l ++ (refuse 8 64 ∷ [])) (checked_in_order row)

pub save_refused :
    (row : List ℕ) (room number train : ℕ) →
    (paper_answer (saved row room) ≡ refuse number train) ↔ Gives (save_order row room) number train
save_refused row room = answer_gives (save_check row room) (save_order row room) (save_follows row room) _

pub save_keeps :
    (row out : List ℕ) (number train : ℕ) → paper_answer (saved row (length out)) ≡ refuse number train → buffer_after row out ≡ out
unfolding saved_in
save_keeps row out number train e =
    let found = answer_tells.only (saved row (length out)) number train e in
    buffer_is row out (Err found.0) found.1

pub save_written :
    (row : List ℕ) (room n : ℕ) →
    (paper_answer (saved row room) ≡ answers n)
    ↔ (None (save_order row room) × (n ≡ length (bytes_of (map lowest_entry (entries row)))))
save_written row room n = Iff.trans (answer_is (saved row room) n) (following.save_written row room n)

module _ (row out : List ℕ) (n : ℕ) (answer : paper_answer (saved row (length out)) ≡ answers n) where
  -- the answer is a length
  wrote : saved row (length out) ≡ Ok n
  wrote = (answer_is (saved row (length out)) n).0 answer

  pub save_bytes : Words row → Bytes (take n (buffer_after row out))
  save_bytes words =
      subst (λ (l : List ℕ). Bytes (take n l)) (sym (buffer_is row out _ wrote)) (written.save_bytes row out n words wrote)

  pub load_after_save :
      (before : List ℕ) → length (entries row) * numbers ≤ length before →
      (paper_answer (loaded (take n (buffer_after row out)) (length before)) ≡ answers (length (entries row)))
      × (row_after (take n (buffer_after row out)) before ≡ lowest_row row ++ drop (length (entries row) * numbers) before)
  load_after_save before room =
      subst
      (λ (l : List ℕ).
      (paper_answer (loaded (take n l) (length before)) ≡ answers (length (entries row)))
      × (row_after (take n l) before ≡ lowest_row row ++ drop (length (entries row) * numbers) before))
      (sym (buffer_is row out _ wrote))
      (ap paper_answer trip.0, row_is _ before _ trip.0 ∙ trip.1)
    where
      trip :
          (loaded (take n (saved_in (Ok n) row out)) (length before) ≡ Ok (length (entries row)))
          × (loaded_in (Ok (length (entries row))) (take n (saved_in (Ok n) row out)) before
          ≡ lowest_row row ++ drop (length (entries row) * numbers) before)
      trip = round_trip.load_after_save row out before n wrote room

-- ---- Loading

pub head_in_order :
    (bs : List ℕ) → refusals_of (head_checks bs) ≡ refuse 11 64 ∷ refuse 9 64 ∷ refuse 10 64 ∷ refuse 1 64 ∷ refuse 11 64 ∷ []
unfolding refusals_of
head_in_order bs = refl

pub record_in_order :
    (i : ℕ) (e : Entry) →
    refusals_of (stored_checks i e)
    ≡ refuse 2 i ∷ refuse 12 i ∷ refuse 2 i ∷ refuse 12 i ∷ refuse 2 i ∷ refuse 12 i ∷ refuse 3 i ∷ refuse 4 i ∷ []
unfolding refusals_of
record_in_order i e = refl

pub load_in_order :
    (bs : List ℕ) (room : ℕ) →
    refusals_of (load_order bs room)
    ≡ refusals_of (head_checks bs)
    ++ (at_each
    (λ i. refuse 2 i ∷ refuse 12 i ∷ refuse 2 i ∷ refuse 12 i ∷ refuse 2 i ∷ refuse 12 i ∷ refuse 3 i ∷ refuse 4 i ∷ []) 0 (count_in bs)
    ++ (refuse 8 64 ∷ []))
unfolding refusals_of
load_in_order bs room =
    let trains = in_turn stored_checks 0 (trains_in bs) in
    let short = (BufferTooShort when (room < count_in bs * numbers)) ∷ [] in
    let count : length (trains_in bs) ≡ count_in bs = records_length record_length (count_in bs) (drop head_length bs) in
    let each = refusals_in_turn stored_checks _ record_in_order 0 (trains_in bs) in
    refusals_both (head_checks bs) (trains ++ short)
    ∙ ap (◌++◌ (refusals_of (head_checks bs)))
    (refusals_both trains short ∙ ap (λ (l : List Said). l ++ (refuse 8 64 ∷ [])) (each ∙ ap (at_each _ 0) count))

pub load_refused :
    (bs : List ℕ) (room number train : ℕ) →
    (paper_answer (loaded bs room) ≡ refuse number train) ↔ Gives (load_order bs room) number train
load_refused bs room = answer_gives (load_check bs room) (load_order bs room) (load_follows bs room) _

pub load_keeps :
    (bs before : List ℕ) (number train : ℕ) → paper_answer (loaded bs (length before)) ≡ refuse number train → row_after bs before ≡ before
unfolding loaded_in
load_keeps bs before number train e =
    let found = answer_tells.only (loaded bs (length before)) number train e in
    row_is bs before (Err found.0) found.1

pub load_accepted :
    (bs : List ℕ) (room k : ℕ) → Bytes bs →
    (paper_answer (loaded bs room) ≡ answers k) ↔ ((es : List Entry) × StoredAs bs es × (length es ≡ k) × (k * numbers ≤ room))
load_accepted bs room k bytes = Iff.trans (answer_is (loaded bs room) k) (accepted.load_accepted bs room k bytes)

pub load_written :
    (bs before : List ℕ) (es : List Entry) → StoredAs bs es → length es * numbers ≤ length before →
    row_after bs before ≡ row_of es ++ drop (length es * numbers) before
load_written bs before es stored room =
    row_is bs before _ (accepted.stored_loads bs es (length before) stored room) ∙ accepted.load_written bs before es stored

pub save_after_load :
    (bs before out : List ℕ) (k : ℕ) → Bytes bs →
    paper_answer (loaded bs (length before)) ≡ answers k → length bs ≤ length out →
    (paper_answer (saved (take (k * numbers) (row_after bs before)) (length out)) ≡ answers (length bs))
    × (buffer_after (take (k * numbers) (row_after bs before)) out ≡ bs ++ drop (length bs) out)
save_after_load bs before out k bytes answer fits =
    subst
    (λ (l : List ℕ).
    (paper_answer (saved (take (k * numbers) l) (length out)) ≡ answers (length bs))
    × (buffer_after (take (k * numbers) l) out ≡ bs ++ drop (length bs) out))
    (sym (row_is bs before _ read))
    (ap paper_answer trip.0, buffer_is _ out _ trip.0 ∙ trip.1)
  where
    read : loaded bs (length before) ≡ Ok k
    read = (answer_is (loaded bs (length before)) k).0 answer

    trip :
        (saved (take (k * numbers) (loaded_in (Ok k) bs before)) (length out) ≡ Ok (length bs))
        × (saved_in (Ok (length bs)) (take (k * numbers) (loaded_in (Ok k) bs before)) out ≡ bs ++ drop (length bs) out)
    trip = round_trip.save_after_load bs before out k bytes read fits
