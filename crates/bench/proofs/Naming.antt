-- Which train or place a refusal names: one below 64, or 64 where it names none.
-- Core: named_test, named_then, named_each. The rest follows the text of the checks.
-- Assumes nothing.
use Prim.Native.Nat.{ℕ, suc, ◌+◌, ◌*◌, ◌%◌, ◌<◌, ◌≤◌}
use mathlib.Core.Path.{◌≡◌, refl, subst}
use mathlib.Core.Bool.{Bool, true, false, not}
use mathlib.Core.List.{List, [], ◌∷◌}
use native.Mathlib.Omega.{arith}
use lib.Dec.{ltb, eqb}
use lib.ListN.{length, take, drop}
use borrow.Author.Tests.{ltb-false}
use Rattle.std.specs.Prelude.{Result, Ok, Err}
use Rattle.refusal.specs.declared.Refusal.{Refusal}
use Rattle.refusal.specs.declared.Refusal.TheVariants.{TrainCount, ZeroDenominator, ZeroTime, DurationAbovePeriod, TickTooFine, TimeTooLong, BufferTooShort, WrongMark, WrongVersion, WrongLength, NotLowestTerms}
use Rattle.refusal.specs.Paper.{none, paper}
use Rattle.fraction.specs.declared.Fraction.{Fraction}
use Rattle.fraction.specs.Answer.{is_lowest, above, running}
use Rattle.table.specs.declared.Entry.{Entry}
use Rattle.table.specs.Row.{capacity, numbers, longest_row, record_length, entries, denominators, tick}
use Rattle.table.specs.Answer.{Outcome, test, or_else, first_refusal, no_denominator, no_time, entry_check, checked, is_above, multiple_check, multiple_checked, too_long, ticks_check, refusal}
use Rattle.table.proofs.Entries.{entries_few}
use Rattle.table.proofs.Following.{checked_length}
use Rattle.stored.specs.Layout.{version, head_length, length_of}
use Rattle.stored.specs.Found.{version_in, count_in, trains_in}
use Rattle.stored.specs.Answer.{save_check, saved, has_mark, head_check, time_check, stored_check, load_check, loaded}
use Rattle.stored.proofs.Loading.{head_passed}
use Rattle.stored.proofs.Lengths.{records_length}

-- ---- Core laws

-- A refusal that there is names a train below 64, or 64.
pub data Named {A : Type 0} : Result A Refusal → Type 0 where
  passes : {a : A} → Named (Ok a)
  names : {r : Refusal} → (paper r).place ≤ none → Named (Err r)

named_place : {A : Type 0} {r : Refusal} → Named {A = A} (Err r) → (paper r).place ≤ none
named_place (names h) = h

pub named_refusal : {A : Type 0} (a : Result A Refusal) (r : Refusal) → Named a → a ≡ Err r → (paper r).place ≤ none
named_refusal a r named e = named_place (subst Named e named)

pub named_test : (b : Bool) (r : Refusal) → (paper r).place ≤ none → Named (test b r)
named_test true r h = names h
named_test false r h = passes

-- a test, and where it does not find its condition what comes next
named_more : {A : Type 0} (b : Bool) (r : Refusal) (p : Result A Refusal) → (paper r).place ≤ none → (b ≡ false → Named p) → Named (or_else (test b r) p)
named_more true r p h next = names h
named_more false r p h next = next refl

pub named_then : {A : Type 0} (o : Outcome) (p : Result A Refusal) → Named o → (o ≡ Ok tt → Named p) → Named (or_else o p)
named_then (Ok _) p h next = next refl
named_then (Err r) p (names h) next = names h

-- of no more trains than a table takes
named_each :
    (check : ℕ → Entry → Outcome) → ((i : ℕ) (e : Entry) → i < none → Named (check i e)) →
    (i : ℕ) (es : List Entry) → i + length es ≤ none → Named (first_refusal check i es)
unfolding first_refusal
named_each check each i [] few = passes
named_each check each i (e ∷ es) few =
    named_then (check i e) (first_refusal check (suc i) es) (each i e (omega arith))
    (λ passed. named_each check each (suc i) es (omega arith))

-- ---- The checks of a row

entry_named : (i : ℕ) (e : Entry) → i < none → Named (entry_check i e)
unfolding entry_check
entry_named i e h =
    named_more (no_denominator e) (ZeroDenominator i) _ (omega arith)
    (λ p. named_more (no_time e) (ZeroTime i) _ (omega arith)
    (λ q. named_test (above e.duration e.period) (DurationAbovePeriod i) (omega arith)))

pub checked_named : (row : List ℕ) → Named (checked row)
unfolding checked
checked_named row =
    named_more (not (eqb (length row % numbers) 0)) TrainCount _ (omega arith)
    (λ p. named_more (ltb longest_row (length row)) TrainCount _ (omega arith)
    (λ short. named_each entry_check entry_named 0 (entries row) (omega (arith, entries_few row (ltb-false longest_row (length row) short)))))

pub refusal_named : (row : List ℕ) → Named (refusal row)
unfolding refusal ticks_check
refusal_named row =
    named_then (checked row) _ (checked_named row)
    (λ passed.
    let few : 0 + length (entries row) ≤ none = omega (arith, entries_few row (checked_length row passed)) in
    named_then (multiple_checked (entries row)) _
    (named_each (multiple_check (entries row))
    (λ i e h. named_test (is_above (running (denominators (take (suc i) (entries row))))) (TickTooFine i) (omega arith)) 0 (entries row) few)
    (λ fine.
    named_each (ticks_check (tick (entries row))) (λ i e h. named_test (too_long (tick (entries row)) e) (TimeTooLong i) (omega arith)) 0
    (entries row) few))

pub save_named : (row : List ℕ) (room : ℕ) → Named (saved row room)
unfolding save_check
save_named row room =
    named_then (save_check row room) _
    (named_then (checked row) _ (checked_named row) (λ p. named_test (ltb room (length_of (length (entries row)))) BufferTooShort (omega arith)))
    (λ p. passes)

-- ---- The checks of a file

head_named : (bs : List ℕ) → Named (head_check bs)
unfolding head_check
head_named bs =
    named_more (ltb (length bs) head_length) WrongLength _ (omega arith)
    (λ a. named_more (not (has_mark bs)) WrongMark _ (omega arith)
    (λ b. named_more (not (eqb (version_in bs) version)) WrongVersion _ (omega arith)
    (λ c. named_more (ltb capacity (count_in bs)) TrainCount _ (omega arith)
    (λ d. named_test (not (eqb (length bs) (length_of (count_in bs)))) WrongLength (omega arith)))))

time_named : (i : ℕ) (f : Fraction) → i < none → Named (time_check i f)
unfolding time_check
time_named i f h =
    named_more (eqb f.denominator 0) (ZeroDenominator i) _ (omega arith)
    (λ p. named_test (not (is_lowest f)) (NotLowestTerms i) (omega arith))

stored_named : (i : ℕ) (e : Entry) → i < none → Named (stored_check i e)
unfolding stored_check
stored_named i e h =
    named_then (time_check i e.phase) _ (time_named i e.phase h)
    (λ a. named_then (time_check i e.period) _ (time_named i e.period h)
    (λ b. named_then (time_check i e.duration) _ (time_named i e.duration h) (λ c. entry_named i e h)))

pub load_named : (bs : List ℕ) (room : ℕ) → Named (loaded bs room)
unfolding load_check
load_named bs room =
    named_then (load_check bs room) _
    (named_then (head_check bs) _ (head_named bs)
    (λ head.
    let few : 0 + length (trains_in bs) ≤ none =
    omega (arith, (head_passed bs head).few, records_length record_length (count_in bs) (drop head_length bs)) in
    named_then (first_refusal stored_check 0 (trains_in bs)) _ (named_each stored_check stored_named 0 (trains_in bs) few)
    (λ p. named_test (ltb room (count_in bs * numbers)) BufferTooShort (omega arith))))
    (λ p. passes)
