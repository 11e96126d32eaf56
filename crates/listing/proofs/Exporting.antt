-- Export: its refusals follow the request's order, the ways through it on plain values, and how long a text it writes.
-- Core: export_follows, row_sayable. The rest follows from these.
-- Assumes nothing.
use Prim.Native.Nat.{ℕ, zero, suc, ◌+◌, ◌*◌, ◌<◌, ◌≤◌}
use mathlib.Core.Path.{◌≡◌, refl, sym, ap, subst, ◌∙◌}
use mathlib.Core.Logic.{◌↔◌}
use mathlib.Core.List.{List, [], ◌∷◌, ◌++◌, map}
use native.Mathlib.Nat.{dvd_of_mod-eq-zero, one-dvd, dvd-sub}
use native.Mathlib.Omega.{arith}
use lib.Dec.{ltb}
use lib.ListN.{length, get_or, drop, replicate, length-map, length-replicate}
use borrow.Author.Tests.{lt-ltb, le-ltb}
use Rattle.std.specs.Prelude.{Result, Ok, Err}
use Rattle.refusal.specs.declared.Refusal.{Refusal}
use Rattle.refusal.specs.declared.Refusal.TheVariants.{BufferTooShort}
use Rattle.refusal.specs.Paper.{Said, answers, refuse}
use Rattle.refusal.specs.Order.{None, Gives, refusals_of, at_each}
use Rattle.refusal.proofs.Orders.{none_of_both}
use Rattle.refusal.proofs.Answers.{refusals_both}
use Rattle.decimal.specs.Answer.{leading_within, decimal}
use Rattle.fraction.specs.declared.Fraction.{Fraction}
use Rattle.fraction.specs.Answer.{lowest}
use Rattle.fraction.proofs.Lowest.{lowest_terms, lowest_within, lowest_already}
use Rattle.table.specs.declared.Entry.{Entry}
use Rattle.table.specs.Row.{Words, capacity, numbers, entries, no_entry, row_of, lowest_entry, lowest_row, SameRow}
use Rattle.table.specs.Given.{checked_order}
use Rattle.table.specs.Answer.{Outcome, test, or_else, first_refusal, no_denominator, no_time, entry_check, checked}
use Rattle.table.proofs.Entries.{entries_length, entries_at, entries_few}
use Rattle.table.proofs.Checks.{checked_trains}
use Rattle.table.proofs.InOrder.{ltb_is, Follows, follows_then, follows_last}
use Rattle.table.proofs.Following.{checked_follows, checked_length, checked_whole, checked_sound}
use Rattle.table.proofs.Numbers.{checked_in_order}
use Rattle.table.proofs.Rows.{row_length, row_entries, lowest_at, lowest_row_same}
use Rattle.judge.specs.Answer.{verdict}
use Rattle.judge.proofs.Meaning.{verdict_same}
use Rattle.listing.specs.Means.{fraction, entry}
use Rattle.listing.specs.Layout.{time_text, record_text, text_of, longest_export, Small, SmallEntry, HasDenominators}
use Rattle.listing.specs.Given.{export_order}
use Rattle.listing.specs.Paper.{paper_exported}
use Rattle.listing.specs.Answer.{export_check, exported, exported_in, buffer_after}
use Rattle.listing.proofs.Answered.{answer_tells, answer_is, answer_gives, answer_passes}
use Rattle.listing.proofs.Layouts.{Sayable, text_within, text_same}

-- ---- The order of its refusals

pub export_follows : (row : List ℕ) (room : ℕ) → Follows (export_check row room) (export_order row room)
unfolding export_check
export_follows row room =
    follows_then (checked row) _ (checked_order row) _ (checked_follows row)
    (λ passed. follows_last _ BufferTooShort _ (ltb_is room (length (text_of (map lowest_entry (entries row))))))

pub export_in_order :
    (row : List ℕ) (room : ℕ) →
    refusals_of (export_order row room)
    ≡ refuse 1 64 ∷ (at_each (λ i. refuse 2 i ∷ refuse 3 i ∷ refuse 4 i ∷ []) 0 (length (entries row)) ++ (refuse 8 64 ∷ []))
unfolding refusals_of
export_in_order row room =
    refusals_both (checked_order row) _ ∙ ap (λ (l : List Said). l ++ (refuse 8 64 ∷ [])) (checked_in_order row)

-- ---- Its answers

pub export_refused :
    (row : List ℕ) (room number train : ℕ) →
    (paper_exported (exported row room) ≡ refuse number train) ↔ Gives (export_order row room) number train
export_refused row room = answer_gives (export_check row room) (export_order row room) (export_follows row room) _

pub export_answers :
    (row : List ℕ) (room n : ℕ) →
    (paper_exported (exported row room) ≡ answers n)
    ↔ (None (export_order row room) × (n ≡ length (text_of (map lowest_entry (entries row)))))
export_answers row room = answer_passes (export_check row room) (export_order row room) (export_follows row room) _

-- ---- What it leaves in the buffer

buffer_is : (row out : List ℕ) (answer : Result ℕ Refusal) → exported row (length out) ≡ answer → buffer_after row out ≡ exported_in answer row out
buffer_is row out answer e = ap (λ (a : Result ℕ Refusal). exported_in a row out) e

pub export_keeps :
    (row out : List ℕ) (number train : ℕ) → paper_exported (exported row (length out)) ≡ refuse number train → buffer_after row out ≡ out
unfolding exported_in
export_keeps row out number train e =
    let found = answer_tells.only (exported row (length out)) number train e in
    buffer_is row out (Err found.0) found.1

pub export_written :
    (row out : List ℕ) (n : ℕ) → paper_exported (exported row (length out)) ≡ answers n →
    buffer_after row out ≡ text_of (map lowest_entry (entries row)) ++ drop n out
unfolding exported_in
export_written row out n e = buffer_is row out (Ok n) ((answer_is (exported row (length out)) n).0 e)

-- ---- The ways through it

module _ (row : List ℕ) (room : ℕ) (o : Outcome) (o_is : o ≡ checked row) where
  -- the answer, from the outcome of the row's checks
  abbrev answer : Outcome → Result ℕ Refusal
  answer p =
      or_else (or_else p (test (ltb room (length (text_of (map lowest_entry (entries row))))) BufferTooShort))
      (Ok (length (text_of (map lowest_entry (entries row)))))

  from_checks : answer o ≡ exported row room
  unfolding export_check
  from_checks = ap answer o_is

  pub way_checked : (r : Refusal) → o ≡ Err r → Err r ≡ exported row room
  way_checked r h = sym (ap answer h) ∙ from_checks

  module _ (passed : o ≡ Ok tt) where
    -- past the checks there is only the room to be looked at
    room_left : answer (Ok tt) ≡ exported row room
    room_left = sym (ap answer passed) ∙ from_checks

    pub way_short : room < length (text_of (map lowest_entry (entries row))) → Err BufferTooShort ≡ exported row room
    way_short h = simp (lt-ltb room (length (text_of (map lowest_entry (entries row)))) h) at room_left

    pub way_written :
        length (text_of (map lowest_entry (entries row))) ≤ room →
        Ok (length (text_of (map lowest_entry (entries row)))) ≡ exported row room
    way_written h = simp (le-ltb room (length (text_of (map lowest_entry (entries row)))) h) at room_left

-- ---- What is so of a row that is exported

-- It passes the checks, and the answer is the length of its text.
pub record Exporting (row : List ℕ) (room n : ℕ) : Type 0 where
  pub passes : checked row ≡ Ok tt
  pub count : n ≡ length (text_of (map lowest_entry (entries row)))

pub exporting : (row : List ℕ) (room n : ℕ) → paper_exported (exported row room) ≡ answers n → Exporting row room n
exporting row room n e =
    let told = (export_answers row room n).0 e in
    record { passes = (checked_follows row).passed.1 ((none_of_both (checked_order row) _).0 told.0).0; count = told.1 }

-- lowest terms are small where the fraction is
small_lowest : (f : Fraction) → 0 < f.denominator → Small f → Small (lowest f)
small_lowest f h small =
    let l = lowest_within f h in
    record { numerator = omega (arith, l.0, small.numerator); denominator = omega (arith, l.1, small.denominator) }

lowest_sayable : (e : Entry) → SmallEntry e → HasDenominators e → SmallEntry (lowest_entry e) × HasDenominators (lowest_entry e)
lowest_sayable e small some = (
  record {
    phase = small_lowest e.phase some.phase small.phase;
    period = small_lowest e.period some.period small.period;
    duration = small_lowest e.duration some.duration small.duration;
  },
  record {
    phase = (lowest_terms e.phase some.phase).positive;
    period = (lowest_terms e.period some.period).positive;
    duration = (lowest_terms e.duration some.duration).positive;
  },
)

-- trains that can be written can be in lowest terms
pub lowest_all : (es : List Entry) → Sayable es → Sayable (map lowest_entry es)
lowest_all es each i h =
    let here = each i (omega (arith, length-map es lowest_entry)) in
    subst (λ (e : Entry). SmallEntry e × HasDenominators e) (sym (lowest_at es i)) (lowest_sayable (get_or es i no_entry) here.0 here.1)

-- the trains of a row of 32-bit numbers have such numbers
row_small : (row : List ℕ) → Words row → (i : ℕ) → i < length (entries row) → SmallEntry (get_or (entries row) i no_entry)
row_small row words i h =
    subst SmallEntry (entries_at row i (omega (arith, entries_length row)))
    (record {
      phase = record { numerator = words at; denominator = words (at + 1) };
      period = record { numerator = words (at + 2); denominator = words (at + 2 + 1) };
      duration = record { numerator = words (at + 4); denominator = words (at + 4 + 1) };
    })
  where
    at : ℕ
    at = i * numbers

-- in lowest terms they can be written
pub row_sayable : (row : List ℕ) → Words row → checked row ≡ Ok tt → Sayable (map lowest_entry (entries row))
row_sayable row words passes =
    lowest_all (entries row)
    (λ i h.
    let sound = checked_sound row passes i h in
    (row_small row words i h, record { phase = sound.phase; period = sound.period; duration = sound.duration }))

-- and their text is not too long
pub row_within :
    (row : List ℕ) → Words row → checked row ≡ Ok tt → length (text_of (map lowest_entry (entries row))) ≤ longest_export
row_within row words passes =
    let es : List Entry = map lowest_entry (entries row) in
    omega (
      arith,
      text_within es (λ i h. (row_sayable row words passes i h).0),
      length-map (entries row) lowest_entry,
      entries_few row (checked_length row passes),
    )

pub export_longest : (row : List ℕ) (room n : ℕ) → Words row → paper_exported (exported row room) ≡ answers n → n ≤ longest_export
export_longest row room n words e =
    let x = exporting row room n e in
    omega (arith, x.count, row_within row words x.passes)

pub exported_same : (row : List ℕ) (room n : ℕ) → paper_exported (exported row room) ≡ answers n → SameRow row (lowest_row row)
exported_same row room n e = lowest_row_same row (dvd_of_mod-eq-zero numbers (checked_whole row (exporting row room n e).passes))

pub exported_verdict : (row : List ℕ) (room n : ℕ) → paper_exported (exported row room) ≡ answers n → verdict (lowest_row row) ≡ verdict row
exported_verdict row room n e = sym (verdict_same row (lowest_row row) (exported_same row room n e))

-- ---- The longest text is reached

-- trains that are alike pass where one does, at any position
alike_pass : (n i : ℕ) (e : Entry) → ((k : ℕ) → entry_check k e ≡ Ok tt) → first_refusal entry_check i (replicate n e) ≡ Ok tt
unfolding first_refusal
alike_pass zero i e each = refl
alike_pass (suc n) i e each = rw (each i) (alike_pass n (suc i) e each)

alike_lowest : (n : ℕ) (e : Entry) → lowest_entry e ≡ e → map lowest_entry (replicate n e) ≡ replicate n e
alike_lowest zero e already = refl
alike_lowest (suc n) e already = λ i. already i ∷ alike_lowest n e already i

-- so many trains that are alike, in lowest terms
module _ (n : ℕ) (e : Entry) (few : n ≤ capacity) (each : (k : ℕ) → entry_check k e ≡ Ok tt) (already : lowest_entry e ≡ e) where
  alike_text : text_of (map lowest_entry (entries (row_of (replicate n e)))) ≡ text_of (replicate n e)
  alike_text = ap text_of (ap (map lowest_entry) (row_entries (replicate n e)) ∙ alike_lowest n e already)

  alike_checked : checked (row_of (replicate n e)) ≡ Ok tt
  alike_checked =
      let long = row_length (replicate n e) in
      sym (checked_trains (row_of (replicate n e)) (omega (arith, long)) (omega (arith, long, length-replicate n e)))
      ∙ ap (first_refusal entry_check 0) (row_entries (replicate n e))
      ∙ alike_pass n 0 e each

  pub alike_exported :
      paper_exported (exported (row_of (replicate n e)) (23 + n * length (record_text e))) ≡ answers (23 + n * length (record_text e))
  alike_exported =
      let long : length (text_of (map lowest_entry (entries (row_of (replicate n e))))) ≡ 23 + n * length (record_text e) =
      ap length alike_text ∙ text_same n e in
      ap paper_exported
      (sym (way_written (row_of (replicate n e)) _ (Ok tt) (sym alike_checked) refl (omega arith)) ∙ ap Ok long)

-- A time of ten digits above and below.
abbrev widest : Fraction
widest = fraction 4_294_967_295 4_294_967_294

-- two numbers that differ by 1 have nothing in common
widest_lowest : lowest widest ≡ widest
widest_lowest =
    lowest_already widest
    (record {
      positive = omega arith;
      coprime = record {
        left = one-dvd 4_294_967_295;
        right = one-dvd 4_294_967_294;
        greatest = λ k p q. dvd-sub k p q;
      };
    })

pub export_reaches :
    paper_exported (exported (row_of (replicate capacity (entry widest widest widest))) longest_export) ≡ answers longest_export
unfolding entry_check no_denominator no_time time_text decimal leading_within
export_reaches =
    alike_exported capacity (entry widest widest widest) (omega arith) (λ k. refl)
    (λ i. entry (widest_lowest i) (widest_lowest i) (widest_lowest i))
