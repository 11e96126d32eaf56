-- A stored table that is listed: the ways through the call on plain values, when it refuses, what it answers and what it leaves.
-- Core: list_trains, list_leaves_lem, number_small. The rest is the laws of loading and of export in these words.
-- Assumes nothing.
use Prim.Native.Nat.{ℕ, zero, suc, ◌+◌, ◌*◌, ◌<◌, ◌≤◌}
use mathlib.Core.Path.{◌≡◌, refl, sym, ap, subst, ◌∙◌}
use mathlib.Core.Logic.{◌↔◌}
use mathlib.Core.List.{List, ◌++◌, map}
use native.Mathlib.Omega.{arith}
use lib.Dec.{ltb}
use lib.ListN.{length, get_or, take, drop}
use borrow.Author.Tests.{le-ltb}
use Rattle.std.specs.Prelude.{Result, Ok, Err}
use Rattle.refusal.specs.declared.Refusal.{Refusal}
use Rattle.refusal.specs.declared.Refusal.TheVariants.{BufferTooShort}
use Rattle.refusal.specs.Paper.{answers, refuse}
use Rattle.refusal.specs.Order.{None, Gives}
use Rattle.refusal.proofs.Orders.{none_of_both}
use Rattle.refusal.proofs.Answers.{answers_not_refuse}
use Rattle.table.specs.declared.Entry.{Entry}
use Rattle.table.specs.Row.{numbers, longest_row, record_length, entries, no_entry, row_of, lowest_entry}
use Rattle.table.specs.Answer.{Outcome, test, or_else}
use Rattle.table.proofs.InOrder.{ltb_is, Follows, follows_then, follows_last}
use Rattle.table.proofs.Following.{not_above}
use Rattle.table.proofs.Rows.{row_entries}
use Rattle.stored.specs.Layout.{head_length, longest, Bytes, StoredAs}
use Rattle.stored.specs.Found.{number32, entry_in, records_in, count_in, trains_in}
use Rattle.stored.specs.Given.{load_order}
use Rattle.stored.specs.Answer.{head_check, load_check, loaded, loaded_in}
use Rattle.stored.proofs.Following.{load_follows, answer_refused, answer_value}
use Rattle.stored.proofs.Loading.{head_passed, head_front, load_head}
use Rattle.stored.proofs.Again.{layout_read, bytes_behind}
use Rattle.stored.proofs.Accepted.{row_passes, row_few, accepted, accepted_row, accepted_stored, stored_loads}
use Rattle.stored.proofs.RoundTrip.{all_already}
use Rattle.listing.specs.Layout.{text_of, longest_export, SmallEntry}
use Rattle.listing.specs.Paper.{paper_exported}
use Rattle.listing.specs.Answer.{export_check, exported, exported_in}
use Rattle.listing.proofs.Layouts.{Sayable, text_within}
use Rattle.listing.proofs.Answered.{answer_is, answer_gives, answer_passes}
use Rattle.convert.specs.Given.{list_order}
use Rattle.convert.specs.Answer.{list_answer, list_leaves, text_after}

-- ---- Trains in lowest terms

-- the trains of a stored table are in lowest terms as they stand
stored_lowest : (bs : List ℕ) (es : List Entry) → StoredAs bs es → map lowest_entry (entries (row_of es)) ≡ es
stored_lowest bs es stored = ap (map lowest_entry) (row_entries es) ∙ all_already es stored.lowest

pub stored_trains : (bs : List ℕ) (es : List Entry) → StoredAs bs es → trains_in bs ≡ es
stored_trains bs es stored = ap trains_in stored.layout ∙ layout_read es

-- it is loaded into a row of the longest table
stored_passes : (bs : List ℕ) (es : List Entry) → StoredAs bs es → load_check bs longest_row ≡ Ok tt
stored_passes bs es stored =
    ((answer_value _ _ _).0 (stored_loads bs es longest_row stored (omega (arith, row_few es stored.passes)))).0

-- ---- The answer

-- of a stored table there is only the room for its text to be looked at
pub list_passed :
    (bs : List ℕ) (es : List Entry) (room : ℕ) → StoredAs bs es →
    list_answer bs room ≡ or_else (test (ltb room (length (text_of es))) BufferTooShort) (Ok (length (text_of es)))
unfolding list_answer
list_passed bs es room stored =
    λ i.
    or_else
    (or_else (stored_passes bs es stored i) (test (ltb room (length (text_of (stored_trains bs es stored i)))) BufferTooShort))
    (Ok (length (text_of (stored_trains bs es stored i))))

-- and so there is to answer what export answers of its trains
list_trains : (bs : List ℕ) (es : List Entry) (room : ℕ) → StoredAs bs es → exported (row_of es) room ≡ list_answer bs room
unfolding export_check
list_trains bs es room stored =
    (λ i.
    or_else
    (or_else (row_passes es stored.passes i) (test (ltb room (length (text_of (stored_lowest bs es stored i)))) BufferTooShort))
    (Ok (length (text_of (stored_lowest bs es stored i)))))
    ∙ sym (list_passed bs es room stored)

-- what export leaves of them is what is left of the table
list_leaves_lem :
    (bs before : List ℕ) (es : List Entry) (x : Result ℕ Refusal) → StoredAs bs es → exported_in x (row_of es) before ≡ list_leaves x bs before
unfolding exported_in list_leaves
list_leaves_lem bs before es (Ok n) stored =
    ap (λ (fs : List Entry). text_of fs ++ drop n before) (stored_lowest bs es stored ∙ sym (stored_trains bs es stored))
list_leaves_lem bs before es (Err r) stored = refl

-- ---- The ways through the call

-- a refusal leaves what there was
list_refused_leaves : (bs before : List ℕ) (r : Refusal) → before ≡ list_leaves (Err r) bs before
unfolding list_leaves
list_refused_leaves bs before r = refl

-- a refusal of loading is handed on
list_unloaded : (bs : List ℕ) (room : ℕ) (r : Refusal) → loaded bs longest_row ≡ Err r → list_answer bs room ≡ Err r
unfolding list_answer
list_unloaded bs room r e =
    let n : ℕ = length (text_of (trains_in bs)) in
    ap (λ (o : Outcome). or_else (or_else o (test (ltb room n) BufferTooShort)) (Ok n))
    ((answer_refused (load_check bs longest_row) (count_in bs) r).0 e)

pub list_stops : (bs : List ℕ) (room : ℕ) (r : Refusal) → Err r ≡ loaded bs longest_row → Err r ≡ list_answer bs room
list_stops bs room r h = sym (list_unloaded bs room r (sym h))

module _ (bs : List ℕ) (k : ℕ) (read : Ok k ≡ loaded bs longest_row) where
  -- what was loaded is a part of the row
  pub list_within : k * numbers ≤ longest_row
  list_within = (accepted bs longest_row k (sym read)).fits

  module _ (bytes : Bytes bs) (start row : List ℕ) (row_is : row ≡ loaded_in (Ok k) bs start) where
    stored : StoredAs bs (trains_in bs)
    stored = (accepted_stored bs longest_row k bytes (accepted bs longest_row k (sym read))).0

    -- it is the row of the trains
    front : take (k * numbers) row ≡ row_of (trains_in bs)
    front = ap (take (k * numbers)) row_is ∙ accepted_row bs start longest_row k (accepted bs longest_row k (sym read))

    pub list_exports : (room : ℕ) (x : Result ℕ Refusal) → x ≡ exported (take (k * numbers) row) room → x ≡ list_answer bs room
    list_exports room x x-is = x-is ∙ ap (λ (l : List ℕ). exported l room) front ∙ list_trains bs (trains_in bs) room stored

    pub list_puts :
        (before now : List ℕ) (x : Result ℕ Refusal) → now ≡ exported_in x (take (k * numbers) row) before → now ≡ list_leaves x bs before
    list_puts before now x now-is =
        now-is ∙ ap (λ (l : List ℕ). exported_in x l before) front ∙ list_leaves_lem bs before (trains_in bs) x stored

-- ---- Refusals

module _ (bs : List ℕ) (room : ℕ) where
  list_follows :
      Follows (or_else (load_check bs longest_row) (test (ltb room (length (text_of (trains_in bs)))) BufferTooShort)) (list_order bs room)
  list_follows =
      follows_then (load_check bs longest_row) _ (load_order bs longest_row) _ (load_follows bs longest_row)
      (λ passed. follows_last _ BufferTooShort _ (ltb_is room (length (text_of (trains_in bs)))))

  pub list_refused : (number train : ℕ) → (paper_exported (list_answer bs room) ≡ refuse number train) ↔ Gives (list_order bs room) number train
  unfolding list_answer
  list_refused = answer_gives _ (list_order bs room) list_follows _

  -- where none holds the length of the text is answered
  pub list_none :
      (n : ℕ) → (paper_exported (list_answer bs room) ≡ answers n) ↔ (None (list_order bs room) × (n ≡ length (text_of (trains_in bs))))
  unfolding list_answer
  list_none = answer_passes _ (list_order bs room) list_follows _

refusal_keeps :
    (x : Result ℕ Refusal) (bs before : List ℕ) (number train : ℕ) → paper_exported x ≡ refuse number train → list_leaves x bs before ≡ before
refusal_keeps (Ok n) bs before number train e = absurd (answers_not_refuse e)
refusal_keeps (Err r) bs before number train e = sym (list_refused_leaves bs before r)

pub list_keeps :
    (bs before : List ℕ) (number train : ℕ) →
    paper_exported (list_answer bs (length before)) ≡ refuse number train → text_after bs before ≡ before
list_keeps bs before = refusal_keeps (list_answer bs (length before)) bs before

-- ---- Lengths

-- a stored table with room for its text is listed
pub list_stored :
    (bs : List ℕ) (es : List Entry) (room : ℕ) → StoredAs bs es → length (text_of es) ≤ room →
    paper_exported (list_answer bs room) ≡ answers (length (text_of es))
list_stored bs es room stored fits =
    ap paper_exported (list_passed bs es room stored)
    ∙ (simp (le-ltb room (length (text_of es)) fits))

pub list_answers :
    (bs : List ℕ) (room n : ℕ) → Bytes bs →
    (paper_exported (list_answer bs room) ≡ answers n) ↔ ((es : List Entry) × StoredAs bs es × (n ≡ length (text_of es)) × (n ≤ room))
unfolding None
list_answers bs room n bytes = (there, back)
  where
    there : paper_exported (list_answer bs room) ≡ answers n → (es : List Entry) × StoredAs bs es × (n ≡ length (text_of es)) × (n ≤ room)
    there e =
        let told = (list_none bs room n).0 e in
        let both = (none_of_both (load_order bs longest_row) _).0 told.0 in
        let passed = (load_follows bs longest_row).passed.1 both.0 in
        let a = accepted bs longest_row (count_in bs) ((answer_value _ _ _).1 (passed, refl)) in
        (trains_in bs, (accepted_stored bs longest_row (count_in bs) bytes a).0, told.1, omega (arith, told.1, not_above both.1.0))

    back : (es : List Entry) × StoredAs bs es × (n ≡ length (text_of es)) × (n ≤ room) → paper_exported (list_answer bs room) ≡ answers n
    back (es, stored, count, fits) = list_stored bs es room stored (omega arith) ∙ ap answers (sym count)

pub list_written :
    (bs before : List ℕ) (es : List Entry) (n : ℕ) → StoredAs bs es → paper_exported (list_answer bs (length before)) ≡ answers n →
    text_after bs before ≡ text_of es ++ drop n before
unfolding list_leaves
list_written bs before es n stored e =
    ap (λ (x : Result ℕ Refusal). list_leaves x bs before) ((answer_is (list_answer bs (length before)) n).0 e)
    ∙ ap (λ (fs : List Entry). text_of fs ++ drop n before) (stored_trains bs es stored)

-- ---- Numbers that are read from bytes

module _ (bs : List ℕ) (bytes : Bytes bs) where
  number_small : (at : ℕ) → number32 bs at < 4294967296
  unfolding number32
  number_small at = omega (arith, bytes at, bytes (at + 1), bytes (at + 2), bytes (at + 2 + 1))

  entry_small : SmallEntry (entry_in bs 0)
  entry_small =
      record {
        phase = record { numerator = number_small 0; denominator = number_small (0 + 4) };
        period = record { numerator = number_small (0 + 8); denominator = number_small (0 + 8 + 4) };
        duration = record { numerator = number_small (0 + 16); denominator = number_small (0 + 16 + 4) };
      }

records_small :
    (count : ℕ) (bs : List ℕ) → Bytes bs → (i : ℕ) → i < length (records_in record_length count bs) →
    SmallEntry (get_or (records_in record_length count bs) i no_entry)
unfolding records_in
records_small zero bs bytes i h = absurd (omega arith)
records_small (suc count) bs bytes zero h = entry_small bs bytes
records_small (suc count) bs bytes (suc i) h =
    records_small count (drop record_length bs) (bytes_behind record_length bs bytes) i (omega arith)

-- the trains of a stored table can be written as text
pub stored_sayable : (bs : List ℕ) (es : List Entry) → Bytes bs → StoredAs bs es → Sayable es
stored_sayable bs es bytes stored i h =
    let small : (k : ℕ) → k < length (trains_in bs) → SmallEntry (get_or (trains_in bs) k no_entry) =
    records_small (count_in bs) (drop head_length bs) (bytes_behind head_length bs bytes) in
    let low = stored.lowest i h in (
      subst (λ (fs : List Entry). (k : ℕ) → k < length fs → SmallEntry (get_or fs k no_entry)) (stored_trains bs es stored) small i h,
      record { phase = low.phase.positive; period = low.period.positive; duration = low.duration.positive },
    )

-- and their text is not too long
pub stored_within : (bs : List ℕ) (es : List Entry) → Bytes bs → StoredAs bs es → length (text_of es) ≤ longest_export
stored_within bs es bytes stored =
    omega (arith, text_within es (λ i h. (stored_sayable bs es bytes stored i h).0), row_few es stored.passes)

pub list_longest : (bs : List ℕ) (room n : ℕ) → Bytes bs → paper_exported (list_answer bs room) ≡ answers n → n ≤ longest_export
list_longest bs room n bytes e =
    let found = (list_answers bs room n bytes).0 e in
    omega (arith, found.2, stored_within bs found.0 bytes found.1)

-- ---- An input that is too long

pub list_front : (bs : List ℕ) (room : ℕ) → longest < length bs → list_answer (take (longest + 1) bs) room ≡ list_answer bs room
list_front bs room h = go (head_check bs) refl
  where
    front : List ℕ
    front = take (longest + 1) bs

    go : (o : Outcome) → head_check bs ≡ o → list_answer front room ≡ list_answer bs room
    go (Ok u) e = let found = head_passed bs e in absurd (omega (arith, found.whole, found.few))
    go (Err r) e =
        list_unloaded front room r (sym (load_head front longest_row (head_check bs) (sym (head_front bs h)) r e))
        ∙ sym (list_unloaded bs room r (sym (load_head bs longest_row (head_check bs) refl r e)))
