-- A listing that is stored: the ways through the call on plain values, when it refuses, what it answers and what it leaves.
-- Core: store_lists, store_leaves_lem. The rest is the laws of import and of saving in these words.
-- Assumes nothing.
use Prim.Native.Nat.{ℕ, ◌+◌, ◌*◌, ◌<◌, ◌≤◌, ◌∣◌}
use mathlib.Core.Path.{◌≡◌, refl, sym, ap, subst, ◌∙◌}
use mathlib.Core.Bool.{Bool, true, false}
use mathlib.Core.Logic.{◌↔◌}
use mathlib.Core.List.{List, ◌++◌, map}
use native.Mathlib.Nat.{dvd_of_mod-eq-zero}
use native.Mathlib.Omega.{arith}
use lib.Dec.{ltb}
use lib.ListN.{length, take, drop, length-map}
use lib.Seq.{take_at, length-take-le}
use borrow.Author.Tests.{le-ltb, ltb-true, ltb-false}
use Rattle.std.specs.Prelude.{Result, Ok, Err}
use Rattle.refusal.specs.declared.Refusal.{Refusal}
use Rattle.refusal.specs.declared.Refusal.TheVariants.{TextTooLong, BufferTooShort, BadRecord}
use Rattle.refusal.specs.Paper.{answers, refuse}
use Rattle.refusal.specs.Order.{None}
use Rattle.refusal.proofs.Answers.{answers_not_refuse}
use Rattle.table.specs.declared.Entry.{Entry}
use Rattle.table.specs.Row.{numbers, longest_row, entries, row_of, lowest_entry}
use Rattle.table.specs.Given.{checked_order}
use Rattle.table.specs.Answer.{Outcome, test, or_else, checked}
use Rattle.table.proofs.Following.{checked_follows, checked_length}
use Rattle.table.proofs.Rows.{row_length, row_entries}
use Rattle.judge.specs.Answer.{verdict}
use Rattle.stored.specs.Layout.{bytes_of, length_of, longest, StoredAs}
use Rattle.stored.specs.Paper.{paper_answer}
use Rattle.stored.specs.Answer.{save_check, saved, saved_in}
use Rattle.stored.proofs.Accepted.{row_passes, row_few}
use Rattle.stored.proofs.RoundTrip.{written, saved_file}
use Rattle.stored.proofs.Numbers.{answer_is, save_refused}
use Rattle.file.specs.Answer.{file_verdict}
use Rattle.file.proofs.Judging.{file_judged}
use Rattle.listing.specs.Means.{Listing, BadAt}
use Rattle.listing.specs.Layout.{longest_text}
use Rattle.listing.specs.Given.{table_order}
use Rattle.listing.specs.Paper.{paper_imported}
use Rattle.listing.specs.Answer.{Listed, bad, trains, listed, trains_of, table_check, imported_of, imported, imported_in}
use Rattle.listing.proofs.Texts.{read_listed, listing_read, read_bad, bad_read}
use Rattle.listing.proofs.Importing.{imported_long, imported_short, import_answers, import_few, imported_verdict}
use Rattle.listing.proofs.Again.{checked_lowest, lowest_again}
use Rattle.convert.specs.Given.{StoreRefuses}
use Rattle.convert.specs.Answer.{store_after, store_answer, store_leaves, bytes_after}

-- ---- Trains

-- of trains there is to answer what saving answers of them, as many as they are
saved_trains :
    (es : List Entry) (room : ℕ) →
    saved (row_of es) room
    ≡ or_else (or_else (checked (row_of es)) (test (ltb room (length_of (length es))) BufferTooShort)) (Ok (length_of (length es)))
unfolding save_check
saved_trains es room =
    ap
    (λ (fs : List Entry).
    or_else (or_else (checked (row_of es)) (test (ltb room (length_of (length fs))) BufferTooShort)) (Ok (length_of (length fs))))
    (row_entries es)

-- trains pass as they stand just what they pass in lowest terms
checked_same : (es : List Entry) → checked (row_of (map lowest_entry es)) ≡ checked (row_of es)
checked_same es =
    let divides : numbers ∣ length (row_of es) = dvd_of_mod-eq-zero numbers (omega (arith, row_length es)) in
    ap (λ (fs : List Entry). checked (row_of (map lowest_entry fs))) (sym (row_entries es)) ∙ checked_lowest (row_of es) divides

-- and so it is the same what saving answers of them
saved_same : (es : List Entry) (room : ℕ) → saved (row_of (map lowest_entry es)) room ≡ saved (row_of es) room
saved_same es room =
    saved_trains (map lowest_entry es) room
    ∙ (λ i.
    or_else
    (or_else (checked_same es i) (test (ltb room (length_of (length-map es lowest_entry i))) BufferTooShort))
    (Ok (length_of (length-map es lowest_entry i))))
    ∙ sym (saved_trains es room)

-- ---- The answer

-- a row of the longest table has room for all trains that pass
store_passes :
    (es : List Entry) (room : ℕ) (o : Outcome) → checked (row_of es) ≡ o →
    store_after (or_else (or_else o (test (ltb longest_row (length es * numbers)) BufferTooShort)) (Ok (length es))) room
    ≡ or_else (or_else o (test (ltb room (length_of (length es))) BufferTooShort)) (Ok (length_of (length es)))
unfolding store_after
store_passes es room (Ok u) e =
    let few = checked_length (row_of es) e in
    simp (le-ltb longest_row (length es * numbers) (omega (arith, few, row_length es)))
store_passes es room (Err r) e = refl

-- of a text that is not too long and lists trains there is to answer what saving answers of these
pub store_lists :
    (text : List ℕ) (es : List Entry) (room : ℕ) → length text ≤ longest_text → Listing text es →
    store_answer text room ≡ saved (row_of es) room
unfolding table_check
store_lists text es room short lists =
    ap (λ (a : Result ℕ Refusal). store_after a room) (imported_short text longest_row short ∙ ap (imported_of longest_row) (listing_read text es lists))
    ∙ store_passes es room (checked (row_of es)) refl
    ∙ sym (saved_trains es room)

-- what saving leaves of them is what is left of the listing
store_leaves_lem :
    (text before : List ℕ) (es : List Entry) (s : Result ℕ Refusal) → trains_of (listed text) ≡ es →
    saved_in s (row_of (map lowest_entry es)) before ≡ store_leaves s text before
unfolding saved_in store_leaves
store_leaves_lem text before es (Ok n) e =
    ap (λ (fs : List Entry). bytes_of (map lowest_entry fs) ++ drop n before) (row_entries (map lowest_entry es))
    ∙ ap (λ (fs : List Entry). bytes_of fs ++ drop n before) (lowest_again es)
    ∙ ap (λ (fs : List Entry). bytes_of (map lowest_entry fs) ++ drop n before) (sym e)
store_leaves_lem text before es (Err r) e = refl

-- ---- The ways through the call

-- a refusal leaves what there was
store_refused_leaves : (text before : List ℕ) (r : Refusal) → before ≡ store_leaves (Err r) text before
unfolding store_leaves
store_refused_leaves text before r = refl

pub store_stops : (text : List ℕ) (room : ℕ) (r : Refusal) → Err r ≡ imported text longest_row → Err r ≡ store_answer text room
unfolding store_after
store_stops text room r h = ap (λ (a : Result ℕ Refusal). store_after a room) h

module _ (text : List ℕ) (k : ℕ) (read : Ok k ≡ imported text longest_row) where
  -- the text lists trains, as many as were counted
  lists : (length text ≤ longest_text) × ((es : List Entry) × Listing text es × None (table_order es longest_row) × (k ≡ length es))
  lists = (import_answers text longest_row k).0 (ap paper_imported (sym read))

  -- what was imported is a part of the row
  pub store_within : k * numbers ≤ longest_row
  store_within = omega (arith, import_few text longest_row k (ap paper_imported (sym read)))

  trains_are : trains_of (listed text) ≡ lists.1.0
  trains_are = ap trains_of (listing_read text lists.1.0 lists.1.1)

  module _ (start row : List ℕ) (row_is : row ≡ imported_in (Ok k) text start) where
    -- it is the row of the trains in lowest terms
    front : take (k * numbers) row ≡ row_of (map lowest_entry lists.1.0)
    unfolding imported_in
    front =
        let es : List Entry = lists.1.0 in
        let long : length (row_of (map lowest_entry es)) ≡ k * numbers =
        row_length (map lowest_entry es) ∙ ap (λ (n : ℕ). n * numbers) (length-map es lowest_entry ∙ sym lists.1.3) in
        ap (take (k * numbers)) row_is
        ∙ ap (λ (fs : List Entry). take (k * numbers) (row_of (map lowest_entry fs) ++ drop (k * numbers) start)) trains_are
        ∙ take_at (row_of (map lowest_entry es)) (drop (k * numbers) start) (k * numbers) long

    pub store_saves : (room : ℕ) (s : Result ℕ Refusal) → s ≡ saved (take (k * numbers) row) room → s ≡ store_answer text room
    store_saves room s s-is =
        s-is
        ∙ ap (λ (l : List ℕ). saved l room) front
        ∙ saved_same lists.1.0 room
        ∙ sym (store_lists text lists.1.0 room lists.0 lists.1.1)

    pub store_puts :
        (before now : List ℕ) (s : Result ℕ Refusal) → now ≡ saved_in s (take (k * numbers) row) before → now ≡ store_leaves s text before
    store_puts before now s now-is =
        now-is ∙ ap (λ (l : List ℕ). saved_in s l before) front ∙ store_leaves_lem text before lists.1.0 s trains_are

-- ---- What a text has to say

-- It is too long; or its first bad record is known, or its trains.
pub data Told (text : List ℕ) : Type 0 where
  is_long : longest_text < length text → Told text
  is_bad : (k : ℕ) → length text ≤ longest_text → BadAt k text → Told text
  is_list : (es : List Entry) → length text ≤ longest_text → Listing text es → Told text

pub told : (text : List ℕ) → Told text
told text = go (ltb longest_text (length text)) refl
  where
    read : length text ≤ longest_text → (x : Listed) → listed text ≡ x → Told text
    read h (bad k) e = is_bad k h (read_bad text k e)
    read h (trains es) e = is_list es h (read_listed text es e)

    go : (t : Bool) → ltb longest_text (length text) ≡ t → Told text
    go true e = is_long (ltb-true _ _ e)
    go false e = read (ltb-false _ _ e) (listed text) refl

module _ (text : List ℕ) (room : ℕ) where
  pub store_long : longest_text < length text → store_answer text room ≡ Err TextTooLong
  unfolding store_after
  store_long h = ap (λ (a : Result ℕ Refusal). store_after a room) (imported_long text longest_row h)

  pub store_bad : (k : ℕ) → length text ≤ longest_text → BadAt k text → store_answer text room ≡ Err (BadRecord k)
  unfolding store_after
  store_bad k h y =
      ap (λ (a : Result ℕ Refusal). store_after a room) (imported_short text longest_row h ∙ ap (imported_of longest_row) (bad_read text k y))

-- ---- Refusals

module _ (text : List ℕ) (room number place : ℕ) where
  refused_says : paper_answer (store_answer text room) ≡ refuse number place → StoreRefuses text room number place
  refused_says e = go (told text)
    where
      go : Told text → StoreRefuses text room number place
      go (is_long h) =
          let g : refuse 7 64 ≡ refuse number place = sym (ap paper_answer (store_long text room h)) ∙ e in
          let a : 7 ≡ number = cc in
          let b : 64 ≡ place = cc in
          subst (StoreRefuses text room number) b (subst (λ (n : ℕ). StoreRefuses text room n 64) a (StoreRefuses.too_long h))
      go (is_bad k h y) =
          let g : refuse 18 k ≡ refuse number place = sym (ap paper_answer (store_bad text room k h y)) ∙ e in
          let a : 18 ≡ number = cc in
          let b : k ≡ place = cc in
          subst (StoreRefuses text room number) b (subst (λ (n : ℕ). StoreRefuses text room n k) a (StoreRefuses.bad h y))
      go (is_list es h y) =
          StoreRefuses.trains h y
          ((save_refused (row_of es) room number place).0 (sym (ap paper_answer (store_lists text es room h y)) ∙ e))

says_refused :
    {text : List ℕ} {room number place : ℕ} → StoreRefuses text room number place →
    paper_answer (store_answer text room) ≡ refuse number place
says_refused {text} {room} (StoreRefuses.too_long h) = ap paper_answer (store_long text room h)
says_refused {text} {room} (StoreRefuses.bad {k = k} h y) = ap paper_answer (store_bad text room k h y)
says_refused {text} {room} {number} {place} (StoreRefuses.trains {es = es} h y g) =
    ap paper_answer (store_lists text es room h y) ∙ (save_refused (row_of es) room number place).1 g

pub store_refused :
    (text : List ℕ) (room number place : ℕ) →
    (paper_answer (store_answer text room) ≡ refuse number place) ↔ StoreRefuses text room number place
store_refused text room number place = (refused_says text room number place, says_refused)

refusal_keeps :
    (s : Result ℕ Refusal) (text before : List ℕ) (number place : ℕ) → paper_answer s ≡ refuse number place → store_leaves s text before ≡ before
refusal_keeps (Ok n) text before number place e = absurd (answers_not_refuse e)
refusal_keeps (Err r) text before number place e = sym (store_refused_leaves text before r)

pub store_keeps :
    (text before : List ℕ) (number place : ℕ) →
    paper_answer (store_answer text (length before)) ≡ refuse number place → bytes_after text before ≡ before
store_keeps text before = refusal_keeps (store_answer text (length before)) text before

-- a text above the longest is refused by its length alone
pub store_front :
    (text : List ℕ) (room : ℕ) → longest_text < length text → store_answer (take (longest_text + 1) text) room ≡ store_answer text room
store_front text room h =
    let front : List ℕ = take (longest_text + 1) text in
    let size : length front ≡ longest_text + 1 = length-take-le (longest_text + 1) text (omega arith) in
    store_long front room (omega arith) ∙ sym (store_long text room h)

-- ---- Lengths

-- What is so of a text that is stored: it is short, and its trains pass and have room.
abbrev Stores : (text : List ℕ) (room n : ℕ) → Type 0
Stores text room n =
    (length text ≤ longest_text)
    × ((es : List Entry) × Listing text es × None (checked_order (row_of es)) × (n ≡ length_of (length es)) × (n ≤ room))

pub store_answers : (text : List ℕ) (room n : ℕ) → (paper_answer (store_answer text room) ≡ answers n) ↔ Stores text room n
store_answers text room n = (there, back)
  where
    go : paper_answer (store_answer text room) ≡ answers n → Told text → Stores text room n
    go e (is_long h) = absurd (answers_not_refuse (sym e ∙ ap paper_answer (store_long text room h)))
    go e (is_bad k h y) = absurd (answers_not_refuse (sym e ∙ ap paper_answer (store_bad text room k h y)))
    go e (is_list es h y) =
        let wrote = (answer_is (saved (row_of es) room) n).0 (sym (ap paper_answer (store_lists text es room h y)) ∙ e) in
        let w = written (row_of es) room n wrote in
        let count : length (entries (row_of es)) ≡ length es = ap length (row_entries es) in
        (h, (es, y, (checked_follows (row_of es)).passed.0 w.passes, w.count ∙ ap length_of count, omega (arith, w.count, w.fits)))

    there : paper_answer (store_answer text room) ≡ answers n → Stores text room n
    there e = go e (told text)

    back : Stores text room n → paper_answer (store_answer text room) ≡ answers n
    back (h, (es, y, none, count, fits)) =
        ap paper_answer
        (store_lists text es room h y
        ∙ saved_trains es room
        ∙ ap (λ (o : Outcome). or_else (or_else o (test (ltb room (length_of (length es))) BufferTooShort)) (Ok (length_of (length es)))) (row_passes es none)
        ∙ ap (λ (t : Bool). or_else (test t BufferTooShort) (Ok (length_of (length es)))) (le-ltb room (length_of (length es)) (omega arith))
        ∙ ap Ok (sym count))

pub store_longest : (text : List ℕ) (room n : ℕ) → paper_answer (store_answer text room) ≡ answers n → n ≤ longest
store_longest text room n e =
    let found = ((store_answers text room n).0 e).1 in
    omega (arith, found.3, row_few found.0 found.2)

-- ---- What was stored

module _
    (text before : List ℕ) (es : List Entry) (n : ℕ) (y : Listing text es)
    (e : paper_answer (store_answer text (length before)) ≡ answers n) where
  -- the buffer has the layout of the trains in lowest terms, and then what it had
  after_is : bytes_after text before ≡ bytes_of (map lowest_entry es) ++ drop n before
  unfolding store_leaves
  after_is =
      ap (λ (s : Result ℕ Refusal). store_leaves s text before) ((answer_is (store_answer text (length before)) n).0 e)
      ∙ ap (λ (x : Listed). bytes_of (map lowest_entry (trains_of x)) ++ drop n before) (listing_read text es y)

  pub store_written :
      (bytes_after text before ≡ bytes_of (map lowest_entry es) ++ drop n before)
      × StoredAs (take n (bytes_after text before)) (map lowest_entry es)
  unfolding saved_in
  store_written =
      let wrote = (answer_is (saved (row_of es) (length before)) n).0 (sym (ap paper_answer (store_lists text es (length before) short y)) ∙ e) in
      let file : saved_in (Ok n) (row_of es) before ≡ bytes_after text before =
      ap (λ (fs : List Entry). bytes_of (map lowest_entry fs) ++ drop n before) (row_entries es) ∙ sym after_is in (
        after_is,
        subst (λ (l : List ℕ). StoredAs (take n l) (map lowest_entry es)) file
            (subst (λ (fs : List Entry). StoredAs (take n (saved_in (Ok n) (row_of es) before)) (map lowest_entry fs)) (row_entries es)
            (saved_file (row_of es) before n wrote)),
      )
    where
      short : length text ≤ longest_text
      short = ((store_answers text (length before) n).0 e).0

  pub store_verdict : file_verdict (take n (bytes_after text before)) ≡ verdict (row_of es)
  store_verdict = file_judged (take n (bytes_after text before)) (map lowest_entry es) store_written.1 ∙ imported_verdict es
