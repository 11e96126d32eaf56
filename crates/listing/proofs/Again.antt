-- What is exported and imported again is the row in lowest terms, and importing, exporting and importing again changes nothing.
-- Core: checked_lowest, lowest_again, row_words. The rest follows from these, from text_lists and from the laws of import.
-- Assumes nothing.
use Prim.Native.Nat.{ℕ, zero, suc, ◌*◌, ◌%◌, ◌<◌, ◌≤◌, ◌∣◌}
use mathlib.Core.Path.{◌≡◌, refl, sym, ap, subst, ◌∙◌}
use mathlib.Core.Bool.{not}
use mathlib.Core.List.{List, [], ◌∷◌, ◌++◌, map, flat_map}
use native.Mathlib.Nat.{dvd_of_mod-eq-zero}
use native.Mathlib.Omega.{arith}
use lib.Dec.{eqb, ltb}
use lib.ListN.{length, take, drop, length-map}
use lib.Seq.{take_at}
use Rattle.std.specs.Prelude.{Ok}
use Rattle.refusal.specs.declared.Refusal.TheVariants.{TrainCount}
use Rattle.refusal.specs.Paper.{answers}
use Rattle.refusal.specs.Order.{None}
use Rattle.refusal.proofs.Orders.{none_of_both}
use Rattle.fraction.specs.declared.Fraction.{Fraction}
use Rattle.fraction.proofs.Lowest.{lowest_twice}
use Rattle.table.specs.declared.Entry.{Entry}
use Rattle.table.specs.Row.{Words, numbers, longest_row, entries, row_of, lowest_entry, lowest_row}
use Rattle.table.specs.Given.{checked_order}
use Rattle.table.specs.Answer.{test, or_else, first_refusal, entry_check, checked}
use Rattle.table.proofs.Following.{not_above, checked_follows, checked_whole}
use Rattle.table.proofs.Terms.{entry_lowest, first_lowest}
use Rattle.table.proofs.Rows.{row_length, row_entries, lowest_row_same}
use Rattle.listing.specs.Means.{Listing}
use Rattle.listing.specs.Layout.{text_of, longest_text, longest_export, Small}
use Rattle.listing.specs.Given.{table_order}
use Rattle.listing.specs.Paper.{paper_imported, paper_exported}
use Rattle.listing.specs.Answer.{imported, row_after, exported, buffer_after}
use Rattle.listing.proofs.Importing.{listed_entries, import_answers, import_written}
use Rattle.listing.proofs.Layouts.{Sayable}
use Rattle.listing.proofs.Lists.{text_lists}
use Rattle.listing.proofs.Exporting.{exporting, export_written, way_written, lowest_all, row_sayable, row_within}

-- ---- Lowest terms

-- a row of whole trains passes just what it passes in lowest terms
pub checked_lowest : (row : List ℕ) → numbers ∣ length row → checked (lowest_row row) ≡ checked row
unfolding checked
checked_lowest row divides =
    let same : length (lowest_row row) ≡ length row = sym (lowest_row_same row divides).lengths in
    let trains : first_refusal entry_check 0 (entries (lowest_row row)) ≡ first_refusal entry_check 0 (entries row) =
    ap (first_refusal entry_check 0) (row_entries (map lowest_entry (entries row))) ∙ first_lowest entry_check entry_lowest 0 (entries row) in
    λ i.
    or_else (test (not (eqb (same i % numbers) 0)) TrainCount) (or_else (test (ltb longest_row (same i)) TrainCount) (trains i))

-- lowest terms of lowest terms are the same
pub lowest_again : (es : List Entry) → map lowest_entry (map lowest_entry es) ≡ map lowest_entry es
lowest_again [] = refl
lowest_again (e ∷ es) =
    λ i.
    record { phase = lowest_twice e.phase i; period = lowest_twice e.period i; duration = lowest_twice e.duration i }
    ∷ lowest_again es i

-- ---- The row of some trains

-- one number more
word_more : (x : ℕ) (l : List ℕ) → x < 4294967296 → Words l → Words (x ∷ l)
word_more x l h rest zero = h
word_more x l h rest (suc i) = rest i

time_words : (f : Fraction) (l : List ℕ) → Small f → Words l → Words (f.numerator ∷ f.denominator ∷ l)
time_words f l small rest = word_more f.numerator (f.denominator ∷ l) small.numerator (word_more f.denominator l small.denominator rest)

-- the row of trains with small numbers has such numbers
row_words : (es : List Entry) → Sayable es → Words (row_of es)
unfolding flat_map
row_words [] each = λ i. omega arith
row_words (e ∷ es) each =
    let small = (each 0 (omega arith)).0 in
    let behind : List ℕ = e.duration.numerator ∷ e.duration.denominator ∷ row_of es in
    let duration = time_words e.duration (row_of es) small.duration (row_words es (λ i h. each (suc i) (omega arith))) in
    let period = time_words e.period behind small.period duration in
    time_words e.phase (e.period.numerator ∷ e.period.denominator ∷ behind) small.phase period

-- ---- Exporting, and then importing

pub import_after_export :
    (row out before : List ℕ) (n : ℕ) → Words row →
    paper_exported (exported row (length out)) ≡ answers n → length (entries row) * numbers ≤ length before →
    (paper_imported (imported (take n (buffer_after row out)) (length before)) ≡ answers (length (entries row)))
    × (row_after (take n (buffer_after row out)) before ≡ lowest_row row ++ drop (length (entries row) * numbers) before)
unfolding None
import_after_export row out before n words e room =
    let x = exporting row (length out) n e in
    let es : List Entry = map lowest_entry (entries row) in
    let count : length es ≡ length (entries row) = length-map (entries row) lowest_entry in
    let file : take n (buffer_after row out) ≡ text_of es =
    ap (take n) (export_written row out n e) ∙ take_at (text_of es) (drop n out) n (sym x.count) in
    let short : length (text_of es) ≤ longest_text = omega (arith, row_within row words x.passes) in
    let lists : Listing (text_of es) es = text_lists es (row_sayable row words x.passes) in
    let passes : checked (row_of es) ≡ Ok tt =
    checked_lowest row (dvd_of_mod-eq-zero numbers (checked_whole row x.passes)) ∙ x.passes in
    let none : None (table_order es (length before)) =
    (none_of_both (checked_order (row_of es)) _).1 ((checked_follows (row_of es)).passed.0 passes, ((λ l. omega arith), tt)) in
    subst
    (λ (l : List ℕ).
    (paper_imported (imported l (length before)) ≡ answers (length (entries row)))
    × (row_after l before ≡ lowest_row row ++ drop (length (entries row) * numbers) before))
    (sym file) (
      (import_answers (text_of es) (length before) (length (entries row))).1 (short, (es, lists, none, sym count)),
      import_written (text_of es) before es short lists none
          ∙ ap (λ (fs : List Entry). row_of fs ++ drop (length es * numbers) before) (lowest_again (entries row))
          ∙ ap (λ (k : ℕ). row_of es ++ drop (k * numbers) before) count,
    )

-- ---- Importing, exporting and importing again

-- What is so of a text that is imported.
record Importing (text : List ℕ) (room k : ℕ) : Type 0 where
  trains : List Entry
  short : length text ≤ longest_text
  lists : Listing text trains
  none : None (table_order trains room)
  count : k ≡ length trains
  passes : checked (row_of (map lowest_entry trains)) ≡ Ok tt
  fits : length trains * numbers ≤ room
  words : Words (row_of (map lowest_entry trains))

importing : (text : List ℕ) (room k : ℕ) → paper_imported (imported text room) ≡ answers k → Importing text room k
unfolding None
importing text room k e =
    let a = (import_answers text room k).0 e in
    let es : List Entry = a.1.0 in
    let both = (none_of_both (checked_order (row_of es)) _).0 a.1.2 in
    let divides : numbers ∣ length (row_of es) = dvd_of_mod-eq-zero numbers (omega (arith, row_length es)) in
    record {
      trains = es;
      short = a.0;
      lists = a.1.1;
      none = a.1.2;
      count = a.1.3;
      passes =
          ap (λ (fs : List Entry). checked (row_of (map lowest_entry fs))) (sym (row_entries es))
          ∙ checked_lowest (row_of es) divides
          ∙ (checked_follows (row_of es)).passed.1 both.0;
      fits = not_above both.1.0;
      words = row_words (map lowest_entry es) (lowest_all es (listed_entries text es a.1.1));
    }

pub import_again :
    (text before out : List ℕ) (k : ℕ) →
    paper_imported (imported text (length before)) ≡ answers k → longest_export ≤ length out →
    (n : ℕ)
    × (paper_exported (exported (take (k * numbers) (row_after text before)) (length out)) ≡ answers n)
    × (paper_imported (imported (take n (buffer_after (take (k * numbers) (row_after text before)) out)) (length before)) ≡ answers k)
    × (row_after (take n (buffer_after (take (k * numbers) (row_after text before)) out)) before ≡ row_after text before)
import_again text before out k e long =
    let x = importing text (length before) k e in
    let es : List Entry = map lowest_entry x.trains in
    let row : List ℕ = row_of es in
    let after : row_after text before ≡ row ++ drop (length x.trains * numbers) before =
    import_written text before x.trains x.short x.lists x.none in
    let size : length es ≡ length x.trains = length-map x.trains lowest_entry in
    let front : take (k * numbers) (row_after text before) ≡ row =
    ap (take (k * numbers)) after
    ∙ take_at row (drop (length x.trains * numbers) before) (k * numbers) (row_length es ∙ ap (λ (i : ℕ). i * numbers) (size ∙ sym x.count)) in
    let same : entries row ≡ es = row_entries es in
    let count : length (entries row) ≡ length x.trains = ap length same ∙ size in
    let n : ℕ = length (text_of (map lowest_entry (entries row))) in
    let wrote : paper_exported (exported row (length out)) ≡ answers n =
    ap paper_exported
    (sym (way_written row (length out) (Ok tt) (sym x.passes) refl (omega (arith, row_within row x.words x.passes)))) in
    let trip = import_after_export row out before n x.words wrote (omega (arith, x.fits)) in
    let again : lowest_row row ++ drop (length (entries row) * numbers) before ≡ row_after text before =
    ap (λ (fs : List Entry). row_of fs ++ drop (length (entries row) * numbers) before) (ap (map lowest_entry) same ∙ lowest_again x.trains)
    ∙ ap (λ (i : ℕ). row ++ drop (i * numbers) before) count
    ∙ sym after in
    subst
    (λ (l : List ℕ).
    (n : ℕ)
    × (paper_exported (exported l (length out)) ≡ answers n)
    × (paper_imported (imported (take n (buffer_after l out)) (length before)) ≡ answers k)
    × (row_after (take n (buffer_after l out)) before ≡ row_after text before))
    (sym front)
    (n, wrote, trip.0 ∙ ap answers (count ∙ sym x.count), trip.1 ∙ again)
