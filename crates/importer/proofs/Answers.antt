-- What `import` answers, on plain values: the loop that reads all records, the checks of the trains, and one law for each return.
-- Core: tallied_more, trains_table. The rest follows from these and from the laws of listing.
-- Assumes nothing.
use Prim.Native.Nat.{ℕ, suc, ◌+◌, ◌*◌, ◌%◌, ◌<◌, ◌≤◌}
use denote.Ref.{Bor}
use mathlib.Core.Path.{◌≡◌, refl, sym, ap, ◌∙◌}
use mathlib.Core.Bool.{Bool, true, false}
use mathlib.Core.List.{List, [], ◌∷◌, ◌++◌, map}
use native.Mathlib.Nat.{add-zero}
use native.Mathlib.Numerals.{add-one}
use native.Mathlib.Omega.{arith}
use lib.Dec.{ltb}
use lib.ListN.{length, drop, length-map}
use borrow.Author.Tests.{lt-ltb, le-ltb, ltb-true, ltb-false}
use Rattle.std.specs.Prelude.{Option, Some, None, Result, Ok, Err}
use Rattle.std.specs.Option.{ok_or}
use Rattle.std.specs.Result.{result_and}
use Rattle.refusal.specs.declared.Refusal.{Refusal}
use Rattle.refusal.specs.declared.Refusal.TheVariants.{TrainCount, TextTooLong, BufferTooShort, BadRecord}
use Rattle.lent.specs.Lent.{over}
use Rattle.lent.proofs.Over.{over_front}
use Rattle.decimal.specs.Answer.{found}
use Rattle.table.specs.declared.Entry.{Entry}
use Rattle.table.specs.Row.{capacity, numbers, row_of, lowest_entry}
use Rattle.table.specs.Answer.{Outcome, test, or_else, first_refusal, entry_check, checked}
use Rattle.table.proofs.Checks.{refused_not_passed, checked_longer, checked_trains}
use Rattle.table.proofs.Rows.{row_length, row_entries}
use Rattle.listing.specs.Layout.{longest_text}
use Rattle.listing.specs.Answer.{heading_in, entry_in, Listed, bad, trains, one_more, entries_from, listed, trains_of}
use Rattle.listing.specs.Answer.{table_check, imported_of, imported, imported_in}
use Rattle.listing.proofs.Records.{entry_shorter}
use Rattle.listing.proofs.Texts.{entries_in, entries_bad, entries_on, listed_bad, listed_on}
use Rattle.importer.specs.declared.Scanned.{Scanned}
use Rattle.importer.specs.Inside.{told, behind, listed_from, tallied, trains_check, Ready}
use Rattle.importer.proofs.Ways.{behind_none, behind_some}

-- ---- Core laws

or_else_lem : {A : Type 0} (o p : Outcome) (q : Result A Refusal) → or_else (or_else o p) q ≡ or_else o (or_else p q)
or_else_lem (Ok u) p q = refl
or_else_lem (Err r) p q = refl

or_passed : (o : Outcome) → o ≡ or_else o (Ok tt)
or_passed (Ok u) = refl
or_passed (Err r) = refl

-- what the library says of two outcomes one after the other
and_else : (o p : Outcome) → result_and o p ≡ or_else o p
and_else (Ok u) p = refl
and_else (Err r) p = refl

zero_not_one : ◌≡◌ {A = ℕ} 0 1 → ⊥
zero_not_one z = omega arith

-- one train more stands before the others
tallied_more : (n : ℕ) (o : Outcome) (e : Entry) (x : Listed) → tallied (n + 1) (or_else o (entry_check n e)) x ≡ tallied n o (one_more e x)
unfolding one_more first_refusal
tallied_more n o e (bad k) = refl
tallied_more n o e (trains es) =
    let count : n + 1 + length es ≡ n + length (e ∷ es) = omega arith in
    let outcome : or_else (or_else o (entry_check n e)) (first_refusal entry_check (n + 1) es)
    ≡ or_else o (or_else (entry_check n e) (first_refusal entry_check (suc n) es)) =
    ap (λ (k : ℕ). or_else (or_else o (entry_check n e)) (first_refusal entry_check k es)) (add-one n)
    ∙ or_else_lem o (entry_check n e) (first_refusal entry_check (suc n) es) in
    λ i. Ok (record { count = count i; trains = outcome i })

-- ---- The loop that reads all records

pub train_less : (l next : List ℕ) (a : Entry) → found a next ≡ entry_in l → length next < length l
train_less l next a e = entry_shorter l next a (sym e)

module _ (records : List ℕ) where
  -- The records so far are good, and with what was found of them all that is to be found stands from here on.
  pub record Scanning (rest : List ℕ) (count : ℕ) (outcome : Outcome) : Type 0 where
    pub answers : tallied count outcome (entries_in (count + 2) rest) ≡ tallied 0 (Ok tt) (listed_from records)
    pub room : count + length rest ≤ length records

  pub scan_begins : Scanning records 0 (Ok tt)
  scan_begins = record { answers = refl; room = omega arith }

  module _ (rest : List ℕ) (count : ℕ) (outcome : Outcome) (so_far : Scanning rest count outcome) where
    pub scan_bad :
        (length rest ≡ 0 → ⊥) → (r : Option (Entry × Bor (List ℕ))) → told r ≡ entry_in rest → (q : Refusal) →
        Err q ≡ ok_or r (BadRecord (count + 2)) → Err q ≡ tallied 0 (Ok tt) (listed_from records)
    scan_bad h None e q is =
        let same : q ≡ BadRecord (count + 2) = cc in
        ap (λ (p : Refusal). Err p) same ∙ ap (tallied count outcome) (sym (entries_bad (count + 2) rest (omega arith) (sym e)))
        ∙ so_far.answers
    scan_bad h (Some v) e q is = absurd (zero_not_one cc)

    pub scan_on :
        (next : List ℕ) (a : Entry) → found a next ≡ entry_in rest → (o p : Outcome) → o ≡ entry_check count a → p ≡ result_and outcome o →
        Scanning next (count + 1) p
    scan_on next a e o p o_is p_is =
        let further : count + 1 + 2 ≡ suc (count + 2) = omega arith in
        let whole : p ≡ or_else outcome (entry_check count a) = p_is ∙ and_else outcome o ∙ ap (or_else outcome) o_is in
        record {
          answers =
              ap (λ (q : Outcome). tallied (count + 1) q (entries_in (count + 1 + 2) next)) whole
              ∙ ap (λ (k : ℕ). tallied (count + 1) (or_else outcome (entry_check count a)) (entries_in k next)) further
              ∙ tallied_more count outcome a (entries_in (suc (count + 2)) next)
              ∙ ap (tallied count outcome) (sym (entries_on (count + 2) rest next a (sym e)))
              ∙ so_far.answers;
          room = omega (arith, train_less rest next a e, so_far.room);
        }

    pub scan_ends : length rest ≡ 0 → Ok (record { count = count; trains = outcome }) ≡ tallied 0 (Ok tt) (listed_from records)
    unfolding entries_from first_refusal
    scan_ends h = go rest h so_far.answers
      where
        go :
            (l : List ℕ) → length l ≡ 0 → tallied count outcome (entries_in (count + 2) l) ≡ tallied 0 (Ok tt) (listed_from records) →
            Ok (record { count = count; trains = outcome }) ≡ tallied 0 (Ok tt) (listed_from records)
        go [] h e = (λ i. Ok (record { count = sym (add-zero count) i; trains = or_passed outcome i })) ∙ e
        go (b ∷ bs) h e = absurd (omega arith)

-- ---- The checks of the trains

-- where all pass there is room
trains_fit : (s : Scanned) (room : ℕ) → trains_check s room ≡ Ok tt → s.count * numbers ≤ room
unfolding trains_check
trains_fit s room e = go (test (ltb capacity s.count) TrainCount) s.trains (ltb room (s.count * numbers)) refl e
  where
    go :
        (a b : Outcome) (t : Bool) → ltb room (s.count * numbers) ≡ t → or_else a (or_else b (test t BufferTooShort)) ≡ Ok tt →
        s.count * numbers ≤ room
    go (Err r) b t h e = absurd (refused_not_passed r e)
    go (Ok u) (Err r) t h e = absurd (refused_not_passed r e)
    go (Ok u) (Ok v) true h e = absurd (refused_not_passed BufferTooShort e)
    go (Ok u) (Ok v) false h e = ltb-false room (s.count * numbers) h

-- the row of some trains has refusal 1 exactly where they are too many, and else theirs
trains_checked : (es : List Entry) → checked (row_of es) ≡ or_else (test (ltb capacity (length es)) TrainCount) (first_refusal entry_check 0 es)
trains_checked es = go (ltb capacity (length es)) refl
  where
    even : length (row_of es) % numbers ≡ 0
    even = omega (arith, row_length es)

    go : (t : Bool) → ltb capacity (length es) ≡ t → checked (row_of es) ≡ or_else (test t TrainCount) (first_refusal entry_check 0 es)
    go true e = sym (checked_longer (row_of es) even (omega (arith, row_length es, ltb-true capacity (length es) e)))
    go false e =
        sym (checked_trains (row_of es) even (omega (arith, row_length es, ltb-false capacity (length es) e)))
        ∙ ap (first_refusal entry_check 0) (row_entries es)

-- with the count and the first refusal of the trains, the check is that of the whole table
trains_table :
    (es : List Entry) (room : ℕ) →
    trains_check (record { count = length es; trains = first_refusal entry_check 0 es }) room ≡ table_check es room
unfolding trains_check table_check
trains_table es room =
    sym (or_else_lem (test (ltb capacity (length es)) TrainCount) (first_refusal entry_check 0 es) _)
    ∙ ap (λ (o : Outcome). or_else o (test (ltb room (length es * numbers)) BufferTooShort)) (sym (trains_checked es))

-- ---- The ways through `import`

-- what is known of a listing that was read
record Known (x : Listed) (s : Scanned) : Type 0 where
  good : x ≡ trains (trains_of x)
  same : s ≡ record { count = length (trains_of x); trains = first_refusal entry_check 0 (trains_of x) }

known : (x : Listed) (s : Scanned) → tallied 0 (Ok tt) x ≡ Ok s → Known x s
known (bad k) s e = absurd (zero_not_one cc)
known (trains es) s e =
    let told : record { count = 0 + length es; trains = first_refusal entry_check 0 es } ≡ s = cc in
    let count : 0 + length es ≡ length es = omega arith in
    record { good = refl; same = sym told ∙ ap (λ (n : ℕ). record { count = n; trains = first_refusal entry_check 0 es }) count }

bad_answer : (x : Listed) (r : Refusal) (room : ℕ) → tallied 0 (Ok tt) x ≡ Err r → Err r ≡ imported_of room x
bad_answer (bad j) r room e = let same : BadRecord j ≡ r = cc in ap (λ (q : Refusal). Err q) (sym same)
bad_answer (trains es) r room e = absurd (zero_not_one cc)

-- The text is not too long, and the records behind its heading stand there.
pub record Begun (text records : List ℕ) : Type 0 where
  pub short : length text ≤ longest_text
  pub same : listed_from records ≡ listed text

module _ (text : List ℕ) (short : length text ≤ longest_text) (h : Option (Bor (List ℕ))) (h_is : behind h ≡ heading_in text) where
  pub begun : (records : Bor (List ℕ)) → h ≡ Some records → Begun text records.now
  begun records e = record { short = short; same = sym (listed_on text records.now tt (sym (behind_some h _ h_is records e))) }

  headless : h ≡ None → listed text ≡ bad 1
  headless e = listed_bad text (sym (behind_none h _ h_is e))

module _ (text : List ℕ) (room : ℕ) where
  pub import_long : longest_text < length text → Err TextTooLong ≡ imported text room
  unfolding imported
  import_long h = simp (lt-ltb longest_text (length text) h)

  import_listed : length text ≤ longest_text → (x : Listed) → x ≡ listed text → imported_of room x ≡ imported text room
  unfolding imported
  import_listed short x e = simp (le-ltb longest_text (length text) short, e)

  pub import_headless :
      length text ≤ longest_text → (h : Option (Bor (List ℕ))) → behind h ≡ heading_in text → (r : Refusal) →
      Err r ≡ ok_or h (BadRecord 1) → Err r ≡ imported text room
  import_headless short None h_is r e =
      let same : r ≡ BadRecord 1 = cc in ap (λ (q : Refusal). Err q) same ∙ import_listed short (bad 1) (sym (headless text short None h_is refl))
  import_headless short (Some records) h_is r e = absurd (zero_not_one cc)

  module _
      (records : List ℕ) (b : Begun text records) (answer : Result Scanned Refusal)
      (answer_is : answer ≡ tallied 0 (Ok tt) (listed_from records))
    where
      pub import_bad : (r : Refusal) → answer ≡ Err r → Err r ≡ imported text room
      import_bad r e = bad_answer (listed_from records) r room (sym answer_is ∙ e) ∙ import_listed b.short (listed_from records) b.same

      module _ (s : Scanned) (e : answer ≡ Ok s) (p : Outcome) (p_is : p ≡ trains_check s room) where
        sure : Known (listed_from records) s
        sure = known (listed_from records) s (sym answer_is ∙ e)

        -- the answer, from the outcome of the checks
        from_checks : (q : Outcome) → p ≡ q → or_else q (Ok s.count) ≡ imported text room
        from_checks q h =
            let es : List Entry = trains_of (listed_from records) in
            let whole : q ≡ table_check es room = sym h ∙ p_is ∙ ap (λ (x : Scanned). trains_check x room) sure.same ∙ trains_table es room in
            ap (λ (u : Outcome). or_else u (Ok s.count)) whole
            ∙ ap (λ (x : Scanned). or_else (table_check es room) (Ok x.count)) sure.same
            ∙ ap (imported_of room) (sym sure.good)
            ∙ import_listed b.short (listed_from records) b.same

        pub import_refused : (r : Refusal) → p ≡ Err r → Err r ≡ imported text room
        import_refused r h = from_checks (Err r) h

        module _ (passed : p ≡ Ok tt) where
          pub import_answers : Ok s.count ≡ imported text room
          import_answers = from_checks (Ok tt) passed

          pub import_ready : Ready (listed_from records) s.count room
          import_ready =
              record {
                good = sure.good;
                counted = ap (λ (x : Scanned). x.count) sure.same;
                fits = trains_fit s room (sym p_is ∙ passed);
              }

          -- the trains are the whole row, at its front
          pub import_writes :
              (before now : List ℕ) → now ≡ over before 0 (row_of (map lowest_entry (trains_of (listed_from records)))) →
              now ≡ imported_in (Ok s.count) text before
          unfolding imported_in
          import_writes before now w =
              let es : List Entry = trains_of (listed_from records) in
              let long : length (row_of (map lowest_entry es)) ≡ s.count * numbers =
              row_length (map lowest_entry es)
              ∙ ap (λ (n : ℕ). n * numbers) (length-map es lowest_entry ∙ sym import_ready.counted) in
              w
              ∙ over_front before (row_of (map lowest_entry es)) (s.count * numbers) long
              ∙ ap (λ (x : Listed). row_of (map lowest_entry (trains_of x)) ++ drop (s.count * numbers) before) b.same
