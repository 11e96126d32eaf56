-- What is proved of listings, a line each; proofs/Promises.antt proves the whole record.
use Rattle.std.specs.Prelude.{ℕ, ◌*◌, ◌<◌, ◌≤◌, ◌≡◌, ◌↔◌, List, [], ◌∷◌, ◌++◌, map, length, get_or, take, drop, replicate}
use Rattle.refusal.specs.Paper.{answers, refuse}
use Rattle.refusal.specs.Order.{None, Gives, refusals_of, at_each}
use Rattle.table.specs.declared.Entry.{Entry}
use Rattle.table.specs.Row.{Words, capacity, numbers, entries, no_entry, row_of, lowest_entry, lowest_row, SameRow}
use Rattle.judge.specs.Answer.{verdict}
use Rattle.listing.specs.Grammar.{File}
use Rattle.listing.specs.Means.{Listing, BadAt, FirstUnfit, fraction, entry}
use Rattle.listing.specs.Layout.{text_of, longest_text, longest_export, SmallEntry, HasDenominators}
use Rattle.listing.specs.Given.{table_order, ImportRefuses, export_order}
use Rattle.listing.specs.Paper.{paper_imported, paper_exported}
use Rattle.listing.specs.Answer.{imported, row_after, exported, buffer_after}

pub record Promises : Type 0 where
  -- RFC 4180 is unambiguous: a text has one list of records at most, whatever they say.
  pub records_one : (text : List ℕ) (one other : List (List (List ℕ))) → File one text → File other text → one ≡ other
  -- A text lists one list of trains at most, or has one first bad record at most; never both, and always one of them.
  pub lists_one : (text : List ℕ) (one other : List Entry) → Listing text one → Listing text other → one ≡ other
  pub bad_one : (text : List ℕ) (j k : ℕ) → BadAt j text → BadAt k text → j ≡ k
  pub lists_not_bad : (text : List ℕ) (es : List Entry) (k : ℕ) → Listing text es → BadAt k text → ⊥
  pub lists_or_bad : (text : List ℕ) → (((es : List Entry) → Listing text es → ⊥) × ((k : ℕ) → BadAt k text → ⊥)) → ⊥
  -- Of a text that is well-formed to its end, the first bad record is the first of its records that is not good.
  pub bad_of_records : (text : List ℕ) (rs : List (List (List ℕ))) (k : ℕ) → File rs text → BadAt k text ↔ FirstUnfit 1 k rs
  -- What import looks for in the trains of a listing, in its turn: 1, then train by train 2, 3, 4, then 8.
  pub import_in_order :
      (es : List Entry) (room : ℕ) →
      refusals_of (table_order es room)
      ≡ refuse 1 64 ∷ (at_each (λ i. refuse 2 i ∷ refuse 3 i ∷ refuse 4 i ∷ []) 0 (length es) ++ (refuse 8 64 ∷ []))
  -- Import gives a number and a place exactly when the request says, and then the row keeps its numbers; 2 is never given, since a
  -- record with the denominator 0 is bad.
  pub import_refused :
      (text : List ℕ) (room number place : ℕ) →
      (paper_imported (imported text room) ≡ refuse number place) ↔ ImportRefuses text room number place
  pub import_keeps :
      (text before : List ℕ) (number place : ℕ) →
      paper_imported (imported text (length before)) ≡ refuse number place → row_after text before ≡ before
  pub import_never_2 : (text : List ℕ) (room train : ℕ) → paper_imported (imported text room) ≡ refuse 2 train → ⊥
  -- Import answers a count exactly when the text is not too long, lists as many trains, and these pass 1 to 4 and have room; and it writes the
  -- fractions of the fields in lowest terms. There are at most 64. Whether they collide makes no difference.
  pub import_answers :
      (text : List ℕ) (room k : ℕ) →
      (paper_imported (imported text room) ≡ answers k)
      ↔ ((length text ≤ longest_text) × ((es : List Entry) × Listing text es × None (table_order es room) × (k ≡ length es)))
  pub import_written :
      (text before : List ℕ) (es : List Entry) → length text ≤ longest_text → Listing text es → None (table_order es (length before)) →
      row_after text before ≡ row_of (map lowest_entry es) ++ drop (length es * numbers) before
  pub import_few : (text : List ℕ) (room k : ℕ) → paper_imported (imported text room) ≡ answers k → k ≤ capacity
  -- What export looks for, in its turn: 1, then train by train 2, 3, 4, then 8.
  pub export_in_order :
      (row : List ℕ) (room : ℕ) →
      refusals_of (export_order row room)
      ≡ refuse 1 64 ∷ (at_each (λ i. refuse 2 i ∷ refuse 3 i ∷ refuse 4 i ∷ []) 0 (length (entries row)) ++ (refuse 8 64 ∷ []))
  -- Export gives a number and a train exactly when the first condition of the order that holds is one for them, and then the buffer keeps its
  -- bytes; where none holds it answers the length of the text of the trains in lowest terms, and writes that.
  pub export_refused :
      (row : List ℕ) (room number train : ℕ) →
      (paper_exported (exported row room) ≡ refuse number train) ↔ Gives (export_order row room) number train
  pub export_keeps :
      (row out : List ℕ) (number train : ℕ) → paper_exported (exported row (length out)) ≡ refuse number train → buffer_after row out ≡ out
  pub export_answers :
      (row : List ℕ) (room n : ℕ) →
      (paper_exported (exported row room) ≡ answers n)
      ↔ (None (export_order row room) × (n ≡ length (text_of (map lowest_entry (entries row)))))
  pub export_written :
      (row out : List ℕ) (n : ℕ) → paper_exported (exported row (length out)) ≡ answers n →
      buffer_after row out ≡ text_of (map lowest_entry (entries row)) ++ drop n out
  -- No text that is written is longer than the longest, one is as long, and all are short enough to be read.
  pub export_longest : (row : List ℕ) (room n : ℕ) → Words row → paper_exported (exported row room) ≡ answers n → n ≤ longest_export
  pub export_reaches :
      paper_exported (exported
      (row_of (replicate capacity
      (entry (fraction 4_294_967_295 4_294_967_294) (fraction 4_294_967_295 4_294_967_294) (fraction 4_294_967_295 4_294_967_294))))
      longest_export)
      ≡ answers longest_export
  pub export_readable : longest_export < longest_text
  -- The text of trains in whatever terms lists just these trains.
  pub text_lists :
      (es : List Entry) → ((i : ℕ) → i < length es → SmallEntry (get_or es i no_entry) × HasDenominators (get_or es i no_entry)) →
      Listing (text_of es) es
  -- What is exported and then imported is the row in lowest terms, which are the same times and have the same verdict; the rest of the lent
  -- row keeps its values.
  pub import_after_export :
      (row out before : List ℕ) (n : ℕ) → Words row →
      paper_exported (exported row (length out)) ≡ answers n → length (entries row) * numbers ≤ length before →
      (paper_imported (imported (take n (buffer_after row out)) (length before)) ≡ answers (length (entries row)))
      × (row_after (take n (buffer_after row out)) before ≡ lowest_row row ++ drop (length (entries row) * numbers) before)
  pub exported_same : (row : List ℕ) (room n : ℕ) → paper_exported (exported row room) ≡ answers n → SameRow row (lowest_row row)
  pub exported_verdict : (row : List ℕ) (room n : ℕ) → paper_exported (exported row room) ≡ answers n → verdict (lowest_row row) ≡ verdict row
  -- What is imported has the times of the fields, and their verdict.
  pub imported_same : (es : List Entry) → SameRow (row_of es) (row_of (map lowest_entry es))
  pub imported_verdict : (es : List Entry) → verdict (row_of (map lowest_entry es)) ≡ verdict (row_of es)
  -- Exporting what was imported, and importing that again, changes nothing.
  pub import_again :
      (text before out : List ℕ) (k : ℕ) →
      paper_imported (imported text (length before)) ≡ answers k → longest_export ≤ length out →
      (n : ℕ)
      × (paper_exported (exported (take (k * numbers) (row_after text before)) (length out)) ≡ answers n)
      × (paper_imported (imported (take n (buffer_after (take (k * numbers) (row_after text before)) out)) (length before)) ≡ answers k)
      × (row_after (take n (buffer_after (take (k * numbers) (row_after text before)) out)) before ≡ row_after text before)
  -- An empty text is a bad first record.
  pub import_empty : (room : ℕ) → paper_imported (imported [] room) ≡ refuse 18 1
  -- Examples: the text of the train (0, 36/13, 12/13), which is `phase,period,duration` and `0,36/13,12/13`; and the same train, read from
  -- `"phase",period,duration` and `,"036/13",24/26`: quotes, a blank phase, a leading zero, other terms and no CRLF behind the last record.
  pub export_example :
      text_of (entry (fraction 0 1) (fraction 36 13) (fraction 12 13) ∷ [])
      ≡ 112 ∷ 104 ∷ 97 ∷ 115 ∷ 101 ∷ 44 ∷ 112 ∷ 101 ∷ 114 ∷ 105 ∷ 111 ∷ 100 ∷ 44 ∷ 100 ∷ 117 ∷ 114 ∷ 97 ∷ 116 ∷ 105 ∷ 111 ∷ 110 ∷ 13 ∷ 10
      ∷ 48 ∷ 44 ∷ 51 ∷ 54 ∷ 47 ∷ 49 ∷ 51 ∷ 44 ∷ 49 ∷ 50 ∷ 47 ∷ 49 ∷ 51 ∷ 13 ∷ 10 ∷ []
  pub import_example :
      row_after
      (34 ∷ 112 ∷ 104 ∷ 97 ∷ 115 ∷ 101 ∷ 34 ∷ 44 ∷ 112 ∷ 101 ∷ 114 ∷ 105 ∷ 111 ∷ 100 ∷ 44 ∷ 100 ∷ 117 ∷ 114 ∷ 97 ∷ 116 ∷ 105 ∷ 111 ∷ 110
      ∷ 13 ∷ 10 ∷ 44 ∷ 34 ∷ 48 ∷ 51 ∷ 54 ∷ 47 ∷ 49 ∷ 51 ∷ 34 ∷ 44 ∷ 50 ∷ 52 ∷ 47 ∷ 50 ∷ 54 ∷ [])
      (7 ∷ 7 ∷ 7 ∷ 7 ∷ 7 ∷ 7 ∷ 7 ∷ [])
      ≡ 0 ∷ 1 ∷ 36 ∷ 13 ∷ 12 ∷ 13 ∷ 7 ∷ []
