-- What is proved of storing and of listing, a line each; proofs/Promises.antt proves the whole record.
use Rattle.std.specs.Prelude.{ℕ, ◌+◌, ◌<◌, ◌≤◌, ◌≡◌, ◌↔◌, List, ◌++◌, map, length, take, drop}
use Rattle.refusal.specs.Paper.{answers, refuse}
use Rattle.refusal.specs.Order.{None, Gives}
use Rattle.table.specs.declared.Entry.{Entry}
use Rattle.table.specs.Row.{row_of, lowest_entry}
use Rattle.table.specs.Given.{checked_order}
use Rattle.judge.specs.Answer.{verdict}
use Rattle.stored.specs.Layout.{bytes_of, length_of, longest, Bytes, StoredAs}
use Rattle.stored.specs.Paper.{paper_answer}
use Rattle.file.specs.Answer.{file_verdict}
use Rattle.listing.specs.Means.{Listing}
use Rattle.listing.specs.Layout.{text_of, longest_text, longest_export}
use Rattle.listing.specs.Paper.{paper_exported}
use Rattle.convert.specs.Given.{StoreRefuses, list_order}
use Rattle.convert.specs.Answer.{store_answer, bytes_after, list_answer, text_after}

pub record Promises : Type 0 where
  -- Storing a listing gives a number and a place exactly when the request says, and then the buffer keeps its bytes.
  pub store_refused :
      (text : List ℕ) (room number place : ℕ) →
      (paper_answer (store_answer text room) ≡ refuse number place) ↔ StoreRefuses text room number place
  pub store_keeps :
      (text before : List ℕ) (number place : ℕ) →
      paper_answer (store_answer text (length before)) ≡ refuse number place → bytes_after text before ≡ before
  -- It answers a length exactly when the text is not too long and lists trains that pass 1 to 4, and their stored table has this length and
  -- has room; and it writes that table, with the fractions of the fields in lowest terms. Whether the trains collide makes no difference.
  pub store_answers :
      (text : List ℕ) (room n : ℕ) →
      (paper_answer (store_answer text room) ≡ answers n)
      ↔ ((length text ≤ longest_text)
      × ((es : List Entry) × Listing text es × None (checked_order (row_of es)) × (n ≡ length_of (length es)) × (n ≤ room)))
  pub store_written :
      (text before : List ℕ) (es : List Entry) (n : ℕ) → Listing text es → paper_answer (store_answer text (length before)) ≡ answers n →
      (bytes_after text before ≡ bytes_of (map lowest_entry es) ++ drop n before)
      × StoredAs (take n (bytes_after text before)) (map lowest_entry es)
  -- The verdict on what was stored is the verdict on the fractions as they stand in the listing.
  pub store_verdict :
      (text before : List ℕ) (es : List Entry) (n : ℕ) → Listing text es → paper_answer (store_answer text (length before)) ≡ answers n →
      file_verdict (take n (bytes_after text before)) ≡ verdict (row_of es)
  -- No stored table is longer than 1,543 bytes, so a buffer of that length is never too short; and a text that is longer than any listing
  -- is refused by its first 32,769 bytes as it would be whole.
  pub store_longest : (text : List ℕ) (room n : ℕ) → paper_answer (store_answer text room) ≡ answers n → n ≤ longest
  pub store_room : (text : List ℕ) (room place : ℕ) → longest ≤ room → paper_answer (store_answer text room) ≡ refuse 8 place → ⊥
  pub store_front :
      (text : List ℕ) (room : ℕ) → longest_text < length text → store_answer (take (longest_text + 1) text) room ≡ store_answer text room
  -- Listing a stored table gives a number and a train exactly when the first condition of the order that holds is one for them, and then
  -- the buffer keeps its bytes.
  pub list_refused :
      (bs : List ℕ) (room number train : ℕ) →
      (paper_exported (list_answer bs room) ≡ refuse number train) ↔ Gives (list_order bs room) number train
  pub list_keeps :
      (bs before : List ℕ) (number train : ℕ) →
      paper_exported (list_answer bs (length before)) ≡ refuse number train → text_after bs before ≡ before
  -- It answers a length exactly when the bytes are the stored table of trains whose text has this length and has room; and it writes that
  -- text.
  pub list_answers :
      (bs : List ℕ) (room n : ℕ) → Bytes bs →
      (paper_exported (list_answer bs room) ≡ answers n)
      ↔ ((es : List Entry) × StoredAs bs es × (n ≡ length (text_of es)) × (n ≤ room))
  pub list_written :
      (bs before : List ℕ) (es : List Entry) (n : ℕ) → StoredAs bs es → paper_exported (list_answer bs (length before)) ≡ answers n →
      text_after bs before ≡ text_of es ++ drop n before
  -- No text is longer than 4,311 bytes, so a buffer of that length is never too short; and an input that is longer than any stored table is
  -- refused by its first 1,544 bytes as it would be whole.
  pub list_longest : (bs : List ℕ) (room n : ℕ) → Bytes bs → paper_exported (list_answer bs room) ≡ answers n → n ≤ longest_export
  pub list_room :
      (bs : List ℕ) (room place : ℕ) → Bytes bs → longest_export ≤ room → paper_exported (list_answer bs room) ≡ refuse 8 place → ⊥
  pub list_front : (bs : List ℕ) (room : ℕ) → longest < length bs → list_answer (take (longest + 1) bs) room ≡ list_answer bs room
  -- No fraction changes on the way: what is listed of a stored listing is its trains in lowest terms, and what is stored of a listed table
  -- is the same bytes. The rest of the lent buffer keeps its values.
  pub list_after_store :
      (text before out : List ℕ) (es : List Entry) (n : ℕ) → Listing text es → paper_answer (store_answer text (length before)) ≡ answers n →
      length (text_of (map lowest_entry es)) ≤ length out →
      (paper_exported (list_answer (take n (bytes_after text before)) (length out)) ≡ answers (length (text_of (map lowest_entry es))))
      × (text_after (take n (bytes_after text before)) out
      ≡ text_of (map lowest_entry es) ++ drop (length (text_of (map lowest_entry es))) out)
  pub store_after_list :
      (bs before out : List ℕ) (n : ℕ) → Bytes bs → paper_exported (list_answer bs (length before)) ≡ answers n →
      length bs ≤ length out →
      (paper_answer (store_answer (take n (text_after bs before)) (length out)) ≡ answers (length bs))
      × (bytes_after (take n (text_after bs before)) out ≡ bs ++ drop (length bs) out)
