-- The functions that the contracts cite: the trains of a listing as a stored table, and those of a stored table as a listing.
--     store_after imported room          what there is to answer after import: its refusal, 8, or the length of so many trains
--     store_answer text room             what `store` answers
--     store_leaves answer text before    what it leaves in the buffer
--     bytes_after text before            the same, with the answer that it gives
--     list_answer bs room                what `list` answers
--     list_leaves answer bs before       what it leaves in the buffer
--     text_after bs before               the same, with the answer that it gives
use Rattle.std.specs.Prelude.{ℕ, List, ◌++◌, map, ltb, length, drop, Result, Ok, Err}
use Rattle.refusal.specs.declared.Refusal.{Refusal}
use Rattle.refusal.specs.declared.Refusal.TheVariants.{BufferTooShort}
use Rattle.table.specs.Row.{longest_row, lowest_entry}
use Rattle.table.specs.Answer.{test, or_else}
use Rattle.stored.specs.Layout.{bytes_of, length_of}
use Rattle.stored.specs.Found.{trains_in}
use Rattle.stored.specs.Answer.{load_check}
use Rattle.listing.specs.Layout.{text_of}
use Rattle.listing.specs.Answer.{listed, trains_of, imported}

-- ---- A listing, stored

-- Of trains that were imported there is only the room to be looked at: 8, or the length of their stored table.
unfoldable pub store_after : Result ℕ Refusal → (room : ℕ) → Result ℕ Refusal
store_after (Ok k) room = or_else (test (ltb room (length_of k)) BufferTooShort) (Ok (length_of k))
store_after (Err r) room = Err r

-- The refusals of import, to a row of the longest table, then 8; or the length that was written.
abbrev pub store_answer : (text : List ℕ) (room : ℕ) → Result ℕ Refusal
store_answer text room = store_after (imported text longest_row) room

-- After a length the buffer has the layout of the trains of the listing in lowest terms and then what it had; after a refusal all that it had.
unfoldable pub store_leaves : Result ℕ Refusal → (text before : List ℕ) → List ℕ
store_leaves (Ok n) text before = bytes_of (map lowest_entry (trains_of (listed text))) ++ drop n before
store_leaves (Err r) text before = before

-- What stands in a buffer after `store` was called with it.
abbrev pub bytes_after : (text before : List ℕ) → List ℕ
bytes_after text before = store_leaves (store_answer text (length before)) text before

-- ---- A stored table, listed

-- The refusals of loading into a row of the longest table, then 8; or the length of the text of the trains.
unfoldable pub list_answer : (bs : List ℕ) (room : ℕ) → Result ℕ Refusal
list_answer bs room =
    or_else (or_else (load_check bs longest_row) (test (ltb room (length (text_of (trains_in bs)))) BufferTooShort))
    (Ok (length (text_of (trains_in bs))))

-- After a length the buffer has the text of the trains of the stored table and then what it had; after a refusal all that it had.
unfoldable pub list_leaves : Result ℕ Refusal → (bs before : List ℕ) → List ℕ
list_leaves (Ok n) bs before = text_of (trains_in bs) ++ drop n before
list_leaves (Err r) bs before = before

-- What stands in a buffer after `list` was called with it.
abbrev pub text_after : (bs before : List ℕ) → List ℕ
text_after bs before = list_leaves (list_answer bs (length before)) bs before
