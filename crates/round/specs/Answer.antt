-- The functions that the contracts cite: the row in lowest terms comes back, and the stored table byte by byte.
--     kept row room                what `save_and_load` answers
--     kept_in answer row before    what it leaves in the row
--     again bs room                what `load_and_save` answers
--     again_in answer bs before    what it leaves in the buffer
use Rattle.std.specs.Prelude.{ℕ, ◌*◌, List, ◌++◌, ltb, length, drop, Result, Ok, Err}
use Rattle.refusal.specs.declared.Refusal.{Refusal}
use Rattle.refusal.specs.declared.Refusal.TheVariants.{BufferTooShort}
use Rattle.table.specs.Row.{numbers, longest_row, entries, lowest_row}
use Rattle.table.specs.Answer.{test, or_else, checked}
use Rattle.stored.specs.Answer.{load_check}

-- 1, then train by train 2, 3, 4, then 8 of the row that is loaded into; or the count of the trains.
unfoldable pub kept : (row : List ℕ) (room : ℕ) → Result ℕ Refusal
kept row room =
    or_else (or_else (checked row) (test (ltb room (length (entries row) * numbers)) BufferTooShort)) (Ok (length (entries row)))

-- After a count the row has the trains in lowest terms and then what it had; after a refusal all that it had.
unfoldable pub kept_in : Result ℕ Refusal → (row before : List ℕ) → List ℕ
kept_in (Ok k) row before = lowest_row row ++ drop (k * numbers) before
kept_in (Err r) row before = before

-- The refusals of loading into a row of the longest table, then 8 of the buffer that is saved to; or the length of the file.
unfoldable pub again : (bs : List ℕ) (room : ℕ) → Result ℕ Refusal
again bs room = or_else (or_else (load_check bs longest_row) (test (ltb room (length bs)) BufferTooShort)) (Ok (length bs))

-- After a length the buffer has the bytes of the file and then what it had; after a refusal all that it had.
unfoldable pub again_in : Result ℕ Refusal → (bs before : List ℕ) → List ℕ
again_in (Ok n) bs before = bs ++ drop n before
again_in (Err r) bs before = before
