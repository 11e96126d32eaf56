-- In which order the round trips look for their refusals, in the paper's words.
--     kept_order row room    1, the same train checks, 8 of the row that is loaded into
--     again_order bs room    the refusals of loading, 8 of the buffer that is saved to
use Rattle.std.specs.Prelude.{ℕ, ◌*◌, ◌<◌, List, [], ◌∷◌, ◌++◌, length}
use Rattle.refusal.specs.declared.Refusal.TheVariants.{BufferTooShort}
use Rattle.refusal.specs.Order.{Check, ◌when◌}
use Rattle.table.specs.Row.{numbers, longest_row, entries}
use Rattle.table.specs.Given.{checked_order}
use Rattle.stored.specs.Given.{load_order}

-- 1, then train by train 2, 3, 4, then 8.
abbrev pub kept_order : (row : List ℕ) (room : ℕ) → List Check
kept_order row room = checked_order row ++ ((BufferTooShort when (room < length (entries row) * numbers)) ∷ [])

-- The refusals of loading into a row of the longest table, then 8.
abbrev pub again_order : (bs : List ℕ) (room : ℕ) → List Check
again_order bs room = load_order bs longest_row ++ ((BufferTooShort when (room < length bs)) ∷ [])
