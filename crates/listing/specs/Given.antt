-- When import and export refuse, in the request's words.
--     table_order es room                     Import, behind 7 and 18: 1, then train by train 2, 3, 4, then 8
--     ImportRefuses text room number place    Import: 7 by the length alone; then 18 for the first bad record; then the above
--     export_order row room                   Export: 1, then train by train 2, 3, 4, then 8
use Rattle.std.specs.Prelude.{ℕ, ◌*◌, ◌<◌, ◌≤◌, List, [], ◌∷◌, ◌++◌, map, length}
use Rattle.refusal.specs.declared.Refusal.TheVariants.{BufferTooShort}
use Rattle.refusal.specs.Order.{Check, ◌when◌, Gives}
use Rattle.table.specs.declared.Entry.{Entry}
use Rattle.table.specs.Row.{numbers, entries, row_of, lowest_entry}
use Rattle.table.specs.Given.{checked_order}
use Rattle.listing.specs.Means.{Listing, BadAt}
use Rattle.listing.specs.Layout.{text_of, longest_text}

-- Of the trains of a listing: 1 to 4 and 8 in the order of saving.
abbrev pub table_order : (es : List Entry) (room : ℕ) → List Check
table_order es room = checked_order (row_of es) ++ ((BufferTooShort when (room < length es * numbers)) ∷ [])

-- 7 for a text above 32,768 bytes; then 18 for the first bad record, with its number; then 1 to 4 and 8.
pub data ImportRefuses : (text : List ℕ) (room number place : ℕ) → Type 0 where
  too_long : {text : List ℕ} {room : ℕ} → longest_text < length text → ImportRefuses text room 7 64
  bad : {text : List ℕ} {room k : ℕ} → length text ≤ longest_text → BadAt k text → ImportRefuses text room 18 k
  trains :
      {text : List ℕ} {room number place : ℕ} {es : List Entry} → length text ≤ longest_text → Listing text es →
      Gives (table_order es room) number place → ImportRefuses text room number place

-- Export: 1, the same train checks, 8.
abbrev pub export_order : (row : List ℕ) (room : ℕ) → List Check
export_order row room =
    checked_order row ++ ((BufferTooShort when (room < length (text_of (map lowest_entry (entries row))))) ∷ [])
