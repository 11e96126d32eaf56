-- When storing a listing and listing a stored table refuse, in the request's words.
--     StoreRefuses text room number place    Store: 7 by the length alone; then 18 for the first bad record; then 1 to 4 and 8 of saving
--     list_order bs room                     List: the refusals of loading, then 8 of the buffer
use Rattle.std.specs.Prelude.{ℕ, ◌<◌, ◌≤◌, List, [], ◌∷◌, ◌++◌, length}
use Rattle.refusal.specs.declared.Refusal.TheVariants.{BufferTooShort}
use Rattle.refusal.specs.Order.{Check, ◌when◌, Gives}
use Rattle.table.specs.declared.Entry.{Entry}
use Rattle.table.specs.Row.{longest_row, row_of}
use Rattle.stored.specs.Found.{trains_in}
use Rattle.stored.specs.Given.{save_order, load_order}
use Rattle.listing.specs.Means.{Listing, BadAt}
use Rattle.listing.specs.Layout.{text_of, longest_text}

-- 7 for a text above 32,768 bytes; then 18 for the first bad record, with its number; then 1 to 4 and 8 in the order of saving.
pub data StoreRefuses : (text : List ℕ) (room number place : ℕ) → Type 0 where
  too_long : {text : List ℕ} {room : ℕ} → longest_text < length text → StoreRefuses text room 7 64
  bad : {text : List ℕ} {room k : ℕ} → length text ≤ longest_text → BadAt k text → StoreRefuses text room 18 k
  trains :
      {text : List ℕ} {room number place : ℕ} {es : List Entry} → length text ≤ longest_text → Listing text es →
      Gives (save_order (row_of es) room) number place → StoreRefuses text room number place

-- The refusals of loading into a row of the longest table, then 8.
abbrev pub list_order : (bs : List ℕ) (room : ℕ) → List Check
list_order bs room = load_order bs longest_row ++ ((BufferTooShort when (room < length (text_of (trains_in bs)))) ∷ [])
