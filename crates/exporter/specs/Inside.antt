-- What the private functions write. No public contract cites this file, and no caller need read it.
--     lines_of row        the text of all records of a row
use Rattle.std.specs.Prelude.{ℕ}
use mathlib.Core.List.{List, map, flat_map}
use Rattle.table.specs.Row.{entries, lowest_entry}
use Rattle.listing.specs.Layout.{record_text}

-- The trains in lowest terms, a record for each, with its end.
abbrev pub lines_of : List ℕ → List ℕ
lines_of row = flat_map record_text (map lowest_entry (entries row))
