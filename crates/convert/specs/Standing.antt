-- What a program hands on to be written.
--     StoredOf text bytes    the stored table of the trains of a listing, in lowest terms
--     ListedOf bs text       the text of the trains of a stored table
use Rattle.std.specs.Prelude.{ℕ, ◌≡◌, List, map}
use Rattle.table.specs.Row.{lowest_entry}
use Rattle.stored.specs.Layout.{bytes_of}
use Rattle.stored.specs.Found.{trains_in}
use Rattle.listing.specs.Layout.{text_of}
use Rattle.listing.specs.Answer.{listed, trains_of}

-- The bytes are the stored table of the listing.
abbrev pub StoredOf : (text bytes : List ℕ) → Type 0
StoredOf text bytes = bytes ≡ bytes_of (map lowest_entry (trains_of (listed text)))

-- The text is the listing of the stored table.
abbrev pub ListedOf : (bs text : List ℕ) → Type 0
ListedOf bs text = text ≡ text_of (trains_in bs)
