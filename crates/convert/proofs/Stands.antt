-- From what the calls answer to what a program hands on: the bytes that were written stand at the start of the buffer.
-- Core: table_long, listing_long. The rest follows from these.
-- Assumes nothing.
use Prim.Native.Nat.{ℕ, ◌≤◌}
use mathlib.Core.Path.{◌≡◌, sym, ap, ◌∙◌}
use mathlib.Core.List.{List, ◌++◌, map}
use native.Mathlib.Omega.{arith}
use lib.ListN.{length, take, drop, length-map, length-append}
use lib.Seq.{take_at}
use Rattle.std.specs.Prelude.{Ok}
use Rattle.table.specs.Row.{lowest_entry}
use Rattle.stored.specs.Layout.{bytes_of, length_of}
use Rattle.stored.specs.Found.{trains_in}
use Rattle.stored.specs.Paper.{paper_answer}
use Rattle.stored.proofs.Lengths.{layout_length}
use Rattle.listing.specs.Layout.{text_of}
use Rattle.listing.specs.Paper.{paper_exported}
use Rattle.listing.specs.Answer.{listed, trains_of}
use Rattle.listing.proofs.Texts.{listing_read}
use Rattle.convert.specs.Answer.{store_answer, store_leaves, list_answer, list_leaves}
use Rattle.convert.specs.Standing.{StoredOf, ListedOf}
use Rattle.convert.proofs.Storing.{store_answers}
use Rattle.convert.proofs.Listings.{list_none}

-- what was put in front of the rest is so long, and stands there
front_within : (l rest after : List ℕ) (n : ℕ) → length l ≡ n → after ≡ l ++ rest → n ≤ length after
front_within l rest after n long put = omega (arith, ap length put, length-append l rest)

front_is : (l rest after : List ℕ) (n : ℕ) → length l ≡ n → after ≡ l ++ rest → take n after ≡ l
front_is l rest after n long put = ap (take n) put ∙ take_at l rest n long

module _
    (text before after : List ℕ) (n : ℕ) (answered : Ok n ≡ store_answer text (length before))
    (left : after ≡ store_leaves (Ok n) text before) where
  abbrev table : List ℕ
  table = bytes_of (map lowest_entry (trains_of (listed text)))

  table_long : length table ≡ n
  table_long =
      let found = ((store_answers text (length before) n).0 (ap paper_answer (sym answered))).1 in
      let count : length (trains_of (listed text)) ≡ length found.0 =
      ap length (ap trains_of (listing_read text found.0 found.1)) in
      layout_length (map lowest_entry (trains_of (listed text)))
      ∙ ap length_of (length-map (trains_of (listed text)) lowest_entry ∙ count)
      ∙ sym found.3

  table_put : after ≡ table ++ drop n before
  unfolding store_leaves
  table_put = left

  pub store_fits : n ≤ length after
  store_fits = front_within table (drop n before) after n table_long table_put

  pub store_stands : StoredOf text (take n after)
  store_stands = front_is table (drop n before) after n table_long table_put

module _
    (bs before after : List ℕ) (n : ℕ) (answered : Ok n ≡ list_answer bs (length before)) (left : after ≡ list_leaves (Ok n) bs before)
  where
    abbrev listing : List ℕ
    listing = text_of (trains_in bs)

    listing_long : length listing ≡ n
    listing_long = sym ((list_none bs (length before) n).0 (ap paper_exported (sym answered))).1

    listing_put : after ≡ listing ++ drop n before
    unfolding list_leaves
    listing_put = left

    pub list_fits : n ≤ length after
    list_fits = front_within listing (drop n before) after n listing_long listing_put

    pub list_stands : ListedOf bs (take n after)
    list_stands = front_is listing (drop n before) after n listing_long listing_put
