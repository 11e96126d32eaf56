-- Which words stand for which record, and what it means to write a part of a record to them.
--     place_length             the words of a place
--     last_at                  where the last count stands, behind the places
--     word_count               the words of a dispatcher
--     place_in ws q            place q as the words say it
--     places_from ws q n       so many places from q on
--     places_in ws             the places
--     record_in ws             the record that the words stand for
--     held_words held          the words of what a place holds
--     place_words place        the words of a place
--     tail_words d             the words behind the places: the last count and the run in progress
--     words_of d               the words of a record
--     place_over ws q place    the words with those of a place written over place q
--     tail_over ws d           the words with the last count and the run in progress of a record
use Rattle.std.specs.Prelude.{ℕ, zero, suc, ◌+◌, ◌*◌, cond, List, [], ◌∷◌, ◌++◌, ◌==◌, slice_index}
use mathlib.Core.List.{flat_map}
use Rattle.std.proofs.lemmas.List.Edits.{sets}
use Rattle.dispatcher.specs.declared.Held.{Held}
use Rattle.dispatcher.specs.declared.Held.TheVariants.{Empty, Holds}
use Rattle.dispatcher.specs.declared.Place.{Place}
use Rattle.dispatcher.specs.declared.Dispatcher.{Dispatcher}
use Rattle.dispatcher.specs.History.{place_count}
use Rattle.dispatcher.specs.Answer.{empty_place}

-- A place has four words.
abbrev pub place_length : ℕ
place_length = 4

-- Behind the places comes the last count.
abbrev pub last_at : ℕ
last_at = place_count * place_length

-- Then the place of the run in progress, and how many of its ticks are still to come.
abbrev pub word_count : ℕ
word_count = last_at + 3

-- A place is empty where its first word is 0, whatever follows; otherwise the next count, the period and the duration follow.
unfoldable pub place_in : List ℕ → ℕ → Place
place_in ws q =
    cond (slice_index ws (q * place_length) == 0) empty_place
    (record {
      held =
          Holds
          (record {
            next = slice_index ws (q * place_length + 1);
            period = slice_index ws (q * place_length + 2);
            duration = slice_index ws (q * place_length + 3);
          });
    })

-- The places from one on, one behind another.
unfoldable pub places_from : List ℕ → (q n : ℕ) → List Place
places_from ws q zero = []
places_from ws q (suc n) = place_in ws q ∷ places_from ws (suc q) n

-- The places that the words stand for.
abbrev pub places_in : List ℕ → List Place
places_in ws = places_from ws 0 place_count

-- The record that the words stand for.
abbrev pub record_in : List ℕ → Dispatcher
record_in ws =
    record {
      places = places_in ws;
      last = slice_index ws last_at;
      run = record { place = slice_index ws (last_at + 1); left = slice_index ws (last_at + 2) };
    }

-- The words of what a place holds: an empty one is all zeros, and a train has a 1 before it.
abbrev pub held_words : Held → List ℕ
held_words Empty = 0 ∷ 0 ∷ 0 ∷ 0 ∷ []
held_words (Holds p) = 1 ∷ p.next ∷ p.period ∷ p.duration ∷ []

-- The words of a place.
abbrev pub place_words : Place → List ℕ
place_words place = held_words place.held

-- The words behind the places.
abbrev pub tail_words : Dispatcher → List ℕ
tail_words d = d.last ∷ d.run.place ∷ d.run.left ∷ []

-- The words of a record.
unfoldable pub words_of : Dispatcher → List ℕ
words_of d = flat_map place_words d.places ++ tail_words d

-- A place written over the words of another, one word after the other.
abbrev pub place_over : List ℕ → ℕ → Place → List ℕ
place_over ws q place = sets ws (q * place_length) (place_words place)

-- The last count and the run in progress of a record, written over those of the words.
abbrev pub tail_over : List ℕ → Dispatcher → List ℕ
tail_over ws d = sets ws last_at (tail_words d)
