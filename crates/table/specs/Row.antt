-- What stands in a row, in the words of the paper's "Fractions and the tick".
--     Words row              every number of a row has 32 bits
--     capacity               the most trains of a table
--     numbers                the numbers of a train in a row
--     longest_row            the numbers of the longest row
--     record_length          the bytes of a train in a stored table
--     time_at row at         the fraction whose numerator stands at an index
--     entry_at row at        the phase, period and duration of the train whose numbers begin at an index
--     record_entry ns        the train of its six numbers
--     entries_of n row       the first n trains of a row as fractions
--     entries row            all its trains as fractions, in their order
--     no_entry               what stands for an entry where there is none
--     numbers_of e           the six numbers of a train
--     row_of es              the row of some trains
--     lowest_entry e         a train with its times in lowest terms
--     lowest_row row         the trains of a row in lowest terms, as a row
--     denominators_of e      the denominators of one train after reduction
--     denominators es        those of all trains
--     multiple es            the paper's L
--     tick es                the common tick, 1/L ms
--     whole ticks            the number of a whole number of ticks
--     ticks_of unit time     how many ticks a time is
--     train_of unit e        a train in ticks
--     trains row             the trains of a row in ticks of its own tick
--     ExactTrain unit e t    train t is entry e in ticks, with nothing lost
--     SameTime f h           two fractions stand for one time
--     SameEntry e f          two trains whose times are the same
--     SameRow row row'       two rows that differ at most in the terms of their fractions
use Rattle.std.specs.Prelude.{ℕ, zero, suc, ◌+◌, ◌*◌, ◌/◌, ◌<◌, ◌≡◌, ◌⊎◌, length, get_or, drop, Option, None, Some}
use mathlib.Core.List.{List, [], ◌∷◌, ◌++◌, map, flat_map}
use Rattle.fraction.specs.declared.Fraction.{Fraction}
use Rattle.fraction.specs.Value.{SameValue, IsTicks}
use Rattle.fraction.specs.Answer.{lowest, whole_ticks, common_multiple}
use Rattle.train.specs.declared.Train.{Train}
use Rattle.table.specs.declared.Entry.{Entry}

-- Every number of a row has 32 bits, as those of a slice of 32-bit numbers have.
abbrev pub Words : List ℕ → Type 0
Words row = (i : ℕ) → get_or row i 0 < 4294967296

-- At most 64 trains.
abbrev pub capacity : ℕ
capacity = 64

-- Six numbers to a train.
abbrev pub numbers : ℕ
numbers = 6

-- 384 numbers, for 64 trains.
abbrev pub longest_row : ℕ
longest_row = capacity * numbers

-- 24 bytes to a train in a stored table, four to a number.
abbrev pub record_length : ℕ
record_length = 4 * numbers

-- Numerator, then denominator.
abbrev pub time_at : List ℕ → ℕ → Fraction
time_at row at = record { numerator = get_or row at 0; denominator = get_or row (at + 1) 0 }

-- Phase, period and duration.
abbrev pub entry_at : List ℕ → ℕ → Entry
entry_at row at = record { phase = time_at row at; period = time_at row (at + 2); duration = time_at row (at + 4) }

-- The train of six numbers.
abbrev pub record_entry : List ℕ → Entry
record_entry ns = entry_at ns 0

-- The first trains of a row, so many of them.
unfoldable pub entries_of : ℕ → List ℕ → List Entry
entries_of zero row = []
entries_of (suc n) row = entry_at row 0 ∷ entries_of n (drop numbers row)

-- All whole trains of a row.
unfoldable pub entries : List ℕ → List Entry
entries row = entries_of (length row / numbers) row

-- Where there is no entry: three times without a denominator.
abbrev pub no_entry : Entry
no_entry = record { phase = time_at [] 0; period = time_at [] 0; duration = time_at [] 0 }

-- The six numbers of a train, as they stand in a row.
abbrev pub numbers_of : Entry → List ℕ
numbers_of e =
    e.phase.numerator ∷ e.phase.denominator ∷ e.period.numerator ∷ e.period.denominator ∷ e.duration.numerator
    ∷ e.duration.denominator ∷ []

-- Some trains as a row.
abbrev pub row_of : List Entry → List ℕ
row_of es = flat_map numbers_of es

-- A train with its times in lowest terms.
abbrev pub lowest_entry : Entry → Entry
lowest_entry e = record { phase = lowest e.phase; period = lowest e.period; duration = lowest e.duration }

-- A row with its fractions in lowest terms.
abbrev pub lowest_row : List ℕ → List ℕ
lowest_row row = row_of (map lowest_entry (entries row))

-- The denominators of one train after reduction.
abbrev pub denominators_of : Entry → List ℕ
denominators_of e = (lowest e.phase).denominator ∷ (lowest e.period).denominator ∷ (lowest e.duration).denominator ∷ []

-- The denominators of all trains after reduction.
unfoldable pub denominators : List Entry → List ℕ
denominators [] = []
denominators (e ∷ es) = denominators_of e ++ denominators es

-- L is the least common multiple of all denominators after reduction; for an empty table L is 1.
abbrev pub multiple : List Entry → ℕ
multiple es = common_multiple (denominators es)

-- The tick is 1/L ms.
abbrev pub tick : List Entry → Fraction
tick es = record { numerator = 1; denominator = multiple es }

-- The number of a whole number of ticks.
abbrev pub whole : Option ℕ → ℕ
whole None = 0
whole (Some k) = k

-- A time in ticks. (In a table that passes every time is a whole number of them: `trains_exact`.)
abbrev pub ticks_of : (unit time : Fraction) → ℕ
ticks_of unit time = whole (whole_ticks time unit)

-- A train in ticks.
abbrev pub train_of : Fraction → Entry → Train
train_of unit e =
    record { phase = ticks_of unit e.phase; period = ticks_of unit e.period; duration = ticks_of unit e.duration }

-- The trains of a row in ticks.
unfoldable pub trains : List ℕ → List Train
trains row = map (train_of (tick (entries row))) (entries row)

-- The ticks of a train are its times, with nothing lost.
pub record ExactTrain (unit : Fraction) (e : Entry) (t : Train) : Type 0 where
  pub phase : IsTicks e.phase unit t.phase
  pub period : IsTicks e.period unit t.period
  pub duration : IsTicks e.duration unit t.duration

-- The same fraction as it stands, or two that have denominators and are one number.
abbrev pub SameTime : Fraction → Fraction → Type 0
SameTime f h = (f ≡ h) ⊎ ((0 < f.denominator) × (0 < h.denominator) × SameValue f h)

-- Two trains whose times are the same.
pub record SameEntry (e f : Entry) : Type 0 where
  pub phase : SameTime e.phase f.phase
  pub period : SameTime e.period f.period
  pub duration : SameTime e.duration f.duration

-- Two rows of one length, the times of each train the same, over whatever denominators.
pub record SameRow (row row' : List ℕ) : Type 0 where
  pub lengths : length row ≡ length row'
  pub times : (i : ℕ) → i < length (entries row) → SameEntry (get_or (entries row) i no_entry) (get_or (entries row') i no_entry)
