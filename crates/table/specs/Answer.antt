-- The functions that the contracts cite. Promises says what they have to do with the words of Row and Given.
--     Outcome                     that a check passes, or its refusal
--     test b r                    one refusal: r where the test says so
--     or_else o p                 the refusal of a check, or else what comes next
--     first_refusal check i es    the first refusal of some trains, the first of which is at position i
--     no_denominator e            whether a denominator is 0
--     no_time e                   whether period or duration is 0
--     entry_check i e             refusals 2, 3, 4 of the train at position i, as `Entry::check` answers them
--     checked row                 refusals 1 to 4, as `check` answers them
--     is_above m                  whether a multiple is above the limit
--     multiple_check es i e       refusal 5 of the train at position i
--     multiple_checked es         refusal 5 of a table
--     too_many ticks              whether a time is not within the limit
--     too_long unit e             whether a train has such a time
--     ticks_check unit i e        refusal 6 of the train at position i
--     ticks_checked unit es       refusal 6 of a table
--     refusal row                 refusals 1 to 6
--     no_train                    what stands in the array where there is no train
--     filled ts                   the array of some trains
--     table_of unit es            the table of some trains as fractions
--     reading row                 the table of a row, as `read` answers it
use Rattle.std.specs.Prelude.{ℕ, suc, ◌-◌, ◌%◌, Bool, true, false, not, ◌||◌, List, [], ◌∷◌, ◌++◌, map, ltb, eqb, length, take, replicate, Option, None, Some, Result, Ok, Err}
use Rattle.refusal.specs.declared.Refusal.{Refusal}
use Rattle.refusal.specs.declared.Refusal.TheVariants.{TrainCount, ZeroDenominator, ZeroTime, DurationAbovePeriod, TickTooFine, TimeTooLong}
use Rattle.fraction.specs.declared.Fraction.{Fraction}
use Rattle.fraction.specs.Answer.{whole_ticks, above, running}
use Rattle.train.specs.declared.Train.{Train}
use Rattle.train.specs.Claims.{max_ticks}
use Rattle.table.specs.declared.Entry.{Entry}
use Rattle.table.specs.declared.Table.{Table}
use Rattle.table.specs.Row.{capacity, numbers, longest_row, entries, denominators, tick, train_of}

-- What a check answers: nothing, or its refusal.
abbrev pub Outcome : Type 0
Outcome = Result (Unit {0}) Refusal

-- One refusal, where its test says so.
abbrev pub test : Bool → Refusal → Outcome
test true r = Err r
test false r = Ok tt

-- One check, and where it passes what comes next.
abbrev pub or_else : {A : Type 0} → Outcome → Result A Refusal → Result A Refusal
or_else (Ok _) next = next
or_else (Err r) next = Err r

-- The trains one after the other, the first of them at position i.
unfoldable pub first_refusal : (ℕ → Entry → Outcome) → ℕ → List Entry → Outcome
first_refusal check i [] = Ok tt
first_refusal check i (e ∷ es) = or_else (check i e) (first_refusal check (suc i) es)

-- Whether a denominator is 0.
unfoldable pub no_denominator : Entry → Bool
no_denominator e = eqb e.phase.denominator 0 || (eqb e.period.denominator 0 || eqb e.duration.denominator 0)

-- Whether period or duration is 0.
unfoldable pub no_time : Entry → Bool
no_time e = eqb e.period.numerator 0 || eqb e.duration.numerator 0

-- Refusals 2, 3 and 4 of one train.
unfoldable pub entry_check : ℕ → Entry → Outcome
entry_check i e =
    or_else (test (no_denominator e) (ZeroDenominator i))
    (or_else (test (no_time e) (ZeroTime i))
    (test (above e.duration e.period) (DurationAbovePeriod i)))

-- Refusal 1, then train by train 2, 3 and 4.
unfoldable pub checked : List ℕ → Outcome
checked row =
    or_else (test (not (eqb (length row % numbers) 0)) TrainCount)
    (or_else (test (ltb longest_row (length row)) TrainCount)
    (first_refusal entry_check 0 (entries row)))

-- A multiple that is above the limit.
abbrev pub is_above : Option ℕ → Bool
is_above None = true
is_above (Some m) = false

-- Refusal 5 at the train at position i: the multiple of the denominators up to and including its own is above the limit.
abbrev pub multiple_check : List Entry → ℕ → Entry → Outcome
multiple_check es i e = test (is_above (running (denominators (take (suc i) es)))) (TickTooFine i)

-- Refusal 5, at the first train at which the running multiple passes the limit.
abbrev pub multiple_checked : List Entry → Outcome
multiple_checked es = first_refusal (multiple_check es) 0 es

-- A time that is not a number of ticks within the limit.
abbrev pub too_many : Option ℕ → Bool
too_many None = true
too_many (Some k) = ltb max_ticks k

-- Whether a time of a train is so.
unfoldable pub too_long : Fraction → Entry → Bool
too_long unit e =
    too_many (whole_ticks e.phase unit) || (too_many (whole_ticks e.period unit) || too_many (whole_ticks e.duration unit))

-- Refusal 6 of one train.
unfoldable pub ticks_check : Fraction → ℕ → Entry → Outcome
ticks_check unit i e = test (too_long unit e) (TimeTooLong i)

-- Refusal 6, at the first train with a time above the limit.
abbrev pub ticks_checked : Fraction → List Entry → Outcome
ticks_checked unit es = first_refusal (ticks_check unit) 0 es

-- 1; then train by train 2, 3, 4; then 5 over the table; then 6.
unfoldable pub refusal : List ℕ → Outcome
refusal row = or_else (checked row) (or_else (multiple_checked (entries row)) (ticks_checked (tick (entries row)) (entries row)))

-- What stands in the array where there is no train.
abbrev pub no_train : Train
no_train = record { phase = 0; period = 0; duration = 0 }

-- The trains, and zeros to the end of the array.
abbrev pub filled : List Train → List Train
filled ts = ts ++ replicate (capacity - length ts) no_train

-- The table of some trains as fractions.
abbrev pub table_of : Fraction → List Entry → Table
table_of unit es = record { tick = unit; count = length es; trains = filled (map (train_of unit) es) }

-- What `read` answers.
unfoldable pub reading : List ℕ → Result Table Refusal
reading row = or_else (refusal row) (Ok (table_of (tick (entries row)) (entries row)))
