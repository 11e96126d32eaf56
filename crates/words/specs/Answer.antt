-- The functions that the contracts cite: the words after each call, by what the record that they stand for answers. Only the words
-- of the place that the call changes, and those behind the places, are written; a refused call writes none.
--     admission_in ws delay P d, withdrawal_in ws q, stepping_in ws count
--                             what the record that the words stand for answers
--     fresh_in count                          the words of a fresh start
--     at_place d q                            what stands at a place of a record
--     both_over ws q d                        the words with place q and what stands behind the places of a record
--     admitted_by, withdrew_by, stepped_by    the words after a call, by its answer and the record after it
--     admitted_in a ws                        the words after an admission
--     withdrew_in q w ws                      the words after a withdrawal from place q
--     stepped_in s ws                         the words after a step
use Rattle.std.specs.Prelude.{ℕ, List, slice_index_or, Result, Ok, Err, ⊤}
use Rattle.refusal.specs.declared.Refusal.{Refusal}
use Rattle.dispatcher.specs.declared.Place.{Place}
use Rattle.dispatcher.specs.declared.Dispatcher.{Dispatcher}
use Rattle.dispatcher.specs.declared.Called.{Called}
use Rattle.dispatcher.specs.declared.Tick.{Tick}
use Rattle.dispatcher.specs.declared.Tick.TheVariants as tick
use Rattle.dispatcher.specs.Answer.{empty_place, fresh, admission, withdrawal, stepping}
use Rattle.words.specs.Record.{record_in, words_of, place_over, tail_over}

-- What the record that the words stand for answers to an admission.
abbrev pub admission_in : List ℕ → (delay period duration : ℕ) → Called (Result ℕ Refusal)
admission_in ws delay period duration = admission (record_in ws) (record { phase = delay; period = period; duration = duration })

-- What it answers to a withdrawal.
abbrev pub withdrawal_in : List ℕ → ℕ → Called (Result ⊤ Refusal)
withdrawal_in ws q = withdrawal (record_in ws) q

-- What it answers to a step.
abbrev pub stepping_in : List ℕ → ℕ → Called (Result Tick Refusal)
stepping_in ws count = stepping (record_in ws) count

-- The words of a fresh start, whatever was there before.
abbrev pub fresh_in : ℕ → List ℕ
fresh_in count = words_of (fresh count)

-- What stands at a place of a record.
abbrev pub at_place : Dispatcher → ℕ → Place
at_place d q = slice_index_or d.places q empty_place

-- One place of a record, and what stands behind the places, written over the words.
abbrev pub both_over : List ℕ → ℕ → Dispatcher → List ℕ
both_over ws q d = tail_over (place_over ws q (at_place d q)) d

-- After an admission, by its answer and the record after it: the train's place is written.
abbrev pub admitted_by : Result ℕ Refusal → Dispatcher → List ℕ → List ℕ
admitted_by (Ok q) d ws = place_over ws q (at_place d q)
admitted_by (Err r) d ws = ws

-- After a withdrawal: the place is written, and the run in progress.
abbrev pub withdrew_by : Result ⊤ Refusal → ℕ → Dispatcher → List ℕ → List ℕ
withdrew_by (Ok tt) q d ws = both_over ws q d
withdrew_by (Err r) q d ws = ws

-- After a step: the count and the run in progress are written, and the place of a train that starts.
abbrev pub stepped_by : Result Tick Refusal → Dispatcher → List ℕ → List ℕ
stepped_by (Ok tick.Idle) d ws = tail_over ws d
stepped_by (Ok (tick.Starts q)) d ws = both_over ws q d
stepped_by (Ok (tick.GoesOn q)) d ws = tail_over ws d
stepped_by (Err r) d ws = ws

-- The words after an admission.
abbrev pub admitted_in : Called (Result ℕ Refusal) → List ℕ → List ℕ
admitted_in a ws = admitted_by a.answer a.dispatcher ws

-- The words after a withdrawal.
abbrev pub withdrew_in : ℕ → Called (Result ⊤ Refusal) → List ℕ → List ℕ
withdrew_in q w ws = withdrew_by w.answer q w.dispatcher ws

-- The words after a step.
abbrev pub stepped_in : Called (Result Tick Refusal) → List ℕ → List ℕ
stepped_in s ws = stepped_by s.answer s.dispatcher ws
