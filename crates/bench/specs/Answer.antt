-- The number that each function hands back, which holds three, the figures of a verdict in the caller's memory, and how long a line is.
--     refused_kind    the kind of every refusal, which no other answer has
--     done_kind       the kind of a call that was done, where there is no other
--     accepted_kind, collide_kind
--                             the kinds of a verdict
--     idle_kind, starts_kind, goes_on_kind
--                             the kinds of a step
--     kind_number kind          the number of a kind of the code
--     kind_of n                 the kind with a number; each kind is given back by its own (kind_back)
--     Parts                     a refusal's number, a kind and a value
--     kind_unit, number_unit    what one kind counts in the number that is handed back, and one number of a refusal
--     code p                    the number that holds the three
--     parts answer              the three that a number holds, as the header's functions take it apart
--     Fits p                    each of the three has room in the number
--     plain kind value          a call that was not refused
--     refused_parts r           a call that was refused: the paper's number, and its train or place
--     verdict_parts v, value_parts a, withdrawal_parts w, tick_parts t
--                             the three of a verdict, of a length, a count or a place, of a withdrawal, and of a step
--     verdict_code v, value_code a, withdrawal_code w, tick_code t
--                             the number of each
--     Seen refused answer    whether a call was refused is seen in its number in two ways, and both are right
--     figure_count           how many figures there are
--     figures_in v before    the figures after a verdict
--     longest_line           the bytes of the longest line that a call writes
use Rattle.std.specs.Prelude.{ℕ, ◌+◌, ◌*◌, ◌/◌, ◌%◌, ◌^◌, ◌<◌, ◌≡◌, ◌↔◌, cond, eqb, List, [], ◌∷◌, Result, Ok, Err}
use mathlib.Core.Path.{refl}
use Rattle.std.proofs.lemmas.List.Edits.{sets}
use Rattle.refusal.specs.declared.Refusal.{Refusal}
use Rattle.refusal.specs.Paper.{paper}
use Rattle.judge.specs.declared.Verdict.{Verdict}
use Rattle.judge.specs.declared.Verdict.TheVariants as verdicts
use Rattle.dispatcher.specs.declared.Tick.{Tick}
use Rattle.dispatcher.specs.declared.Tick.TheVariants as ticks
use Rattle.bench.specs.declared.Kind.{Kind}
use Rattle.bench.specs.declared.Kind.TheVariants as kinds

-- A call that was refused. A number of zeros is so no answer that can be taken for a good one.
abbrev pub refused_kind : ℕ
refused_kind = 0

-- A call that was done, and has no other kind: a line, a table that was saved or loaded, a listing, an admission, a withdrawal.
abbrev pub done_kind : ℕ
done_kind = 1

-- A table that was accepted.
abbrev pub accepted_kind : ℕ
accepted_kind = 2

-- A table with two trains that collide.
abbrev pub collide_kind : ℕ
collide_kind = 3

-- A tick on which nothing runs.
abbrev pub idle_kind : ℕ
idle_kind = 4

-- A tick on which a train starts.
abbrev pub starts_kind : ℕ
starts_kind = 5

-- A tick on which a run goes on.
abbrev pub goes_on_kind : ℕ
goes_on_kind = 6

-- The number of each kind that the code has.
abbrev pub kind_number : Kind → ℕ
kind_number kinds.Refused = refused_kind
kind_number kinds.Done = done_kind
kind_number kinds.Accepted = accepted_kind
kind_number kinds.Collide = collide_kind
kind_number kinds.Idle = idle_kind
kind_number kinds.Starts = starts_kind
kind_number kinds.GoesOn = goes_on_kind

-- The kind with a number; of a number that no kind has it is that of a refusal.
abbrev pub kind_of : ℕ → Kind
kind_of n =
    cond (eqb n done_kind) kinds.Done
    (cond (eqb n accepted_kind) kinds.Accepted
    (cond (eqb n collide_kind) kinds.Collide
    (cond (eqb n idle_kind) kinds.Idle
    (cond (eqb n starts_kind) kinds.Starts
    (cond (eqb n goes_on_kind) kinds.GoesOn
    kinds.Refused)))))

-- Each kind is given back by its number, so an answer is known by what it holds, and can be copied.
pub kind_back : (kind : Kind) → kind_of (kind_number kind) ≡ kind
kind_back kinds.Refused = refl
kind_back kinds.Done = refl
kind_back kinds.Accepted = refl
kind_back kinds.Collide = refl
kind_back kinds.Idle = refl
kind_back kinds.Starts = refl
kind_back kinds.GoesOn = refl

-- What an answer holds: the number of the refusal, which is 0 where there is none, a kind, and a place, a length or a count.
pub record Parts : Type 0 where
  pub number : ℕ
  pub kind : ℕ
  pub value : ℕ

-- A kind stands above the 32 bits of the value.
abbrev pub kind_unit : ℕ
kind_unit = 2 ^ 32

-- A refusal's number stands above the 8 bits of the kind.
abbrev pub number_unit : ℕ
number_unit = 2 ^ 40

-- The three as one number.
abbrev pub code : Parts → ℕ
code p = p.number * number_unit + p.kind * kind_unit + p.value

-- What urzabelki_refusal, urzabelki_kind and urzabelki_value of the header take out of it.
abbrev pub parts : ℕ → Parts
parts answer = record { number = answer / number_unit; kind = answer / kind_unit % 256; value = answer % kind_unit }

-- A number of 24 bits, a kind of 8 and a value of 32.
pub record Fits (p : Parts) : Type 0 where
  pub number : p.number < 2 ^ 24
  pub kind : p.kind < 256
  pub value : p.value < 2 ^ 32

-- A call that was not refused.
abbrev pub plain : (kind value : ℕ) → Parts
plain kind value = record { number = 0; kind = kind; value = value }

-- A call that was refused.
abbrev pub refused_parts : Refusal → Parts
refused_parts r = record { number = (paper r).number; kind = refused_kind; value = (paper r).place }

-- A verdict that is not refused has nothing but its kind; its figures stand in the caller's memory.
abbrev pub verdict_parts : Verdict → Parts
verdict_parts (verdicts.Accepted figures) = plain accepted_kind 0
verdict_parts (verdicts.Collide meeting figures) = plain collide_kind 0
verdict_parts (verdicts.Refused r) = refused_parts r

-- The length of a line, of a stored table or of a listing, the count of the trains that were loaded or imported, or the place of a
-- train that was admitted.
abbrev pub value_parts : Result ℕ Refusal → Parts
value_parts (Ok n) = plain done_kind n
value_parts (Err r) = refused_parts r

-- A withdrawal has nothing to say but that it was done.
abbrev pub withdrawal_parts : Result (Unit {0}) Refusal → Parts
withdrawal_parts (Ok done) = plain done_kind 0
withdrawal_parts (Err r) = refused_parts r

-- A start and a run that goes on have their place.
abbrev pub tick_parts : Result Tick Refusal → Parts
tick_parts (Ok ticks.Idle) = plain idle_kind 0
tick_parts (Ok (ticks.Starts q)) = plain starts_kind q
tick_parts (Ok (ticks.GoesOn q)) = plain goes_on_kind q
tick_parts (Err r) = refused_parts r

-- The number of a verdict.
abbrev pub verdict_code : Verdict → ℕ
verdict_code v = code (verdict_parts v)

-- The number of a length, a count or a place.
abbrev pub value_code : Result ℕ Refusal → ℕ
value_code a = code (value_parts a)

-- The number of a withdrawal.
abbrev pub withdrawal_code : Result (Unit {0}) Refusal → ℕ
withdrawal_code w = code (withdrawal_parts w)

-- The number of a step.
abbrev pub tick_code : Result Tick Refusal → ℕ
tick_code t = code (tick_parts t)

-- A call was refused exactly when the kind of its number is that of refusals, and exactly when a refusal's number is in it.
pub record Seen (refused : Type 0) (answer : ℕ) : Type 0 where
  pub by_kind : refused ↔ ((parts answer).kind ≡ refused_kind)
  pub by_number : refused ↔ (0 < (parts answer).number)

-- L, the division count, the two trains of a collision and its tick.
abbrev pub figure_count : ℕ
figure_count = 5

-- After an accepted table L and the division count are written, after a collision all five, after a refusal none.
abbrev pub figures_in : Verdict → (before : List ℕ) → List ℕ
figures_in (verdicts.Accepted figures) before = sets before 0 (figures.multiple ∷ figures.divisions ∷ [])
figures_in (verdicts.Collide meeting figures) before =
    sets before 0 (figures.multiple ∷ figures.divisions ∷ meeting.first ∷ meeting.second ∷ meeting.tick ∷ [])
figures_in (verdicts.Refused r) before = before

-- `collide`, two positions of two digits, a tick of 14 digits, an L of 7 and a division count of 5, five spaces and a newline. The
-- numbers of a verdict on a table are not longer, though their types would be: `longest` of the crate line is for those.
abbrev pub longest_line : ℕ
longest_line = 43
