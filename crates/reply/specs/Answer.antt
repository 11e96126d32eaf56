-- The functions that the contracts cite: what is printed for a call on a dispatcher, and what becomes of the dispatcher.
--     shown_refusal r, shown_admission a, shown_withdrawal w, shown_tick t    what is printed for an answer of the code
--     shown_in_tick t                                                         what is printed for a tick
--     shown d call                                                            what is printed for the call of a line
--     after d call                                                            the dispatcher after that call
--     reply_to d said                                                         the printed line for a line of a script, which is read without its newline
--     played d said at room                                                   what `play` answers
use Rattle.std.specs.Prelude.{ℕ, ◌+◌, cond, List, ltb, length, Option, None, Some, Result, Ok, Err, ⊤}
use Rattle.refusal.specs.declared.Refusal.{Refusal}
use Rattle.refusal.specs.declared.Refusal.TheVariants.{BufferTooShort}
use Rattle.refusal.specs.Paper.{paper}
use Rattle.dispatcher.specs.declared.Dispatcher.{Dispatcher}
use Rattle.dispatcher.specs.declared.Tick.{Tick}
use Rattle.dispatcher.specs.declared.Tick.TheVariants as ticks
use Rattle.dispatcher.specs.Answer as dispatcher
use Rattle.script.specs.declared.Call.{Call}
use Rattle.script.specs.declared.Call.TheVariants.{Fresh, Admit, Withdraw, Step}
use Rattle.script.specs.Answer.{call_in}
use Rattle.reply.specs.declared.Played.{Played}
use Rattle.reply.specs.Lines.{Shown, fresh, place, withdrawn, idle, starts, goes_on, refuse, bad, line_of, longest}

-- A refusal is printed with the paper's number and place.
abbrev pub shown_refusal : Refusal → Shown
shown_refusal r = refuse (paper r).number (paper r).place

-- What is printed for an admission.
abbrev pub shown_admission : Result ℕ Refusal → Shown
shown_admission (Ok q) = place q
shown_admission (Err r) = shown_refusal r

-- What is printed for a withdrawal.
abbrev pub shown_withdrawal : Result ⊤ Refusal → Shown
shown_withdrawal (Ok _) = withdrawn
shown_withdrawal (Err r) = shown_refusal r

-- What is printed for what the processor does in a tick.
abbrev pub shown_in_tick : Tick → Shown
shown_in_tick ticks.Idle = idle
shown_in_tick (ticks.Starts q) = starts q
shown_in_tick (ticks.GoesOn q) = goes_on q

-- What is printed for a step.
abbrev pub shown_tick : Result Tick Refusal → Shown
shown_tick (Ok tick) = shown_in_tick tick
shown_tick (Err r) = shown_refusal r

-- What is printed for the call of a line: what the dispatcher answers, or that the line says no call.
unfoldable pub shown : Dispatcher → Option Call → Shown
shown d None = bad
shown d (Some (Fresh count)) = fresh
shown d (Some (Admit delay period duration)) =
    shown_admission (dispatcher.admission d (record { phase = delay; period = period; duration = duration })).answer
shown d (Some (Withdraw q)) = shown_withdrawal (dispatcher.withdrawal d q).answer
shown d (Some (Step count)) = shown_tick (dispatcher.stepping d count).answer

-- What becomes of the dispatcher: `fresh C` puts a fresh one in its place, and a line that says no call leaves it.
unfoldable pub after : Dispatcher → Option Call → Dispatcher
after d None = d
after d (Some (Fresh count)) = dispatcher.fresh count
after d (Some (Admit delay period duration)) =
    (dispatcher.admission d (record { phase = delay; period = period; duration = duration })).dispatcher
after d (Some (Withdraw q)) = (dispatcher.withdrawal d q).dispatcher
after d (Some (Step count)) = (dispatcher.stepping d count).dispatcher

-- The printed line for a line of a script.
abbrev pub reply_to : Dispatcher → List ℕ → List ℕ
reply_to d said = line_of (shown d (call_in said))

-- What `play` answers. It wants room for the longest line, whatever the call: with less behind the index nothing is called, and
-- the dispatcher is handed back as it came.
unfoldable pub played : Dispatcher → (said : List ℕ) (at room : ℕ) → Played
played d said at room =
    cond (ltb room (at + longest))
    (record { written = Err BufferTooShort; dispatcher = d })
    (record { written = Ok (at + length (reply_to d said)); dispatcher = after d (call_in said) })
