-- What is printed for a call is what is printed for its event, and the dispatcher that is left is the record after it.
-- Core: none; each goes by the cases of its answer.
-- Assumes nothing.
use Prim.Native.Nat.{ℕ}
use Rattle.std.specs.Prelude.{Some, Result, Ok, Err, ⊤}
use Rattle.refusal.specs.declared.Refusal.{Refusal}
use mathlib.Core.Path.{◌≡◌, refl}
use Rattle.dispatcher.specs.declared.Dispatcher.{Dispatcher}
use Rattle.dispatcher.specs.declared.Tick.{Tick}
use Rattle.dispatcher.specs.declared.Tick.TheVariants as ticks
use Rattle.dispatcher.specs.Calls.{admit, withdraw, step}
use Rattle.dispatcher.specs.Answer.{admission, withdrawal, stepping}
use Rattle.dispatcher.specs.Played.{admission_event, withdrawal_event, tick_event, event_of, record_after}
use Rattle.script.specs.declared.Call.TheVariants.{Admit, Withdraw, Step}
use Rattle.reply.specs.Events.{shown_event}
use Rattle.reply.specs.Answer.{shown_admission, shown_withdrawal, shown_tick, shown, after}

pub admit_shown :
    (d : Dispatcher) (delay period duration : ℕ) →
    (shown d (Some (Admit delay period duration)) ≡ shown_event (event_of d (admit delay period duration)))
    × (after d (Some (Admit delay period duration)) ≡ record_after d (admit delay period duration))
unfolding shown after event_of record_after
admit_shown d delay period duration = (go (admission d (record { phase = delay; period = period; duration = duration })).answer, refl)
  where
    go : (a : Result ℕ Refusal) → shown_admission a ≡ shown_event (admission_event delay period duration a)
    go (Ok q) = refl
    go (Err r) = refl

pub withdraw_shown :
    (d : Dispatcher) (q : ℕ) →
    (shown d (Some (Withdraw q)) ≡ shown_event (event_of d (withdraw q))) × (after d (Some (Withdraw q)) ≡ record_after d (withdraw q))
unfolding shown after event_of record_after
withdraw_shown d q = (go (withdrawal d q).answer, refl)
  where
    go : (w : Result ⊤ Refusal) → shown_withdrawal w ≡ shown_event (withdrawal_event q w)
    go (Ok tt) = refl
    go (Err r) = refl

pub step_shown :
    (d : Dispatcher) (count : ℕ) →
    (shown d (Some (Step count)) ≡ shown_event (event_of d (step count))) × (after d (Some (Step count)) ≡ record_after d (step count))
unfolding shown after event_of record_after
step_shown d count = (go (stepping d count).answer, refl)
  where
    go : (t : Result Tick Refusal) → shown_tick t ≡ shown_event (tick_event count t)
    go (Ok ticks.Idle) = refl
    go (Ok (ticks.Starts q)) = refl
    go (Ok (ticks.GoesOn q)) = refl
    go (Err r) = refl
