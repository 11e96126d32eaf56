-- What is proved of the printed lines, a line each; proofs/Promises.antt proves the whole record.
use Rattle.std.specs.Prelude.{ℕ, ◌≤◌, ◌≡◌, [], ◌∷◌, length, Some}
use Rattle.dispatcher.specs.declared.Dispatcher.{Dispatcher}
use Rattle.dispatcher.specs.Calls as calls
use Rattle.dispatcher.specs.Played.{event_of, record_after}
use Rattle.script.specs.declared.Call.TheVariants.{Admit, Withdraw, Step}
use Rattle.reply.specs.Events.{shown_event}
use Rattle.reply.specs.Answer.{shown, after}
use Rattle.reply.specs.Lines.{Shown, fresh, place, withdrawn, idle, starts, goes_on, refuse, bad, line_of, Within, longest}

pub record Promises : Type 0 where
  -- What is printed for a call is what is printed for its event in the dispatcher's log, and the dispatcher that is left is the record
  -- after it: so what is promised of logs is promised of what is printed.
  pub admit_shown :
      (d : Dispatcher) (delay period duration : ℕ) →
      (shown d (Some (Admit delay period duration)) ≡ shown_event (event_of d (calls.admit delay period duration)))
      × (after d (Some (Admit delay period duration)) ≡ record_after d (calls.admit delay period duration))
  pub withdraw_shown :
      (d : Dispatcher) (q : ℕ) →
      (shown d (Some (Withdraw q)) ≡ shown_event (event_of d (calls.withdraw q))) × (after d (Some (Withdraw q)) ≡ record_after d (calls.withdraw q))
  pub step_shown :
      (d : Dispatcher) (count : ℕ) →
      (shown d (Some (Step count)) ≡ shown_event (event_of d (calls.step count))) × (after d (Some (Step count)) ≡ record_after d (calls.step count))
  -- Nothing is lost in print: two lines of the same bytes have the same word and the same numbers.
  pub line_tells : (s t : Shown) → line_of s ≡ line_of t → s ≡ t
  -- No line of numbers within their types is longer than the longest, and one is as long.
  pub line_fits : (s : Shown) → Within s → length (line_of s) ≤ longest
  pub line_reaches : length (line_of (refuse 4294967295 18446744073709551615)) ≡ longest
  -- Examples: `fresh`, `place 0`, `withdrawn`, `idle`, `starts 63`, `goes-on 7`, `refuse 15 2` and `bad`, each with its newline.
  pub fresh_example : line_of fresh ≡ 102 ∷ 114 ∷ 101 ∷ 115 ∷ 104 ∷ 10 ∷ []
  pub place_example : line_of (place 0) ≡ 112 ∷ 108 ∷ 97 ∷ 99 ∷ 101 ∷ 32 ∷ 48 ∷ 10 ∷ []
  pub withdrawn_example : line_of withdrawn ≡ 119 ∷ 105 ∷ 116 ∷ 104 ∷ 100 ∷ 114 ∷ 97 ∷ 119 ∷ 110 ∷ 10 ∷ []
  pub idle_example : line_of idle ≡ 105 ∷ 100 ∷ 108 ∷ 101 ∷ 10 ∷ []
  pub starts_example : line_of (starts 63) ≡ 115 ∷ 116 ∷ 97 ∷ 114 ∷ 116 ∷ 115 ∷ 32 ∷ 54 ∷ 51 ∷ 10 ∷ []
  pub goes_on_example : line_of (goes_on 7) ≡ 103 ∷ 111 ∷ 101 ∷ 115 ∷ 45 ∷ 111 ∷ 110 ∷ 32 ∷ 55 ∷ 10 ∷ []
  pub refuse_example : line_of (refuse 15 2) ≡ 114 ∷ 101 ∷ 102 ∷ 117 ∷ 115 ∷ 101 ∷ 32 ∷ 49 ∷ 53 ∷ 32 ∷ 50 ∷ 10 ∷ []
  pub bad_example : line_of bad ≡ 98 ∷ 97 ∷ 100 ∷ 10 ∷ []
