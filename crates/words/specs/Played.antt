-- What is answered on words through a list of calls, as a log, in the words of the dispatcher's own.
--     words_after ws call    the words after a call
--     log_in ws calls        the log of some calls
use Rattle.std.specs.Prelude.{ℕ, List, [], ◌∷◌}
use Rattle.dispatcher.specs.Calls.{Call, admit, withdraw, step, Event}
use Rattle.dispatcher.specs.Played.{event_of}
use Rattle.words.specs.Record.{record_in}
use Rattle.words.specs.Answer.{admission_in, withdrawal_in, stepping_in, admitted_in, withdrew_in, stepped_in}

-- What becomes of the words.
unfoldable pub words_after : List ℕ → Call → List ℕ
words_after ws (admit delay period duration) = admitted_in (admission_in ws delay period duration) ws
words_after ws (withdraw q) = withdrew_in q (withdrawal_in ws q) ws
words_after ws (step count) = stepped_in (stepping_in ws count) ws

-- The answers through a list of calls.
unfoldable pub log_in : List ℕ → List Call → List Event
log_in ws [] = []
log_in ws (call ∷ calls) = event_of (record_in ws) call ∷ log_in (words_after ws call) calls
