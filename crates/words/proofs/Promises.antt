-- The proof of what specs/Promises.antt states.
-- Assumes nothing.
use Rattle.std.proofs.Common.{ℕ, List, sym, subst}
use Rattle.dispatcher.specs.Calls.{Call, Event}
use Rattle.dispatcher.specs.History.{beginning, Rights}
use Rattle.dispatcher.proofs.Promises as dispatcher
use Rattle.words.specs.Promises.{Promises}
use Rattle.words.specs.Answer.{fresh_in}
use Rattle.words.specs.Played.{log_in}
use Rattle.words.proofs.Played.{call_stands, call_length, words_log, fresh_stands, fresh_log, refused_words}

words_right : (count : ℕ) (calls : List Call) → Rights (beginning count) (log_in (fresh_in count) calls)
words_right count calls =
    subst (λ (log : List Event). Rights (beginning count) log) (sym (fresh_log count calls)) ((dispatcher.promises).log_right count calls)

pub promises : Promises
promises =
    record {
      fresh_stands = fresh_stands;
      call_stands = call_stands;
      call_length = call_length;
      words_log = words_log;
      fresh_log = fresh_log;
      words_right = words_right;
      refused_words = refused_words;
    }
