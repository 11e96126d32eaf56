-- What is proved of the words of a dispatcher, a line each; proofs/Promises.antt proves the whole record.
use Rattle.std.specs.Prelude.{◌≡◌, ℕ, List, length}
use Rattle.dispatcher.specs.Calls.{Call, refused}
use Rattle.dispatcher.specs.History.{beginning, Rights}
use Rattle.dispatcher.specs.Answer.{fresh}
use Rattle.dispatcher.specs.Played.{event_of, record_after, log_of}
use Rattle.words.specs.Record.{word_count, record_in}
use Rattle.words.specs.Answer.{fresh_in}
use Rattle.words.specs.Played.{words_after, log_in}

pub record Promises : Type 0 where
  -- The words of a fresh start stand for the record of one.
  pub fresh_stands : (count : ℕ) → record_in (fresh_in count) ≡ fresh count
  -- The words after a call stand for the record after it, whatever the words are, and are as many.
  pub call_stands : (ws : List ℕ) → length ws ≡ word_count → (call : Call) → record_in (words_after ws call) ≡ record_after (record_in ws) call
  pub call_length : (ws : List ℕ) → length ws ≡ word_count → (call : Call) → length (words_after ws call) ≡ word_count
  -- Through any list of calls, what is answered on words is the log of the record that they stand for, and after a fresh start it is right.
  -- So all that the dispatcher's own promises say of its log is so of the words.
  pub words_log : (ws : List ℕ) → length ws ≡ word_count → (calls : List Call) → log_in ws calls ≡ log_of (record_in ws) calls
  pub fresh_log : (count : ℕ) (calls : List Call) → log_in (fresh_in count) calls ≡ log_of (fresh count) calls
  pub words_right : (count : ℕ) (calls : List Call) → Rights (beginning count) (log_in (fresh_in count) calls)
  -- A refused call leaves every word as it was.
  pub refused_words :
      (ws : List ℕ) (call c : Call) (number place : ℕ) → event_of (record_in ws) call ≡ refused c number place → words_after ws call ≡ ws
