-- What is proved of an accepted table in a fresh dispatcher; proofs/Promises.antt proves the whole record.
use Rattle.std.specs.Prelude.{ℕ, ◌≡◌, List}
use Rattle.table.specs.Row.{trains}
use Rattle.judge.specs.Paper.{accept, paper}
use Rattle.judge.specs.Answer.{verdict}
use Rattle.dispatcher.specs.Tables.{admissions, seated}
use Rattle.dispatcher.specs.Answer.{fresh}
use Rattle.dispatcher.specs.Played.{log_of}

pub record Promises : Type 0 where
  -- Admitting an accepted table in order into a fresh dispatcher, phases as delays, succeeds; place and position then agree.
  pub accepted_seated :
      (row : List ℕ) (L d : ℕ) → paper (verdict row) ≡ accept L d →
      (count : ℕ) → log_of (fresh count) (admissions (trains row)) ≡ seated 0 (trains row)
