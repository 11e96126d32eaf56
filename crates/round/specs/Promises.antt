-- What is proved of the round trips, a line each; proofs/Promises.antt proves the whole record.
use Rattle.std.specs.Prelude.{ℕ, ◌≡◌, ◌↔◌, List, length}
use Rattle.refusal.specs.Paper.{answers, refuse}
use Rattle.refusal.specs.Order.{None, Gives}
use Rattle.table.specs.Row.{entries}
use Rattle.stored.specs.Paper.{paper_answer}
use Rattle.round.specs.Given.{kept_order, again_order}
use Rattle.round.specs.Answer.{kept, again}

pub record Promises : Type 0 where
  -- A row that is saved and loaded is refused with a number and a train exactly when the order gives them; else all its trains come back.
  pub kept_refused :
      (row : List ℕ) (room number train : ℕ) → (paper_answer (kept row room) ≡ refuse number train) ↔ Gives (kept_order row room) number train
  pub kept_answers :
      (row : List ℕ) (room k : ℕ) → (paper_answer (kept row room) ≡ answers k) ↔ (None (kept_order row room) × (k ≡ length (entries row)))
  -- The same of a stored table that is loaded and saved; else all its bytes come back.
  pub again_refused :
      (bs : List ℕ) (room number train : ℕ) → (paper_answer (again bs room) ≡ refuse number train) ↔ Gives (again_order bs room) number train
  pub again_answers :
      (bs : List ℕ) (room n : ℕ) → (paper_answer (again bs room) ≡ answers n) ↔ (None (again_order bs room) × (n ≡ length bs))
