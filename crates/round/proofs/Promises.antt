-- The proof of what specs/Promises.antt states: the checks of the round trips follow their order.
-- Assumes nothing.
use Prim.Native.Nat.{ℕ, ◌*◌}
use mathlib.Core.Path.{◌≡◌}
use mathlib.Core.Logic.{◌↔◌}
use mathlib.Core.List.{List}
use lib.Dec.{ltb}
use lib.ListN.{length}
use Rattle.refusal.specs.declared.Refusal.TheVariants.{BufferTooShort}
use Rattle.refusal.specs.Paper.{answers, refuse}
use Rattle.refusal.specs.Order.{None, Gives}
use Rattle.table.specs.Row.{numbers, longest_row, entries}
use Rattle.table.specs.Given.{checked_order}
use Rattle.table.specs.Answer.{test, or_else, checked}
use Rattle.table.proofs.InOrder.{ltb_is, Follows, follows_then, follows_last}
use Rattle.table.proofs.Following.{checked_follows}
use Rattle.stored.specs.Given.{load_order}
use Rattle.stored.specs.Paper.{paper_answer}
use Rattle.stored.specs.Answer.{load_check}
use Rattle.stored.proofs.Following.{load_follows}
use Rattle.stored.proofs.Numbers.{answer_gives, answer_passes}
use Rattle.round.specs.Given.{kept_order, again_order}
use Rattle.round.specs.Answer.{kept, again}
use Rattle.round.specs.Promises.{Promises}

module _ (row : List ℕ) (room : ℕ) where
  kept_follows :
      Follows (or_else (checked row) (test (ltb room (length (entries row) * numbers)) BufferTooShort)) (kept_order row room)
  kept_follows =
      follows_then (checked row) _ (checked_order row) _ (checked_follows row)
      (λ passed. follows_last _ BufferTooShort _ (ltb_is room (length (entries row) * numbers)))

  kept_refused : (number train : ℕ) → (paper_answer (kept row room) ≡ refuse number train) ↔ Gives (kept_order row room) number train
  unfolding kept
  kept_refused = answer_gives _ (kept_order row room) kept_follows _

  kept_answers : (k : ℕ) → (paper_answer (kept row room) ≡ answers k) ↔ (None (kept_order row room) × (k ≡ length (entries row)))
  unfolding kept
  kept_answers = answer_passes _ (kept_order row room) kept_follows _

module _ (bs : List ℕ) (room : ℕ) where
  again_follows : Follows (or_else (load_check bs longest_row) (test (ltb room (length bs)) BufferTooShort)) (again_order bs room)
  again_follows =
      follows_then (load_check bs longest_row) _ (load_order bs longest_row) _ (load_follows bs longest_row)
      (λ passed. follows_last _ BufferTooShort _ (ltb_is room (length bs)))

  again_refused : (number train : ℕ) → (paper_answer (again bs room) ≡ refuse number train) ↔ Gives (again_order bs room) number train
  unfolding again
  again_refused = answer_gives _ (again_order bs room) again_follows _

  again_answers : (n : ℕ) → (paper_answer (again bs room) ≡ answers n) ↔ (None (again_order bs room) × (n ≡ length bs))
  unfolding again
  again_answers = answer_passes _ (again_order bs room) again_follows _

pub promises : Promises
promises = record { kept_refused = kept_refused; kept_answers = kept_answers; again_refused = again_refused; again_answers = again_answers }
