-- From what `line` leaves in a buffer to what is handed on. Assumes nothing.
use Prim.Native.Nat.{ℕ}
use mathlib.Core.Path.{◌≡◌, refl, ap, ◌∙◌}
use mathlib.Core.List.{List}
use lib.ListN.{length, take, drop}
use lib.Seq.{take_at}
use Rattle.lent.specs.Lent.{over}
use Rattle.lent.proofs.Over.{over_front}

-- A text that was written to the front of a buffer is its first bytes.
pub front_written : (before text : List ℕ) → take (length text) (over before 0 text) ≡ text
front_written before text =
    ap (take (length text)) (over_front before text (length text) refl) ∙ take_at text (drop (length text) before) (length text) refl
