-- What the paper prints of a verdict: a word and its values.
--     Shown            one of the three printed lines, with its numbers in their order
--     paper verdict    the line that is printed for a verdict
use Rattle.std.specs.Prelude.{ℕ}
use Rattle.refusal.specs.Paper as refusals
use Rattle.judge.specs.declared.Verdict.{Verdict}
use Rattle.judge.specs.declared.Verdict.TheVariants.{Accepted, Collide, Refused}

-- The three lines: `accept L divisions`, `collide first second tick L divisions` and `refuse number train`.
pub data Shown : Type 0 where
  accept : (L divisions : ℕ) → Shown
  collide : (first second tick L divisions : ℕ) → Shown
  refuse : (number train : ℕ) → Shown

-- The line of each verdict.
abbrev pub paper : Verdict → Shown
paper (Accepted figures) = accept figures.multiple figures.divisions
paper (Collide meeting figures) =
    collide meeting.first meeting.second meeting.tick figures.multiple figures.divisions
paper (Refused refusal) = refuse (refusals.paper refusal).number (refusals.paper refusal).place
