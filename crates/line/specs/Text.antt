-- What the words mean, with no algorithm. What the decimal notation of a number is, decimal says: `IsDecimal` of its Digits.
--     Within shown    the numbers of a printed line are within their types
use Rattle.std.specs.Prelude.{◌^◌, ◌<◌}
use Rattle.judge.specs.Paper.{Shown, accept, collide, refuse}

-- Trains, places and ticks have 64 bits; L, the division count and the number of a refusal have 32.
abbrev pub Within : Shown → Type 0
Within (accept L divisions) = (L < 2 ^ 32) × (divisions < 2 ^ 32)
Within (collide first second tick L divisions) =
    (first < 2 ^ 64) × ((second < 2 ^ 64) × ((tick < 2 ^ 64) × ((L < 2 ^ 32) × (divisions < 2 ^ 32))))
Within (refuse number train) = (number < 2 ^ 32) × (train < 2 ^ 64)
