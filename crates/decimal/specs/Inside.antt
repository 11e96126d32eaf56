-- For callers that go on with the text behind a number. No contract of this crate cites this file; proofs/Ways.antt ties it to `read`.
--     found_at text number    what the code found in a text: it says where the number ends, and there the rest begins
use Rattle.std.specs.Prelude.{ℕ, List, drop, Option, None, Some}
use Rattle.decimal.specs.declared.Number.{Number}
use Rattle.decimal.specs.Answer.{Found, nothing, found}

-- The number that the code found, and the text behind its last digit.
abbrev pub found_at : List ℕ → Option Number → Found ℕ
found_at text None = nothing
found_at text (Some number) = found number.value (drop number.end text)
