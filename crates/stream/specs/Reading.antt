-- What can be said of a reading: how much there is, and which bytes, where those that the reader has left are known. After a fault
-- nothing is said. That the bytes are at the front of the buffer is the library's `ReadsAtMost`.
--     Taken old new answer buffer        they are the next ones of the reader, which has lost them
--     EndedAtNone new answer buffer      where no byte was read into a buffer with room, the reader has none left
--     EndedShort new answer buffer       where the buffer is not full, the reader has none left
use Rattle.std.specs.Prelude.{List, ℕ, Option, Result, IfOk, ◌<◌, ◌≡◌, length, take}
use Rattle.std.specs.Io.KnownBytes.{Consumes, IsAtEnd}
use Rattle.stream.specs.declared.Fault.{Fault}

-- The reader had the bytes that were read, and then what it has left.
abbrev pub Taken : Option (List ℕ) → Option (List ℕ) → Result ℕ Fault → List ℕ → Type 0
Taken old new answer buffer = IfOk answer (λ n. Consumes old new (take n buffer))

-- No byte was read only where there is none left, or the buffer has no room.
abbrev pub EndedAtNone : Option (List ℕ) → Result ℕ Fault → List ℕ → Type 0
EndedAtNone new answer buffer = IfOk answer (λ n. n ≡ 0 → 0 < length buffer → IsAtEnd new)

-- The buffer was filled, or there is no byte left.
abbrev pub EndedShort : Option (List ℕ) → Result ℕ Fault → List ℕ → Type 0
EndedShort new answer buffer = IfOk answer (λ n. n < length buffer → IsAtEnd new)
