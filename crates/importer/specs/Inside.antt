-- What the private functions answer. No public contract cites this file, and no caller need read it.
--     standing l                     a place in a text, where l begins
--     told r, behind r               what the code read of a text, with the text behind it; and such a text alone
--     Reads answers reads            a function with these answers reads what `reads` says
--     listed_from l                  what the records list that stand behind the heading
--     tallied n o x                  what `scan` answers, where n trains with the outcome o stand before those of x
--     trains_check s room            refusal 1, then that of the trains, which is known, then 8
--     Ready x n room                 x lists n trains, and there is room for them
use Rattle.std.specs.Prelude.{ℕ, ◌+◌, ◌*◌, ◌≤◌, ◌≡◌, List, ltb, length, Option, Some, None, Result, Ok, Err}
use denote.Ref.{Bor}
use Rattle.refusal.specs.declared.Refusal.{Refusal}
use Rattle.refusal.specs.declared.Refusal.TheVariants.{TrainCount, BufferTooShort, BadRecord}
use Rattle.decimal.specs.Answer.{Found, nothing, found}
use Rattle.table.specs.Row.{capacity, numbers}
use Rattle.table.specs.Answer.{Outcome, test, or_else, first_refusal, entry_check}
use Rattle.listing.specs.Answer.{Listed, bad, trains, entries_from, trains_of}
use Rattle.importer.specs.declared.Scanned.{Scanned}

-- Nothing but a place in the text.
abbrev pub standing : List ℕ → Found (Unit {0})
standing l = found tt l

-- What was read, and the text behind it.
abbrev pub told : {A : Type 0} → Option (A × Bor (List ℕ)) → Found A
told None = nothing
told (Some r) = found r.0 r.1.now

-- The text behind what has no value.
abbrev pub behind : Option (Bor (List ℕ)) → Found (Unit {0})
behind None = nothing
behind (Some rest) = standing rest.now

-- Whatever a function may answer for a text is what is read of it.
abbrev pub Reads : {A : Type 0} → (Bor (List ℕ) → Option (A × Bor (List ℕ)) → Type 0) → (List ℕ → Found A) → Type 0
Reads {A} answers reads = (text : Bor (List ℕ)) (r : Option (A × Bor (List ℕ))) → answers text r → told r ≡ reads text.now

-- The records behind the heading, from record 2 on.
abbrev pub listed_from : List ℕ → Listed
listed_from l = entries_from (length l) 2 l

-- The first bad record; or how many trains there are, and the first refusal among them.
abbrev pub tallied : (n : ℕ) → Outcome → Listed → Result Scanned Refusal
tallied n o (bad k) = Err (BadRecord k)
tallied n o (trains es) = Ok (record { count = n + length es; trains = or_else o (first_refusal entry_check n es) })

-- 1, then the first refusal among the trains, then 8.
unfoldable pub trains_check : Scanned → (room : ℕ) → Outcome
trains_check s room =
    or_else (test (ltb capacity s.count) TrainCount) (or_else s.trains (test (ltb room (s.count * numbers)) BufferTooShort))

-- No record is bad, so many trains are listed, and there is room for the numbers of all of them.
pub record Ready (x : Listed) (count room : ℕ) : Type 0 where
  pub good : x ≡ trains (trains_of x)
  pub counted : count ≡ length (trains_of x)
  pub fits : count * numbers ≤ room
