-- What is proved of reading a line, a line each; proofs/Promises.antt proves the whole record.
use Rattle.std.specs.Prelude.{ℕ, ◌+◌, ◌≡◌, ◌↔◌, List, take, None, Some}
use Rattle.script.specs.declared.Call.{Call}
use Rattle.script.specs.Says.{longest, Says}
use Rattle.script.specs.Answer.{call_in}

pub record Promises : Type 0 where
  -- A call is read exactly where the line says it.
  pub read_exactly : (line : List ℕ) (call : Call) → (call_in line ≡ Some call) ↔ Says line call
  -- No call is read of a line exactly where it says none.
  pub bad_exactly : (line : List ℕ) → (call_in line ≡ None) ↔ ((call : Call) → Says line call → ⊥)
  -- A line says one call at most.
  pub says_one : (line : List ℕ) (one other : Call) → Says line one → Says line other → one ≡ other
  -- The first 82 bytes of a line tell what it says, so nobody has to keep more of it: the rest of a longer line makes no call.
  pub front_read : (line : List ℕ) → call_in (take (longest + 2) line) ≡ call_in line
