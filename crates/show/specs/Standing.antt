-- What is handed on to be printed.
--     Stands verdict text    the text is the line of the verdict
use Rattle.std.specs.Prelude.{ℕ, ◌≡◌, List}
use Rattle.judge.specs.declared.Verdict.{Verdict}
use Rattle.line.specs.Answer.{line_of}

-- The bytes that are handed on are the line of the verdict, and no others.
abbrev pub Stands : Verdict → List ℕ → Type 0
Stands verdict text = text ≡ line_of verdict
