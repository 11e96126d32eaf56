-- What the paper has of an outcome: that it passes, or the number and the train of its refusal.
--     paper outcome    what the paper has of an outcome
use Rattle.std.specs.Prelude.{Ok, Err}
use Rattle.refusal.specs.Paper.{Said, passes, refusing}
use Rattle.table.specs.Answer.{Outcome}

-- Each outcome in the paper's words.
abbrev pub paper : Outcome → Said
paper (Ok _) = passes
paper (Err refusal) = refusing refusal
