-- What the paper has of an answer of saving and of loading: the length of the file or the train count, or a refusal.
--     paper_answer answer    what the paper has of an answer of `save` or of `load`
use Rattle.std.specs.Prelude.{ℕ, Result, Ok, Err}
use Rattle.refusal.specs.declared.Refusal.{Refusal}
use Rattle.refusal.specs.Paper.{Said, answers, refusing}

-- Saving answers the length written, and loading the count.
abbrev pub paper_answer : Result ℕ Refusal → Said
paper_answer (Ok value) = answers value
paper_answer (Err refusal) = refusing refusal
