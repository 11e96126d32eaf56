-- What the paper has of an answer of import and of export: the train count or the length of the text, or a refusal.
--     paper_answer answer      what the paper has of a number, or a refusal
--     paper_imported answer    what the paper has of an answer of `import`
--     paper_exported answer    what the paper has of an answer of `export`
use Rattle.std.specs.Prelude.{ℕ, Result, Ok, Err}
use Rattle.refusal.specs.declared.Refusal.{Refusal}
use Rattle.refusal.specs.Paper.{Said, answers, refusing}

-- A number is answered, and an error is a refusal.
abbrev pub paper_answer : Result ℕ Refusal → Said
paper_answer (Ok n) = answers n
paper_answer (Err refusal) = refusing refusal

-- Import answers the train count.
abbrev pub paper_imported : Result ℕ Refusal → Said
paper_imported = paper_answer

-- Export answers the length written.
abbrev pub paper_exported : Result ℕ Refusal → Said
paper_exported = paper_answer
