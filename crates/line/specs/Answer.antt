-- The functions that the contracts cite. Promises says what they have to do with the words of Text. A byte is a number, and a
-- text is a list of bytes (ASCII); `decimal n`, the notation of a number, is decimal's.
--     space, newline                            the bytes 32 and 10
--     spaced n                                  a number as it stands in a line, after a space
--     numbers ns                                the numbers of a line one after another, and then the newline
--     text_of word ns                           the line of a word and its numbers
--     accept_word, collide_word, refuse_word    the three words
--     refusal_text r                            the line of a refusal
--     line shown                                the printed line, as bytes
--     line_of verdict                           the line of a verdict
--     longest                                   the length of the longest line
--     answer_for text at room                   the answer to a text that is to be written at an index of a buffer of that length
--     buffer_after answer text at before        the buffer after that answer
--     paper_written answer                      what the paper has of an answer: where the line ends, or the refusal
--     written verdict room                      what `write` answers
--     written_in answer verdict before          what it leaves in the buffer
use Rattle.std.specs.Prelude.{ℕ, ◌+◌, cond, List, [], ◌∷◌, ◌++◌, ltb, length, Result, Ok, Err}
use Rattle.lent.specs.Lent.{over}
use Rattle.decimal.specs.Answer.{decimal}
use Rattle.refusal.specs.declared.Refusal.{Refusal}
use Rattle.refusal.specs.declared.Refusal.TheVariants.{BufferTooShort}
use Rattle.refusal.specs.Paper as refusals
use Rattle.refusal.specs.Paper.{Said, answers, refusing}
use Rattle.judge.specs.declared.Verdict.{Verdict}
use Rattle.judge.specs.Paper.{Shown, accept, collide, refuse, paper}

-- The byte of a space.
abbrev pub space : ℕ
space = 32

-- The byte that ends a line.
abbrev pub newline : ℕ
newline = 10

-- A number of a line stands after a space, in decimal notation.
abbrev pub spaced : ℕ → List ℕ
spaced n = space ∷ decimal n

-- The numbers of a line, and the newline at its end.
unfoldable pub numbers : List ℕ → List ℕ
numbers [] = newline ∷ []
numbers (n ∷ ns) = spaced n ++ numbers ns

-- A line: a word, its numbers in their order, and the newline.
abbrev pub text_of : (word ns : List ℕ) → List ℕ
text_of word ns = word ++ numbers ns

-- The word `accept`.
abbrev pub accept_word : List ℕ
accept_word = 97 ∷ 99 ∷ 99 ∷ 101 ∷ 112 ∷ 116 ∷ []

-- The word `collide`.
abbrev pub collide_word : List ℕ
collide_word = 99 ∷ 111 ∷ 108 ∷ 108 ∷ 105 ∷ 100 ∷ 101 ∷ []

-- The word `refuse`.
abbrev pub refuse_word : List ℕ
refuse_word = 114 ∷ 101 ∷ 102 ∷ 117 ∷ 115 ∷ 101 ∷ []

-- The line of a refusal: the word, the paper's number and its place.
abbrev pub refusal_text : Refusal → List ℕ
refusal_text r = text_of refuse_word ((refusals.paper r).number ∷ (refusals.paper r).place ∷ [])

-- The three lines: the word, and its numbers in their order.
unfoldable pub line : Shown → List ℕ
line (accept L divisions) = text_of accept_word (L ∷ divisions ∷ [])
line (collide first second tick L divisions) = text_of collide_word (first ∷ second ∷ tick ∷ L ∷ divisions ∷ [])
line (refuse number train) = text_of refuse_word (number ∷ train ∷ [])

-- The line of a verdict.
abbrev pub line_of : Verdict → List ℕ
line_of verdict = line (paper verdict)

-- No line is longer: `collide`, three numbers of 64 bits (20 digits) and two of 32 bits (10 digits), five spaces, a newline.
abbrev pub longest : ℕ
longest = 93

-- Of a text for a buffer it is answered where it ends, or the refusal (the paper's number 8) of a buffer that ends earlier.
unfoldable pub answer_for : (text : List ℕ) (at room : ℕ) → Result ℕ Refusal
answer_for text at room = cond (ltb room (at + length text)) (Err BufferTooShort) (Ok (at + length text))

-- After an end the buffer has the text at its index and all else as it was; after a refusal it has every byte that it had.
unfoldable pub buffer_after : Result ℕ Refusal → (text : List ℕ) (at : ℕ) (before : List ℕ) → List ℕ
buffer_after (Ok end) text at before = over before at text
buffer_after (Err refusal) text at before = before

-- What the paper has of an answer.
abbrev pub paper_written : Result ℕ Refusal → Said
paper_written (Ok end) = answers end
paper_written (Err refusal) = refusing refusal

-- What `write` answers: the line is written to the front.
abbrev pub written : (verdict : Verdict) (room : ℕ) → Result ℕ Refusal
written verdict room = answer_for (line_of verdict) 0 room

-- What it leaves in the buffer.
abbrev pub written_in : Result ℕ Refusal → Verdict → (before : List ℕ) → List ℕ
written_in answer verdict before = buffer_after answer (line_of verdict) 0 before
