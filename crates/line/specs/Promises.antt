-- What is proved of the printed lines, a line each; proofs/Promises.antt proves the whole record.
use Rattle.std.specs.Prelude.{ℕ, ◌+◌, ◌<◌, ◌≤◌, ◌≡◌, ◌↔◌, List, [], ◌∷◌, length}
use Rattle.refusal.specs.Paper as said
use Rattle.judge.specs.declared.Verdict.{Verdict}
use Rattle.judge.specs.Paper.{Shown, accept, collide, refuse}
use Rattle.line.specs.Text.{Within}
use Rattle.line.specs.Answer.{line, line_of, longest, answer_for, paper_written, written}

pub record Promises : Type 0 where
  -- Nothing is lost in print: two lines of the same bytes have the same word and the same numbers.
  pub line_tells : (s t : Shown) → line s ≡ line t → s ≡ t
  -- No line of numbers within their types is longer than the longest, and one is as long.
  pub line_fits : (s : Shown) → Within s → length (line s) ≤ longest
  pub line_reaches :
      length (line (collide 18446744073709551615 18446744073709551615 18446744073709551615 4294967295 4294967295)) ≡ longest
  -- A line is refused with 8 exactly where the buffer ends before it, and else it is answered where it ends.
  pub put_short : (text : List ℕ) (at room : ℕ) → (paper_written (answer_for text at room) ≡ said.refuse 8 64) ↔ (room < at + length text)
  pub put_answers :
      (text : List ℕ) (at room : ℕ) → at + length text ≤ room → paper_written (answer_for text at room) ≡ said.answers (at + length text)
  -- So is the line of a verdict, of which the length is answered.
  pub write_short : (v : Verdict) (room : ℕ) → (paper_written (written v room) ≡ said.refuse 8 64) ↔ (room < length (line_of v))
  pub write_answers : (v : Verdict) (room : ℕ) → length (line_of v) ≤ room → paper_written (written v room) ≡ said.answers (length (line_of v))
  -- Examples: `accept 13 1`, `collide 0 1 16 1 2` and `refuse 4 0`, each with its newline.
  pub accept_example :
      line (accept 13 1) ≡ 97 ∷ 99 ∷ 99 ∷ 101 ∷ 112 ∷ 116 ∷ 32 ∷ 49 ∷ 51 ∷ 32 ∷ 49 ∷ 10 ∷ []
  pub collide_example :
      line (collide 0 1 16 1 2)
      ≡ 99 ∷ 111 ∷ 108 ∷ 108 ∷ 105 ∷ 100 ∷ 101
      ∷ 32 ∷ 48 ∷ 32 ∷ 49 ∷ 32 ∷ 49 ∷ 54 ∷ 32 ∷ 49 ∷ 32 ∷ 50 ∷ 10 ∷ []
  pub refuse_example :
      line (refuse 4 0) ≡ 114 ∷ 101 ∷ 102 ∷ 117 ∷ 115 ∷ 101 ∷ 32 ∷ 52 ∷ 32 ∷ 48 ∷ 10 ∷ []
