-- What is printed for a line of a script: a word, and its numbers. A byte is a number, and a line is a list of bytes (ASCII).
--     Shown                                                                                     one of the eight printed lines, with its numbers in their order
--     fresh_word, place_word, withdrawn_word, idle_word, starts_word, goes_on_word, bad_word    the words; `refuse` is that of `line`
--     line_of shown                                                                             the printed line, as bytes
--     Within shown                                                                              the numbers of a printed line are within their types
--     longest                                                                                   the length of the longest line
use Rattle.std.specs.Prelude.{ℕ, ◌^◌, ◌<◌, List, [], ◌∷◌}
use Rattle.line.specs.Answer.{refuse_word, text_of}

-- The lines `fresh`, `place Q`, `withdrawn`, `idle`, `starts Q`, `goes-on Q`, `refuse N Q` and `bad`.
pub data Shown : Type 0 where
  fresh : Shown
  place : (q : ℕ) → Shown
  withdrawn : Shown
  idle : Shown
  starts : (q : ℕ) → Shown
  goes_on : (q : ℕ) → Shown
  refuse : (number q : ℕ) → Shown
  bad : Shown

-- The word `fresh`.
abbrev pub fresh_word : List ℕ
fresh_word = 102 ∷ 114 ∷ 101 ∷ 115 ∷ 104 ∷ []

-- The word `place`.
abbrev pub place_word : List ℕ
place_word = 112 ∷ 108 ∷ 97 ∷ 99 ∷ 101 ∷ []

-- The word `withdrawn`.
abbrev pub withdrawn_word : List ℕ
withdrawn_word = 119 ∷ 105 ∷ 116 ∷ 104 ∷ 100 ∷ 114 ∷ 97 ∷ 119 ∷ 110 ∷ []

-- The word `idle`.
abbrev pub idle_word : List ℕ
idle_word = 105 ∷ 100 ∷ 108 ∷ 101 ∷ []

-- The word `starts`.
abbrev pub starts_word : List ℕ
starts_word = 115 ∷ 116 ∷ 97 ∷ 114 ∷ 116 ∷ 115 ∷ []

-- The word `goes-on`.
abbrev pub goes_on_word : List ℕ
goes_on_word = 103 ∷ 111 ∷ 101 ∷ 115 ∷ 45 ∷ 111 ∷ 110 ∷ []

-- The word `bad`.
abbrev pub bad_word : List ℕ
bad_word = 98 ∷ 97 ∷ 100 ∷ []

-- The word, and its numbers in their order.
unfoldable pub line_of : Shown → List ℕ
line_of fresh = text_of fresh_word []
line_of (place q) = text_of place_word (q ∷ [])
line_of withdrawn = text_of withdrawn_word []
line_of idle = text_of idle_word []
line_of (starts q) = text_of starts_word (q ∷ [])
line_of (goes_on q) = text_of goes_on_word (q ∷ [])
line_of (refuse number q) = text_of refuse_word (number ∷ q ∷ [])
line_of bad = text_of bad_word []

-- A place has 64 bits, and the number of a refusal has 32.
abbrev pub Within : Shown → Type 0
Within fresh = Unit {0}
Within (place q) = q < 2 ^ 64
Within withdrawn = Unit {0}
Within idle = Unit {0}
Within (starts q) = q < 2 ^ 64
Within (goes_on q) = q < 2 ^ 64
Within (refuse number q) = (number < 2 ^ 32) × (q < 2 ^ 64)
Within bad = Unit {0}

-- No line is longer: `refuse`, a number of 32 bits (10 digits) and one of 64 bits (20 digits), two spaces, a newline.
abbrev pub longest : ℕ
longest = 39
