-- When a line says a call, with no algorithm. A byte is a number, and a text is a list of bytes (ASCII).
-- What a number is, one or more digits of a value below 2^32, decimal says: `Number` of its Digits.
--     space, return                                       the bytes 32 and 13
--     fresh_word, admit_word, withdraw_word, step_word    the four words
--     Spells text call                                    the text is the word of a call and its numbers, after a single space each
--     longest                                             80, the bytes of the longest text that says a call
--     Ending bytes                                        what may stand between the text and the newline: nothing, or one CR
--     Says line call                                      the line, without its newline, says the call
use Rattle.std.specs.Prelude.{ℕ, ◌≤◌, List, [], ◌∷◌, ◌++◌, length}
use Rattle.decimal.specs.Digits.{Number}
use Rattle.script.specs.declared.Call.{Call}
use Rattle.script.specs.declared.Call.TheVariants.{Fresh, Admit, Withdraw, Step}

-- The byte of a space.
abbrev pub space : ℕ
space = 32

-- The byte of a carriage return, CR.
abbrev pub return : ℕ
return = 13

-- The word `fresh`.
abbrev pub fresh_word : List ℕ
fresh_word = 102 ∷ 114 ∷ 101 ∷ 115 ∷ 104 ∷ []

-- The word `admit`.
abbrev pub admit_word : List ℕ
admit_word = 97 ∷ 100 ∷ 109 ∷ 105 ∷ 116 ∷ []

-- The word `withdraw`.
abbrev pub withdraw_word : List ℕ
withdraw_word = 119 ∷ 105 ∷ 116 ∷ 104 ∷ 100 ∷ 114 ∷ 97 ∷ 119 ∷ []

-- The word `step`.
abbrev pub step_word : List ℕ
step_word = 115 ∷ 116 ∷ 101 ∷ 112 ∷ []

-- The four calls in words: `fresh C`, `admit DELAY PERIOD DURATION`, `withdraw PLACE`, `step C`.
pub data Spells : List ℕ → Call → Type 0 where
  fresh : {c : ℕ} {ds : List ℕ} → Number c ds → Spells (fresh_word ++ space ∷ ds) (Fresh c)
  admit :
      {delay period duration : ℕ} {ds es fs : List ℕ} → Number delay ds → Number period es → Number duration fs →
      Spells (admit_word ++ (space ∷ ds ++ (space ∷ es ++ space ∷ fs))) (Admit delay period duration)
  withdraw : {place : ℕ} {ds : List ℕ} → Number place ds → Spells (withdraw_word ++ space ∷ ds) (Withdraw place)
  step : {c : ℕ} {ds : List ℕ} → Number c ds → Spells (step_word ++ space ∷ ds) (Step c)

-- No longer text says a call.
abbrev pub longest : ℕ
longest = 80

-- A text and its newline stand side by side, or with one CR between them.
pub data Ending : List ℕ → Type 0 where
  plain : Ending []
  returned : Ending (return ∷ [])

-- A line, without its newline, says a call.
pub data Says : List ℕ → Call → Type 0 where
  says : {text end : List ℕ} {call : Call} → Spells text call → length text ≤ longest → Ending end → Says (text ++ end) call
