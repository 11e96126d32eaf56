-- The functions that the contracts cite. Promises says what they have to do with the words of Says.
--     spaced_in text            the number that a space and digits say at the front of a text
--     single_of, single_in      that number, if nothing follows it
--     delay_of, period_of       the call `admit` with its numbers
--     spelt text                what a text says
--     text_length line          the bytes of a line without the CR at its end
--     call_in line              what `read` answers
use Rattle.std.specs.Prelude.{ℕ, ◌-◌, cond, List, [], ◌∷◌, ltb, eqb, length, get_or, take, drop, Option, None, Some}
use Rattle.std.specs.Option.{option_map}
use Rattle.lent.specs.Words.{begins_with}
use Rattle.decimal.specs.Answer.{Found, nothing, found, number_in}
use Rattle.script.specs.declared.Call.{Call}
use Rattle.script.specs.declared.Call.TheVariants.{Fresh, Admit, Withdraw, Step}
use Rattle.script.specs.Says.{space, return, fresh_word, admit_word, withdraw_word, step_word, longest}

-- A space, and a number.
unfoldable pub spaced_in : List ℕ → Found ℕ
spaced_in [] = nothing
spaced_in (b ∷ bs) = cond (eqb b space) (number_in bs) nothing

-- A number that nothing follows.
unfoldable pub single_of : Found ℕ → Option ℕ
single_of nothing = None
single_of (found n []) = Some n
single_of (found n (b ∷ bs)) = None

-- The only number of a text.
abbrev pub single_in : List ℕ → Option ℕ
single_in text = single_of (spaced_in text)

-- The call `admit` with its second number, and what follows it.
abbrev pub period_of : (delay : ℕ) → Found ℕ → Option Call
period_of delay nothing = None
period_of delay (found period rest) = option_map (Admit delay period) (single_in rest)

-- The call `admit` with its first number, and what follows it.
abbrev pub delay_of : Found ℕ → Option Call
delay_of nothing = None
delay_of (found delay rest) = period_of delay (spaced_in rest)

-- What a text says, by its first word.
unfoldable pub spelt : List ℕ → Option Call
spelt text =
    cond (begins_with step_word text) (option_map Step (single_in (drop 4 text)))
    (cond (begins_with admit_word text) (delay_of (spaced_in (drop 5 text)))
    (cond (begins_with withdraw_word text) (option_map Withdraw (single_in (drop 8 text)))
    (cond (begins_with fresh_word text) (option_map Fresh (single_in (drop 5 text)))
    None)))

-- The bytes of a line without the CR at its end, if there is one.
unfoldable pub text_length : List ℕ → ℕ
text_length line = cond (eqb (get_or line (length line - 1) 0) return) (length line - 1) (length line)

-- What `read` answers: a text that is too long says nothing.
unfoldable pub call_in : List ℕ → Option Call
call_in line = cond (ltb longest (text_length line)) None (spelt (take (text_length line) line))
