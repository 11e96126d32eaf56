-- A word in a text, both lists of bytes.
--     begins_with word text    whether a text begins with a word
use Rattle.std.specs.Prelude.{ℕ, Bool, true, false, cond, List, [], ◌∷◌, eqb}

-- Letter by letter, while the word has any.
unfoldable pub begins_with : (word text : List ℕ) → Bool
begins_with [] text = true
begins_with (w ∷ ws) [] = false
begins_with (w ∷ ws) (t ∷ ts) = cond (eqb t w) (begins_with ws ts) false
