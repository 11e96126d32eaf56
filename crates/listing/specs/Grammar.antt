-- The grammar of RFC 4180, with no algorithm. A byte is a number, and a text is a list of bytes.
--     quote, comma, return, newline    the bytes 34, 44, 13 and 10
--     TextData b                       the byte may stand in a field without quotes
--     NonEscaped t                     every byte of a text may
--     Inside v t                       the text t, between quotes, stands for the value v
--     Field v t                        the text t is a field with the value v
--     Record vs t                      the text t is a record of fields with the values vs
--     Ends e rest                      e is what may stand behind a record: nothing, or CRLF and then the rest
--     File rs t                        the text t has the records rs, one behind another
use Rattle.std.specs.Prelude.{ℕ, ◌≤◌, List, [], ◌∷◌, ◌++◌}

-- The byte of a line feed, LF.
abbrev pub newline : ℕ
newline = 10

-- The byte of a carriage return, CR.
abbrev pub return : ℕ
return = 13

-- The byte of a double quote.
abbrev pub quote : ℕ
quote = 34

-- The byte of a comma.
abbrev pub comma : ℕ
comma = 44

-- TEXTDATA = %x20-21 / %x23-2B / %x2D-7E
pub data TextData : ℕ → Type 0 where
  low : {b : ℕ} → 32 ≤ b → b ≤ 33 → TextData b
  middle : {b : ℕ} → 35 ≤ b → b ≤ 43 → TextData b
  high : {b : ℕ} → 45 ≤ b → b ≤ 126 → TextData b

-- non-escaped = *TEXTDATA
pub data NonEscaped : List ℕ → Type 0 where
  none : NonEscaped []
  more : {b : ℕ} {bs : List ℕ} → TextData b → NonEscaped bs → NonEscaped (b ∷ bs)

-- *(TEXTDATA / COMMA / CR / LF / 2DQUOTE): a doubled quote stands for one
pub data Inside : (value text : List ℕ) → Type 0 where
  none : Inside [] []
  a_text : {b : ℕ} {v t : List ℕ} → TextData b → Inside v t → Inside (b ∷ v) (b ∷ t)
  a_comma : {v t : List ℕ} → Inside v t → Inside (44 ∷ v) (44 ∷ t)
  a_return : {v t : List ℕ} → Inside v t → Inside (13 ∷ v) (13 ∷ t)
  a_newline : {v t : List ℕ} → Inside v t → Inside (10 ∷ v) (10 ∷ t)
  a_quote : {v t : List ℕ} → Inside v t → Inside (34 ∷ v) (34 ∷ 34 ∷ t)

-- field = (escaped / non-escaped): quoted as a whole or not at all
pub data Field : (value text : List ℕ) → Type 0 where
  plain : {v : List ℕ} → NonEscaped v → Field v v
  quoted : {v t : List ℕ} → Inside v t → Field v (34 ∷ (t ++ 34 ∷ []))

-- record = field *(COMMA field)
pub data Record : List (List ℕ) → List ℕ → Type 0 where
  last : {v t : List ℕ} → Field v t → Record (v ∷ []) t
  more : {v t ts : List ℕ} {vs : List (List ℕ)} → Field v t → Record vs ts → Record (v ∷ vs) (t ++ 44 ∷ ts)

-- Behind a record the text ends, or a CRLF stands there and the rest behind it.
pub data Ends : (behind rest : List ℕ) → Type 0 where
  of_text : Ends [] []
  of_line : {rest : List ℕ} → Ends (13 ∷ 10 ∷ rest) rest

-- file = record *(CRLF record) [CRLF]: a text that ends in CRLF has no further record, and an empty text has one, of one empty field.
pub data File : List (List (List ℕ)) → List ℕ → Type 0 where
  last : {r : List (List ℕ)} {t e : List ℕ} → Record r t → Ends e [] → File (r ∷ []) (t ++ e)
  more :
      {r : List (List ℕ)} {rs : List (List (List ℕ))} {t rest : List ℕ} {b : ℕ} → Record r t → File rs (b ∷ rest) →
      File (r ∷ rs) (t ++ 13 ∷ 10 ∷ b ∷ rest)
