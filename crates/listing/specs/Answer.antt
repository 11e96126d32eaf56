-- The functions that the contracts cite. Promises says what they have to do with the words of Means, Layout and Given.
--     after f b g                       b if nothing was found, and g of what was
--     parted n f, divided f             the time with the denominator, and with the numerator, that was found
--     time_in l, phase_in l             a time and a phase at the front of a text, with what stands behind it
--     word_in word l                    a word
--     passing b f                       the byte b behind what was found, and passed
--     field_in read l                   what is read, in quotes or without
--     ended f                           the end of a record behind what was found, and passed
--     three_in r s t make l             a record of three fields
--     heading_in l, entry_in l          the heading, and a train
--     Listed                            the trains of a text, or its first bad record
--     one_more e x                      one train in front of the others
--     entries_from n k l                the records from record k on; n is no less than the bytes of l
--     listed l                          what a text lists
--     trains_of x                       the trains that are listed
--     table_check es room               refusals 1 to 4 and 8 of the trains of a listing
--     imported_of room x                the answer for what a text lists
--     imported text room                what `import` answers
--     imported_in answer text before    what it leaves in the row
--     row_after text before             the same, with the answer that it gives
--     export_check row room             all refusals of export
--     exported row room                 what `export` answers
--     exported_in answer row before     what it leaves in the buffer
--     buffer_after row before           the same, with the answer that it gives
use Rattle.std.specs.Prelude.{ℕ, zero, suc, ◌*◌, cond, List, [], ◌∷◌, ◌++◌, map, ltb, eqb, length, get_or, drop, Result, Ok, Err}
use Rattle.refusal.specs.declared.Refusal.{Refusal}
use Rattle.refusal.specs.declared.Refusal.TheVariants.{TextTooLong, BufferTooShort, BadRecord}
use Rattle.lent.specs.Words.{begins_with}
use Rattle.decimal.specs.Answer.{Found, nothing, found, number_in}
use Rattle.fraction.specs.declared.Fraction.{Fraction}
use Rattle.table.specs.declared.Entry.{Entry}
use Rattle.table.specs.Row.{numbers, entries, row_of, lowest_entry}
use Rattle.table.specs.Answer.{Outcome, test, or_else, checked}
use Rattle.listing.specs.Grammar.{quote, comma, return, newline}
use Rattle.listing.specs.Means.{slash, fraction, blank_phase, entry, phase_word, period_word, duration_word}
use Rattle.listing.specs.Layout.{text_of, longest_text}

-- ---- A text, from the front

-- What comes after.
unfoldable pub after : {A B : Type 0} → Found A → B → (A → List ℕ → B) → B
after nothing b g = b
after (found a rest) b g = g a rest

-- The time with the denominator that was found.
unfoldable pub parted : ℕ → Found ℕ → Found Fraction
parted n nothing = nothing
parted n (found m rest) = cond (eqb m 0) nothing (found (fraction n m) rest)

-- The time with the numerator that was found, and the denominator behind it if there is one.
unfoldable pub divided : Found ℕ → Found Fraction
divided nothing = nothing
divided (found n rest) = cond (eqb (get_or rest 0 0) slash) (parted n (number_in (drop 1 rest))) (found (fraction n 1) rest)

-- A time.
abbrev pub time_in : List ℕ → Found Fraction
time_in l = divided (number_in l)

-- Where there is no time a phase may still be blank: what has to stand behind it then stands here.
unfoldable pub or_blank : List ℕ → Found Fraction → Found Fraction
or_blank l nothing = found blank_phase l
or_blank l (found f rest) = found f rest

-- A phase.
abbrev pub phase_in : List ℕ → Found Fraction
phase_in l = or_blank l (time_in l)

-- A word.
unfoldable pub word_in : (word : List ℕ) → List ℕ → Found (Unit {0})
word_in word l = cond (begins_with word l) (found tt (drop (length word) l)) nothing

-- One byte more.
unfoldable pub passing : {A : Type 0} → ℕ → Found A → Found A
passing b nothing = nothing
passing b (found a rest) = cond (eqb (get_or rest 0 0) b) (found a (drop 1 rest)) nothing

-- In quotes, or without.
unfoldable pub field_in : {A : Type 0} → (List ℕ → Found A) → List ℕ → Found A
field_in read l = cond (eqb (get_or l 0 0) quote) (passing quote (read (drop 1 l))) (read l)

-- The end of the text, or CRLF.
unfoldable pub ended : {A : Type 0} → Found A → Found A
ended nothing = nothing
ended (found a []) = found a []
ended (found a (b ∷ bs)) = cond (eqb b return) (passing newline (found a bs)) nothing

-- Three fields and the end of the record.
unfoldable pub three_in : {A B : Type 0} → (r s t : List ℕ → Found A) → (A → A → A → B) → List ℕ → Found B
three_in r s t make l =
    after (passing comma (field_in r l)) nothing λ a l1.
    after (passing comma (field_in s l1)) nothing λ b l2.
    after (ended (field_in t l2)) nothing λ c l3.
    found (make a b c) l3

-- The heading.
abbrev pub heading_in : List ℕ → Found (Unit {0})
heading_in l = three_in (word_in phase_word) (word_in period_word) (word_in duration_word) (λ _ _ _. tt) l

-- A train.
abbrev pub entry_in : List ℕ → Found Entry
entry_in l = three_in phase_in time_in time_in entry l

-- What a text lists.
pub data Listed : Type 0 where
  bad : ℕ → Listed
  trains : List Entry → Listed

-- One train in front of the others.
unfoldable pub one_more : Entry → Listed → Listed
one_more e (bad k) = bad k
one_more e (trains es) = trains (e ∷ es)

-- Record after record, while there is text; n is no less than its bytes.
unfoldable pub entries_from : (n k : ℕ) → List ℕ → Listed
entries_from zero k l = trains []
entries_from (suc n) k [] = trains []
entries_from (suc n) k (b ∷ bs) = after (entry_in (b ∷ bs)) (bad k) λ e rest. one_more e (entries_from n (suc k) rest)

-- The heading, and the records behind it.
unfoldable pub listed : List ℕ → Listed
listed l = after (heading_in l) (bad 1) λ _ rest. entries_from (length rest) 2 rest

-- The trains that are listed.
abbrev pub trains_of : Listed → List Entry
trains_of (bad j) = []
trains_of (trains es) = es

-- ---- Import

-- 1, then train by train 2, 3, 4, then 8.
unfoldable pub table_check : (es : List Entry) (room : ℕ) → Outcome
table_check es room = or_else (checked (row_of es)) (test (ltb room (length es * numbers)) BufferTooShort)

-- The first bad record, or what there is to say of the trains.
abbrev pub imported_of : (room : ℕ) → Listed → Result ℕ Refusal
imported_of room (bad k) = Err (BadRecord k)
imported_of room (trains es) = or_else (table_check es room) (Ok (length es))

-- What `import` answers for a text and a row of that length.
unfoldable pub imported : (text : List ℕ) (room : ℕ) → Result ℕ Refusal
imported text room = cond (ltb longest_text (length text)) (Err TextTooLong) (imported_of room (listed text))

-- After a count the row has the trains of the listing in lowest terms and then what it had; after a refusal all that it had.
unfoldable pub imported_in : Result ℕ Refusal → (text before : List ℕ) → List ℕ
imported_in (Ok k) text before = row_of (map lowest_entry (trains_of (listed text))) ++ drop (k * numbers) before
imported_in (Err r) text before = before

-- What stands in a row after `import` was called with it.
abbrev pub row_after : (text before : List ℕ) → List ℕ
row_after text before = imported_in (imported text (length before)) text before

-- ---- Export

-- 1, then train by train 2, 3, 4, then 8.
unfoldable pub export_check : (row : List ℕ) (room : ℕ) → Outcome
export_check row room =
    or_else (checked row) (test (ltb room (length (text_of (map lowest_entry (entries row))))) BufferTooShort)

-- What `export` answers for a row and a buffer of that length.
abbrev pub exported : (row : List ℕ) (room : ℕ) → Result ℕ Refusal
exported row room = or_else (export_check row room) (Ok (length (text_of (map lowest_entry (entries row)))))

-- After a length the buffer has the text of the trains in lowest terms and then what it had; after a refusal all that it had.
unfoldable pub exported_in : Result ℕ Refusal → (row before : List ℕ) → List ℕ
exported_in (Ok n) row before = text_of (map lowest_entry (entries row)) ++ drop n before
exported_in (Err r) row before = before

-- What stands in a buffer after `export` was called with it.
abbrev pub buffer_after : (row before : List ℕ) → List ℕ
buffer_after row before = exported_in (exported row (length before)) row before
