-- The text that an export writes, byte by byte.
--     line_end                 CRLF
--     time_text f              n, where m is 1, and else n/m
--     heading_text             the first record, with its end
--     record_text e            the record of a train, with its end
--     text_of es               the text of some trains
--     longest_text             the bytes of the longest text that is read
--     longest_export           the bytes of the longest text that is written
--     Small f, SmallEntry e    the numbers of a fraction, and those of a train, have 32 bits
--     HasDenominators e        no denominator of a train is 0
use Rattle.std.specs.Prelude.{ℕ, ◌^◌, ◌<◌, cond, eqb}
use mathlib.Core.List.{List, [], ◌∷◌, ◌++◌, flat_map}
use Rattle.decimal.specs.Answer.{decimal}
use Rattle.fraction.specs.declared.Fraction.{Fraction}
use Rattle.table.specs.declared.Entry.{Entry}
use Rattle.listing.specs.Grammar.{comma, return, newline}
use Rattle.listing.specs.Means.{slash, phase_word, period_word, duration_word}

-- CRLF stands after every record.
abbrev pub line_end : List ℕ
line_end = return ∷ newline ∷ []

-- n alone where m is 1; nothing is quoted.
unfoldable pub time_text : Fraction → List ℕ
time_text f = cond (eqb f.denominator 1) (decimal f.numerator) (decimal f.numerator ++ (slash ∷ decimal f.denominator))

-- The heading.
abbrev pub heading_text : List ℕ
heading_text = phase_word ++ (comma ∷ period_word ++ (comma ∷ duration_word ++ line_end))

-- Phase, period and duration, with commas between them.
abbrev pub record_text : Entry → List ℕ
record_text e = time_text e.phase ++ (comma ∷ time_text e.period ++ (comma ∷ time_text e.duration ++ line_end))

-- The heading, then train by train its record.
unfoldable pub text_of : List Entry → List ℕ
text_of es = heading_text ++ flat_map record_text es

-- A text of more bytes is not read.
abbrev pub longest_text : ℕ
longest_text = 32_768

-- 23 bytes of heading and, for each of 64 trains, six numbers of 10 digits, three slashes, two commas and CRLF.
abbrev pub longest_export : ℕ
longest_export = 4_311

-- Both numbers have 32 bits, as those of a row have.
pub record Small (f : Fraction) : Type 0 where
  pub numerator : f.numerator < 2 ^ 32
  pub denominator : f.denominator < 2 ^ 32

-- All numbers of a train have 32 bits.
pub record SmallEntry (e : Entry) : Type 0 where
  pub phase : Small e.phase
  pub period : Small e.period
  pub duration : Small e.duration

-- No denominator is 0.
pub record HasDenominators (e : Entry) : Type 0 where
  pub phase : 0 < e.phase.denominator
  pub period : 0 < e.period.denominator
  pub duration : 0 < e.duration.denominator
