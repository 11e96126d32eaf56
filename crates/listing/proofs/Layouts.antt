-- The text of trains: it is a file of a record for each, and how long it is.
-- Core: time_says, lines_file; time_within, lines_within, lines_same. The rest follows from these.
-- Assumes nothing.
use Prim.Native.Nat.{ℕ, zero, suc, ◌+◌, ◌*◌, ◌<◌, ◌≤◌}
use mathlib.Core.Path.{◌≡◌, refl, sym, ap, subst, ◌∙◌}
use mathlib.Core.Bool.{Bool, true, false, cond}
use mathlib.Core.List.{List, [], ◌∷◌, ◌++◌, append_assoc, map, flat_map}
use native.Mathlib.Omega.{arith}
use lib.Dec.{eqb}
use lib.ListN.{length, get_or, replicate, length-append}
use borrow.Author.Tests.{eq-eqb, ne_eqb, eqb-true, eqb-false}
use Rattle.decimal.specs.Answer.{leading_within, decimal}
use Rattle.decimal.proofs.Notation.{decimal_u32}
use Rattle.decimal.proofs.Numbers.{decimal_number}
use Rattle.fraction.specs.declared.Fraction.{Fraction}
use Rattle.table.specs.declared.Entry.{Entry}
use Rattle.table.specs.Row.{no_entry}
use Rattle.listing.specs.Grammar.{comma, Field, plain, Record, of_line, File}
use Rattle.listing.specs.Grammar as grammar
use Rattle.listing.specs.Means.{slash, fraction, Time, whole, parts, entry}
use Rattle.listing.specs.Layout.{time_text, heading_text, record_text, text_of, longest_text, longest_export, Small, SmallEntry, HasDenominators}
use Rattle.listing.proofs.Times.{time_plain}

-- ---- What is written says what it stands for

pub time_says : (f : Fraction) → Small f → 0 < f.denominator → Time (time_text f) f
unfolding time_text
time_says f small some = go (eqb f.denominator 1) refl
  where
    go :
        (t : Bool) → eqb f.denominator 1 ≡ t →
        Time (cond t (decimal f.numerator) (decimal f.numerator ++ (slash ∷ decimal f.denominator))) f
    go true e =
        subst (Time (decimal f.numerator))
        (ap (fraction f.numerator) (sym (eqb-true f.denominator 1 e)))
        (whole (decimal_number f.numerator small.numerator))
    go false e =
        parts (decimal_number f.numerator small.numerator) (decimal_number f.denominator small.denominator) some

time_field : (f : Fraction) → Small f → 0 < f.denominator → Field (time_text f) (time_text f)
time_field f small some = plain (time_plain (time_text f) f (time_says f small some))

-- The values of the record of a train.
abbrev pub values : Entry → List (List ℕ)
values e = time_text e.phase ∷ time_text e.period ∷ time_text e.duration ∷ []

-- Its text, without the end of the line.
abbrev bare : Entry → List ℕ
bare e = time_text e.phase ++ (comma ∷ time_text e.period ++ (comma ∷ time_text e.duration))

module _ (e : Entry) (small : SmallEntry e) (some : HasDenominators e) where
  train_record : Record (values e) (bare e)
  train_record =
      grammar.more (time_field e.phase small.phase some.phase)
      (grammar.more (time_field e.period small.period some.period)
      (grammar.last (time_field e.duration small.duration some.duration)))

-- ---- Line by line

-- a record in front of other lines, where there are some
line_more :
    (r : List (List ℕ)) (t : List ℕ) (rs : List (List (List ℕ))) (l : List ℕ) → Record r t → 0 < length l → File rs l →
    File (r ∷ rs) (t ++ 13 ∷ 10 ∷ l)
line_more r t rs [] is some file = absurd (omega arith)
line_more r t rs (b ∷ l) is some file = grammar.more is file

-- the line of a train is its record and the end
line_of : (e : Entry) (rest : List ℕ) → bare e ++ 13 ∷ 10 ∷ rest ≡ record_text e ++ rest
line_of e rest = simp append_assoc

-- a line is not empty
line_some : (e : Entry) (rest : List ℕ) → 0 < length (record_text e ++ rest)
line_some e rest = simp length-append (omega arith)

-- What is needed of trains: small numbers, and no denominator 0.
abbrev pub Sayable : List Entry → Type 0
Sayable es = (i : ℕ) → i < length es → SmallEntry (get_or es i no_entry) × HasDenominators (get_or es i no_entry)

-- the lines of some trains behind a record
pub lines_file :
    (r : List (List ℕ)) (t : List ℕ) (es : List Entry) → Record r t → Sayable es →
    File (r ∷ map values es) (t ++ 13 ∷ 10 ∷ flat_map record_text es)
unfolding flat_map
lines_file r t [] is each = grammar.last is of_line
lines_file r t (e ∷ es) is each =
    let here = each 0 (omega arith) in
    line_more r t (values e ∷ map values es) (record_text e ++ flat_map record_text es) is (line_some e (flat_map record_text es))
    (subst (File (values e ∷ map values es)) (line_of e (flat_map record_text es))
    (lines_file (values e) (bare e) es (train_record e here.0 here.1) (λ i h. each (suc i) (omega arith))))

pub export_example :
    text_of (entry (fraction 0 1) (fraction 36 13) (fraction 12 13) ∷ [])
    ≡ 112 ∷ 104 ∷ 97 ∷ 115 ∷ 101 ∷ 44 ∷ 112 ∷ 101 ∷ 114 ∷ 105 ∷ 111 ∷ 100 ∷ 44 ∷ 100 ∷ 117 ∷ 114 ∷ 97 ∷ 116 ∷ 105 ∷ 111 ∷ 110 ∷ 13 ∷ 10
    ∷ 48 ∷ 44 ∷ 51 ∷ 54 ∷ 47 ∷ 49 ∷ 51 ∷ 44 ∷ 49 ∷ 50 ∷ 47 ∷ 49 ∷ 51 ∷ 13 ∷ 10 ∷ []
unfolding text_of flat_map time_text decimal leading_within
export_example = refl

-- ---- How long it is

module _ (f : Fraction) where
  pub whole_length : f.denominator ≡ 1 → length (decimal f.numerator) ≡ length (time_text f)
  unfolding time_text
  whole_length h = simp (eq-eqb f.denominator 1 h)

  pub parts_length :
      (f.denominator ≡ 1 → ⊥) → length (decimal f.numerator) + 1 + length (decimal f.denominator) ≡ length (time_text f)
  unfolding time_text
  parts_length h = simp (ne_eqb f.denominator 1 h, length-append) (omega arith)

  -- a number of 32 bits has at most ten digits
  time_within : Small f → length (time_text f) ≤ 21
  time_within small = go (eqb f.denominator 1) refl
    where
      go : (t : Bool) → eqb f.denominator 1 ≡ t → length (time_text f) ≤ 21
      go true e = omega (arith, whole_length (eqb-true f.denominator 1 e), decimal_u32 f.numerator small.numerator)
      go false e =
          omega (
            arith,
            parts_length (eqb-false f.denominator 1 e),
            decimal_u32 f.numerator small.numerator,
            decimal_u32 f.denominator small.denominator,
          )

-- a line: its times, two commas and CRLF
pub line_length :
    (e : Entry) →
    length (time_text e.phase) + 1 + length (time_text e.period) + 1 + length (time_text e.duration) + 2 ≡ length (record_text e)
line_length e = simp length-append (omega arith)

line_within : (e : Entry) → SmallEntry e → length (record_text e) ≤ 67
line_within e small =
    omega (
      arith,
      line_length e,
      time_within e.phase small.phase,
      time_within e.period small.period,
      time_within e.duration small.duration,
    )

lines_within : (es : List Entry) → ((i : ℕ) → i < length es → SmallEntry (get_or es i no_entry)) → length (flat_map record_text es) ≤ length es * 67
unfolding flat_map
lines_within [] small = omega arith
lines_within (e ∷ es) small =
    rw (length-append (record_text e) (flat_map record_text es))
    (omega (arith, line_within e (small 0 (omega arith)), lines_within es (λ i h. small (suc i) (omega arith))))

-- trains that are alike have lines that are as long
lines_same : (n : ℕ) (e : Entry) → length (flat_map record_text (replicate n e)) ≡ n * length (record_text e)
unfolding flat_map
lines_same zero e = omega arith
lines_same (suc n) e = length-append (record_text e) (flat_map record_text (replicate n e)) ∙ omega (arith, lines_same n e)

pub text_length_lem : (es : List Entry) → length (text_of es) ≡ 23 + length (flat_map record_text es)
unfolding text_of
text_length_lem es = length-append heading_text (flat_map record_text es)

pub text_within : (es : List Entry) → ((i : ℕ) → i < length es → SmallEntry (get_or es i no_entry)) → length (text_of es) ≤ 23 + length es * 67
text_within es small = omega (arith, text_length_lem es, lines_within es small)

pub text_same : (n : ℕ) (e : Entry) → length (text_of (replicate n e)) ≡ 23 + n * length (record_text e)
text_same n e = text_length_lem (replicate n e) ∙ ap (◌+◌ 23) (lines_same n e)

pub export_readable : longest_export < longest_text
export_readable = omega arith
