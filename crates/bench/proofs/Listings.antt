-- Every answer of import and of export has room in the number that is handed back.
-- Core: passed_few, that a text has no more good records than bytes. The rest follows the text of the checks.
-- Assumes nothing.
use Prim.Native.Nat.{ℕ, ◌+◌, ◌≤◌}
use mathlib.Core.Path.{◌≡◌, refl, sym, ap, subst, ◌∙◌}
use mathlib.Core.Bool.{Bool, true, false}
use mathlib.Core.List.{List, ◌∷◌}
use native.Mathlib.Omega.{arith}
use lib.Dec.{ltb}
use lib.ListN.{length, length-append}
use borrow.Author.Tests.{ltb-true, ltb-false}
use Rattle.std.specs.Prelude.{Result, Ok, Err}
use Rattle.refusal.specs.declared.Refusal.{Refusal}
use Rattle.refusal.specs.declared.Refusal.TheVariants.{TextTooLong, BufferTooShort, BadRecord}
use Rattle.refusal.specs.Paper.{none, paper}
use Rattle.table.specs.declared.Entry.{Entry}
use Rattle.table.specs.Row.{Words, capacity, row_of}
use Rattle.table.specs.Answer.{checked}
use Rattle.listing.specs.Means.{Passed, BadAt}
use Rattle.listing.specs.Layout.{longest_text}
use Rattle.listing.specs.Paper.{paper_imported, paper_exported}
use Rattle.listing.specs.Answer.{Listed, bad, trains, listed, table_check, imported_of, imported, export_check, exported}
use Rattle.listing.proofs.Texts.{read_bad}
use Rattle.listing.proofs.Importing.{imported_long, imported_short, import_few}
use Rattle.listing.proofs.Exporting.{export_longest}
use Rattle.bench.specs.Answer.{Fits, value_parts}
use Rattle.bench.proofs.Naming.{Named, passes, named_refusal, named_then, named_test, checked_named}
use Rattle.bench.proofs.Fitting.{value_fits}

-- ---- Import

-- each record that is passed has a CRLF behind it
passed_few : {n : ℕ} {text rest : List ℕ} → Passed n text rest → n + length rest ≤ length text
passed_few Passed.none = omega arith
passed_few (Passed.more {b = b} {t = t} {rest = rest} p is fits) =
    omega (arith, passed_few p, length-append t (13 ∷ 10 ∷ b ∷ rest))

bad_few : (text : List ℕ) (k : ℕ) → BadAt k text → k ≤ length text + 1
bad_few text k y = omega (arith, y.number, passed_few y.passed)

table_named : (es : List Entry) (room : ℕ) → Named (imported_of room (trains es))
unfolding table_check
table_named es room =
    named_then (table_check es room) _
    (named_then (checked (row_of es)) _ (checked_named (row_of es)) (λ p. named_test (ltb room _) BufferTooShort (omega arith)))
    (λ p. passes)

pub import_names : (text : List ℕ) (room : ℕ) (r : Refusal) → imported text room ≡ Err r → (paper r).place ≤ longest_text + 1
import_names text room r e = go (ltb longest_text (length text)) refl
  where
    is : (q : Refusal) → ◌≡◌ {A = Result ℕ Refusal} (Err q) (Err r) → q ≡ r
    is q h = cc

    listing_names :
        length text ≤ longest_text → (x : Listed) → listed text ≡ x → imported_of room x ≡ Err r → (paper r).place ≤ longest_text + 1
    listing_names short (bad k) l h =
        subst (λ (s : Refusal). (paper s).place ≤ longest_text + 1) (is (BadRecord k) h) (omega (arith, bad_few text k (read_bad text k l)))
    listing_names short (trains es) l h = omega (arith, named_refusal (imported_of room (trains es)) r (table_named es room) h)

    go : (t : Bool) → ltb longest_text (length text) ≡ t → (paper r).place ≤ longest_text + 1
    go true q =
        subst (λ (s : Refusal). (paper s).place ≤ longest_text + 1)
        (is TextTooLong (sym (imported_long text room (ltb-true _ _ q)) ∙ e)) (omega arith)
    go false q =
        let short : length text ≤ longest_text = ltb-false _ _ q in
        listing_names short (listed text) refl (sym (imported_short text room short) ∙ e)

pub imported_few : (text : List ℕ) (room k : ℕ) → imported text room ≡ Ok k → k ≤ capacity
imported_few text room k e = import_few text room k (ap paper_imported e)

pub import_fits : (text : List ℕ) (room : ℕ) → Fits (value_parts (imported text room))
import_fits text room =
    value_fits (imported text room) (λ k e. omega (arith, imported_few text room k e)) (λ r e. omega (arith, import_names text room r e))

-- ---- Export

export_named : (row : List ℕ) (room : ℕ) → Named (exported row room)
unfolding export_check
export_named row room =
    named_then (export_check row room) _
    (named_then (checked row) _ (checked_named row) (λ p. named_test (ltb room _) BufferTooShort (omega arith)))
    (λ p. passes)

pub export_names : (row : List ℕ) (room : ℕ) (r : Refusal) → exported row room ≡ Err r → (paper r).place ≤ none
export_names row room r e = named_refusal (exported row room) r (export_named row room) e

-- the numbers of the row have 32 bits, so the text is no longer than the longest
pub export_fits : (row : List ℕ) (room : ℕ) → Words row → Fits (value_parts (exported row room))
export_fits row room words =
    value_fits (exported row room) (λ n e. omega (arith, export_longest row room n words (ap paper_exported e)))
    (λ r e. omega (arith, export_names row room r e))
