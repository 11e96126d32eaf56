-- The proof of what specs/Promises.antt states.
-- Assumes nothing.
use Prim.Native.Nat.{ℕ}
use mathlib.Core.Path.{◌≡◌, refl}
use mathlib.Core.List.{[], ◌∷◌, flat_map}
use Rattle.refusal.specs.Paper.{refuse}
use Rattle.lent.specs.Words.{begins_with}
use Rattle.euclid.specs.Answer.{euclid_within, euclid, gcd}
use Rattle.decimal.specs.Answer.{is_digit, digits_from, number_in}
use Rattle.fraction.specs.Answer.{lowest}
use Rattle.table.specs.Row.{entries, entries_of}
use Rattle.table.specs.Answer.{first_refusal, no_denominator, no_time, entry_check, checked}
use Rattle.listing.specs.Paper.{paper_imported}
use Rattle.listing.specs.Answer.{after, parted, divided, or_blank, word_in, passing, field_in, ended, three_in}
use Rattle.listing.specs.Answer.{one_more, entries_from, listed, table_check, imported, imported_in, row_after}
use Rattle.listing.specs.Promises.{Promises}
use Rattle.listing.proofs.Importing as importing
use Rattle.listing.proofs.Layouts as layouts
use Rattle.listing.proofs.Lists as lists
use Rattle.listing.proofs.Exporting as exporting
use Rattle.listing.proofs.Again as again

import_empty : (room : ℕ) → paper_imported (imported [] room) ≡ refuse 18 1
unfolding imported listed after three_in field_in word_in begins_with passing
import_empty room = refl

import_example :
    row_after
    (34 ∷ 112 ∷ 104 ∷ 97 ∷ 115 ∷ 101 ∷ 34 ∷ 44 ∷ 112 ∷ 101 ∷ 114 ∷ 105 ∷ 111 ∷ 100 ∷ 44 ∷ 100 ∷ 117 ∷ 114 ∷ 97 ∷ 116 ∷ 105 ∷ 111 ∷ 110
    ∷ 13 ∷ 10 ∷ 44 ∷ 34 ∷ 48 ∷ 51 ∷ 54 ∷ 47 ∷ 49 ∷ 51 ∷ 34 ∷ 44 ∷ 50 ∷ 52 ∷ 47 ∷ 50 ∷ 54 ∷ [])
    (7 ∷ 7 ∷ 7 ∷ 7 ∷ 7 ∷ 7 ∷ 7 ∷ [])
    ≡ 0 ∷ 1 ∷ 36 ∷ 13 ∷ 12 ∷ 13 ∷ 7 ∷ []
unfolding imported imported_in listed entries_from one_more after three_in field_in word_in begins_with passing ended parted divided or_blank is_digit digits_from number_in table_check checked first_refusal entries entries_of entry_check no_denominator no_time flat_map lowest euclid_within euclid gcd
import_example = refl

pub promises : Promises
promises =
    record {
      records_one = importing.records_one;
      lists_one = importing.lists_one;
      bad_one = importing.bad_one;
      lists_not_bad = importing.lists_not_bad;
      lists_or_bad = importing.lists_or_bad;
      bad_of_records = importing.bad_of_records;
      import_in_order = importing.import_in_order;
      import_refused = importing.import_refused;
      import_keeps = importing.import_keeps;
      import_never_2 = importing.import_never_2;
      import_answers = importing.import_answers;
      import_written = importing.import_written;
      import_few = importing.import_few;
      export_in_order = exporting.export_in_order;
      export_refused = exporting.export_refused;
      export_keeps = exporting.export_keeps;
      export_answers = exporting.export_answers;
      export_written = exporting.export_written;
      export_longest = exporting.export_longest;
      export_reaches = exporting.export_reaches;
      export_readable = layouts.export_readable;
      text_lists = lists.text_lists;
      import_after_export = again.import_after_export;
      exported_same = exporting.exported_same;
      exported_verdict = exporting.exported_verdict;
      imported_same = importing.imported_same;
      imported_verdict = importing.imported_verdict;
      import_again = again.import_again;
      import_empty = import_empty;
      export_example = layouts.export_example;
      import_example = import_example;
    }
