-- The proof of what specs/Promises.antt states.
-- Assumes nothing.
use mathlib.Core.Path.{refl, sym}
use native.Mathlib.Omega.{arith}
use Rattle.fraction.proofs.CommonMultiple.{multiple_is}
use Rattle.table.specs.Row.{entries, denominators}
use Rattle.table.specs.Answer.{refusal}
use Rattle.table.specs.Promises.{Promises}
use Rattle.table.proofs.Entries.{entries_length, entries_at}
use Rattle.table.proofs.Following.{entry_follows, checked_follows}
use Rattle.table.proofs.Limits.{refusal_follows}
use Rattle.table.proofs.Numbers.{passed_is, follows_gives, follows_passes, train_in_order, checked_in_order, row_in_order}
use Rattle.table.proofs.Readings as readings
use Rattle.table.proofs.Terms as terms

pub promises : Promises
promises =
    record {
      entries_count = entries_length;
      entries_stand = λ row i h. sym (entries_at row i h);
      train_in_order = train_in_order;
      checked_in_order = checked_in_order;
      row_in_order = row_in_order;
      refused_exactly = λ row. follows_gives _ _ (refusal_follows row);
      passed_exactly = λ row. follows_passes _ _ (refusal_follows row);
      checked_exactly = λ row. follows_gives _ _ (checked_follows row);
      checked_passed = λ row. follows_passes _ _ (checked_follows row);
      entry_exactly = λ i e. follows_gives _ _ (entry_follows i e);
      entry_passed = λ i e. follows_passes _ _ (entry_follows i e);
      tick_multiple = λ row. (refl, multiple_is (denominators (entries row)));
      tick_limit = λ row e. readings.passed_limit row ((passed_is (refusal row)).0 e);
      trains_count = λ row e.
          (readings.trains_length row, omega (arith, readings.trains_length row, readings.passed_few row ((passed_is (refusal row)).0 e)));
      trains_exact = λ row i e h. readings.passed_exact row ((passed_is (refusal row)).0 e) i h;
      trains_limits = λ row i e h. readings.passed_limits row ((passed_is (refusal row)).0 e) i (omega (arith, readings.trains_length row));
      lowest_same_time = terms.lowest_same_time;
      reading_same = terms.reading_same;
    }
