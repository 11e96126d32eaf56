-- The proof of what specs/Promises.antt states.
-- Assumes nothing.
use Prim.Native.Nat.{◌+◌}
use mathlib.Core.Path.{refl}
use Rattle.judge.specs.Answer.{verdict}
use Rattle.stored.specs.Answer.{saved, loaded}
use Rattle.file.specs.Answer.{file_verdict}
use Rattle.listing.specs.Answer.{imported, exported}
use Rattle.line.specs.Answer.{written}
use Rattle.words.specs.Record.{last_at}
use Rattle.words.specs.Answer.{admission_in, withdrawal_in, stepping_in}
use Rattle.bench.specs.Promises.{Promises}
use Rattle.bench.proofs.Fitting as fitting
use Rattle.bench.proofs.Listings as listings
use Rattle.bench.proofs.Dispatching as dispatching
use Rattle.bench.proofs.Seeing as seeing

pub promises : Promises
promises =
    record {
      code_tells = fitting.told;
      judge_tells = λ row. fitting.told _ (fitting.judge_fits row);
      judge_stored_tells = λ bs. fitting.told _ (fitting.judge_stored_fits bs);
      line_tells = λ row room. fitting.told _ (fitting.line_fits row room);
      line_stored_tells = λ bs room. fitting.told _ (fitting.line_stored_fits bs room);
      save_tells = λ row room. fitting.told _ (fitting.save_fits row room);
      load_tells = λ bs room. fitting.told _ (fitting.load_fits bs room);
      import_tells = λ text room. fitting.told _ (listings.import_fits text room);
      export_tells = λ row room words. fitting.told _ (listings.export_fits row room words);
      admit_tells = λ ws delay period duration. fitting.told _ (dispatching.admit_fits ws delay period duration);
      withdraw_tells = λ ws q. fitting.told _ (dispatching.withdraw_fits ws q);
      step_tells = λ ws count words. fitting.told _ (dispatching.step_fits ws count _ refl (words (last_at + 1)));
      judge_seen = λ row. seeing.verdict_seen (verdict row) (fitting.judge_fits row);
      judge_stored_seen = λ bs. seeing.verdict_seen (file_verdict bs) (fitting.judge_stored_fits bs);
      line_seen =
          λ row room. seeing.value_seen (written (verdict row) room) (fitting.line_fits row room);
      line_stored_seen =
          λ bs room. seeing.value_seen (written (file_verdict bs) room) (fitting.line_stored_fits bs room);
      save_seen = λ row room. seeing.value_seen (saved row room) (fitting.save_fits row room);
      load_seen = λ bs room. seeing.value_seen (loaded bs room) (fitting.load_fits bs room);
      import_seen = λ text room. seeing.value_seen (imported text room) (listings.import_fits text room);
      export_seen =
          λ row room words.
          seeing.value_seen (exported row room) (listings.export_fits row room words);
      admit_seen =
          λ ws delay period duration.
          seeing.value_seen (admission_in ws delay period duration).answer (dispatching.admit_fits ws delay period duration);
      withdraw_seen = λ ws q. seeing.withdrawal_seen (withdrawal_in ws q).answer (dispatching.withdraw_fits ws q);
      step_seen =
          λ ws count words.
          seeing.tick_seen (stepping_in ws count).answer (dispatching.step_fits ws count _ refl (words (last_at + 1)));
      judge_names = λ row. (fitting.row_proper row).named;
      judge_stored_names = λ bs. (fitting.file_proper bs).named;
      save_names = fitting.saved_names;
      load_names = fitting.loaded_names;
      export_names = listings.export_names;
      line_longest = λ row. fitting.line_longest (verdict row) (fitting.row_proper row);
      line_stored_longest = λ bs. fitting.line_longest (file_verdict bs) (fitting.file_proper bs);
      load_few = fitting.loaded_few;
      import_few = listings.imported_few;
      import_names = listings.import_names;
      line_suffices = λ row. fitting.line_suffices (verdict row) (fitting.row_proper row);
      line_stored_suffices = λ bs. fitting.line_suffices (file_verdict bs) (fitting.file_proper bs);
      admit_place = dispatching.admit_place;
      admit_names = dispatching.admit_names;
    }
