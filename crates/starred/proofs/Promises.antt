-- The proof of what specs/Promises.antt states: the definitions compute each verdict.
-- Assumes nothing.
use mathlib.Core.Path.{refl}
use mathlib.Core.List.{flat_map}
use Rattle.euclid.specs.Answer.{euclid_within, euclid, gcd, divisions, lcm}
use Rattle.fraction.specs.Answer.{lowest, is_lowest, whole_ticks, common_multiple, running_from, running}
use Rattle.train.specs.Answer.{within_limits, expression, free, claims, both, first_from, earliest}
use Rattle.table.specs.Row.{entries_of, entries, denominators, trains}
use Rattle.table.specs.Answer.{no_denominator, no_time, first_refusal, entry_check, checked, too_long, ticks_check, refusal}
use Rattle.judge.specs.Pairs.{pairs_with, pairs_from}
use Rattle.judge.specs.Answer.{scan, verdict}
use Rattle.stored.specs.Layout.{bytes_of}
use Rattle.stored.specs.Found.{number32, records_in}
use Rattle.stored.specs.Answer.{save_check, saved_in, has_mark, head_check, time_check, stored_check, load_check}
use Rattle.file.specs.Answer.{verdict_after}
use Rattle.dispatcher.specs.Answer.{wait, is_sought, admission, withdrawal, stepping}
use Rattle.dispatcher.specs.Answer as dispatcher
use Rattle.dispatcher.specs.Played.{event_of, record_after, log_of}
use Rattle.starred.specs.Promises.{Promises}

pub promises : Promises
unfolding verdict refusal checked entries entries_of denominators trains no_denominator no_time first_refusal entry_check too_long ticks_check lowest whole_ticks common_multiple running running_from scan pairs_with pairs_from within_limits expression free claims both first_from earliest euclid_within euclid gcd divisions lcm is_lowest flat_map bytes_of number32 records_in save_check saved_in has_mark head_check time_check stored_check load_check verdict_after wait is_sought dispatcher.lowest admission withdrawal stepping event_of record_after log_of
promises = record { sheet_judged = refl; sheet_stored = (refl, refl); sheet_file = refl; sheet_played = refl }
