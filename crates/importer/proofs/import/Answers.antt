-- `import` meets its contract: the length, the heading, all records, the trains, and then the row.
use native.Mathlib.Omega.{arith}
use lib.ListN.{length}
use Rattle.std.proofs.Common.{rules}
use Rattle.importer.proofs.Answers.{import_long, import_headless, begun, import_bad, import_refused, import_answers, import_ready, import_writes}
use Rattle.importer.proofs.import.Goals as goal

pub returns-then-text-gt-LONGEST_TEXT-clause-answer : goal.returns-then-text-gt-LONGEST_TEXT-clause-answer
returns-then-text-gt-LONGEST_TEXT-clause-answer c = import_long _ _ (omega arith)

pub returns-in_err-records-clause-answer : goal.returns-in_err-records-clause-answer
returns-in_err-records-clause-answer c =
    let k = import_headless _ (length c.args.row.now) (omega arith) _ c.read_heading.ensures _ c.in_err-records.ensures.value in search (rules, k)

pub returns-in_err-scanned-clause-answer : goal.returns-in_err-scanned-clause-answer
returns-in_err-scanned-clause-answer c =
    let begins = begun _ (omega arith) _ c.read_heading.ensures _ c.in_ok-records.ensures.ok_part in
    let k = import_bad _ (length c.args.row.now) _ begins _ c.scan.ensures _ c.in_err-scanned.was in search (rules, k)

pub returns-in_err-check_trains-clause-answer : goal.returns-in_err-check_trains-clause-answer
returns-in_err-check_trains-clause-answer c =
    let begins = begun _ (omega arith) _ c.read_heading.ensures _ c.in_ok-records.ensures.ok_part in
    let k = import_refused _ _ _ begins _ c.scan.ensures _ c.in_ok-scanned.was _ c.check_trains.ensures _ c.in_err-check_trains.was in
    search (rules, k)

pub put_entries-requires : goal.put_entries-requires
put_entries-requires c =
    let begins = begun _ (omega arith) _ c.read_heading.ensures _ c.in_ok-records.ensures.ok_part in
    import_ready _ _ _ begins _ c.scan.ensures _ c.in_ok-scanned.was _ c.check_trains.ensures c.in_ok-check_trains.was

pub returns-clause-answer : goal.returns-clause-answer
returns-clause-answer c =
    let begins = begun _ (omega arith) _ c.read_heading.ensures _ c.in_ok-records.ensures.ok_part in
    import_answers _ _ _ begins _ c.scan.ensures _ c.in_ok-scanned.was _ c.check_trains.ensures c.in_ok-check_trains.was

pub returns-clause-entries : goal.returns-clause-entries
returns-clause-entries c =
    let begins = begun _ (omega arith) _ c.read_heading.ensures _ c.in_ok-records.ensures.ok_part in
    import_writes _ _ _ begins _ c.scan.ensures _ c.in_ok-scanned.was _ c.check_trains.ensures c.in_ok-check_trains.was _ _ c.put_entries.ensures
