-- `load` meets its contract: past the head, what is found of the trains of the records, and then the room and the row.
use lib.ListN.{length}
use Rattle.std.proofs.Common.{rules}
use Rattle.load.proofs.Walk.{cut}
use Rattle.load.proofs.Stores.{answers_trains, answers_short, answers_count, load_writes}
use Rattle.load.proofs.load.Goals as goal

pub returns-in_err-check_records-clause-answer : goal.returns-in_err-check_records-clause-answer
returns-in_err-check_records-clause-answer c =
    let records = c.as_chunks.ensures in
    let passed = c.in_ok-check_head.ensures in
    let k = answers_trains _ (length c.args.row.now) _ passed (cut _ _ passed records.front records.front_len) _ c.in_err-check_records.ensures in
    search (rules, k)

pub returns-then-row-count-clause-answer : goal.returns-then-row-count-clause-answer
returns-then-row-count-clause-answer c =
    let records = c.as_chunks.ensures in
    let passed = c.in_ok-check_head.ensures in
    answers_short _ _ _ passed (cut _ _ passed records.front records.front_len) c.in_ok-check_records.ensures c.if-row-count.true

pub returns-clause-answer : goal.returns-clause-answer
returns-clause-answer c =
    let records = c.as_chunks.ensures in
    let passed = c.in_ok-check_head.ensures in
    answers_count _ _ _ passed (cut _ _ passed records.front records.front_len) c.in_ok-check_records.ensures c.if-row-count.false

pub returns-clause-entries : goal.returns-clause-entries
returns-clause-entries c =
    let records = c.as_chunks.ensures in
    load_writes _ _ _ _ (cut _ _ c.in_ok-check_head.ensures records.front records.front_len) c.put_entries.ensures
