-- `save` meets its contract: the count of a row that passes has 16 bits, and head and records are the whole layout.
use native.Mathlib.Omega.{arith}
use Rattle.table.proofs.Entries.{entries_length, records_length}
use Rattle.stored.proofs.Saving.{save_few}
use Rattle.save.proofs.Stores.{save_writes}
use Rattle.save.proofs.save.Goals as goal

pub overflow_cast-count : goal.overflow_cast-count
overflow_cast-count c =
    let count = records_length _ _ c.records-count.ensures in
    omega (arith, save_few _ c.in_ok-check.ensures, count, entries_length c.args.row.now)

pub returns-clause-bytes : goal.returns-clause-bytes
returns-clause-bytes c = save_writes _ _ _ _ _ (records_length _ _ c.records-count.ensures) c.put_head.ensures c.put_records.ensures
