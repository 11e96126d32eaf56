-- `put_record` meets its contract: three times, each with what stands behind it.
use native.Mathlib.Omega.{arith}
use Rattle.exporter.proofs.Stores.{record_written}
use Rattle.exporter.proofs.put_record.Goals as goal

pub returns-clause-bytes : goal.returns-clause-bytes
returns-clause-bytes c =
    let first = c.put_time-first.ensures in
    record_written _ _ c.requires _ _ first.end first.bytes _ _ c.put_time.ensures.end c.put_time.ensures.bytes _ _ c.put_time-2.ensures.end
    _ _ c.put_time-2.ensures.bytes c.copy_from_slice.ensures.after (omega arith)
