-- `put_entries` meets its contract. The loop's invariant, `Putting`: the trains up to this position are written, and those behind it
-- are still to be read.
use Rattle.listing.specs.Answer.{trains_of}
use Rattle.importer.specs.Inside.{listed_from}
use Rattle.importer.proofs.Writes.{Putting}
use Rattle.importer.proofs.put_entries.Given as goal

abbrev pub invariant-loop-position : goal.invariant-loop-position
invariant-loop-position l = Putting (trains_of (listed_from l.records)) l.initial.row l.row l.rest l.position
