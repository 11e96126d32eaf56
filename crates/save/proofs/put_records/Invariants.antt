-- `put_records` meets its contract. The loop's invariant: the trains up to this position are written, and nothing else.
use mathlib.Core.Path.{refl}
use mathlib.Core.List.{map}
use Rattle.lent.proofs.Records.{Writing}
use Rattle.table.specs.Row.{record_length, entries, lowest_entry}
use Rattle.stored.specs.Layout.{record_of}
use Rattle.save.proofs.put_records.Given as goal

abbrev pub invariant-loop-position : goal.invariant-loop-position
invariant-loop-position l =
    Writing record_of record_length (λ e. refl) (map lowest_entry (entries l.row)) 0 l.initial.out l.out l.position
