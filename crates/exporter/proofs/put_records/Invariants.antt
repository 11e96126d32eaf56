-- The loop's invariant in `put_records`: where the lines from this position on are written here, all are written.
use mathlib.Core.List.{map}
use Rattle.table.specs.Row.{entries, lowest_entry}
use Rattle.exporter.proofs.Lines.{Putting}
use Rattle.exporter.proofs.put_records.Given as goal

abbrev pub invariant-loop-numbers : goal.invariant-loop-numbers
invariant-loop-numbers l = Putting (map lowest_entry (entries l.row)) l.initial.text l.text l.end l.numbers-index
