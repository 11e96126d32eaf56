-- The loop's invariant in `records_width`: what was measured and what is left are the whole.
use mathlib.Core.List.{map}
use Rattle.table.specs.Row.{entries, lowest_entry}
use Rattle.exporter.proofs.Lines.{Measuring}
use Rattle.exporter.proofs.records_width.Given as goal

abbrev pub invariant-loop-numbers : goal.invariant-loop-numbers
invariant-loop-numbers l = Measuring (map lowest_entry (entries l.row)) l.width l.numbers-index
