-- The loop's invariant in `put_entries`: the trains up to this position are written, and nothing else.
use mathlib.Core.Path.{refl}
use mathlib.Core.List.{map}
use Rattle.lent.proofs.Records.{Writing}
use Rattle.table.specs.Row.{numbers, numbers_of}
use Rattle.load.proofs.Walk.{entry_of}
use Rattle.load.proofs.put_entries.Given as goal

abbrev pub invariant-loop-position : goal.invariant-loop-position
invariant-loop-position l = Writing numbers_of numbers (λ e. refl) (map entry_of l.records) 0 l.initial.row l.row l.position
