-- `main` hands on the listing of the stored table: `list` leaves it at the start of the text. Assumes nothing.
use Rattle.std.proofs.Common.{arith}
use Rattle.std.proofs.lemmas.Grind.{common_steps}
use Rattle.convert.proofs.Stands.{list_fits, list_stands}
use Rattle.export.proofs.main.Goals as goal

pub slice_bounds-text-end : goal.slice_bounds-text-end
slice_bounds-text-end c =
    let fits = list_fits _ _ _ _ c.in-Ok-list.ensures.answer c.in-Ok-list.ensures.memory in
    omega arith

pub slice_bounds-write-end : goal.slice_bounds-write-end
slice_bounds-write-end c =
    let fits = list_fits _ _ _ _ c.in-Ok-list.ensures.answer c.in-Ok-list.ensures.memory in
    grind (arith, common_steps)

pub write-requires : goal.write-requires
write-requires c = list_stands _ _ _ _ c.in-Ok-list.ensures.answer c.in-Ok-list.ensures.memory
