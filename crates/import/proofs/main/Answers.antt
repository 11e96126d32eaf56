-- `main` hands on the stored table of the listing: `store` leaves it at the start of the bytes. Assumes nothing.
use Rattle.std.proofs.Common.{arith}
use Rattle.std.proofs.lemmas.Grind.{common_steps}
use Rattle.convert.proofs.Stands.{store_fits, store_stands}
use Rattle.import.proofs.main.Goals as goal

pub slice_bounds-bytes-end : goal.slice_bounds-bytes-end
slice_bounds-bytes-end c =
    let fits = store_fits _ _ _ _ c.in-Ok-store.ensures.answer c.in-Ok-store.ensures.memory in
    omega arith

pub slice_bounds-write-end : goal.slice_bounds-write-end
slice_bounds-write-end c =
    let fits = store_fits _ _ _ _ c.in-Ok-store.ensures.answer c.in-Ok-store.ensures.memory in
    grind (arith, common_steps)

pub write-requires : goal.write-requires
write-requires c = store_stands _ _ _ _ c.in-Ok-store.ensures.answer c.in-Ok-store.ensures.memory
