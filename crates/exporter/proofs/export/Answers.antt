-- `export` meets its contract: the checks, the room, and then the heading and the records.
use Prim.Native.Nat.{◌+◌}
use mathlib.Core.Path.{refl}
use native.Mathlib.Omega.{arith}
use lib.ListN.{length, length-drop}
use Rattle.std.proofs.Common.{rules}
use Rattle.std.proofs.lemmas.List.{take_rest}
use Rattle.listing.proofs.Exporting.{way_checked, way_short}
use Rattle.exporter.proofs.Stores.{room_short, room_there, heading_end, text_answers, text_written}
use Rattle.exporter.proofs.export.Goals as goal

pub returns-in_err-check-clause-answer : goal.returns-in_err-check-clause-answer
returns-in_err-check-clause-answer c =
    let k = way_checked _ (length c.args.text.now) _ c.check.ensures _ c.in_err-check.was in search (rules, k)

pub returns-then-not-has_room-clause-answer : goal.returns-then-not-has_room-clause-answer
returns-then-not-has_room-clause-answer c =
    way_short _ _ _ c.check.ensures c.in_ok-check.was (room_short _ _ c.if-not-has_room.ensures)

pub slice_bounds-put_records-count : goal.slice_bounds-put_records-count
slice_bounds-put_records-count c =
    let there = c.if-not-has_room.ensures in
    omega (arith, heading_end _ _ there _ _ c.put-behind.ensures.end refl, room_there _ _ there, c.put-behind.auto.out)

pub slice_bounds-put_records-start : goal.slice_bounds-put_records-start
slice_bounds-put_records-start c =
    let there = c.if-not-has_room.ensures in
    omega (arith, heading_end _ _ there _ _ c.put-behind.ensures.end refl, room_there _ _ there, c.put-behind.auto.out)

pub put_records-requires : goal.put_records-requires
put_records-requires c =
    let there = c.if-not-has_room.ensures in
    let head = heading_end _ _ there _ _ c.put-behind.ensures.end refl in
    simp (take_rest, length-drop) (omega (arith, head, room_there _ _ there, c.put-behind.auto.out))

pub overflow_add-result : goal.overflow_add-result
overflow_add-result c =
    let there = c.if-not-has_room.ensures in
    omega (arith, heading_end _ _ there _ _ c.put-behind.ensures.end refl, room_there _ _ there, c.put_records.ensures.end)

pub returns-clause-answer : goal.returns-clause-answer
returns-clause-answer c =
    let there = c.if-not-has_room.ensures in
    let head = heading_end _ _ there _ _ c.put-behind.ensures.end refl in
    text_answers _ _ (λ i. head i + c.put_records.ensures.end i) _ _ c.check.ensures c.in_ok-check.was (room_there _ _ there)

pub returns-clause-bytes : goal.returns-clause-bytes
returns-clause-bytes c =
    let there = c.if-not-has_room.ensures in
    let put = c.put-behind.ensures in
    let head = heading_end _ _ there _ _ put.end refl in
    text_written _ _ (λ i. head i + c.put_records.ensures.end i) _ _ _ _ there put.end put.bytes c.put_records.ensures.bytes
