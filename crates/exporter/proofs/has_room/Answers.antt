-- `has_room` meets its contract: the longest text has room, or the text was measured.
use Rattle.table.proofs.Following.{checked_length}
use Rattle.exporter.proofs.Stores.{room_longest, room_measured}
use Rattle.exporter.proofs.has_room.Goals as goal

pub records_width-requires : goal.records_width-requires
records_width-requires c = checked_length _ c.requires

pub returns-then-room-ge-LONGEST_EXPORT : goal.returns-then-room-ge-LONGEST_EXPORT
returns-then-room-ge-LONGEST_EXPORT c =
    room_longest _ _ (λ i. (c.type_inv.row i).fits) c.requires c.if-room-ge-LONGEST_EXPORT.true

pub returns-else-room-ge-LONGEST_EXPORT : goal.returns-else-room-ge-LONGEST_EXPORT
returns-else-room-ge-LONGEST_EXPORT c = room_measured _ _ _ c.records_width.ensures.0
