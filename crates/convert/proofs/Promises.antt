-- The proof of what specs/Promises.antt states.
-- Assumes nothing.
use Rattle.convert.specs.Promises.{Promises}
use Rattle.convert.proofs.Storing.{store_refused, store_keeps, store_answers, store_written, store_verdict, store_longest, store_front}
use Rattle.convert.proofs.Listings.{list_refused, list_keeps, list_answers, list_written, list_longest, list_front}
use Rattle.convert.proofs.Rooms.{store_room, list_room}
use Rattle.convert.proofs.Trips.{list_after_store, store_after_list}

pub promises : Promises
promises =
    record {
      store_refused = store_refused;
      store_keeps = store_keeps;
      store_answers = store_answers;
      store_written = store_written;
      store_verdict = store_verdict;
      store_longest = store_longest;
      store_room = store_room;
      store_front = store_front;
      list_refused = list_refused;
      list_keeps = list_keeps;
      list_answers = list_answers;
      list_written = list_written;
      list_longest = list_longest;
      list_room = list_room;
      list_front = list_front;
      list_after_store = list_after_store;
      store_after_list = store_after_list;
    }
