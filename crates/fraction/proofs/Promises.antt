-- The proof of what specs/Promises.antt states.
-- Assumes nothing.
use Rattle.fraction.specs.Promises.{Promises}
use Rattle.fraction.proofs.Lowest as lowest
use Rattle.fraction.proofs.CommonMultiple as multiple
use Rattle.fraction.proofs.WholeTicks as ticks
use Rattle.fraction.proofs.Order as order

pub promises : Promises
promises =
    record {
      lowest_same = lowest.lowest_same;
      lowest_terms = lowest.lowest_terms;
      lowest_only = lowest.lowest_only;
      lowest_zero = lowest.lowest_zero;
      lowest_twice = lowest.lowest_twice;
      is_lowest_lem = lowest.is_lowest_lem;
      multiple_is = multiple.multiple_is;
      multiple_only = multiple.multiple_only;
      running_is = multiple.running_is;
      ticks_exact = ticks.ticks_exact;
      ticks_found = ticks.ticks_found;
      ticks_parts = ticks.ticks_parts;
      ticks_lowest = ticks.ticks_lowest;
      above_is = order.above_is;
      above_ticks = order.above_ticks;
      above_same = order.above_alike;
    }
