-- `put_numbers` meets its contract. The loop's invariant: where the numbers that are left are written here, all are written.
-- The measure is the numbers that are left.
use native.Mathlib.Omega.{arith}
use lib.ListN.{length-set}
use Rattle.line.proofs.Stores.{putting_begins, putting_room, putting_on, putting_last, putting_ends}
use Rattle.line.proofs.put_numbers.Goals as goal

pub loop-value-init : goal.loop-value-init
loop-value-init c = putting_begins _ _ _

pub put_number-next-requires : goal.put_number-next-requires
put_number-next-requires c =
    putting_room _ _ _ _ _ _ c.requires c.loop-value-test.true c.loop-value.invariant

pub loop-value-preserved : goal.loop-value-preserved
loop-value-preserved c =
    putting_on _ _ _ _ _ _ _ _ c.requires c.loop-value-test.true
    c.put_number-next.ensures.end c.put_number-next.auto.out c.put_number-next.ensures.bytes c.loop-value.invariant

pub bounds-out-next : goal.bounds-out-next
bounds-out-next c =
    omega (arith, c.requires, c.loop-value.invariant.same, putting_last _ _ _ _ _ _ c.loop-value-test.false c.loop-value.invariant)

pub overflow_add-result : goal.overflow_add-result
overflow_add-result c =
    omega (arith, c.requires, putting_last _ _ _ _ _ _ c.loop-value-test.false c.loop-value.invariant)

pub shape_of-out : goal.shape_of-out
shape_of-out c = simp length-set c.loop-value.invariant.same

pub returns : goal.returns
returns c =
    record {
      end = putting_last _ _ _ _ _ _ c.loop-value-test.false c.loop-value.invariant;
      bytes = putting_ends _ _ _ _ _ _ c.requires c.loop-value-test.false c.loop-value.invariant;
    }
