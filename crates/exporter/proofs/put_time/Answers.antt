-- `put_time` meets its contract: n, and where there is an m, a slash and m.
use native.Mathlib.Omega.{arith}
use Rattle.exporter.proofs.Stores.{parts_at, slash_at, time_end, time_whole, parts_end, time_parts}
use Rattle.exporter.proofs.put_time.Goals as goal

pub returns-then-reduced-eq1-clause-end : goal.returns-then-reduced-eq1-clause-end
returns-then-reduced-eq1-clause-end c =
    let end = rw c.from.ensures at (c.put-end.ensures.end) in
    let bytes = rw c.from.ensures at (c.put-end.ensures.bytes) in
    time_end _ _ c.lowest-reduced.ensures _ _ _ c.requires end bytes (omega arith)

pub returns-then-reduced-eq1-clause-bytes : goal.returns-then-reduced-eq1-clause-bytes
returns-then-reduced-eq1-clause-bytes c =
    let end = rw c.from.ensures at (c.put-end.ensures.end) in
    let bytes = rw c.from.ensures at (c.put-end.ensures.bytes) in
    time_whole _ _ c.lowest-reduced.ensures _ _ _ c.requires end bytes (omega arith)

pub bounds-text-end : goal.bounds-text-end
bounds-text-end c =
    let end = rw c.from.ensures at (c.put-end.ensures.end) in
    let bytes = rw c.from.ensures at (c.put-end.ensures.bytes) in
    let is = c.lowest-reduced.ensures in
    let at = slash_at _ _ is _ _ _ c.requires end bytes (λ one. omega arith) in
    omega (arith, at, parts_at _ _ is (λ one. omega arith))

pub overflow_add-end : goal.overflow_add-end
overflow_add-end c =
    let end = rw c.from.ensures at (c.put-end.ensures.end) in
    let bytes = rw c.from.ensures at (c.put-end.ensures.bytes) in
    let is = c.lowest-reduced.ensures in
    let at = slash_at _ _ is _ _ _ c.requires end bytes (λ one. omega arith) in
    omega (arith, at, parts_at _ _ is (λ one. omega arith))

pub returns-clause-end : goal.returns-clause-end
returns-clause-end c =
    let end = rw c.from.ensures at (c.put-end.ensures.end) in
    let bytes = rw c.from.ensures at (c.put-end.ensures.bytes) in
    let last = rw c.from-2.ensures at (c.put.ensures.end) in
    parts_end _ _ c.lowest-reduced.ensures _ _ _ c.requires end bytes (λ one. omega arith) c.put-end.auto.out _ last

pub returns-clause-bytes : goal.returns-clause-bytes
returns-clause-bytes c =
    let end = rw c.from.ensures at (c.put-end.ensures.end) in
    let bytes = rw c.from.ensures at (c.put-end.ensures.bytes) in
    let last = rw c.from-2.ensures at (c.put.ensures.bytes) in
    time_parts _ _ c.lowest-reduced.ensures _ _ _ c.requires end bytes (λ one. omega arith) c.put-end.auto.out _ last
