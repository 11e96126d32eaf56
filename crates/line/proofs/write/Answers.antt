-- `write` meets its contract: what `put` wrote is the line of the verdict that was matched.
use mathlib.Core.Path.{refl}
use native.Mathlib.Omega.{arith}
use Rattle.line.proofs.Lines.{accept_line, collide_line, refuse_line, put_line}
use Rattle.line.proofs.write.Goals as goal

pub returns-in-Accepted : goal.returns-in-Accepted
returns-in-Accepted c =
    let put =
    put_line _ _ _ _ _ _ c.in-Accepted.is (omega arith, omega arith)
    (accept_line c.in-Accepted.figures _ _ c.from.ensures c.from-in-Accepted.ensures)
    c.put.ensures.answer c.put.ensures.bytes in
    record { answer = put.0; bytes = put.1; constant = refl; suffices = put.2 }

pub returns-in-Collide : goal.returns-in-Collide
returns-in-Collide c =
    let put =
    put_line _ _ _ _ _ _ c.in-Collide.is (omega arith, (omega arith, (omega arith, (omega arith, omega arith))))
    (collide_line c.in-Collide.meeting c.in-Collide.figures _ _ c.from-in-Collide.ensures c.from-in-Collide-2.ensures)
    c.put-in-Collide.ensures.answer c.put-in-Collide.ensures.bytes in
    record { answer = put.0; bytes = put.1; constant = refl; suffices = put.2 }

pub returns-in-Refused : goal.returns-in-Refused
returns-in-Refused c =
    let put =
    put_line _ _ _ _ _ _ c.in-Refused.is c.refuse.ensures.within (refuse_line c.in-Refused.refusal)
    c.refuse.ensures.answer c.refuse.ensures.bytes in
    record { answer = put.0; bytes = put.1; constant = refl; suffices = put.2 }
