-- `put` meets its contract: where the word or the numbers find no room it is refused, else the two writes join to the line.
use Prim.Native.Nat.{◌+◌, ◌<◌}
use mathlib.Core.Path.{sym, ap, ◌∙◌}
use Rattle.lent.proofs.Over.{end_room}
use mathlib.Core.Bool.{not}
use native.Mathlib.Omega.{arith}
use lib.ListN.{length, length-append}
use Rattle.line.specs.Answer.{numbers, text_of}
use Rattle.line.proofs.Stores.{numbers_some, none_left, some_left}
use Rattle.line.proofs.Lines.{put_none, put_all}
use Rattle.line.proofs.put.Goals as goal
use Rattle.line.proofs.put.Goals.{then-room-word-via-then-room-word, then-room-word-via-else-room-word+then-is_none}

pub returns-then-room-word : goal.returns-then-room-word
returns-then-room-word c =
    let text = text_of c.args.word.now c.args.values.now in
    let whole = length-append c.args.word.now (numbers c.args.values.now) in
    let some = numbers_some c.args.values.now in
    let short : length c.args.out.now < c.args.at + length text =
    elim c.then-room-word.branch [
      | then-room-word-via-then-room-word w ↦ omega (arith, w.if-room-word.true, c.saturating_sub-room.ensures)
      | then-room-word-via-else-room-word+then-is_none w ↦
          omega (arith, none_left _ _ _ w.left_by.ensures (w.is_none.ensures ∙ ap not w.if-is_none.true), c.saturating_sub-room.ensures)
    ] in
    let none = put_none text c.args.out.now c.args.at short in
    record { answer = none.0; bytes = none.1 }

pub put_numbers-requires : goal.put_numbers-requires
put_numbers-requires c =
    let enough = some_left _ _ _ c.left_by.ensures (c.is_none.ensures ∙ ap not c.if-is_none.false) in
    let some = numbers_some c.args.values.now in
    let end = c.put-end.ensures.end ∙ end_room _ _ c.args.word.now (omega (arith, enough, some)) in
    omega (arith, enough, end, c.put-end.auto.out, some)

pub returns : goal.returns
returns c =
    let enough = some_left _ _ _ c.left_by.ensures (c.is_none.ensures ∙ ap not c.if-is_none.false) in
    let some = numbers_some c.args.values.now in
    let next = c.put-end.ensures.end ∙ end_room _ _ c.args.word.now (omega (arith, enough, some)) in
    let end = c.put_numbers.ensures.end in
    let all =
    put_all c.args.word.now c.args.values.now c.args.out.now _ _ _ _ _ (sym next) end
    (omega (arith, enough, next, end, some)) c.put-end.ensures.bytes c.put_numbers.ensures.bytes in
    record { answer = all.0; bytes = all.1 }
