-- The lines as lists: how long they are, and what it is to have written one.
-- Core: two_length and collide_length. The rest follows the text of the definitions.
-- Assumes nothing.
use Prim.Native.Nat.{ℕ, ◌+◌, ◌<◌, ◌≤◌}
use mathlib.Core.Path.{◌≡◌, refl, sym, ap, subst, ◌∙◌}
use mathlib.Core.Bool.{Bool, true, false, cond}
use mathlib.Core.Logic.{◌↔◌}
use mathlib.Core.List.{List, [], ◌∷◌, ◌++◌}
use native.Mathlib.Nat.{zero-add}
use native.Mathlib.Omega.{arith}
use Rattle.std.specs.Prelude.{Result, Ok, Err}
use lib.Dec.{ltb}
use lib.ListN.{length, length-append}
use borrow.Author.Tests.{ltb-true, lt-ltb, le-ltb}
use Rattle.refusal.specs.declared.Refusal.{Refusal}
use Rattle.refusal.specs.declared.Refusal.TheVariants.{BufferTooShort}
use Rattle.refusal.specs.Paper as refusals
use Rattle.decimal.specs.Answer.{decimal}
use Rattle.decimal.proofs.Notation.{decimal_u64, decimal_u32}
use Rattle.judge.specs.declared.Figures.{Figures}
use Rattle.judge.specs.declared.Meeting.{Meeting}
use Rattle.judge.specs.declared.Verdict.{Verdict}
use Rattle.judge.specs.declared.Verdict.TheVariants as verdicts
use Rattle.judge.specs.Paper.{Shown, accept, collide, refuse, paper}
use Rattle.line.specs.Text.{Within}
use Rattle.line.specs.Answer.{numbers, text_of, accept_word, collide_word, refuse_word, refusal_text, line, line_of, longest, answer_for, buffer_after, paper_written, written, written_in}
use Rattle.lent.specs.Lent.{over, fitted}
use Rattle.lent.proofs.Over.{over_then, fitted_room}

-- ---- How long

-- one number more
pub numbers_length : (n : ℕ) (ns : List ℕ) → length (numbers (n ∷ ns)) ≡ 1 + length (decimal n) + length (numbers ns)
unfolding numbers
numbers_length n ns = omega (arith, length-append (decimal n) (numbers ns))

pub none_length : length (numbers []) ≡ 1
unfolding numbers
none_length = refl

pub two_length :
    (word : List ℕ) (a b : ℕ) →
    length (word ++ numbers (a ∷ b ∷ [])) ≡ length word + length (decimal a) + length (decimal b) + 3
two_length word a b =
    omega (
      arith,
      length-append word (numbers (a ∷ b ∷ [])),
      numbers_length a (b ∷ []),
      numbers_length b [],
      none_length,
    )

pub collide_length :
    (first second tick L divisions : ℕ) →
    length (line (collide first second tick L divisions))
    ≡ 10 + length (decimal first) + length (decimal second) + length (decimal tick)
    + length (decimal L) + length (decimal divisions) + 3
unfolding line
collide_length first second tick L divisions =
    omega (
      arith,
      numbers_length first (second ∷ tick ∷ L ∷ divisions ∷ []),
      numbers_length second (tick ∷ L ∷ divisions ∷ []),
      numbers_length tick (L ∷ divisions ∷ []),
      numbers_length L (divisions ∷ []),
      numbers_length divisions [],
      none_length,
    )

-- no line is longer
pub line_fits : (s : Shown) → Within s → length (line s) ≤ longest
unfolding line
line_fits (accept L divisions) w =
    omega (arith, two_length accept_word L divisions, decimal_u32 L w.0, decimal_u32 divisions w.1)
line_fits (collide first second tick L divisions) w =
    omega (
      arith,
      collide_length first second tick L divisions,
      decimal_u64 first w.0,
      decimal_u64 second w.1.0,
      decimal_u64 tick w.1.1.0,
      decimal_u32 L w.1.1.1.0,
      decimal_u32 divisions w.1.1.1.1,
    )
line_fits (refuse number train) w =
    omega (arith, two_length refuse_word number train, decimal_u32 number w.0, decimal_u64 train w.1)

-- ---- To have written

pub answer_room : (text : List ℕ) (at room : ℕ) → at + length text ≤ room → answer_for text at room ≡ Ok (at + length text)
unfolding answer_for
answer_room text at room h = simp (le-ltb room (at + length text) h)

answer_none : (text : List ℕ) (at room : ℕ) → room < at + length text → answer_for text at room ≡ Err BufferTooShort
unfolding answer_for
answer_none text at room h = simp (lt-ltb room (at + length text) h)

-- 1 for a refusal
abbrev is_refuse : refusals.Said → ℕ
is_refuse refusals.passes = 0
is_refuse (refusals.answers value) = 0
is_refuse (refusals.refuse number place) = 1

pub put_short :
    (text : List ℕ) (at room : ℕ) → (paper_written (answer_for text at room) ≡ refusals.refuse 8 64) ↔ (room < at + length text)
unfolding answer_for
put_short text at room = (
  (λ e. go (ltb room (at + length text)) refl e),
  (λ h. ap paper_written (answer_none text at room h)),
)
  where
    go :
        (b : Bool) → ltb room (at + length text) ≡ b →
        paper_written (cond b (Err BufferTooShort) (Ok (at + length text))) ≡ refusals.refuse 8 64 → room < at + length text
    go true t e = ltb-true room (at + length text) t
    go false t e = absurd (omega (arith, ap is_refuse e))

pub put_answers :
    (text : List ℕ) (at room : ℕ) → at + length text ≤ room → paper_written (answer_for text at room) ≡ refusals.answers (at + length text)
put_answers text at room h = ap paper_written (answer_room text at room h)

pub write_short : (v : Verdict) (room : ℕ) → (paper_written (written v room) ≡ refusals.refuse 8 64) ↔ (room < length (line_of v))
write_short v room =
    let at_front = put_short (line_of v) 0 room in
    ((λ e. let h : room < 0 + length (line_of v) = at_front.0 e in omega arith), (λ h. at_front.1 (omega arith)))

pub write_answers :
    (v : Verdict) (room : ℕ) → length (line_of v) ≤ room → paper_written (written v room) ≡ refusals.answers (length (line_of v))
write_answers v room h =
    put_answers (line_of v) 0 room (omega arith) ∙ ap refusals.answers (zero-add (length (line_of v)))

-- a text without room
pub put_none :
    (text before : List ℕ) (at : ℕ) → length before < at + length text →
    (Err BufferTooShort ≡ answer_for text at (length before)) × (before ≡ buffer_after (Err BufferTooShort) text at before)
unfolding buffer_after
put_none text before at h = (sym (answer_none text at (length before) h), refl)

-- a word, and the numbers behind it
pub put_all :
    (word ns before m after : List ℕ) (at next end : ℕ) → at + length word ≡ next → end ≡ next + length (numbers ns) →
    end ≤ length before → m ≡ fitted before at word → after ≡ over m next (numbers ns) →
    (Ok end ≡ answer_for (text_of word ns) at (length before)) × (after ≡ buffer_after (Ok end) (text_of word ns) at before)
unfolding buffer_after
put_all word ns before m after at next end e f h w v =
    let whole : end ≡ at + length (text_of word ns) = omega (arith, length-append word (numbers ns)) in (
      ap (λ (n : ℕ). Ok n) whole ∙ sym (answer_room (text_of word ns) at (length before) (omega arith)),
      v ∙ over_then before m word (numbers ns) at next (omega arith) e (w ∙ fitted_room before at word (omega arith)),
    )

-- ---- The line of a verdict

pub accept_line :
    (figures : Figures) (multiple divisions : ℕ) → multiple ≡ figures.multiple → divisions ≡ figures.divisions →
    text_of accept_word (multiple ∷ divisions ∷ []) ≡ line_of (verdicts.Accepted figures)
unfolding line
accept_line figures multiple divisions p q = λ i. text_of accept_word (p i ∷ q i ∷ [])

pub collide_line :
    (meeting : Meeting) (figures : Figures) (multiple divisions : ℕ) → multiple ≡ figures.multiple → divisions ≡ figures.divisions →
    text_of collide_word (meeting.first ∷ meeting.second ∷ meeting.tick ∷ multiple ∷ divisions ∷ [])
    ≡ line_of (verdicts.Collide meeting figures)
unfolding line
collide_line meeting figures multiple divisions p q =
    λ i. text_of collide_word (meeting.first ∷ meeting.second ∷ meeting.tick ∷ p i ∷ q i ∷ [])

pub refuse_line : (refusal : Refusal) → refusal_text refusal ≡ line_of (verdicts.Refused refusal)
unfolding line
refuse_line refusal = refl

-- what `put` wrote at the front for the verdict that was matched is what `write` promises
pub put_line :
    (verdict matched : Verdict) (text before after : List ℕ) (answer : Result ℕ Refusal) →
    verdict ≡ matched → Within (paper matched) → text ≡ line_of matched →
    answer ≡ answer_for text 0 (length before) → after ≡ buffer_after answer text 0 before →
    (answer ≡ written verdict (length before))
    × (after ≡ written_in answer verdict before)
    × (longest ≤ length before → answer ≡ Ok (length (line_of verdict)))
put_line verdict matched text before after answer v within t a b =
    let e : text ≡ line_of verdict = t ∙ ap line_of (sym v) in
    let fits : length (line_of verdict) ≤ longest =
    subst (λ (w : Verdict). length (line_of w) ≤ longest) (sym v) (line_fits (paper matched) within) in
    let said : answer ≡ written verdict (length before) = a ∙ ap (λ (l : List ℕ). answer_for l 0 (length before)) e in (
      said,
      b ∙ ap (λ (l : List ℕ). buffer_after answer l 0 before) e,
      λ h. said ∙ answer_room (line_of verdict) 0 (length before) (omega arith) ∙ ap (λ (n : ℕ). Ok n) (zero-add (length (line_of verdict))),
    )
