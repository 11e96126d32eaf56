-- What the stores of the private functions write, on plain values.
-- Core: numbers_next, for the numbers of a line. The rest puts writes together.
-- Assumes nothing.
use Prim.Native.Nat.{ℕ, ◌+◌, ◌-◌, ◌<◌, ◌≤◌}
use mathlib.Core.Path.{◌≡◌, refl, sym, ap, ◌∙◌}
use mathlib.Core.Bool.{Bool, true, false}
use mathlib.Core.List.{List, [], ◌∷◌, ◌++◌}
use native.Mathlib.Numerals.{add-one}
use native.Mathlib.Omega.{arith}
use lib.ListN.{length, drop, get_or, set, length-append, length-set}
use lib.Seq.{drop-cons, drop-length}
use Rattle.std.specs.Prelude.{Option, Some, None, SomeIff, is_some}
use Rattle.lent.specs.Lent.{over, fitted, end_in}
use Rattle.lent.proofs.Over.{over_one, over_then, fitted_room, end_room}
use Rattle.decimal.specs.Answer.{decimal}
use Rattle.line.specs.Answer.{space, newline, spaced, numbers}

-- ---- Numbers

-- a space, and the number after it, which has room
pub put_spaced :
    (l m : List ℕ) (at end n : ℕ) → at + length (spaced n) ≤ length l →
    end ≡ end_in (length (set l at space)) (at + 1) (decimal n) → m ≡ fitted (set l at space) (at + 1) (decimal n) →
    (end ≡ at + length (spaced n)) × (m ≡ over l at (spaced n))
put_spaced l m at end n h e w =
    let room : at + 1 + length (decimal n) ≤ length (set l at space) = simp length-set (omega arith) in (
      e ∙ end_room (length (set l at space)) (at + 1) (decimal n) room ∙ omega arith,
      w ∙ fitted_room (set l at space) (at + 1) (decimal n) room
          ∙ over_then l (set l at space) (space ∷ []) (decimal n) at (at + 1) (omega arith) refl (over_one l at space (omega arith)),
    )

-- the numbers that are left are the next one and those behind it
numbers_next :
    (ns : List ℕ) (i : ℕ) → i < length ns →
    numbers (drop i ns) ≡ spaced (get_or ns i 0) ++ numbers (drop (i + 1) ns)
unfolding numbers
numbers_next ns i h =
    ap numbers (drop-cons ns i 0 h)
    ∙ ap (λ (k : ℕ). spaced (get_or ns i 0) ++ numbers (drop k ns)) (sym (add-one i))

length_next :
    (ns : List ℕ) (i : ℕ) → i < length ns →
    length (numbers (drop i ns)) ≡ length (spaced (get_or ns i 0)) + length (numbers (drop (i + 1) ns))
length_next ns i h =
    ap length (numbers_next ns i h) ∙ length-append (spaced (get_or ns i 0)) (numbers (drop (i + 1) ns))

-- where none is left, there is the newline
numbers_last : (ns : List ℕ) (i : ℕ) → i ≤ length ns → length ns ≤ i → numbers (drop i ns) ≡ newline ∷ []
unfolding numbers
numbers_last ns i h k =
    let e : i ≡ length ns = omega arith in
    ap (λ (n : ℕ). numbers (drop n ns)) e ∙ ap numbers (drop-length ns)

-- the newline at least
pub numbers_some : (ns : List ℕ) → 0 < length (numbers ns)
unfolding numbers
numbers_some [] = omega arith
numbers_some (n ∷ ns) = omega arith

-- ---- The loop that counts them

-- What is taken from the room is what the numbers before i need.
pub record Counting (ns : List ℕ) (room left i : ℕ) : Type 0 where
  pub so_far : i ≤ length ns
  pub taken : length (numbers ns) + left ≡ length (numbers (drop i ns)) + room

pub counting_begins : (ns : List ℕ) (room : ℕ) → Counting ns room room 0
counting_begins ns room = record { so_far = omega arith; taken = refl }

pub counting_on :
    (ns : List ℕ) (room left i digits rest : ℕ) → i < length ns → digits ≡ length (decimal (get_or ns i 0)) → digits + 1 ≤ left →
    rest ≡ left - (digits + 1) → Counting ns room left i → Counting ns room rest (i + 1)
counting_on ns room left i digits rest h e k r c =
    record { so_far = omega arith; taken = omega (arith, c.taken, length_next ns i h) }

-- where the next number has no room, the whole has none
pub counting_short :
    (ns : List ℕ) (room left i digits : ℕ) → i < length ns → digits ≡ length (decimal (get_or ns i 0)) →
    Counting ns room left i → (digits + 1 ≤ left → ⊥) → length (numbers ns) ≤ room → ⊥
counting_short ns room left i digits h e c n k = n (omega (arith, c.taken, length_next ns i h))

-- the newline has room just where the whole has, and leaves what the whole leaves
pub counting_ends :
    (ns : List ℕ) (room left i : ℕ) (answer : Option ℕ) → length ns ≤ i → Counting ns room left i →
    SomeIff answer (1 ≤ left) (left - 1) → SomeIff answer (length (numbers ns) ≤ room) (room - length (numbers ns))
counting_ends ns room left i answer h c s = go answer s
  where
    both : left + length (numbers ns) ≡ 1 + room
    both = omega (arith, c.taken, ap length (numbers_last ns i c.so_far h))

    go : (o : Option ℕ) → SomeIff o (1 ≤ left) (left - 1) → SomeIff o (length (numbers ns) ≤ room) (room - length (numbers ns))
    go None n = λ k. n (omega (arith, both))
    go (Some x) y = (omega (arith, both, y.0), y.1 ∙ omega (arith, both, y.0))

-- whether anything is left tells whether the whole has room
abbrev count_of : Bool → ℕ
count_of true = 1
count_of false = 0

pub none_left : (answer : Option ℕ) (P : Type 0) (v : ℕ) → SomeIff answer P v → is_some answer ≡ false → P → ⊥
none_left None P v s e = s
none_left (Some x) P v s e = absurd (omega (arith, ap count_of e))

pub some_left : (answer : Option ℕ) (P : Type 0) (v : ℕ) → SomeIff answer P v → is_some answer ≡ true → P
some_left None P v s e = absurd (omega (arith, ap count_of e))
some_left (Some x) P v s e = s.0

-- ---- The loop that writes them

-- Where the numbers from i on are written at `next`, all are written at `at`.
pub record Putting (ns before : List ℕ) (at : ℕ) (now : List ℕ) (next i : ℕ) : Type 0 where
  pub so_far : i ≤ length ns
  pub same : length now ≡ length before
  pub ends : next + length (numbers (drop i ns)) ≡ at + length (numbers ns)
  pub whole : over now next (numbers (drop i ns)) ≡ over before at (numbers ns)

pub putting_begins : (ns before : List ℕ) (at : ℕ) → Putting ns before at before at 0
putting_begins ns before at = record { so_far = omega arith; same = refl; ends = refl; whole = refl }

-- the next number has room
pub putting_room :
    (ns before : List ℕ) (at : ℕ) (now : List ℕ) (next i : ℕ) → at + length (numbers ns) ≤ length before → i < length ns →
    Putting ns before at now next i → next + length (spaced (get_or ns i 0)) ≤ length now
putting_room ns before at now next i room h p = omega (arith, p.same, p.ends, length_next ns i h)

pub putting_on :
    (ns before : List ℕ) (at : ℕ) (now : List ℕ) (next i : ℕ) (after : List ℕ) (end : ℕ) →
    at + length (numbers ns) ≤ length before → i < length ns →
    end ≡ next + length (spaced (get_or ns i 0)) → length after ≡ length now → after ≡ over now next (spaced (get_or ns i 0)) →
    Putting ns before at now next i → Putting ns before at after end (i + 1)
putting_on ns before at now next i after end room h e same w p =
    let fits = putting_room ns before at now next i room h p in
    record {
      so_far = omega arith;
      same = same ∙ p.same;
      ends = omega (arith, p.ends, length_next ns i h);
      whole =
          over_then now after (spaced (get_or ns i 0)) (numbers (drop (i + 1) ns)) next end (omega arith) (sym e) w
          ∙ ap (over now next) (sym (numbers_next ns i h))
          ∙ p.whole;
    }

-- the newline has room, and with it all is written
pub putting_last :
    (ns before : List ℕ) (at : ℕ) (now : List ℕ) (next i : ℕ) → length ns ≤ i → Putting ns before at now next i →
    next + 1 ≡ at + length (numbers ns)
putting_last ns before at now next i h p = omega (arith, p.ends, ap length (numbers_last ns i p.so_far h))

pub putting_ends :
    (ns before : List ℕ) (at : ℕ) (now : List ℕ) (next i : ℕ) → at + length (numbers ns) ≤ length before → length ns ≤ i →
    Putting ns before at now next i → set now next newline ≡ over before at (numbers ns)
putting_ends ns before at now next i room h p =
    over_one now next newline (omega (arith, putting_last ns before at now next i h p, p.same))
    ∙ ap (over now next) (sym (numbers_last ns i p.so_far h))
    ∙ p.whole
