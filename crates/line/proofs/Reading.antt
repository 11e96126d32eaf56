-- A line can be read back: its word by the first byte, and its numbers by where their digits end.
-- Core: digits_end, that digits are told from what follows them. The rest follows from it.
-- Assumes nothing.
use Prim.Native.Nat.{ℕ}
use mathlib.Core.Path.{◌≡◌, refl, sym, ap, subst, ◌∙◌}
use mathlib.Core.List.{List, [], ◌∷◌, ◌++◌}
use native.Mathlib.Omega.{arith}
use lib.ListN.{get_or, drop}
use Rattle.decimal.specs.Digits.{Digit, Digits, more, value, Stops}
use Rattle.decimal.specs.Answer.{decimal}
use Rattle.decimal.proofs.Notation.{decimal_is, decimal_value}
use Rattle.judge.specs.Paper.{Shown, accept, collide, refuse}
use Rattle.line.specs.Answer.{numbers, line}

abbrev head : List ℕ → ℕ
head l = get_or l 0 0

digits_end :
    (a b r s : List ℕ) → Digits a → Digits b → Stops r → Stops s → a ++ r ≡ b ++ s → (a ≡ b) × (r ≡ s)
digits_end [] [] r s fs gs p q e = (refl, e)
digits_end [] (d ∷ b) r s fs (more g gs) p q e = absurd (p (subst Digit (sym (ap head e)) g))
digits_end (d ∷ a) [] r s (more g gs) fs p q e = absurd (q (subst Digit (ap head e) g))
digits_end (c ∷ a) (d ∷ b) r s (more f fs) (more g gs) p q e =
    let t = digits_end a b r s fs gs p q (ap (drop 1) e) in
    let h : c ≡ d = ap head e in
    let both : a ≡ b = t.0 in
    (cc, t.1)

numbers_stop : (ns : List ℕ) → Stops (numbers ns)
unfolding numbers
numbers_stop [] d = omega (arith, d.from)
numbers_stop (n ∷ ns) d = omega (arith, d.from)

pub numbers_tell : (ns ms : List ℕ) → numbers ns ≡ numbers ms → ns ≡ ms
unfolding numbers
numbers_tell [] [] e = refl
numbers_tell [] (m ∷ ms) e = absurd (omega (arith, ap head e))
numbers_tell (n ∷ ns) [] e = absurd (omega (arith, ap head e))
numbers_tell (n ∷ ns) (m ∷ ms) e =
    let t =
    digits_end (decimal n) (decimal m) (numbers ns) (numbers ms)
    (decimal_is n).digits (decimal_is m).digits (numbers_stop ns) (numbers_stop ms) (ap (drop 1) e) in
    let h : n ≡ m = sym (decimal_value n) ∙ ap value t.0 ∙ decimal_value m in
    let rest : ns ≡ ms = numbers_tell ns ms t.1 in
    cc

pub line_tells : (s t : Shown) → line s ≡ line t → s ≡ t
unfolding line
line_tells (accept L d) (accept M e) p = let q = numbers_tell _ _ (ap (drop 6) p) in cc
line_tells (collide a b c L d) (collide f g h M e) p = let q = numbers_tell _ _ (ap (drop 7) p) in cc
line_tells (refuse n t) (refuse m u) p = let q = numbers_tell _ _ (ap (drop 6) p) in cc
line_tells (accept L d) (collide f g h M e) p = absurd (omega (arith, ap head p))
line_tells (accept L d) (refuse m u) p = absurd (omega (arith, ap head p))
line_tells (collide a b c L d) (accept M e) p = absurd (omega (arith, ap head p))
line_tells (collide a b c L d) (refuse m u) p = absurd (omega (arith, ap head p))
line_tells (refuse n t) (accept M e) p = absurd (omega (arith, ap head p))
line_tells (refuse n t) (collide f g h M e) p = absurd (omega (arith, ap head p))
