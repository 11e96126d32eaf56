-- The printed lines as lists: how long they are, and that they can be read back.
-- Core: back_shown, that the first byte and the numbers tell what is printed. The rest follows the text of the definitions.
-- Assumes nothing.
use Prim.Native.Nat.{ℕ, ◌≤◌}
use mathlib.Core.Path.{◌≡◌, refl, sym, ap, ◌∙◌}
use mathlib.Core.Bool.{cond}
use mathlib.Core.List.{List, [], ◌∷◌}
use native.Mathlib.Omega.{arith}
use lib.Dec.{eqb}
use lib.ListN.{length, get_or, drop}
use Rattle.decimal.proofs.Notation.{decimal_u64, decimal_u32}
use Rattle.line.specs.Answer.{numbers, refuse_word}
use Rattle.line.proofs.Lines.{numbers_length, none_length, two_length}
use Rattle.line.proofs.Reading.{numbers_tell}
use Rattle.reply.specs.Lines.{Shown, fresh, place, withdrawn, idle, starts, goes_on, refuse, bad, line_of, Within, longest}

-- ---- How long

one_length : (q : ℕ) → q ≤ 18446744073709551615 → length (numbers (q ∷ [])) ≤ 22
one_length q h = omega (arith, numbers_length q [], none_length, decimal_u64 q (omega arith))

-- no line is longer
pub line_fits : (s : Shown) → Within s → length (line_of s) ≤ longest
unfolding line_of
line_fits fresh w = omega (arith, none_length)
line_fits (place q) w = omega (arith, one_length q (omega arith))
line_fits withdrawn w = omega (arith, none_length)
line_fits idle w = omega (arith, none_length)
line_fits (starts q) w = omega (arith, one_length q (omega arith))
line_fits (goes_on q) w = omega (arith, one_length q (omega arith))
line_fits (refuse number q) w =
    omega (arith, two_length refuse_word number q, decimal_u32 number w.0, decimal_u64 q w.1)
line_fits bad w = omega (arith, none_length)

-- ---- Reading back

-- the first letter, by which the words differ
abbrev letter : List ℕ → ℕ
letter l = get_or l 0 0

-- how many letters the word with that first letter has
abbrev letters : ℕ → ℕ
letters b =
    cond (eqb b 102) 5
    (cond (eqb b 112) 5
    (cond (eqb b 119) 9
    (cond (eqb b 105) 4
    (cond (eqb b 115) 6
    (cond (eqb b 103) 7
    (cond (eqb b 114) 6 3))))))

-- the numbers of a line
abbrev numbers_of : Shown → List ℕ
numbers_of fresh = []
numbers_of (place q) = q ∷ []
numbers_of withdrawn = []
numbers_of idle = []
numbers_of (starts q) = q ∷ []
numbers_of (goes_on q) = q ∷ []
numbers_of (refuse number q) = number ∷ q ∷ []
numbers_of bad = []

-- what is printed, by the first letter and the numbers
abbrev back : ℕ → List ℕ → Shown
back b ns =
    cond (eqb b 102) fresh
    (cond (eqb b 112) (place (get_or ns 0 0))
    (cond (eqb b 119) withdrawn
    (cond (eqb b 105) idle
    (cond (eqb b 115) (starts (get_or ns 0 0))
    (cond (eqb b 103) (goes_on (get_or ns 0 0))
    (cond (eqb b 114) (refuse (get_or ns 0 0) (get_or ns 1 0)) bad))))))

back_shown : (s : Shown) → back (letter (line_of s)) (numbers_of s) ≡ s
unfolding line_of
back_shown fresh = refl
back_shown (place q) = refl
back_shown withdrawn = refl
back_shown idle = refl
back_shown (starts q) = refl
back_shown (goes_on q) = refl
back_shown (refuse number q) = refl
back_shown bad = refl

behind_word : (s : Shown) → drop (letters (letter (line_of s))) (line_of s) ≡ numbers (numbers_of s)
unfolding line_of
behind_word fresh = refl
behind_word (place q) = refl
behind_word withdrawn = refl
behind_word idle = refl
behind_word (starts q) = refl
behind_word (goes_on q) = refl
behind_word (refuse number q) = refl
behind_word bad = refl

pub line_tells : (s t : Shown) → line_of s ≡ line_of t → s ≡ t
line_tells s t e =
    let ns : numbers_of s ≡ numbers_of t =
    numbers_tell (numbers_of s) (numbers_of t)
    (sym (behind_word s) ∙ ap (λ (l : List ℕ). drop (letters (letter l)) l) e ∙ behind_word t) in
    sym (back_shown s) ∙ (λ i. back (letter (e i)) (ns i)) ∙ back_shown t
