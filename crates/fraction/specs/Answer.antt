-- The functions that the contracts cite. Promises says what they have to do with the words of Value.
--     lowest f                    f in lowest terms
--     is_lowest f                 whether f is in lowest terms
--     above f h                   whether f is above h
--     whole_ticks time tick       the time in ticks, where it is a whole number of them
--     limit                       the largest multiple of denominators that a table takes
--     limited m                   m, as long as it is within the limit
--     included multiple d         the multiple of the denominators so far and d
--     common_multiple ds          the least common multiple of a list: the paper's L
--     running_from multiple ds    the multiple of the denominators so far and those of a list, one after the other
--     running ds                  the same from none so far: L against the limit
use Rattle.std.specs.Prelude.{ℕ, ◌*◌, ◌/◌, ◌%◌, Bool, false, cond, List, [], ◌∷◌, leb, ltb, eqb, Option, None, Some}
use Rattle.euclid.specs.Answer.{gcd, lcm}
use Rattle.fraction.specs.declared.Fraction.{Fraction}

-- Both numbers divided by what is common to them; a fraction without a denominator as it is.
unfoldable pub lowest : Fraction → Fraction
lowest f =
    cond (eqb f.denominator 0) f
    (record {
      numerator = f.numerator / gcd f.numerator f.denominator;
      denominator = f.denominator / gcd f.numerator f.denominator;
    })

-- There is a denominator, and nothing but 1 is common to the two numbers.
unfoldable pub is_lowest : Fraction → Bool
is_lowest f = cond (eqb f.denominator 0) false (eqb (gcd f.numerator f.denominator) 1)

-- The order of fractions, by cross products.
abbrev pub above : Fraction → Fraction → Bool
above f h = ltb (h.numerator * f.denominator) (f.numerator * h.denominator)

-- A time n/m in ticks of a/b: n · b parts, m · a to a tick.
unfoldable pub whole_ticks : (time tick : Fraction) → Option ℕ
whole_ticks time tick =
    cond (eqb (time.denominator * tick.numerator) 0) None
    (cond (eqb (time.numerator * tick.denominator % (time.denominator * tick.numerator)) 0)
    (Some (time.numerator * tick.denominator / (time.denominator * tick.numerator)))
    None)

-- The paper's limit on L.
abbrev pub limit : ℕ
limit = 1_000_000

-- A multiple against the limit.
abbrev pub limited : ℕ → Option ℕ
limited m = cond (leb m limit) (Some m) None

-- One denominator more; what has passed the limit stays above it.
abbrev pub included : Option ℕ → ℕ → Option ℕ
included None d = None
included (Some m) d = limited (lcm m d)

-- The paper's L: the least common multiple of a list of denominators.
unfoldable pub common_multiple : List ℕ → ℕ
common_multiple [] = 1
common_multiple (d ∷ ds) = lcm d (common_multiple ds)

-- The denominators of a list, one after the other, after those so far.
unfoldable pub running_from : Option ℕ → List ℕ → Option ℕ
running_from multiple [] = multiple
running_from multiple (d ∷ ds) = running_from (included multiple d) ds

-- The denominators of a list, one after the other, from none.
unfoldable pub running : List ℕ → Option ℕ
running ds = running_from (Some 1) ds
