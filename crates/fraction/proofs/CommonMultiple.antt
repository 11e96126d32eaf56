-- The laws of the least common multiple of a list, and of taking its numbers one after the other against the limit.
-- Core: within_limited, above_limited, multiple_is, running_is. The rest follows from these.
-- Assumes nothing.
use Prim.Native.Nat.{ℕ, ◌<◌, ◌≤◌, ◌∣◌}
use mathlib.Core.Path.{◌≡◌, refl, sym, ap, ◌∙◌}
use mathlib.Core.Logic.{◌↔◌}
use mathlib.Core.List.{List, [], ◌∷◌, ◌++◌}
use native.Mathlib.Nat.{one-dvd, dvd_trans, dvd_antisymm, le_of_dvd, pos_of_dvd_of_pos}
use native.Mathlib.Decide.{dec_le}
use native.Mathlib.Omega.{arith}
use borrow.Author.Tests.{le-leb, lt-leb}
use Rattle.euclid.specs.Answer.{lcm}
use Rattle.euclid.proofs.Multiple.{lcm_is, lcm_one, lcm_comm, lcm_assoc, lcm_pos}
use Rattle.std.specs.Prelude.{Option, None, Some}
use Rattle.fraction.specs.Value.{AllDivide, IsCommonMultiple}
use Rattle.fraction.specs.Answer.{limit, limited, included, common_multiple, running_from, running}

-- ---- Core laws

pub within_limited : (m l : ℕ) → m ≤ limit → m ≡ l → Some m ≡ limited l
within_limited m l h e = rw (← e) (simp (le-leb m limit h))

pub above_limited : (m l : ℕ) → limit < m → m ≡ l → None ≡ limited l
above_limited m l h e = rw (← e) (simp (lt-leb m limit h))

-- what all of a list divide goes on to be divided by them at its multiples
all_divide_on : (ds : List ℕ) (l m : ℕ) → AllDivide ds l → l ∣ m → AllDivide ds m
all_divide_on [] l m all h = tt
all_divide_on (d ∷ ds) l m all h = (dvd_trans d all.0 h, all_divide_on ds l m all.1 h)

pub multiple_is : (ds : List ℕ) → IsCommonMultiple ds (common_multiple ds)
unfolding common_multiple
multiple_is [] = record { multiple = tt; least = λ m all. one-dvd m }
multiple_is (d ∷ ds) =
    let is = lcm_is d (common_multiple ds) in
    let rest = multiple_is ds in
    record {
      multiple = (is.left, all_divide_on ds (common_multiple ds) _ rest.multiple is.right);
      least = λ m all. is.least m all.0 (rest.least m all.1);
    }

pub multiple_only : (ds : List ℕ) (l : ℕ) → IsCommonMultiple ds l → l ≡ common_multiple ds
multiple_only ds l is =
    let own = multiple_is ds in
    dvd_antisymm (is.least (common_multiple ds) own.multiple) (own.least l is.multiple)

-- one number more, whether or not the limit is passed already
included_limited : (m d : ℕ) → 0 < m → 0 < d → included (limited m) d ≡ limited (lcm m d)
included_limited m d hm hd = go (dec_le m limit)
  where
    go : Dec (m ≤ limit) → included (limited m) d ≡ limited (lcm m d)
    go (yes h) = ap (λ (r : Option ℕ). included r d) (sym (within_limited m m h refl))
    go (no h) =
        let le : m ≤ lcm m d = le_of_dvd (lcm_pos m d hm hd) (lcm_is m d).left in
        ap (λ (r : Option ℕ). included r d) (sym (above_limited m m (omega arith) refl)) ∙ above_limited (lcm m d) (lcm m d) (omega arith) refl

running_from_lem : (m : ℕ) (ds : List ℕ) → 0 < m → 0 < common_multiple ds → running_from (limited m) ds ≡ limited (lcm m (common_multiple ds))
unfolding running_from common_multiple
running_from_lem m [] hm h = ap limited (sym (lcm_one m))
running_from_lem m (d ∷ ds) hm h =
    let is = lcm_is d (common_multiple ds) in
    let hd : 0 < d = pos_of_dvd_of_pos is.left h in
    ap (λ (r : Option ℕ). running_from r ds) (included_limited m d hm hd)
    ∙ running_from_lem (lcm m d) ds (lcm_pos m d hm hd) (pos_of_dvd_of_pos is.right h)
    ∙ ap limited (lcm_assoc m d (common_multiple ds))

pub running_is : (ds : List ℕ) → 0 < common_multiple ds → running ds ≡ limited (common_multiple ds)
unfolding running
running_is ds h = running_from_lem 1 ds (omega arith) h ∙ ap limited (lcm_comm 1 (common_multiple ds) ∙ lcm_one (common_multiple ds))

-- one list after another
pub running_append : (m : Option ℕ) (ds es : List ℕ) → running_from m (ds ++ es) ≡ running_from (running_from m ds) es
unfolding running_from
running_append m [] es = refl
running_append m (d ∷ ds) es = running_append (included m d) ds es

-- whether the multiple of a list has passed the limit
pub running_above : (ds : List ℕ) → 0 < common_multiple ds → (running ds ≡ None) ↔ (limit < common_multiple ds)
running_above ds h = (there (dec_le (common_multiple ds) limit), λ l. running_is ds h ∙ sym (above_limited (common_multiple ds) (common_multiple ds) l refl))
  where
    there : Dec (common_multiple ds ≤ limit) → running ds ≡ None → limit < common_multiple ds
    there (yes k) e =
        let within = running_is ds h ∙ sym (within_limited (common_multiple ds) (common_multiple ds) k refl) in cc
    there (no k) e = omega arith

pub running_within : (ds : List ℕ) (m : ℕ) → 0 < common_multiple ds → running ds ≡ Some m → m ≡ common_multiple ds
running_within ds m h e = go (dec_le (common_multiple ds) limit)
  where
    go : Dec (common_multiple ds ≤ limit) → m ≡ common_multiple ds
    go (yes k) = let within = running_is ds h ∙ sym (within_limited (common_multiple ds) (common_multiple ds) k refl) in cc
    go (no k) =
        let above = (running_above ds h).1 (omega arith) in cc

-- a multiple of positive numbers is positive
pub multiple_none_pos : 0 < common_multiple []
unfolding common_multiple
multiple_none_pos = omega arith

pub multiple_more_pos : (d : ℕ) (ds : List ℕ) → 0 < d → 0 < common_multiple ds → 0 < common_multiple (d ∷ ds)
unfolding common_multiple
multiple_more_pos d ds h k = lcm_pos d (common_multiple ds) h k
