-- The tick and the trains of a row that passes refusals 1 to 4. There 5 and 6 follow the paper's order, and so all six do.
-- Core: multiple_pos, divides_at, ticks_at, multiple_follows, long_follows. The rest follows from these.
-- Assumes nothing.
use Prim.Native.Nat.{ℕ, zero, suc, ◌<◌}
use mathlib.Core.Path.{◌≡◌, refl, sym, ap, subst, ◌∙◌}
use mathlib.Core.Bool.{true}
use mathlib.Core.Logic.{◌↔◌}
use mathlib.Core.List.{List, [], ◌∷◌, ◌++◌, append_assoc}
use native.Mathlib.Omega.{arith}
use lib.ListN.{length, get_or, take, length-take}
use lib.Seq.{get_or-take}
use borrow.Author.Tests.{lt-ltb, ltb-true}
use Rattle.std.specs.Prelude.{Option, None, Some}
use Rattle.refusal.specs.declared.Refusal.TheVariants.{TickTooFine, TimeTooLong}
use Rattle.refusal.specs.Order.{in_turn}
use Rattle.fraction.specs.declared.Fraction.{Fraction}
use Rattle.fraction.specs.Value.{AllDivide}
use Rattle.fraction.specs.Answer.{whole_ticks, running}
use Rattle.fraction.proofs.Lowest.{lowest_terms}
use Rattle.fraction.proofs.CommonMultiple.{multiple_is, multiple_none_pos, multiple_more_pos, running_above}
use Rattle.fraction.proofs.WholeTicks.{ticks_exact, ticks_found, ticks_multiple}
use Rattle.train.specs.Claims.{max_ticks}
use Rattle.table.specs.declared.Entry.{Entry}
use Rattle.table.specs.Row.{no_entry, entries, denominators_of, denominators, multiple, tick}
use Rattle.table.specs.Given.{TooManyTicks, TooLong, checked_order, multiple_checks, long_checks, order}
use Rattle.table.specs.Answer.{checked, is_above, multiple_check, multiple_checked, too_many, too_long, ticks_check, ticks_checked, refusal}
use Rattle.table.proofs.InOrder.{or_is, Follows, follows_then, follows_last, follows_each, follows_each_in}
use Rattle.table.proofs.Following.{Sound, AllSound, checked_follows, checked_sound}

-- ---- Core laws

-- a multiple of denominators is not 0
pub multiple_pos : (es : List Entry) → AllSound es → 0 < multiple es
unfolding denominators
multiple_pos [] sound = multiple_none_pos
multiple_pos (e ∷ es) sound =
    let s = sound 0 (omega arith) in
    let rest = multiple_pos es (λ k h. sound (suc k) (omega arith)) in
    multiple_more_pos _ _ (lowest_terms e.phase s.phase).positive
    (multiple_more_pos _ _ (lowest_terms e.period s.period).positive
    (multiple_more_pos _ _ (lowest_terms e.duration s.duration).positive rest))

-- the first trains of a sound list are sound
pub sound_take : (n : ℕ) (es : List Entry) → AllSound es → AllSound (take n es)
sound_take n es sound k h =
    let lt : (k < n) × (k < length es) = (omega (arith, length-take n es), omega (arith, length-take n es)) in
    subst Sound (sym (get_or-take n es k no_entry lt.0)) (sound k lt.1)

-- what all of two lists divide, and the parts
divide_front : (ds es : List ℕ) (m : ℕ) → AllDivide (ds ++ es) m → AllDivide ds m × AllDivide es m
divide_front [] es m all = (tt, all)
divide_front (d ∷ ds) es m all = let rest = divide_front ds es m all.1 in ((all.0, rest.0), rest.1)

-- the denominators of each train divide what all denominators divide
divides_at : (es : List Entry) (m k : ℕ) → AllDivide (denominators es) m → k < length es → AllDivide (denominators_of (get_or es k no_entry)) m
unfolding denominators
divides_at [] m k all h = absurd (omega arith)
divides_at (e ∷ es) m zero all h = (divide_front (denominators_of e) (denominators es) m all).0
divides_at (e ∷ es) m (suc k) all h = divides_at es m k (divide_front (denominators_of e) (denominators es) m all).1 (omega arith)

-- Every time of a train is a whole number of ticks.
pub record WholeTimes (t : Fraction) (e : Entry) : Type 0 where
  pub phase : (k : ℕ) × (whole_ticks e.phase t ≡ Some k)
  pub period : (k : ℕ) × (whole_ticks e.period t ≡ Some k)
  pub duration : (k : ℕ) × (whole_ticks e.duration t ≡ Some k)

pub ticks_at : (es : List Entry) (k : ℕ) → AllSound es → k < length es → WholeTimes (tick es) (get_or es k no_entry)
ticks_at es k sound h =
    let s = sound k h in
    let all = divides_at es (multiple es) k (multiple_is (denominators es)).multiple h in
    record {
      phase = (_, ticks_multiple _ _ s.phase all.0);
      period = (_, ticks_multiple _ _ s.period all.1.0);
      duration = (_, ticks_multiple _ _ s.duration all.1.1.0);
    }

-- ---- Refusal 5

above_is : (m : Option ℕ) → (is_above m ≡ true) ↔ (m ≡ None)
above_is None = ((λ t. refl), (λ e. refl))
above_is (Some n) =
    ((λ t. cc), (λ e. cc))

-- the test looks at the running multiple, which is L where no denominator is 0
multiple_follows : (es : List Entry) → AllSound es → Follows (multiple_checked es) (in_turn (multiple_checks es) 0 es)
multiple_follows es sound =
    follows_each (multiple_check es) (multiple_checks es)
    (λ i e.
    let pos = multiple_pos (take (suc i) es) (sound_take (suc i) es sound) in
    let passes = running_above (denominators (take (suc i) es)) pos in
    let is = above_is (running (denominators (take (suc i) es))) in
    follows_last _ (TickTooFine i) _ ((λ b. passes.0 (is.0 b)), (λ l. is.1 (passes.1 l))))
    0 es

-- ---- Refusal 6

many_is :
    (time t : Fraction) → 0 < time.denominator → 0 < t.numerator → ((k : ℕ) × (whole_ticks time t ≡ Some k)) →
    (too_many (whole_ticks time t) ≡ true) ↔ TooManyTicks t time
many_is time t pm pa (k, e) = (
  (λ b. (k, ticks_exact time t k e, ltb-true max_ticks k (ap too_many (sym e) ∙ b))),
  (λ w. ap too_many (ticks_found time t w.0 pm pa w.1) ∙ lt-ltb max_ticks w.0 w.2),
)

long_one :
    (t : Fraction) (i : ℕ) (e : Entry) → 0 < t.numerator → Sound e → WholeTimes t e → Follows (ticks_check t i e) (long_checks t i e)
unfolding ticks_check too_long
long_one t i e pa s w =
    follows_last _ (TimeTooLong i) (TooLong t e)
    (or_is _ _ (many_is e.phase t s.phase pa w.phase)
    (or_is _ _ (many_is e.period t s.period pa w.period) (many_is e.duration t s.duration pa w.duration)))

-- the test looks at whole ticks, and there every time is a whole number of them
long_follows : (es : List Entry) → AllSound es → Follows (ticks_checked (tick es) es) (in_turn (long_checks (tick es)) 0 es)
long_follows es sound =
    follows_each_in (ticks_check (tick es)) (long_checks (tick es)) es
    (λ k h i. long_one (tick es) i (get_or es k no_entry) (omega arith) (sound k h) (ticks_at es k sound h))
    0

-- ---- All refusals of a table

pub refusal_follows : (row : List ℕ) → Follows (refusal row) (order row)
unfolding refusal
refusal_follows row =
    let es : List Entry = entries row in
    rw append_assoc
    (follows_then (checked row) _ (checked_order row) _ (checked_follows row)
    (λ passed.
    let sound = checked_sound row passed in
    follows_then (multiple_checked es) (ticks_checked (tick es) es) _ _ (multiple_follows es sound) (λ within. long_follows es sound)))
