-- The terms of its fractions make no difference to the table of a row.
-- Core: entry_lowest, long_lowest, denominators_lowest, train_lowest. The rest follows from these.
-- Assumes nothing.
use Prim.Native.Nat.{ℕ, zero, suc, ◌*◌, ◌/◌, ◌%◌, ◌<◌, ◌≤◌}
use mathlib.Core.Path.{◌≡◌, refl, sym, ap, fun_ext, ◌∙◌}
use mathlib.Core.Bool.{Bool, true, false, not}
use mathlib.Core.Logic.{inl, inr}
use mathlib.Core.List.{List, [], ◌∷◌, map}
use mathlib.Mathlib.Data.Bool.Basic.{or-eq-false-eq-eq-false-and-eq-false}
use native.Mathlib.Nat.{mul-pos, pos_of_ne-zero}
use native.Mathlib.Decide.{dec_le}
use native.Mathlib.Omega.{arith}
use lib.Dec.{eqb, ltb}
use lib.ListN.{length, get_or, take, length-map}
use borrow.Author.Tests.{eqb-false, ne_eqb}
use Rattle.std.proofs.lemmas.List.{take-map}
use Rattle.std.specs.Prelude.{Result, Ok}
use Rattle.refusal.specs.declared.Refusal.{Refusal}
use Rattle.refusal.specs.declared.Refusal.TheVariants.{TrainCount, TickTooFine}
use Rattle.fraction.specs.declared.Fraction.{Fraction}
use Rattle.fraction.specs.Answer.{lowest, above, common_multiple, running}
use Rattle.fraction.proofs.Lowest.{lowest_none, lowest_same, lowest_terms, lowest_only, lowest_twice, same_trans}
use Rattle.fraction.proofs.WholeTicks.{ticks_lowest}
use Rattle.fraction.proofs.Order.{above_same}
use Rattle.table.specs.declared.Entry.{Entry}
use Rattle.table.specs.declared.Table.{Table}
use Rattle.table.specs.Row.{numbers, longest_row, no_entry, entries, lowest_entry, denominators, tick, train_of, SameTime, SameEntry, SameRow}
use Rattle.table.specs.Answer.{Outcome, test, or_else, first_refusal, no_denominator, no_time, entry_check, checked, is_above, multiple_check, multiple_checked, too_long, ticks_check, ticks_checked, refusal, filled, table_of, reading}
use Rattle.table.proofs.Entries.{entries_length}
use Rattle.table.proofs.Checks.{three_tests}

-- ---- Lowest terms

pub lowest_same_time : (f : Fraction) → SameTime f (lowest f)
lowest_same_time f = go (dec_le 1 f.denominator)
  where
    go : Dec (1 ≤ f.denominator) → SameTime f (lowest f)
    go (yes h) = inr (h, (lowest_terms f h).positive, lowest_same f)
    go (no h) = inl (lowest_none f (omega arith))

-- the same time has the same lowest terms
same_lowest : (f h : Fraction) → SameTime f h → lowest f ≡ lowest h
same_lowest f h (inl e) = ap lowest e
same_lowest f h (inr (pf, ph, e)) =
    sym (lowest_only f (lowest h) pf (same_trans h f (lowest h) ph (sym e) (lowest_same h)) (lowest_terms h ph))

-- ---- Core laws: each check of a train, its denominators and its ticks

-- two tests of 0 that agree
zero_same : (m n : ℕ) → (0 < n → 0 < m) → (0 < m → 0 < n) → eqb m 0 ≡ eqb n 0
zero_same zero zero up down = refl
zero_same zero (suc n) up down = absurd (omega (arith, up (omega arith)))
zero_same (suc m) zero up down = absurd (omega (arith, down (omega arith)))
zero_same (suc m) (suc n) up down = ne_eqb (suc m) 0 (λ z. omega arith) ∙ sym (ne_eqb (suc n) 0 (λ z. omega arith))

denominator_zero : (f : Fraction) → eqb (lowest f).denominator 0 ≡ eqb f.denominator 0
denominator_zero f =
    zero_same (lowest f).denominator f.denominator (λ h. (lowest_terms f h).positive) (λ h. back h (dec_le 1 f.denominator))
  where
    back : 0 < (lowest f).denominator → Dec (1 ≤ f.denominator) → 0 < f.denominator
    back h (yes k) = k
    back h (no k) = rw (← lowest_none f (omega arith)) at h

-- of two products that are one, both are positive
factor_pos : (a b c d : ℕ) → a * b ≡ c * d → 0 < a → 0 < b → 0 < c
factor_pos a b zero d e ha hb = omega (arith, mul-pos ha hb)
factor_pos a b (suc c) d e ha hb = omega arith

numerator_zero : (f : Fraction) → eqb (lowest f).numerator 0 ≡ eqb f.numerator 0
numerator_zero f = go (dec_le 1 f.denominator)
  where
    go : Dec (1 ≤ f.denominator) → eqb (lowest f).numerator 0 ≡ eqb f.numerator 0
    go (no h) = ap (λ (x : Fraction). eqb x.numerator 0) (sym (lowest_none f (omega arith)))
    go (yes h) =
        let positive = (lowest_terms f h).positive in
        zero_same (lowest f).numerator f.numerator
        (λ k. factor_pos f.numerator (lowest f).denominator (lowest f).numerator f.denominator (lowest_same f) k positive)
        (λ k. factor_pos (lowest f).numerator f.denominator f.numerator (lowest f).denominator (sym (lowest_same f)) k h)

above_lowest : (f h : Fraction) → eqb f.denominator 0 ≡ false → eqb h.denominator 0 ≡ false → above (lowest f) (lowest h) ≡ above f h
above_lowest f h ef eh =
    let pf : 0 < f.denominator = pos_of_ne-zero (eqb-false f.denominator 0 ef) in
    let ph : 0 < h.denominator = pos_of_ne-zero (eqb-false h.denominator 0 eh) in
    sym (above_same f (lowest f) h (lowest h) pf (lowest_terms f pf).positive ph (lowest_terms h ph).positive (lowest_same f) (lowest_same h))

no_denominator_lowest : (e : Entry) → no_denominator (lowest_entry e) ≡ no_denominator e
unfolding no_denominator
no_denominator_lowest e = rw (denominator_zero e.phase, denominator_zero e.period, denominator_zero e.duration)

no_time_lowest : (e : Entry) → no_time (lowest_entry e) ≡ no_time e
unfolding no_time
no_time_lowest e = rw (numerator_zero e.period, numerator_zero e.duration)

above_lowest_entry :
    (e : Entry) → no_denominator e ≡ false → above (lowest e.duration) (lowest e.period) ≡ above e.duration e.period
unfolding no_denominator
above_lowest_entry e q =
    let neither = or-eq-false-eq-eq-false-and-eq-false in
    let others = (neither _ (eqb e.duration.denominator 0)).0 ((neither (eqb e.phase.denominator 0) _).0 q).1 in
    above_lowest e.duration e.period others.1 others.0

pub entry_lowest : (i : ℕ) (e : Entry) → entry_check i (lowest_entry e) ≡ entry_check i e
unfolding entry_check
entry_lowest i e =
    (λ k. three_tests i (no_denominator_lowest e k) (no_time_lowest e k) (above (lowest e.duration) (lowest e.period))) ∙ go (no_denominator e) refl
  where
    -- the order is looked at only where there are denominators
    go :
        (d : Bool) → no_denominator e ≡ d →
        three_tests i (no_denominator e) (no_time e) (above (lowest e.duration) (lowest e.period))
        ≡ three_tests i (no_denominator e) (no_time e) (above e.duration e.period)
    go true q =
        ap (λ (d : Bool). three_tests i d (no_time e) (above (lowest e.duration) (lowest e.period))) q
        ∙ sym (ap (λ (d : Bool). three_tests i d (no_time e) (above e.duration e.period)) q)
    go false q = ap (three_tests i (no_denominator e) (no_time e)) (above_lowest_entry e q)

long_lowest : (unit : Fraction) (i : ℕ) (e : Entry) → ticks_check unit i (lowest_entry e) ≡ ticks_check unit i e
unfolding ticks_check too_long
long_lowest unit i e = rw (ticks_lowest e.phase unit, ticks_lowest e.period unit, ticks_lowest e.duration unit)

denominators_lowest : (es : List Entry) → denominators (map lowest_entry es) ≡ denominators es
unfolding denominators
denominators_lowest [] = refl
denominators_lowest (e ∷ es) = rw (lowest_twice e.phase, lowest_twice e.period, lowest_twice e.duration, denominators_lowest es)

train_lowest : (unit : Fraction) (e : Entry) → train_of unit (lowest_entry e) ≡ train_of unit e
train_lowest unit e = rw (ticks_lowest e.phase unit, ticks_lowest e.period unit, ticks_lowest e.duration unit)

-- ---- The whole reading

-- a check that does not see the terms finds the same
pub first_lowest :
    (check : ℕ → Entry → Outcome) → ((i : ℕ) (e : Entry) → check i (lowest_entry e) ≡ check i e) → (i : ℕ) (es : List Entry) →
    first_refusal check i (map lowest_entry es) ≡ first_refusal check i es
unfolding first_refusal
first_lowest check same i [] = refl
first_lowest check same i (e ∷ es) = λ j. or_else (same i e j) (first_lowest check same (suc i) es j)

multiple_lowest : (es : List Entry) → multiple_checked (map lowest_entry es) ≡ multiple_checked es
multiple_lowest es =
    ap (λ (check : ℕ → Entry → Outcome). first_refusal check 0 (map lowest_entry es))
    (fun_ext
    (λ i.
    fun_ext
    (λ e.
    ap (λ (ds : List ℕ). test (is_above (running ds)) (TickTooFine i))
    (ap denominators (take-map lowest_entry (suc i) es) ∙ denominators_lowest (take (suc i) es)))))
    ∙ first_lowest (multiple_check es) (λ i e. refl) 0 es

trains_lowest : (unit : Fraction) (es : List Entry) → map (train_of unit) (map lowest_entry es) ≡ map (train_of unit) es
trains_lowest unit [] = refl
trains_lowest unit (e ∷ es) = λ j. train_lowest unit e j ∷ trains_lowest unit es j

-- the reading of a row, of its length and its entries
reading_of : ℕ → List Entry → Result Table Refusal
reading_of n es =
    or_else
    (or_else
    (or_else (test (not (eqb (n % numbers) 0)) TrainCount) (or_else (test (ltb longest_row n) TrainCount) (first_refusal entry_check 0 es)))
    (or_else (multiple_checked es) (ticks_checked (tick es) es)))
    (Ok (table_of (tick es) es))

reading_of_lem : (row : List ℕ) → reading row ≡ reading_of (length row) (entries row)
unfolding reading refusal checked reading_of
reading_of_lem row = refl

reading_lowest : (n : ℕ) (es : List Entry) → reading_of n (map lowest_entry es) ≡ reading_of n es
unfolding reading_of
reading_lowest n es =
    let tick-same : tick (map lowest_entry es) ≡ tick es =
    ap (λ (ds : List ℕ). record { numerator = 1; denominator = common_multiple ds }) (denominators_lowest es) in
    let trains-same : map (train_of (tick (map lowest_entry es))) (map lowest_entry es) ≡ map (train_of (tick es)) es =
    ap (λ (t : Fraction). map (train_of t) (map lowest_entry es)) tick-same ∙ trains_lowest (tick es) es in
    let short-same : ticks_checked (tick (map lowest_entry es)) (map lowest_entry es) ≡ ticks_checked (tick es) es =
    ap (λ (t : Fraction). ticks_checked t (map lowest_entry es)) tick-same ∙ first_lowest (ticks_check (tick es)) (long_lowest (tick es)) 0 es in
    λ j.
    or_else
    (or_else
    (or_else (test (not (eqb (n % numbers) 0)) TrainCount)
    (or_else (test (ltb longest_row n) TrainCount) (first_lowest entry_check entry_lowest 0 es j)))
    (or_else (multiple_lowest es j) (short-same j)))
    (Ok (record { tick = tick-same j; count = length-map es lowest_entry j; trains = filled (trains-same j) }))

-- entries that are the same have the same lowest terms
entries_same :
    (es fs : List Entry) → length es ≡ length fs → ((i : ℕ) → i < length es → SameEntry (get_or es i no_entry) (get_or fs i no_entry)) →
    map lowest_entry es ≡ map lowest_entry fs
entries_same [] [] l same = refl
entries_same [] (f ∷ fs) l same = absurd (omega arith)
entries_same (e ∷ es) [] l same = absurd (omega arith)
entries_same (e ∷ es) (f ∷ fs) l same =
    let s = same 0 (omega arith) in
    let rest = entries_same es fs (omega arith) (λ i h. same (suc i) (omega arith)) in
    λ j.
    record {
      phase = same_lowest e.phase f.phase s.phase j;
      period = same_lowest e.period f.period s.period j;
      duration = same_lowest e.duration f.duration s.duration j;
    }
    ∷ rest j

pub reading_same : (row row' : List ℕ) → SameRow row row' → reading row ≡ reading row'
reading_same row row' same =
    let lengths : length (entries row) ≡ length (entries row') =
    entries_length row ∙ ap (λ (n : ℕ). n / numbers) same.lengths ∙ sym (entries_length row') in
    reading_of_lem row
    ∙ sym (reading_lowest (length row) (entries row))
    ∙ (λ j. reading_of (same.lengths j) (entries_same (entries row) (entries row') lengths same.times j))
    ∙ reading_lowest (length row') (entries row')
    ∙ sym (reading_of_lem row')
