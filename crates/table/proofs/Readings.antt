-- The laws of the whole reading: its tick, and what a table is that passes.
-- Core: read_tick, trains_at. The rest follows from these and from refusal_follows.
-- Assumes nothing.
use Prim.Native.Nat.{ℕ, zero, suc, ◌*◌, ◌<◌, ◌≤◌}
use mathlib.Core.Path.{◌≡◌, refl, sym, ap, subst, ◌∙◌}
use mathlib.Core.Logic.{inl, inr}
use mathlib.Core.List.{List, [], ◌∷◌, ◌++◌}
use native.Mathlib.Nat.{mul-pos}
use native.Mathlib.Omega.{arith}
use lib.ListN.{length, get_or, take, length-map}
use lib.Seq.{take_all}
use Rattle.std.proofs.lemmas.List.{get_or-map}
use Rattle.std.specs.Prelude.{Some, Result, Ok, Err}
use Rattle.refusal.specs.declared.Refusal.{Refusal}
use Rattle.refusal.specs.Order.{in_turn, None}
use Rattle.refusal.proofs.Orders.{none_of_both, none_each}
use Rattle.fraction.specs.declared.Fraction.{Fraction}
use Rattle.fraction.specs.Value.{IsTicks}
use Rattle.fraction.specs.Answer.{whole_ticks, limit, common_multiple, running}
use Rattle.fraction.proofs.CommonMultiple.{running_within}
use Rattle.fraction.proofs.WholeTicks.{ticks_exact}
use Rattle.fraction.proofs.Order.{above_ticks}
use Rattle.train.specs.Claims.{Limits}
use Rattle.table.specs.declared.Entry.{Entry}
use Rattle.table.specs.declared.Table.{Table}
use Rattle.table.specs.Row.{capacity, no_entry, entries, denominators, multiple, tick, whole, ticks_of, train_of, trains, ExactTrain}
use Rattle.table.specs.Given.{checked_order, multiple_checks, long_checks}
use Rattle.table.specs.Answer.{Outcome, or_else, checked, refusal, no_train, table_of, reading}
use Rattle.table.proofs.Entries.{entries_few}
use Rattle.table.proofs.Following.{AllSound, not_above, checked_follows, checked_sound, checked_length}
use Rattle.table.proofs.Limits.{multiple_pos, ticks_at, refusal_follows}

-- ---- Core laws

-- where no train passes the limit, L does not
all_within : (es : List Entry) → ((i : ℕ) → i < length es → multiple (take (suc i) es) ≤ limit) → multiple es ≤ limit
unfolding denominators common_multiple
all_within [] within = omega arith
all_within (e ∷ es) within =
    subst (λ (fs : List Entry). multiple fs ≤ limit) (take_all (suc (length es)) (e ∷ es) (omega arith)) (within (length es) (omega arith))

-- a time that is not 0 is not 0 ticks
some_ticks : (k u v : ℕ) → k * u ≡ v → 0 < v → 1 ≤ k
some_ticks zero u v e h = absurd (omega arith)
some_ticks (suc k) u v e h = omega arith

-- a value that there is after an outcome, and the outcome from the answer
module _ {A : Type 0} (value : A) where
  pub refused_behind : {r : Refusal} (o : Outcome) → or_else o (Ok value) ≡ Err r → o ≡ Err r
  refused_behind (Ok _) e = cc
  refused_behind (Err r) e = cc

  pub passed_behind : {x : A} (o : Outcome) → or_else o (Ok value) ≡ Ok x → o ≡ Ok tt
  passed_behind (Ok _) e = refl
  passed_behind (Err r) e = cc

  pub value_behind : {x : A} (o : Outcome) → or_else o (Ok value) ≡ Ok x → x ≡ value
  value_behind (Ok _) e = cc
  value_behind (Err r) e = cc

module _ (row : List ℕ) where
  -- the multiple that the code has found is L
  pub read_tick :
      (m : ℕ) → checked row ≡ Ok tt → running (denominators (entries row)) ≡ Some m →
      record { numerator = 1; denominator = m } ≡ tick (entries row)
  read_tick m e w =
      ap (λ (l : ℕ). record { numerator = 1; denominator = l })
      (running_within (denominators (entries row)) m (multiple_pos (entries row) (checked_sound row e)) w)

  -- ---- What a table is that it passes

  -- no condition of the order's three parts holds
  passed_none :
      refusal row ≡ Ok tt →
      (None (checked_order row) × None (in_turn (multiple_checks (entries row)) 0 (entries row)))
      × None (in_turn (long_checks (tick (entries row))) 0 (entries row))
  passed_none e =
      let none = (refusal_follows row).passed.0 e in
      let parts = (none_of_both (checked_order row ++ in_turn (multiple_checks (entries row)) 0 (entries row)) _).0 none in
      ((none_of_both (checked_order row) _).0 parts.0, parts.1)

  -- what passes all passes the first
  pub passed_checked : refusal row ≡ Ok tt → checked row ≡ Ok tt
  passed_checked e = (checked_follows row).passed.1 (passed_none e).0.0

  pub passed_sound : refusal row ≡ Ok tt → AllSound (entries row)
  passed_sound e = checked_sound row (passed_checked e)

  pub trains_length : length (trains row) ≡ length (entries row)
  unfolding trains
  trains_length = length-map (entries row) (train_of (tick (entries row)))

  -- the train at a position is the entry there, in ticks
  pub trains_at :
      (i : ℕ) → i < length (entries row) →
      get_or (trains row) i no_train ≡ train_of (tick (entries row)) (get_or (entries row) i no_entry)
  unfolding trains
  trains_at i h = get_or-map (train_of (tick (entries row))) (entries row) i no_entry no_train h

  module _ (e : refusal row ≡ Ok tt) where
    pub passed_limit : multiple (entries row) ≤ limit
    unfolding None
    passed_limit =
        all_within (entries row)
        (λ i h. not_above (none_each no_entry (multiple_checks (entries row)) (entries row) (passed_none e).0.1 i h).0)

    pub passed_few : length (entries row) ≤ capacity
    passed_few = entries_few row (checked_length row (passed_checked e))

    module _ (i : ℕ) (h : i < length (entries row)) where
      -- one time
      exact_time :
          (f : Fraction) → ((k : ℕ) × (whole_ticks f (tick (entries row)) ≡ Some k)) →
          IsTicks f (tick (entries row)) (ticks_of (tick (entries row)) f)
      exact_time f (k, w) = ticks_exact f (tick (entries row)) (ticks_of (tick (entries row)) f) (w ∙ ap (λ t. Some (whole t)) (sym w))

      exact_entry :
          ExactTrain (tick (entries row)) (get_or (entries row) i no_entry) (train_of (tick (entries row)) (get_or (entries row) i no_entry))
      exact_entry =
          let w = ticks_at (entries row) i (passed_sound e) h in
          record { phase = exact_time _ w.phase; period = exact_time _ w.period; duration = exact_time _ w.duration }

      pub passed_exact : ExactTrain (tick (entries row)) (get_or (entries row) i no_entry) (get_or (trains row) i no_train)
      passed_exact = subst (ExactTrain (tick (entries row)) (get_or (entries row) i no_entry)) (sym (trains_at i h)) exact_entry

      limits_entry : Limits (train_of (tick (entries row)) (get_or (entries row) i no_entry))
      unfolding None
      limits_entry =
          let s = passed_sound e i h in
          let x = exact_entry in
          let short = (none_each no_entry (long_checks (tick (entries row))) (entries row) (passed_none e).1 i h).0 in
          let l = multiple_pos (entries row) (passed_sound e) in
          let above = above_ticks _ _ (tick (entries row)) _ _ s.duration s.period (omega arith) l x.duration x.period in
          record {
            strict =
                record {
                  some = some_ticks _ _ _ x.duration (mul-pos s.some_duration l);
                  fits = not_above (λ lt. s.fits (above.1 lt));
                };
            period = not_above (λ lt. short (inr (inl (_, x.period, lt))));
            phase = not_above (λ lt. short (inl (_, x.phase, lt)));
          }

      pub passed_limits : Limits (get_or (trains row) i no_train)
      passed_limits = subst Limits (sym (trains_at i h)) limits_entry

  -- ---- The reading, for those who take it apart

  module _ (answer : Result Table Refusal) (is : answer ≡ reading row) where
    pub reading_refused : (r : Refusal) → answer ≡ Err r → refusal row ≡ Err r
    unfolding reading
    reading_refused r e = refused_behind _ (refusal row) (sym is ∙ e)

    pub reading_passed : (t : Table) → answer ≡ Ok t → refusal row ≡ Ok tt
    unfolding reading
    reading_passed t e = passed_behind _ (refusal row) (sym is ∙ e)

    pub reading_table : (t : Table) → answer ≡ Ok t → t ≡ table_of (tick (entries row)) (entries row)
    unfolding reading
    reading_table t e = value_behind _ (refusal row) (sym is ∙ e)
