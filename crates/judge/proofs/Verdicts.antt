-- The laws of the verdict: the ways through it, what the walk through the pairs has found, and what the reading hands on.
-- Core: verdict_refused, verdict_found, scan_all_free, scan_first. The rest follows from these.
-- Assumes nothing.
use Prim.Native.Nat.{ℕ, ◌+◌, ◌-◌, ◌<◌, ◌≤◌}
use mathlib.Core.Path.{◌≡◌, refl, sym, ap, subst, ◌∙◌}
use mathlib.Core.Bool.{Bool, true, false}
use mathlib.Core.Logic.{◌↔◌, inl, ⊎_elim}
use mathlib.Core.List.{List, [], ◌∷◌, ◌++◌}
use native.Mathlib.Nat.{add-zero, add_assoc}
use native.Mathlib.Omega.{arith}
use lib.ListN.{length, take, replicate}
use Rattle.std.proofs.Math.Seq.{take-append_seam}
use Rattle.std.specs.Prelude.{Some, IsSome, Result, Ok, Err}
use Rattle.refusal.specs.declared.Refusal.{Refusal}
use Rattle.train.specs.declared.Train.{Train}
use Rattle.train.specs.Answer.{earliest}
use Rattle.train.proofs.Test.{collides_iff}
use Rattle.train.proofs.Least.{earliest_exists}
use Rattle.table.specs.declared.Table.{Table}
use Rattle.table.specs.Row.{capacity, entries, multiple, tick, trains}
use Rattle.table.specs.Answer.{Outcome, refusal, no_train, filled, table_of, reading}
use Rattle.table.proofs.Readings.{reading_refused, reading_passed, reading_table, trains_length, passed_few, passed_limits}
use Rattle.judge.specs.declared.Collision.{Collision}
use Rattle.judge.specs.declared.Verdict.{Verdict}
use Rattle.judge.specs.declared.Verdict.TheVariants as v
use Rattle.judge.specs.Pairs.{train_at, Places, PairOf, pairs, In, divisions_of, total}
use Rattle.judge.specs.Answer.{tick_of, Found, free_pair, collides_at, scan, found, judged, verdict}
use Rattle.judge.specs.Inside.{Scannable}
use Rattle.judge.proofs.Walk.{scan_free, scan_meets}
use Rattle.judge.proofs.Ordered.{in_right, pairs_all}

-- ---- Core laws

-- the ways through the verdict
module _ (row : List ℕ) where
  pub verdict_refused : (r : Refusal) → refusal row ≡ Err r → v.Refused r ≡ verdict row
  unfolding verdict
  verdict_refused r e = sym (ap (λ (o : Outcome). judged o (multiple (entries row)) (trains row)) e)

  pub verdict_found :
      refusal row ≡ Ok tt →
      found (multiple (entries row)) (train_at (trains row)) (scan (train_at (trains row)) (pairs (length (trains row))) 0) ≡ verdict row
  unfolding verdict
  verdict_found e = sym (ap (λ (o : Outcome). judged o (multiple (entries row)) (trains row)) e)

-- what was found is no refusal
found_not_refused : (L : ℕ) (train : ℕ → Train) (f : Found) (r : Refusal) → found L train f ≡ v.Refused r → ⊥
found_not_refused L train (Ok d) r e = cc
found_not_refused L train (Err c) r e = cc

-- the verdict is a refusal just where the table is refused
pub verdict_refuses : (row : List ℕ) (r : Refusal) → (verdict row ≡ v.Refused r) ↔ (refusal row ≡ Err r)
unfolding verdict
verdict_refuses row r = (there (refusal row) refl, λ e. sym (verdict_refused row r e))
  where
    whole : Found
    whole = scan (train_at (trains row)) (pairs (length (trains row))) 0

    there : (o : Outcome) → refusal row ≡ o → verdict row ≡ v.Refused r → refusal row ≡ Err r
    there (Ok _) q e = absurd (found_not_refused (multiple (entries row)) (train_at (trains row)) whole r (verdict_found row q ∙ e))
    there (Err s) q e = q ∙ (let same : v.Refused s ≡ v.Refused r = verdict_refused row s q ∙ e in cc)

-- ---- What the walk has found

-- A pair of trains is free.
abbrev pub FreePair : (ℕ → Train) → Places → Type 0
FreePair train p = free_pair train p ≡ true

-- all pairs are free, and their counts are added up
pub scan_all_free :
    (train : ℕ → Train) (ps : List Places) (d e : ℕ) → scan train ps d ≡ Ok e →
    ((p : Places) → In p ps → FreePair train p) × (e ≡ d + total train ps)
unfolding scan total
scan_all_free train [] d e q = ((λ p m. absurd m), same q ∙ sym (add-zero d))
  where
    same : ◌≡◌ {A = Found} (Ok d) (Ok e) → e ≡ d
    same z = cc
scan_all_free train (p ∷ ps) d e q = go (scan_all_free train ps (d + divisions_of train p) e) (free_pair train p) refl
  where
    go :
        (scan train ps (d + divisions_of train p) ≡ Ok e →
        ((r : Places) → In r ps → FreePair train r) × (e ≡ d + divisions_of train p + total train ps)) →
        (b : Bool) → free_pair train p ≡ b →
        ((r : Places) → In r (p ∷ ps) → FreePair train r) × (e ≡ d + (divisions_of train p + total train ps))
    go later true f =
        let k = later (sym (scan_free train p ps d f) ∙ q) in
        ((λ r. ⊎_elim (λ (same : r ≡ p). subst (FreePair train) (sym same) f) (k.0 r)), k.1 ∙ add_assoc d (divisions_of train p) (total train ps))
    go later false f =
        let m = scan_meets train p ps d f in
        cc

-- two collisions that are found are one
err_same : {x y : Collision} → ◌≡◌ {A = Found} (Err x) (Err y) → x ≡ y
err_same e = cc

-- Some pairs up to and including the first that collides, with the count d before them.
pub record FirstMeeting (train : ℕ → Train) (ps : List Places) (p : Places) (d e : ℕ) : Type 0 where
  pub before : List Places
  pub behind : List Places
  pub in_order : ps ≡ before ++ p ∷ behind
  pub all_free : (q : Places) → In q before → FreePair train q
  pub meets : free_pair train p ≡ false
  pub sum : e ≡ d + total train (before ++ p ∷ [])

pub scan_first :
    (train : ℕ → Train) (ps : List Places) (r : Places) (d e : ℕ) → scan train ps d ≡ collides_at r e → FirstMeeting train ps r d e
unfolding scan total
scan_first train [] r d e q = cc
scan_first train (p ∷ ps) r d e q = go (scan_first train ps r (d + divisions_of train p) e) (free_pair train p) refl
  where
    go :
        (scan train ps (d + divisions_of train p) ≡ collides_at r e → FirstMeeting train ps r (d + divisions_of train p) e) →
        (b : Bool) → free_pair train p ≡ b → FirstMeeting train (p ∷ ps) r d e
    go later true f =
        let k = later (sym (scan_free train p ps d f) ∙ q) in
        record {
          before = p ∷ k.before;
          behind = k.behind;
          in_order = ap (λ (rs : List Places). p ∷ rs) k.in_order;
          all_free = λ x. ⊎_elim (λ (same : x ≡ p). subst (FreePair train) (sym same) f) (k.all_free x);
          meets = k.meets;
          sum = k.sum ∙ add_assoc d (divisions_of train p) (total train (k.before ++ r ∷ []));
        }
    go later false f =
        let m : collides_at p (d + divisions_of train p) ≡ collides_at r e = sym (scan_meets train p ps d f) ∙ q in
        let c : ◌≡◌ {A = Collision} _ _ = err_same m in
        let same : p ≡ r = λ k. record { first = (c k).first; second = (c k).second } in
        record {
          before = [];
          behind = ps;
          in_order = ap (λ (x : Places). x ∷ ps) same;
          all_free = λ x m. absurd m;
          meets = subst (λ (x : Places). free_pair train x ≡ false) same f;
          sum =
              sym (ap (λ (x : Collision). x.divisions) c)
              ∙ ap (λ (x : Places). d + divisions_of train x) same
              ∙ ap (λ (n : ℕ). d + n) (sym (add-zero _));
        }

-- the pair that the walk has found is one of the table
pub meets_pair : (train : ℕ → Train) (n : ℕ) (r : Places) (d e : ℕ) → scan train (pairs n) d ≡ collides_at r e → PairOf n r
meets_pair train n r d e q =
    let f = scan_first train (pairs n) r d e q in
    (pairs_all n _).0 (subst (In _) (sym f.in_order) (in_right _ f.before _ (inl refl)))

-- ---- The ways through the code

-- The trains of a table, without the zeros behind them.
abbrev pub trains_of : Table → List Train
trains_of t = take t.count t.trains

-- The verdict on the reading of a row alone.
abbrev pub verdict_read : Result Table Refusal → Verdict
verdict_read (Ok t) = judged (Ok tt) t.tick.denominator (trains_of t)
verdict_read (Err r) = v.Refused r

-- the walk over the trains of a table, as `judge_trains` takes it up
module _ (ts : List Train) (L : ℕ) where
  pub trains_free : (d : ℕ) → Ok d ≡ scan (train_at ts) (pairs (length ts)) 0 → v.Accepted (record { multiple = L; divisions = d }) ≡ judged (Ok tt) L ts
  trains_free d q = ap (found L (train_at ts)) q

  pub trains_meet :
      (c : Collision) (t : ℕ) → Err c ≡ scan (train_at ts) (pairs (length ts)) 0 →
      earliest (train_at ts c.first) (train_at ts c.second) ≡ Some t →
      v.Collide (record { first = c.first; second = c.second; tick = t }) (record { multiple = L; divisions = c.divisions }) ≡ judged (Ok tt) L ts
  trains_meet c t q e =
      ap (λ o. v.Collide (record { first = c.first; second = c.second; tick = tick_of o }) (record { multiple = L; divisions = c.divisions })) (sym e)
      ∙ ap (found L (train_at ts)) q

module _ (ts : List Train) (c : Collision) (q : Err c ≡ scan (train_at ts) (pairs (length ts)) 0) where
  this : Places
  this = record { first = c.first; second = c.second }

  places : PairOf (length ts) this
  unfolding this
  places = meets_pair (train_at ts) (length ts) this 0 c.divisions (sym q)

  pub first_inside : c.first < length ts
  unfolding this
  first_inside = let p = places in omega (arith, p.0, p.1)

  pub second_inside : c.second < length ts
  unfolding this
  second_inside = places.1

  -- the pair that collides has an earliest tick
  pub has_tick : Scannable ts → IsSome (earliest (train_at ts c.first) (train_at ts c.second))
  unfolding this
  has_tick s =
      let li = s.limits c.first first_inside in
      let lj = s.limits c.second second_inside in
      let meets = (scan_first (train_at ts) (pairs (length ts)) this 0 c.divisions (sym q)).meets in
      let w = (earliest_exists _ _ li lj).1 ((collides_iff _ _ li.strict lj.strict).0 meets) in
      subst IsSome (sym w.1) refl

pub ruleset judge_ways = (trains_free, trains_meet, first_inside, second_inside, has_tick)

module _ (row : List ℕ) where
  trains_are : (t : Table) → t ≡ table_of (tick (entries row)) (entries row) → trains_of t ≡ trains row
  unfolding trains
  trains_are t e =
      ap trains_of e
      ∙ ap (λ (n : ℕ). take n (filled (trains row))) (sym (trains_length row))
      ∙ take-append_seam (trains row) (replicate (capacity - length (trains row)) no_train)

  pub verdict_read_lem : verdict_read (reading row) ≡ verdict row
  verdict_read_lem = go (reading row) refl
    where
      go : (r : Result Table Refusal) → r ≡ reading row → verdict_read r ≡ verdict row
      go (Err q) e = verdict_refused row q (reading_refused row (Err q) e q refl)
      go (Ok t) e =
          let table = reading_table row (Ok t) e t refl in
          let ts = trains_are t table in
          (λ k. judged (Ok tt) (ap (λ (x : Table). x.tick.denominator) table k) (ts k))
          ∙ verdict_found row (reading_passed row (Ok t) e t refl)

  module _ (t : Table) (e : Ok t ≡ reading row) where
    passes : refusal row ≡ Ok tt
    passes = reading_passed row (Ok t) e t refl

    same : trains_of t ≡ trains row
    same = trains_are t (reading_table row (Ok t) e t refl)

    pub read_count : t.count ≤ capacity
    read_count = omega (arith, ap (λ (x : Table). x.count) (reading_table row (Ok t) e t refl), passed_few row passes)

    pub read_scannable : Scannable (trains_of t)
    read_scannable =
        subst Scannable (sym same)
        (record {
          few = omega (arith, trains_length row, passed_few row passes);
          limits = λ i h. passed_limits row passes i (omega (arith, trains_length row));
        })

  pub read_refused : (r : Refusal) → Err r ≡ reading row → v.Refused r ≡ verdict row
  read_refused r e = ap verdict_read e ∙ verdict_read_lem

  pub read_judged : (t : Table) → Ok t ≡ reading row → judged (Ok tt) t.tick.denominator (trains_of t) ≡ verdict row
  read_judged t e = ap verdict_read e ∙ verdict_read_lem

-- what `judge` is proved by
pub ruleset read_ways = (read_count, read_scannable, read_refused, read_judged)
