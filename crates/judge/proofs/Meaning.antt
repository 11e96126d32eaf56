-- What each verdict means: the theorems of specs/Promises.antt.
-- Core: view, the three ways that a verdict comes about. The rest follows from it.
-- Assumes nothing.
use Prim.Native.Nat.{ℕ, ◌+◌, ◌*◌, ◌<◌, ◌≤◌}
use mathlib.Core.Path.{◌≡◌, refl, sym, ap, subst, ◌∙◌}
use mathlib.Core.Bool.{false}
use mathlib.Core.Logic.{◌↔◌, ◌⊎◌, inl, inr, ⊎_elim}
use mathlib.Core.List.{List, [], ◌∷◌, ◌++◌}
use native.Mathlib.Nat.{eq-or-lt_of_le, zero-add}
use native.Mathlib.Decide.{dec_le}
use native.Mathlib.Omega.{arith}
use lib.ListN.{length, length-append}
use lib.Seq.{append_snoc}
use Rattle.refusal.specs.declared.Refusal.{Refusal}
use Rattle.refusal.specs.Paper as refusals
use Rattle.refusal.specs.Order.{First}
use Rattle.refusal.proofs.Promises as refusals-proved
use Rattle.train.specs.declared.Train.{Train}
use Rattle.std.specs.Prelude.{Some, Ok, Err}
use Rattle.train.specs.Claims.{Limits, Claims, Both, Apart, Collide, Least}
use Rattle.train.specs.Answer.{free, earliest}
use Rattle.train.proofs.Test.{free_iff_apart, collides_iff}
use Rattle.train.proofs.Least.{earliest_at, earliest_exists}
use Rattle.table.specs.Row.{entries, multiple, trains, SameRow}
use Rattle.table.specs.Given.{order}
use Rattle.table.specs.Answer.{Outcome, refusal}
use Rattle.table.proofs.Readings.{trains_length, passed_few, passed_limits}
use Rattle.table.proofs.Checks.{refused_not_passed}
use Rattle.table.proofs.Limits.{refusal_follows}
use Rattle.table.proofs.Terms.{reading_same}
use Rattle.judge.specs.declared.Meeting.{Meeting}
use Rattle.judge.specs.declared.Verdict.TheVariants as v
use Rattle.judge.specs.Paper.{accept, collide, refuse, paper}
use Rattle.judge.specs.Pairs.{train_at, Schedulable, Places, Before, PairOf, FirstPair, pairs, In, total, SummedTo}
use Rattle.judge.specs.Answer.{tick_of, Found, collides_at, scan, found, verdict}
use Rattle.judge.proofs.Walk.{pairs_few, total_few}
use Rattle.judge.proofs.Ordered.{pairs_all, pairs_before, before_total, in_left}
use Rattle.judge.proofs.Verdicts.{verdict_refused, verdict_found, verdict_read, verdict_read_lem, FreePair, scan_all_free, scan_first, meets_pair}

-- ---- Core law

-- The three ways that the verdict on a row comes about.
data View (row : List ℕ) : Type 0 where
  refused : (r : Refusal) → refusal row ≡ Err r → verdict row ≡ v.Refused r → View row
  accepted :
      (d : ℕ) → refusal row ≡ Ok tt → scan (train_at (trains row)) (pairs (length (trains row))) 0 ≡ Ok d →
      verdict row ≡ v.Accepted (record { multiple = multiple (entries row); divisions = d }) → View row
  meets :
      (i j d : ℕ) → refusal row ≡ Ok tt → scan (train_at (trains row)) (pairs (length (trains row))) 0 ≡ collides_at (record { first = i; second = j }) d →
      verdict row ≡ found (multiple (entries row)) (train_at (trains row)) (collides_at (record { first = i; second = j }) d) → View row

view : (row : List ℕ) → View row
view row = outcomes (refusal row) refl
  where
    founds : refusal row ≡ Ok tt → (f : Found) → scan (train_at (trains row)) (pairs (length (trains row))) 0 ≡ f → View row
    founds e (Ok d) q = accepted d e q (sym (verdict_found row e) ∙ ap (found (multiple (entries row)) (train_at (trains row))) q)
    founds e (Err c) q = meets c.first c.second c.divisions e q (sym (verdict_found row e) ∙ ap (found (multiple (entries row)) (train_at (trains row))) q)

    outcomes : (o : Outcome) → refusal row ≡ o → View row
    outcomes (Ok _) e = founds e (scan (train_at (trains row)) (pairs (length (trains row))) 0) refl
    outcomes (Err r) e = refused r e (sym (verdict_refused row r e))

-- ---- Pairs of a table that passes

module _ (row : List ℕ) where
  abbrev at : ℕ → Train
  at i = train_at (trains row) i

  limits : refusal row ≡ Ok tt → (i : ℕ) → i < length (trains row) → Limits (at i)
  limits e i h = passed_limits row e i (omega (arith, trains_length row))

  -- a pair that is free is apart, and one that is not collides
  free_apart : refusal row ≡ Ok tt → (p : Places) → PairOf (length (trains row)) p → FreePair at p → Apart (at p.first) (at p.second)
  free_apart e p h f =
      (free_iff_apart _ _ (limits e p.first (omega (arith, h.0, h.1))).strict (limits e p.second h.1).strict).0 f

  not_free :
      refusal row ≡ Ok tt → (p : Places) → PairOf (length (trains row)) p → free (at p.first) (at p.second) ≡ false →
      Collide (at p.first) (at p.second)
  not_free e p h f =
      (collides_iff _ _ (limits e p.first (omega (arith, h.0, h.1))).strict (limits e p.second h.1).strict).0 f

  -- a table whose pairs are all free is schedulable
  all_schedulable : refusal row ≡ Ok tt → ((p : Places) → In p (pairs (length (trains row))) → FreePair at p) → Schedulable (trains row)
  all_schedulable e all t i j hi hj differ ci cj = go (dec_le i j)
    where
      apart : (a b : ℕ) → a < b → b < length (trains row) → Claims (at a) t → Claims (at b) t → ⊥
      apart a b lt h ca cb =
          let p : Places = record { first = a; second = b } in
          free_apart e p (lt, h) (all p ((pairs_all (length (trains row)) p).1 (lt, h))) t (ca, cb)

      go : Dec (i ≤ j) → ⊥
      go (yes h) = ⊎_elim differ (λ (lt : i < j). apart i j lt hj ci cj) (eq-or-lt_of_le h)
      go (no h) = apart j i (omega arith) hi cj ci

  -- what the walk has found is the first pair that collides, at its earliest tick
  first_pair :
      (i j d : ℕ) → refusal row ≡ Ok tt → scan at (pairs (length (trains row))) 0 ≡ collides_at (record { first = i; second = j }) d →
      FirstPair (trains row) (record { first = i; second = j })
  first_pair i j d e q =
      let p : Places = record { first = i; second = j } in
      let f = scan_first at (pairs (length (trains row))) p 0 d q in
      let pair = meets_pair at (length (trains row)) p 0 d q in
      let in-front = pairs_before (length (trains row)) f.before f.behind p f.in_order in
      record {
        positions = pair;
        collides = not_free e p pair f.meets;
        before = λ r h early. free_apart e r h (f.all_free r ((in-front r).1 (h, early)));
      }

  earliest_tick :
      (i j : ℕ) → refusal row ≡ Ok tt → FirstPair (trains row) (record { first = i; second = j }) →
      Least (Both (at i) (at j)) (tick_of (earliest (at i) (at j)))
  earliest_tick i j e f =
      let li = limits e i (omega (arith, f.positions.0, f.positions.1)) in
      let lj = limits e j f.positions.1 in
      let w = (earliest_exists (at i) (at j) li lj).1 f.collides in
      (earliest_at (at i) (at j) li lj (tick_of (earliest (at i) (at j)))).0 (w.1 ∙ ap (λ c. Some (tick_of c)) (sym w.1))

  -- ---- The theorems

  pub refuse_exactly :
      (r : Refusal) → (paper (verdict row) ≡ refuse (refusals.paper r).number (refusals.paper r).place) ↔ First (order row) r
  refuse_exactly r = (there (view row), λ g. ap paper (sym (verdict_refused row r (((refusal_follows row).refused r).1 g))))
    where
      there : View row → paper (verdict row) ≡ refuse (refusals.paper r).number (refusals.paper r).place → First (order row) r
      there (refused s e q) h =
          let k = ap paper (sym q) ∙ h in
          let a : (refusals.paper s).number ≡ (refusals.paper r).number = cc in
          let b : (refusals.paper s).place ≡ (refusals.paper r).place = cc in
          let same = (refusals-proved.promises).paper_tells s r (λ i. record { number = a i; place = b i }) in
          ((refusal_follows row).refused r).0 (e ∙ ap Err same)
      there (accepted d e f q) h = let k = ap paper (sym q) ∙ h in cc
      there (meets i j d e f q) h = let k = ap paper (sym q) ∙ h in cc

  pub refuse_only :
      (number train : ℕ) → paper (verdict row) ≡ refuse number train →
      (r : Refusal) × First (order row) r × (refusals.paper r ≡ record { number = number; place = train })
  refuse_only number train h = go (view row)
    where
      go : View row → (r : Refusal) × First (order row) r × (refusals.paper r ≡ record { number = number; place = train })
      go (refused r e q) =
          let k = ap paper (sym q) ∙ h in
          let a : (refusals.paper r).number ≡ number = cc in
          let b : (refusals.paper r).place ≡ train = cc in
          (r, ((refusal_follows row).refused r).0 e, λ i. record { number = a i; place = b i })
      go (accepted d e f q) = let k = ap paper (sym q) ∙ h in cc
      go (meets i j d e f q) = let k = ap paper (sym q) ∙ h in cc

  pub accept_schedulable : ((L d : ℕ) × (paper (verdict row) ≡ accept L d)) ↔ ((refusal row ≡ Ok tt) × Schedulable (trains row))
  accept_schedulable = (λ w. there (view row) w.2, λ h. back (view row) h.0 h.1)
    where
      there : View row → {L d : ℕ} → paper (verdict row) ≡ accept L d → (refusal row ≡ Ok tt) × Schedulable (trains row)
      there (refused r e q) h = let k = ap paper (sym q) ∙ h in cc
      there (accepted d e f q) h = (e, all_schedulable e (scan_all_free at (pairs (length (trains row))) 0 d f).0)
      there (meets i j d e f q) h = let k = ap paper (sym q) ∙ h in cc

      back : View row → refusal row ≡ Ok tt → Schedulable (trains row) → (L d : ℕ) × (paper (verdict row) ≡ accept L d)
      back (refused r e q) p s = absurd (refused_not_passed r (sym e ∙ p))
      back (accepted d e f q) p s = (multiple (entries row), d, ap paper q)
      back (meets i j d e f q) p s =
          let first = first_pair i j d e f in
          let w = first.collides in
          let smaller : i < length (trains row) = omega (arith, first.positions.0, first.positions.1) in
          absurd (s w.0 i j smaller first.positions.1 (λ same. omega (arith, first.positions.0)) w.1.0 w.1.1)

  -- there is one first pair
  first_only : (p q : Places) → FirstPair (trains row) p → FirstPair (trains row) q → p ≡ q
  first_only p q f g = go (before_total p q)
    where
      go : (p ≡ q) ⊎ (Before p q ⊎ Before q p) → p ≡ q
      go (inl e) = e
      go (inr (inl early)) = let w = f.collides in absurd (g.before p f.positions early w.0 w.1)
      go (inr (inr early)) = let w = g.collides in absurd (f.before q g.positions early w.0 w.1)

  -- What is shown of a collision.
  abbrev Shows : Meeting → Type 0
  Shows m =
      FirstPair (trains row) (record { first = m.first; second = m.second }) × Least (Both (at m.first) (at m.second)) m.tick

  pub collide_exactly :
      (i j t : ℕ) →
      ((L d : ℕ) × (paper (verdict row) ≡ collide i j t L d))
      ↔ ((refusal row ≡ Ok tt) × FirstPair (trains row) (record { first = i; second = j }) × Least (Both (at i) (at j)) t)
  collide_exactly i j t = (λ w. there (view row) w.2, λ h. back (view row) h.0 h.1 h.2)
    where
      there :
          View row → {L d : ℕ} → paper (verdict row) ≡ collide i j t L d →
          (refusal row ≡ Ok tt) × FirstPair (trains row) (record { first = i; second = j }) × Least (Both (at i) (at j)) t
      there (refused r e q) h = let k = ap paper (sym q) ∙ h in cc
      there (accepted d e f q) h = let k = ap paper (sym q) ∙ h in cc
      there (meets i' j' d e f q) h =
          let k = ap paper (sym q) ∙ h in
          let a : i' ≡ i = cc in
          let b : j' ≡ j = cc in
          let c : tick_of (earliest (at i') (at j')) ≡ t = cc in
          let first = first_pair i' j' d e f in
          let shows : Shows (record { first = i; second = j; tick = t }) =
          subst Shows (λ n. record { first = a n; second = b n; tick = c n }) (first, earliest_tick i' j' e first) in
          (e, shows.0, shows.1)

      back :
          View row → refusal row ≡ Ok tt → FirstPair (trains row) (record { first = i; second = j }) → Least (Both (at i) (at j)) t →
          (L d : ℕ) × (paper (verdict row) ≡ collide i j t L d)
      back (refused r e q) p first least = absurd (refused_not_passed r (sym e ∙ p))
      back (accepted d e f q) p first least =
          let w = first.collides in
          let apart = (scan_all_free at (pairs (length (trains row))) 0 d f).0 _ ((pairs_all (length (trains row)) _).1 first.positions) in
          absurd (free_apart e _ first.positions apart w.0 w.1)
      back (meets i' j' d e f q) p first least =
          let same = first_only (record { first = i'; second = j' }) (record { first = i; second = j }) (first_pair i' j' d e f) first in
          let li = limits p i (omega (arith, first.positions.0, first.positions.1)) in
          let lj = limits p j first.positions.1 in
          let ticks = ap tick_of ((earliest_at (at i) (at j) li lj t).1 least) in (
            multiple (entries row),
            d,
            ap paper q
                ∙ ap (λ (r : Places). collide r.first r.second (tick_of (earliest (at r.first) (at r.second))) (multiple (entries row)) d) same
                ∙ ap (λ (n : ℕ). collide i j n (multiple (entries row)) d) ticks,
          )

  pub accept_figures :
      (L d : ℕ) → paper (verdict row) ≡ accept L d → (L ≡ multiple (entries row)) × (d ≡ total at (pairs (length (trains row))))
  accept_figures L d h = go (view row)
    where
      go : View row → (L ≡ multiple (entries row)) × (d ≡ total at (pairs (length (trains row))))
      go (refused r e q) = let k = ap paper (sym q) ∙ h in cc
      go (accepted n e f q) =
          let k = ap paper (sym q) ∙ h in
          let a : L ≡ multiple (entries row) = cc in
          let b : d ≡ n = cc in
          (a, b ∙ (scan_all_free at (pairs (length (trains row))) 0 n f).1 ∙ zero-add _)
      go (meets i j n e f q) = let k = ap paper (sym q) ∙ h in cc

  pub collide_figures :
      (i j t L d : ℕ) → paper (verdict row) ≡ collide i j t L d →
      (L ≡ multiple (entries row)) × SummedTo (trains row) (record { first = i; second = j }) d
  collide_figures i j t L d h = go (view row)
    where
      go : View row → (L ≡ multiple (entries row)) × SummedTo (trains row) (record { first = i; second = j }) d
      go (refused r e q) = let k = ap paper (sym q) ∙ h in cc
      go (accepted n e f q) = let k = ap paper (sym q) ∙ h in cc
      go (meets i' j' n e f q) =
          let k = ap paper (sym q) ∙ h in
          let a : i' ≡ i = cc in
          let b : j' ≡ j = cc in
          let c : d ≡ n = cc in
          let l : L ≡ multiple (entries row) = cc in
          let m = scan_first at (pairs (length (trains row))) (record { first = i'; second = j' }) 0 n f in
          let summed : SummedTo (trains row) (record { first = i'; second = j' }) d =
          record { before = m.before; behind = m.behind; in_order = m.in_order; sum = c ∙ m.sum ∙ zero-add _ } in
          (l, subst (λ (p : Places). SummedTo (trains row) p d) (λ x. record { first = a x; second = b x }) summed)

  -- ---- The bound of the division count

  pub accept_divisions_per_pair : (L d : ℕ) → paper (verdict row) ≡ accept L d → d ≤ 33 * length (pairs (length (trains row)))
  accept_divisions_per_pair L d h =
      let e = (accept_schedulable.0 (L, d, h)).0 in
      omega (arith, (accept_figures L d h).1, total_few at (length (trains row)) (limits e) (pairs (length (trains row))) (λ p m. (pairs_all (length (trains row)) p).0 m))

  module _ (i j t L d : ℕ) (h : paper (verdict row) ≡ collide i j t L d) (s : SummedTo (trains row) (record { first = i; second = j }) d) where
    -- the pairs that are summed
    summed : List Places
    summed = s.before ++ record { first = i; second = j } ∷ []

    summed_whole : pairs (length (trains row)) ≡ summed ++ s.behind
    unfolding summed
    summed_whole = s.in_order ∙ sym (append_snoc s.before (record { first = i; second = j }) s.behind)

    summed_count : length summed ≡ length s.before + 1
    unfolding summed
    summed_count = length-append s.before (record { first = i; second = j } ∷ [])

    pub collide_divisions_per_pair : d ≤ 33 * (length s.before + 1)
    unfolding summed
    collide_divisions_per_pair =
        let e = ((collide_exactly i j t).0 (L, d, h)).0 in
        let bound = total_few at (length (trains row)) (limits e) summed (λ q m. (pairs_all (length (trains row)) q).0 (subst (In q) (sym summed_whole) (in_left q summed s.behind m))) in
        omega (arith, s.sum, bound, summed_count)

    summed_few : length s.before + 1 ≤ length (pairs (length (trains row)))
    summed_few = omega (arith, summed_count, ap length summed_whole, length-append summed s.behind)

  few : refusal row ≡ Ok tt → length (pairs (length (trains row))) ≤ 2_016
  few e = pairs_few (length (trains row)) (omega (arith, trains_length row, passed_few row e))

  pub accept_divisions : (L d : ℕ) → paper (verdict row) ≡ accept L d → d ≤ 66_528
  accept_divisions L d h = omega (arith, few (accept_schedulable.0 (L, d, h)).0, accept_divisions_per_pair L d h)

  pub collide_divisions : (i j t L d : ℕ) → paper (verdict row) ≡ collide i j t L d → d ≤ 66_528
  collide_divisions i j t L d h =
      let s = (collide_figures i j t L d h).1 in
      let passed = ((collide_exactly i j t).0 (L, d, h)).0 in
      omega (arith, few passed, summed_few i j t L d h s, collide_divisions_per_pair i j t L d h s)

pub verdict_same : (row row' : List ℕ) → SameRow row row' → verdict row ≡ verdict row'
verdict_same row row' same = sym (verdict_read_lem row) ∙ ap verdict_read (reading_same row row' same) ∙ verdict_read_lem row'
