-- Times and phases: what is found is there, and what is there is found.
-- Core: time_found and time_read. That a phase is read exactly follows from these, for where a value ends no digit stands.
-- Assumes nothing.
use Prim.Native.Nat.{ℕ, ◌<◌}
use mathlib.Core.Path.{◌≡◌, refl, sym, ap, ◌∙◌}
use mathlib.Core.Bool.{Bool, true, false, cond}
use mathlib.Core.List.{List, [], ◌∷◌, ◌++◌, append_assoc}
use native.Mathlib.Omega.{arith}
use lib.Dec.{eqb}
use lib.ListN.{get_or, drop}
use borrow.Author.Tests.{eqb-true, eqb-false, ne_eqb}
use Rattle.decimal.specs.Digits.{Digits, Number, Stops}
use Rattle.decimal.specs.Answer.{Found, nothing, found, number_in}
use Rattle.decimal.proofs.Numbers.{AsNumber, number_found, number_read, number_none}
use Rattle.fraction.specs.declared.Fraction.{Fraction}
use Rattle.listing.specs.Grammar.{NonEscaped, high}
use Rattle.listing.specs.Means.{slash, fraction, Time, whole, parts, Phase, blank, time}
use Rattle.listing.specs.Answer.{parted, divided, time_in, or_blank, phase_in}
use Rattle.listing.proofs.Fronts.{at_end, at_comma, at_return, Edge, border, at_quote, AsFront, Exact}

-- ---- Where a value ends

-- no digit stands there
edge_stops : {l : List ℕ} → Edge l → Stops l
edge_stops (border at_end) d = omega (arith, d.from)
edge_stops (border at_comma) d = omega (arith, d.from)
edge_stops (border at_return) d = omega (arith, d.from)
edge_stops at_quote d = omega (arith, d.from)

edge_no_slash : {l : List ℕ} → Edge l → eqb (get_or l 0 0) slash ≡ false
edge_no_slash (border at_end) = refl
edge_no_slash (border at_comma) = refl
edge_no_slash (border at_return) = refl
edge_no_slash at_quote = refl

pub begins_with_lem : (l : List ℕ) (b : ℕ) → (b ≡ 0 → ⊥) → get_or l 0 0 ≡ b → l ≡ b ∷ drop 1 l
begins_with_lem [] b n e = absurd (n (sym e))
begins_with_lem (x ∷ l) b n e = ap (λ (y : ℕ). y ∷ l) e

-- ---- A time

abbrev Timed : List ℕ → Found Fraction → Type 0
Timed l f = AsFront Time l f

module _ (l : List ℕ) where
  parted_found :
      (n : ℕ) (ds rest : List ℕ) → Number n ds → l ≡ ds ++ 47 ∷ rest → (f : Found ℕ) → AsNumber rest f → Timed l (parted n f)
  unfolding parted
  parted_found n ds rest k w nothing r = tt
  parted_found n ds rest k w (found m behind) r = go (eqb m 0) refl
    where
      go : (t : Bool) → eqb m 0 ≡ t → Timed l (cond t nothing (found (fraction n m) behind))
      go true e = tt
      go false e =
          let some : m ≡ 0 → ⊥ = eqb-false m 0 e in
          let above : 0 < m = omega (arith, some) in
          record {
            value = ds ++ 47 ∷ r.ds;
            says = parts k r.number above;
            whole = w ∙ ap (λ (x : List ℕ). ds ++ 47 ∷ x) r.whole ∙ sym (append_assoc ds (47 ∷ r.ds) behind);
          }

  divided_found : (f : Found ℕ) → AsNumber l f → Timed l (divided f)
  unfolding divided
  divided_found nothing r = tt
  divided_found (found n rest) r = go (eqb (get_or rest 0 0) slash) refl
    where
      go :
          (t : Bool) → eqb (get_or rest 0 0) slash ≡ t →
          Timed l (cond t (parted n (number_in (drop 1 rest))) (found (fraction n 1) rest))
      go true e =
          parted_found n r.ds (drop 1 rest) r.number
          (r.whole ∙ ap (λ (x : List ℕ). r.ds ++ x) (begins_with_lem rest 47 (λ z. omega arith) (eqb-true _ _ e)))
          (number_in (drop 1 rest)) (number_found (drop 1 rest))
      go false e = record { value = r.ds; says = whole r.number; whole = r.whole }

pub time_found : (l : List ℕ) → Timed l (time_in l)
time_found l = divided_found l (number_in l) (number_found l)

pub time_read : (v rest : List ℕ) (f : Fraction) → Time v f → Edge rest → time_in (v ++ rest) ≡ found f rest
unfolding divided parted
time_read v rest f (whole {n = n} {ds = ds} k) g = rw (number_read n ds rest k (edge_stops g), edge_no_slash g)
time_read v rest f (parts {n = n} {m = m} {ds = ds} {es = es} j k h) g =
    rw (
      append_assoc ds (47 ∷ es) rest,
      number_read n ds (47 ∷ (es ++ rest)) j (λ d. omega (arith, d.from)),
      number_read m es rest k (edge_stops g),
      ne_eqb m 0 (λ z. omega arith),
    )

-- ---- The bytes of a time

digits_plain : {ds : List ℕ} → Digits ds → NonEscaped ds
digits_plain Digits.none = NonEscaped.none
digits_plain (Digits.more {d = b} d ds) =
    NonEscaped.more (high {b = b} (omega (arith, d.from)) (omega (arith, d.to))) (digits_plain ds)

plain_append : {v w : List ℕ} → NonEscaped v → NonEscaped w → NonEscaped (v ++ w)
plain_append NonEscaped.none q = q
plain_append (NonEscaped.more b p) q = NonEscaped.more b (plain_append p q)

pub time_plain : (v : List ℕ) (f : Fraction) → Time v f → NonEscaped v
time_plain v f (whole k) = digits_plain k.digits
time_plain v f (parts j k h) =
    plain_append (digits_plain j.digits) (NonEscaped.more (high {b = 47} (omega arith) (omega arith)) (digits_plain k.digits))

pub time_exact : Exact Time time_in
time_exact = record { sound = time_found; complete = time_read; tame = time_plain }

-- ---- A phase

-- where no digit stands there is no time
time_none : (l : List ℕ) → Stops l → time_in l ≡ nothing
unfolding divided
time_none l s = ap divided (number_none l s)

pub phase_found : (l : List ℕ) → AsFront Phase l (phase_in l)
unfolding or_blank
phase_found l = go (time_in l) (time_found l)
  where
    go : (f : Found Fraction) → Timed l f → AsFront Phase l (or_blank l f)
    go nothing r = record { value = []; says = blank; whole = refl }
    go (found f rest) r = record { value = r.value; says = time r.says; whole = r.whole }

pub phase_read : (v rest : List ℕ) (f : Fraction) → Phase v f → Edge rest → phase_in (v ++ rest) ≡ found f rest
unfolding or_blank
phase_read v rest f blank g = ap (or_blank rest) (time_none rest (edge_stops g))
phase_read v rest f (time t) g = ap (or_blank (v ++ rest)) (time_read v rest f t g)

phase_plain : (v : List ℕ) (f : Fraction) → Phase v f → NonEscaped v
phase_plain v f blank = NonEscaped.none
phase_plain v f (time t) = time_plain v f t

pub phase_exact : Exact Phase phase_in
phase_exact = record { sound = phase_found; complete = phase_read; tame = phase_plain }
