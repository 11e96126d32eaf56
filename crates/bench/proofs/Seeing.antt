-- Whether a call was refused is seen by the kind of its number, and by the refusal's number in it.
-- Core: seen_refused and seen_plain, the two kinds of answers. The rest goes through the answers.
-- Assumes nothing.
use Prim.Native.Nat.{ℕ, ◌<◌}
use mathlib.Core.Path.{◌≡◌, refl, ap}
use native.Mathlib.Omega.{arith}
use Rattle.std.specs.Prelude.{Result, Ok, Err}
use Rattle.refusal.specs.declared.Refusal.{Refusal}
use Rattle.refusal.proofs.Promises.{number_some}
use Rattle.judge.specs.declared.Verdict.{Verdict}
use Rattle.judge.specs.declared.Verdict.TheVariants as verdicts
use Rattle.dispatcher.specs.declared.Tick.{Tick}
use Rattle.dispatcher.specs.declared.Tick.TheVariants as ticks
use Rattle.bench.specs.Answer.{Parts, code, Fits, plain, refused_parts, verdict_parts, value_parts, withdrawal_parts, tick_parts, Seen}
use Rattle.bench.proofs.Fitting.{told}

-- ---- Core laws

module _ {R : Type 0} where
  seen_refused : (r : Refusal) → Fits (refused_parts r) → R → Seen R (code (refused_parts r))
  seen_refused r fits so =
      let same = told (refused_parts r) fits in
      record {
        by_kind = (λ x. ap (λ (p : Parts). p.kind) same, λ x. so);
        by_number = (λ x. omega (arith, ap (λ (p : Parts). p.number) same, number_some r), λ x. so);
      }

  -- no other kind is 0; that there is no refusal is said by two numbers that would be one
  seen_plain : (kind value : ℕ) → 0 < kind → Fits (plain kind value) → (R → ◌≡◌ {A = ℕ} 0 1) → Seen R (code (plain kind value))
  seen_plain kind value some fits not =
      let same = told (plain kind value) fits in
      record {
        by_kind = (λ x. absurd (omega (arith, not x)), λ e. absurd (omega (arith, ap (λ (p : Parts). p.kind) same, e)));
        by_number = (λ x. absurd (omega (arith, not x)), λ e. absurd (omega (arith, ap (λ (p : Parts). p.number) same, e)));
      }

-- ---- The answers

pub verdict_seen : (v : Verdict) → Fits (verdict_parts v) → Seen ((r : Refusal) × (v ≡ verdicts.Refused r)) (code (verdict_parts v))
verdict_seen (verdicts.Accepted f) fits = seen_plain _ _ (omega arith) fits (λ x. let e = x.1 in cc)
verdict_seen (verdicts.Collide m f) fits = seen_plain _ _ (omega arith) fits (λ x. let e = x.1 in cc)
verdict_seen (verdicts.Refused r) fits = seen_refused r fits (r, refl)

pub value_seen : (a : Result ℕ Refusal) → Fits (value_parts a) → Seen ((r : Refusal) × (a ≡ Err r)) (code (value_parts a))
value_seen (Ok n) fits = seen_plain _ _ (omega arith) fits (λ x. let e = x.1 in cc)
value_seen (Err r) fits = seen_refused r fits (r, refl)

pub withdrawal_seen :
    (w : Result (Unit {0}) Refusal) → Fits (withdrawal_parts w) → Seen ((r : Refusal) × (w ≡ Err r)) (code (withdrawal_parts w))
withdrawal_seen (Ok done) fits = seen_plain _ _ (omega arith) fits (λ x. let e = x.1 in cc)
withdrawal_seen (Err r) fits = seen_refused r fits (r, refl)

pub tick_seen : (t : Result Tick Refusal) → Fits (tick_parts t) → Seen ((r : Refusal) × (t ≡ Err r)) (code (tick_parts t))
tick_seen (Ok ticks.Idle) fits = seen_plain _ _ (omega arith) fits (λ x. let e = x.1 in cc)
tick_seen (Ok (ticks.Starts q)) fits = seen_plain _ _ (omega arith) fits (λ x. let e = x.1 in cc)
tick_seen (Ok (ticks.GoesOn q)) fits = seen_plain _ _ (omega arith) fits (λ x. let e = x.1 in cc)
tick_seen (Err r) fits = seen_refused r fits (r, refl)
