-- Two examples of the source document's instants that are not the earliest common tick.
-- Assumes nothing.
use Prim.Native.Nat.{◌+◌, ◌*◌}
use mathlib.Core.Path.{◌≡◌, refl}
use native.Mathlib.Omega.{arith}
use Rattle.euclid.specs.Divisor.{Bezout}
use Rattle.euclid.specs.Answer.{euclid_within, euclid, gcd, lcm}
use Rattle.train.specs.declared.Train.{Train}
use Rattle.train.specs.Claims.{Limits, Both, Least}
use Rattle.train.specs.Instants.{train, instant_late, instant_early}
use Rattle.train.specs.Answer.{within_limits, claims, both, first_from, earliest}
use Rattle.train.proofs.Limits.{within_limits_lem}
use Rattle.train.proofs.Korst.{instant_late_lem, instant_early_lem}
use Rattle.train.proofs.Least.{earliest_at}

-- (10) of (0,5,1) and (4,7,1), a stroke of the later train
pub instant_late_not_earliest :
    (5 * 3 ≡ 7 * 2 + gcd 5 7) × (instant_late (train 0 5 1) (train 4 7 1) 2 ≡ 60) × Both (train 0 5 1) (train 4 7 1) 60
    × Least (Both (train 0 5 1) (train 4 7 1)) 25
unfolding euclid_within euclid gcd lcm within_limits claims both first_from earliest
instant_late_not_earliest =
    let a : Train = train 0 5 1 in
    let b : Train = train 4 7 1 in
    let la : Limits a = within_limits_lem a refl in
    let lb : Limits b = within_limits_lem b refl in
    let w : Bezout 5 7 (gcd 5 7) = record { u = 3; v = 2; is = refl } in
    (refl, refl, instant_late_lem a b la.strict lb.strict (omega arith) w (omega arith), (earliest_at a b la lb 25).0 refl)

-- (12) of (0,4,1) and (5,6,2), a stroke of the earlier train
pub instant_early_not_earliest :
    (4 * 2 ≡ 6 * 1 + gcd 4 6) × (instant_early (train 0 4 1) (train 5 6 2) 2 ≡ 24) × Both (train 0 4 1) (train 5 6 2) 24
    × Least (Both (train 0 4 1) (train 5 6 2)) 12
unfolding euclid_within euclid gcd lcm within_limits claims both first_from earliest
instant_early_not_earliest =
    let a : Train = train 0 4 1 in
    let b : Train = train 5 6 2 in
    let la : Limits a = within_limits_lem a refl in
    let lb : Limits b = within_limits_lem b refl in
    let w : Bezout 4 6 (gcd 4 6) = record { u = 2; v = 1; is = refl } in
    (refl, refl, instant_early_lem a b la.strict lb.strict (omega arith) w (omega arith), (earliest_at a b la lb 12).0 refl)
