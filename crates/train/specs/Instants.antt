-- The two instants of source document 001, 4.5.3, at which it shows that two trains collide where expression (1) fails. The train
-- `early` has the earlier phase, p1 <= p2; u and v are any numbers of Bezout's statement, P1·u = P2·v + g.
--     train p P d                   the train with these three times, as the paper writes it: (p,P,d)
--     quotient early late           q, where p2 - p1 = g·q + r: the whole divisors between the phases
--     instant_late early late v     (10): p2 + v·q·P2, a stroke of the later train
--     instant_early early late u    (12): p1 + P1·u·(q + 1), a stroke of the earlier one
use Rattle.std.specs.Prelude.{ℕ, ◌+◌, ◌*◌, ◌-◌, ◌/◌}
use Rattle.euclid.specs.Answer.{gcd}
use Rattle.train.specs.declared.Train.{Train}

-- The train (p,P,d).
abbrev pub train : (p P d : ℕ) → Train
train p P d = record { phase = p; period = P; duration = d }

-- q, where p2 - p1 = g·q + r and r is the offset.
abbrev pub quotient : (early late : Train) → ℕ
quotient early late = (late.phase - early.phase) / gcd early.period late.period

-- (10): t = p2 + v·q·P2, where the first part of expression (1) fails.
abbrev pub instant_late : (early late : Train) (v : ℕ) → ℕ
instant_late early late v = late.phase + v * quotient early late * late.period

-- (12): t = p1 + P1·u·(q + 1), where the last part of expression (1) fails.
abbrev pub instant_early : (early late : Train) (u : ℕ) → ℕ
instant_early early late u = early.phase + early.period * u * (quotient early late + 1)
