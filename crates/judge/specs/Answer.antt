-- The functions that the contracts cite. Promises says what they have to do with the words of Pairs.
--     tick_of common     the tick of a pair that collides
--     free_pair train p  whether a pair is free of collision
--     Found              what some pairs say: the count of all, or the first that collides
--     collides_at p d    that a pair collides, with the count up to and including it
--     scan train ps d    what some pairs say, where so many divisions were counted before
--     found L train f    the verdict of what was found
--     judged o L ts      the verdict on the trains of a table that passes, or its refusal
--     verdict row        the verdict on a row, as `judge` answers it
use Rattle.std.specs.Prelude.{ℕ, ◌+◌, Bool, cond, List, [], ◌∷◌, length, Option, None, Some, Result, Ok, Err}
use Rattle.train.specs.declared.Train.{Train}
use Rattle.train.specs.Answer.{free, earliest}
use Rattle.table.specs.Row.{entries, multiple, trains}
use Rattle.table.specs.Answer.{Outcome, refusal}
use Rattle.judge.specs.declared.Collision.{Collision}
use Rattle.judge.specs.declared.Verdict.{Verdict}
use Rattle.judge.specs.declared.Verdict.TheVariants.{Accepted, Collide, Refused}
use Rattle.judge.specs.Pairs.{train_at, Places, pairs, divisions_of}

-- The tick of a pair. (A pair that collides has one: `collide_exactly`.)
abbrev pub tick_of : Option ℕ → ℕ
tick_of None = 0
tick_of (Some t) = t

-- Whether a pair is free of collision.
abbrev pub free_pair : (ℕ → Train) → Places → Bool
free_pair train p = free (train p.first) (train p.second)

-- What some pairs say: all are free, with their division count, or the first that collides, with the count up to and including it.
abbrev pub Found : Type 0
Found = Result ℕ Collision

-- That a pair is the first that collides, with the count up to and including it.
abbrev pub collides_at : Places → ℕ → Found
collides_at p d = Err (record { first = p.first; second = p.second; divisions = d })

-- The pairs one after the other, each adding its division count, up to and including the first that collides.
unfoldable pub scan : (ℕ → Train) → List Places → ℕ → Found
scan train [] d = Ok d
scan train (p ∷ ps) d =
    cond (free_pair train p) (scan train ps (d + divisions_of train p)) (collides_at p (d + divisions_of train p))

-- What was found, with L and the earliest tick.
abbrev pub found : ℕ → (ℕ → Train) → Found → Verdict
found L train (Ok d) = Accepted (record { multiple = L; divisions = d })
found L train (Err c) =
    Collide (record { first = c.first; second = c.second; tick = tick_of (earliest (train c.first) (train c.second)) })
    (record { multiple = L; divisions = c.divisions })

-- A refusal, or the verdict on the trains.
abbrev pub judged : Outcome → ℕ → List Train → Verdict
judged (Ok _) L ts = found L (train_at ts) (scan (train_at ts) (pairs (length ts)) 0)
judged (Err r) L ts = Refused r

-- What `judge` answers.
unfoldable pub verdict : List ℕ → Verdict
verdict row = judged (refusal row) (multiple (entries row)) (trains row)
