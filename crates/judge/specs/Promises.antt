-- What is proved of verdicts, a line each; proofs/Promises.antt proves the whole record.
use Rattle.std.specs.Prelude.{ℕ, ◌+◌, ◌*◌, ◌-◌, ◌≤◌, ◌≡◌, ◌↔◌, List, ◌∷◌, ◌++◌, length, Ok}
use Rattle.refusal.specs.declared.Refusal.{Refusal}
use Rattle.refusal.specs.Paper as refusals
use Rattle.refusal.specs.Order.{First}
use Rattle.train.specs.Claims.{Both, Least}
use Rattle.table.specs.Row.{capacity, entries, multiple, trains, SameRow}
use Rattle.table.specs.Given.{order}
use Rattle.table.specs.Answer.{refusal}
use Rattle.judge.specs.Pairs.{train_at, Schedulable, Places, Before, PairOf, FirstPair, pairs, In, total, SummedTo}
use Rattle.judge.specs.Paper.{accept, collide, refuse, paper}
use Rattle.judge.specs.Answer.{verdict}

pub record Promises : Type 0 where
  -- The list of pairs has all pairs of n trains, and in front of each stand exactly those that come before it. There are
  -- n·(n - 1)/2 of them, and 2,016 of a full table.
  pub pairs_all : (n : ℕ) (p : Places) → In p (pairs n) ↔ PairOf n p
  pub pairs_before :
      (n : ℕ) (before behind : List Places) (p : Places) → pairs n ≡ before ++ p ∷ behind →
      (q : Places) → In q before ↔ (PairOf n q × Before q p)
  pub pairs_count : (n : ℕ) → length (pairs n) * 2 ≡ n * (n - 1)
  pub pairs_most : length (pairs capacity) ≡ 2_016
  -- A row is refused with a number and a train exactly when the paper says, and with no other number or train.
  pub refuse_exactly :
      (row : List ℕ) (r : Refusal) →
      (paper (verdict row) ≡ refuse (refusals.paper r).number (refusals.paper r).place) ↔ First (order row) r
  pub refuse_only :
      (row : List ℕ) (number train : ℕ) → paper (verdict row) ≡ refuse number train →
      (r : Refusal) × First (order row) r × (refusals.paper r ≡ record { number = number; place = train })
  -- A row is accepted exactly when it is not refused and its table is schedulable.
  pub accept_schedulable :
      (row : List ℕ) → ((L d : ℕ) × (paper (verdict row) ≡ accept L d)) ↔ ((refusal row ≡ Ok tt) × Schedulable (trains row))
  -- Positions i and j and tick t are shown exactly when the row is not refused, (i, j) is the first pair that collides, and t is
  -- the earliest tick that the two claim together.
  pub collide_exactly :
      (row : List ℕ) (i j t : ℕ) →
      ((L d : ℕ) × (paper (verdict row) ≡ collide i j t L d))
      ↔ ((refusal row ≡ Ok tt) × FirstPair (trains row) (record { first = i; second = j })
      × Least (Both (train_at (trains row) i) (train_at (trains row) j)) t)
  -- L is the table's, and the division count is summed over the pairs in order, all of them or up to and including the first
  -- that collides.
  pub accept_figures :
      (row : List ℕ) (L d : ℕ) → paper (verdict row) ≡ accept L d →
      (L ≡ multiple (entries row)) × (d ≡ total (train_at (trains row)) (pairs (length (trains row))))
  pub collide_figures :
      (row : List ℕ) (i j t L d : ℕ) → paper (verdict row) ≡ collide i j t L d →
      (L ≡ multiple (entries row)) × SummedTo (trains row) (record { first = i; second = j }) d
  -- No pair takes more than 33, so the count is at most 33 for each of the pairs that are summed ..
  pub accept_divisions_per_pair :
      (row : List ℕ) (L d : ℕ) → paper (verdict row) ≡ accept L d → d ≤ 33 * length (pairs (length (trains row)))
  pub collide_divisions_per_pair :
      (row : List ℕ) (i j t L d : ℕ) → paper (verdict row) ≡ collide i j t L d →
      (s : SummedTo (trains row) (record { first = i; second = j }) d) → d ≤ 33 * (length s.before + 1)
  -- .. and no table takes more than 66,528, which is 33 for each pair of a full one.
  pub accept_divisions : (row : List ℕ) (L d : ℕ) → paper (verdict row) ≡ accept L d → d ≤ 66_528
  pub collide_divisions : (row : List ℕ) (i j t L d : ℕ) → paper (verdict row) ≡ collide i j t L d → d ≤ 66_528
  -- Writing the times of a row over other denominators does not change its verdict.
  pub verdict_same : (row row' : List ℕ) → SameRow row row' → verdict row ≡ verdict row'
