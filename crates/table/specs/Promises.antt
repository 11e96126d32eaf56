-- What is proved of tables, a line each; proofs/Promises.antt proves the whole record.
use Rattle.std.specs.Prelude.{ℕ, ◌*◌, ◌/◌, ◌<◌, ◌≤◌, ◌≡◌, ◌↔◌, List, [], ◌∷◌, ◌++◌, length, get_or}
use Rattle.refusal.specs.Paper.{passes, refuse}
use Rattle.refusal.specs.Order.{None, Gives, refusals_of, at_each}
use Rattle.fraction.specs.declared.Fraction.{Fraction}
use Rattle.fraction.specs.Value.{IsCommonMultiple}
use Rattle.fraction.specs.Answer.{lowest, limit}
use Rattle.train.specs.Claims.{Limits}
use Rattle.table.specs.declared.Entry.{Entry}
use Rattle.table.specs.Row.{capacity, numbers, entry_at, entries, no_entry, denominators, tick, trains, ExactTrain, SameTime, SameRow}
use Rattle.table.specs.Given.{train_checks, checked_order, order}
use Rattle.table.specs.Paper.{paper}
use Rattle.table.specs.Answer.{entry_check, checked, refusal, no_train, reading}

pub record Promises : Type 0 where
  -- A row has a train for each six of its numbers, and they stand in its order.
  pub entries_count : (row : List ℕ) → length (entries row) ≡ length row / numbers
  pub entries_stand : (row : List ℕ) (i : ℕ) → i < length row / numbers → get_or (entries row) i no_entry ≡ entry_at row (i * numbers)
  -- What is looked for, in its turn: 2, 3, 4 of a train; 1, which names no train, and then train by train 2, 3, 4; and behind these 5 of each
  -- train, then 6 of each.
  pub train_in_order : (i : ℕ) (e : Entry) → refusals_of (train_checks i e) ≡ refuse 2 i ∷ refuse 3 i ∷ refuse 4 i ∷ []
  pub checked_in_order :
      (row : List ℕ) →
      refusals_of (checked_order row) ≡ refuse 1 64 ∷ at_each (λ i. refuse 2 i ∷ refuse 3 i ∷ refuse 4 i ∷ []) 0 (length (entries row))
  pub row_in_order :
      (row : List ℕ) →
      refusals_of (order row)
      ≡ refusals_of (checked_order row)
      ++ at_each (λ i. refuse 5 i ∷ []) 0 (length (entries row))
      ++ at_each (λ i. refuse 6 i ∷ []) 0 (length (entries row))
  -- A number and a train are given exactly when the first condition of the order that holds is one for them; none is given exactly when no
  -- condition holds.
  pub refused_exactly : (row : List ℕ) (number train : ℕ) → (paper (refusal row) ≡ refuse number train) ↔ Gives (order row) number train
  pub passed_exactly : (row : List ℕ) → (paper (refusal row) ≡ passes) ↔ None (order row)
  -- The same of `check`, which looks at 1 to 4 alone.
  pub checked_exactly : (row : List ℕ) (number train : ℕ) → (paper (checked row) ≡ refuse number train) ↔ Gives (checked_order row) number train
  pub checked_passed : (row : List ℕ) → (paper (checked row) ≡ passes) ↔ None (checked_order row)
  -- The same of `Entry::check`, for one train by itself: 2, then 3, then 4.
  pub entry_exactly :
      (i : ℕ) (e : Entry) (number train : ℕ) → (paper (entry_check i e) ≡ refuse number train) ↔ Gives (train_checks i e) number train
  pub entry_passed : (i : ℕ) (e : Entry) → (paper (entry_check i e) ≡ passes) ↔ None (train_checks i e)
  -- The tick is 1/L, where L is the least common multiple of all denominators after reduction, and is at most 1,000,000.
  pub tick_multiple :
      (row : List ℕ) →
      ((tick (entries row)).numerator ≡ 1) × IsCommonMultiple (denominators (entries row)) (tick (entries row)).denominator
  pub tick_limit : (row : List ℕ) → paper (refusal row) ≡ passes → (tick (entries row)).denominator ≤ limit
  -- The trains of a row that passes are its times in ticks, with nothing lost; there are at most 64, each within the limits.
  pub trains_count :
      (row : List ℕ) → paper (refusal row) ≡ passes → (length (trains row) ≡ length (entries row)) × (length (trains row) ≤ capacity)
  pub trains_exact :
      (row : List ℕ) (i : ℕ) → paper (refusal row) ≡ passes → i < length (entries row) →
      ExactTrain (tick (entries row)) (get_or (entries row) i no_entry) (get_or (trains row) i no_train)
  pub trains_limits :
      (row : List ℕ) (i : ℕ) → paper (refusal row) ≡ passes → i < length (trains row) → Limits (get_or (trains row) i no_train)
  -- Lowest terms are the same time; and the terms of its fractions make no difference to the table of a row, refused or not.
  pub lowest_same_time : (f : Fraction) → SameTime f (lowest f)
  pub reading_same : (row row' : List ℕ) → SameRow row row' → reading row ≡ reading row'
