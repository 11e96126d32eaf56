-- Every answer that the calls can give has room in the number that is handed back, and is told by it.
-- Core: told, refused_fits, short_row. The rest follows from these, from Naming and from Longest.
-- Assumes nothing.
use Prim.Native.Nat.{ℕ, ◌+◌, ◌/◌, ◌%◌, ◌^◌, ◌<◌, ◌≤◌}
use mathlib.Core.Path.{◌≡◌, refl, ap, subst}
use mathlib.Core.Bool.{Bool, true, false, cond}
use mathlib.Core.List.{List}
use native.Mathlib.Omega.{arith}
use lib.Dec.{ltb}
use lib.ListN.{length}
use Rattle.std.specs.Prelude.{Result, Ok, Err}
use Rattle.refusal.specs.declared.Refusal.{Refusal}
use Rattle.refusal.specs.declared.Refusal.TheVariants.{BufferTooShort}
use Rattle.refusal.specs.Paper as refusals
use Rattle.refusal.proofs.Promises.{number_most}
use Rattle.train.specs.declared.Train.{Train}
use Rattle.train.proofs.Least.{earliest_at, earliest_below}
use Rattle.table.specs.Row.{capacity, longest_row, row_of, trains}
use Rattle.table.specs.Answer.{refusal}
use Rattle.table.proofs.Readings.{trains_length, passed_few, passed_limit, passed_limits}
use Rattle.judge.specs.declared.Verdict.{Verdict}
use Rattle.judge.specs.declared.Verdict.TheVariants as verdicts
use Rattle.judge.specs.Pairs.{train_at}
use Rattle.judge.specs.Paper.{accept, collide, paper}
use Rattle.judge.specs.Answer.{verdict}
use Rattle.judge.proofs.Verdicts.{verdict_refuses}
use Rattle.judge.proofs.Meaning.{accept_schedulable, collide_exactly, accept_figures, collide_figures, accept_divisions, collide_divisions}
use Rattle.stored.specs.Found.{trains_in}
use Rattle.stored.specs.Answer.{saved, loaded}
use Rattle.stored.proofs.Accepted.{accepted}
use Rattle.stored.proofs.RoundTrip.{save_longest}
use Rattle.file.specs.Answer.{verdict_after, file_verdict}
use Rattle.line.specs.Answer.{line_of, answer_for, written}
use Rattle.bench.specs.Answer.{Parts, code, parts, Fits, plain, refused_parts, verdict_parts, value_parts, longest_line}
use Rattle.bench.proofs.Naming.{named_refusal, refusal_named, save_named, load_named}
use Rattle.bench.proofs.Longest.{Short, soon, short_line, room_suffices}

-- ---- Core laws

-- what has room in the number is told by it
pub told : (p : Parts) → Fits p → parts (code p) ≡ p
told p fits = λ i. record { number = n i; kind = k i; value = v i }
  where
    n : code p / 2 ^ 40 ≡ p.number
    n = omega (arith, fits.number, fits.kind, fits.value)

    k : code p / 2 ^ 32 % 256 ≡ p.kind
    k = omega (arith, fits.number, fits.kind, fits.value)

    v : code p % 2 ^ 32 ≡ p.value
    v = omega (arith, fits.number, fits.kind, fits.value)

pub refused_fits : (r : Refusal) → (refusals.paper r).place < 2 ^ 32 → Fits (refused_parts r)
refused_fits r h = record { number = omega (arith, number_most r); kind = omega arith; value = h }

pub plain_fits : (kind value : ℕ) → kind < 256 → value < 2 ^ 32 → Fits (plain kind value)
plain_fits kind value few short = record { number = omega arith; kind = few; value = short }

-- an answer has room if its value has, or the place of its refusal
pub value_fits :
    (a : Result ℕ Refusal) → ((n : ℕ) → a ≡ Ok n → n < 2 ^ 32) → ((r : Refusal) → a ≡ Err r → (refusals.paper r).place < 2 ^ 32) →
    Fits (value_parts a)
value_fits (Ok n) short named = plain_fits _ n (omega arith) (short n refl)
value_fits (Err r) short named = refused_fits r (named r refl)

pub loaded_names : (bs : List ℕ) (room : ℕ) (r : Refusal) → loaded bs room ≡ Err r → (refusals.paper r).place ≤ refusals.none
loaded_names bs room r e = named_refusal (loaded bs room) r (load_named bs room) e

-- ---- Verdicts

-- What is so of every verdict that the calls answer: its refusal names a train below 64, or 64, and its numbers are short.
pub record Proper (v : Verdict) : Type 0 where
  pub named : (r : Refusal) → v ≡ verdicts.Refused r → (refusals.paper r).place ≤ refusals.none
  pub short : Short (paper v)

module _ (row : List ℕ) where
  abbrev at : ℕ → Train
  at i = train_at (trains row) i

  row_named : (r : Refusal) → verdict row ≡ verdicts.Refused r → (refusals.paper r).place ≤ refusals.none
  row_named r e = named_refusal (refusal row) r (refusal_named row) ((verdict_refuses row r).0 e)

  short_row : (v : Verdict) → verdict row ≡ v → Short (paper v)
  short_row (verdicts.Accepted f) e =
      let shown : paper (verdict row) ≡ accept f.multiple f.divisions = ap paper e in
      let passed = ((accept_schedulable row).0 (f.multiple, f.divisions, shown)).0 in (
        omega (arith, (accept_figures row f.multiple f.divisions shown).0, passed_limit row passed),
        omega (arith, accept_divisions row f.multiple f.divisions shown),
      )
  short_row (verdicts.Collide m f) e =
      let shown : paper (verdict row) ≡ collide m.first m.second m.tick f.multiple f.divisions = ap paper e in
      let so = (collide_exactly row m.first m.second m.tick).0 (f.multiple, f.divisions, shown) in
      let few = passed_few row so.0 in
      let first : m.first < length (trains row) = omega (arith, so.1.positions) in
      let second : m.second < length (trains row) = omega (arith, so.1.positions) in
      let la = passed_limits row so.0 m.first (omega (arith, trains_length row)) in
      let lb = passed_limits row so.0 m.second (omega (arith, trains_length row)) in
      let below = earliest_below (at m.first) (at m.second) la lb m.tick
      ((earliest_at (at m.first) (at m.second) la lb m.tick).1 so.2) in
      let figures = collide_figures row m.first m.second m.tick f.multiple f.divisions shown in
      let divisions = collide_divisions row m.first m.second m.tick f.multiple f.divisions shown in (
        omega (arith, trains_length row),
        omega (arith, trains_length row),
        omega (arith, soon (at m.first) (at m.second) la lb),
        omega (arith, figures.0, passed_limit row so.0),
        omega arith,
      )
  short_row (verdicts.Refused r) e = (omega (arith, number_most r), omega (arith, row_named r e))

  pub row_proper : Proper (verdict row)
  row_proper = record { named = row_named; short = short_row (verdict row) refl }

-- a refusal of loading, or the verdict on a row
pub file_proper : (bs : List ℕ) → Proper (file_verdict bs)
unfolding verdict_after
file_proper bs = go (loaded bs longest_row) refl
  where
    go : (l : Result ℕ Refusal) → loaded bs longest_row ≡ l → Proper (verdict_after l bs)
    go (Ok k) e = row_proper (row_of (trains_in bs))
    go (Err r) e =
        let place = loaded_names bs longest_row r e in
        record {
          named = λ q h. let same : r ≡ q = cc in subst (λ (s : Refusal). (refusals.paper s).place ≤ refusals.none) same place;
          short = (omega (arith, number_most r), omega arith);
        }

verdict_fits : (v : Verdict) → Proper v → Fits (verdict_parts v)
verdict_fits (verdicts.Accepted f) proper = plain_fits _ 0 (omega arith) (omega arith)
verdict_fits (verdicts.Collide m f) proper = plain_fits _ 0 (omega arith) (omega arith)
verdict_fits (verdicts.Refused r) proper = refused_fits r (omega (arith, proper.named r refl))

-- the verdict on a row
pub judge_fits : (row : List ℕ) → Fits (verdict_parts (verdict row))
judge_fits row = verdict_fits (verdict row) (row_proper row)

-- the verdict on a stored table
pub judge_stored_fits : (bs : List ℕ) → Fits (verdict_parts (file_verdict bs))
judge_stored_fits bs = verdict_fits (file_verdict bs) (file_proper bs)

-- ---- Lines

pub line_longest : (v : Verdict) → Proper v → length (line_of v) ≤ longest_line
line_longest v proper = short_line (paper v) proper.short

pub line_suffices : (v : Verdict) → Proper v → (room : ℕ) → longest_line ≤ room → written v room ≡ Ok (length (line_of v))
line_suffices v proper room enough = room_suffices v room (line_longest v proper) enough

written_fits : (v : Verdict) (room : ℕ) → Proper v → Fits (value_parts (written v room))
unfolding answer_for
written_fits v room proper = go (ltb room (0 + length (line_of v)))
  where
    go : (b : Bool) → Fits (value_parts (cond b (Err BufferTooShort) (Ok (0 + length (line_of v)))))
    go true = refused_fits BufferTooShort (omega arith)
    go false = plain_fits _ _ (omega arith) (omega (arith, line_longest v proper))

-- the line of a row
pub line_fits : (row : List ℕ) (room : ℕ) → Fits (value_parts (written (verdict row) room))
line_fits row room = written_fits (verdict row) room (row_proper row)

-- the line of a stored table
pub line_stored_fits : (bs : List ℕ) (room : ℕ) → Fits (value_parts (written (file_verdict bs) room))
line_stored_fits bs room = written_fits (file_verdict bs) room (file_proper bs)

-- ---- Stored tables

pub saved_names : (row : List ℕ) (room : ℕ) (r : Refusal) → saved row room ≡ Err r → (refusals.paper r).place ≤ refusals.none
saved_names row room r e = named_refusal (saved row room) r (save_named row room) e

pub save_fits : (row : List ℕ) (room : ℕ) → Fits (value_parts (saved row room))
save_fits row room =
    value_fits (saved row room) (λ n e. omega (arith, save_longest row room n e)) (λ r e. omega (arith, saved_names row room r e))

-- what is loaded is a table, and has no more trains
pub loaded_few : (bs : List ℕ) (room k : ℕ) → loaded bs room ≡ Ok k → k ≤ capacity
loaded_few bs room k e = let found = accepted bs room k e in omega (arith, found.headed.few, found.count)

pub load_fits : (bs : List ℕ) (room : ℕ) → Fits (value_parts (loaded bs room))
load_fits bs room =
    value_fits (loaded bs room) (λ k e. omega (arith, loaded_few bs room k e)) (λ r e. omega (arith, loaded_names bs room r e))
