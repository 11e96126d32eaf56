-- The ways through the round trips, on plain values: one law for each return, and that what is lent to the second call fits.
-- Core: kept_stops, kept_within, kept_loads, again_stops, again_within, again_saves.
-- Assumes nothing.
use Prim.Native.Nat.{ℕ, ◌*◌, ◌<◌, ◌≤◌}
use mathlib.Core.Path.{◌≡◌, refl, sym, ap, ◌∙◌}
use mathlib.Core.Bool.{Bool, true, false}
use mathlib.Core.List.{List, map}
use native.Mathlib.Omega.{arith}
use lib.Dec.{ltb}
use lib.ListN.{length, take, length-map}
use borrow.Author.Tests.{le-ltb, ltb-true, ltb-false}
use Rattle.std.specs.Prelude.{Result, Ok, Err}
use Rattle.refusal.specs.declared.Refusal.{Refusal}
use Rattle.refusal.specs.declared.Refusal.TheVariants.{BufferTooShort}
use Rattle.table.specs.declared.Entry.{Entry}
use Rattle.table.specs.Row.{numbers, longest_row, entries, lowest_entry}
use Rattle.table.specs.Answer.{Outcome, test, or_else, first_refusal, checked}
use Rattle.table.proofs.Entries.{entries_few}
use Rattle.table.proofs.Following.{checked_length}
use Rattle.stored.specs.Layout.{length_of, longest, Bytes}
use Rattle.stored.specs.Found.{trains_in}
use Rattle.stored.specs.Answer.{save_check, saved, saved_in, head_check, stored_check, load_check, loaded, loaded_in}
use Rattle.stored.proofs.Following.{answer_refused, answer_value}
use Rattle.stored.proofs.Saving.{save_short}
use Rattle.stored.proofs.Loading.{both_pass, load_short}
use Rattle.stored.proofs.Accepted.{accepted, stored_loads}
use Rattle.stored.proofs.RoundTrip.{written, saved_file, load_after_save, save_longest, save_after_load}
use Rattle.round.specs.Answer.{kept, kept_in, again, again_in}

-- ---- Another room

-- a row that one buffer takes is given 8 for another that is too short for it
save_room :
    (row : List ℕ) (room other n : ℕ) → saved row other ≡ Ok n → room < n → saved row room ≡ Err BufferTooShort
save_room row room other n e short =
    let w = written row other n e in
    sym (save_short row (sym w.passes) room (omega (arith, w.count)))

-- a file that one row takes is given 8 for another that is too short for it
load_room :
    (bs : List ℕ) (room other k : ℕ) → loaded bs other ≡ Ok k → room < k * numbers →
    loaded bs room ≡ Err BufferTooShort
unfolding load_check
load_room bs room other k e short =
    let answer = (answer_value _ _ k).0 e in
    let head = both_pass (head_check bs) _ answer.0 in
    let trains = both_pass (first_refusal stored_check 0 (trains_in bs)) _ head.1 in
    sym (load_short bs room (sym head.0) (sym trains.0) (omega (arith, answer.1)))

-- ---- A row, saved and loaded again

-- a buffer with room for the longest stored table is never too short: only the row is refused
never_short : (row : List ℕ) (room : ℕ) → longest ≤ room → save_check row room ≡ checked row
unfolding save_check
never_short row room long = go (checked row) refl
  where
    go : (o : Outcome) → o ≡ checked row → or_else o (test (ltb room (length_of (length (entries row)))) BufferTooShort) ≡ o
    go (Ok _) e = simp (le-ltb room (length_of (length (entries row))) (omega (arith, entries_few row (checked_length row (sym e)))))
    go (Err r) e = refl

-- a refusal of saving is handed on
pub kept_stops : (row : List ℕ) (room other : ℕ) → longest ≤ other → (r : Refusal) → Err r ≡ saved row other → Err r ≡ kept row room
unfolding kept
kept_stops row room other long r e =
    let refused : checked row ≡ Err r = sym (never_short row other long) ∙ (answer_refused (save_check row other) _ r).0 (sym e) in
    rw refused refl

-- of a row that passes there is only the room to be looked at
kept_passed :
    (row : List ℕ) (room : ℕ) (b : Bool) → checked row ≡ Ok tt → ltb room (length (entries row) * numbers) ≡ b →
    kept row room ≡ or_else (test b BufferTooShort) (Ok (length (entries row)))
unfolding kept
kept_passed row room b passes e = rw (passes, e) refl

module _ (row : List ℕ) (room : ℕ) (long : longest ≤ room) (n : ℕ) (wrote : Ok n ≡ saved row room) where
  -- what was written is a part of the buffer
  pub kept_within : n ≤ room
  kept_within = omega (arith, long, save_longest row room n (sym wrote))

  pub kept_loads :
      (out bytes before back : List ℕ) (r : Result ℕ Refusal) → length out ≡ room → bytes ≡ saved_in (Ok n) row out →
      r ≡ loaded (take n bytes) (length before) → back ≡ loaded_in r (take n bytes) before →
      (r ≡ kept row (length before)) × (back ≡ kept_in r row before)
  unfolding loaded_in kept_in
  kept_loads out bytes before back r out-long bytes-are r-is back_is = go (ltb (length before) (count * numbers)) refl
    where
      count : ℕ
      count = length (entries row)

      es : List Entry
      es = map lowest_entry (entries row)

      file : List ℕ
      file = take n (saved_in (Ok n) row out)

      saves_it : saved row (length out) ≡ Ok n
      saves_it = ap (saved row) out-long ∙ sym wrote

      passes : checked row ≡ Ok tt
      passes = (written row (length out) n saves_it).passes

      whole : take n bytes ≡ file
      whole = ap (take n) bytes-are

      -- the answer of loading is the one that the contract states
      agree :
          (a : Result ℕ Refusal) → loaded file (length before) ≡ a → kept row (length before) ≡ a →
          loaded_in a file before ≡ kept_in a row before →
          (r ≡ kept row (length before)) × (back ≡ kept_in r row before)
      agree a l k same = (cc (whole), cc (whole))

      go : (b : Bool) → ltb (length before) (count * numbers) ≡ b → (r ≡ kept row (length before)) × (back ≡ kept_in r row before)
      go true e =
          let fits : loaded file (length es * numbers) ≡ Ok count =
          stored_loads file es (length es * numbers) (saved_file row out n saves_it) (omega arith)
          ∙ ap Ok (length-map (entries row) lowest_entry) in
          agree (Err BufferTooShort)
          (load_room file (length before) (length es * numbers) count fits (ltb-true (length before) (count * numbers) e))
          (kept_passed row (length before) true passes e) refl
      go false e =
          let trip = load_after_save row out before n saves_it (ltb-false (length before) (count * numbers) e) in
          agree (Ok count) trip.0 (kept_passed row (length before) false passes e) trip.1

-- ---- A stored table, loaded and saved again

-- a refusal of loading is handed on
pub again_stops : (bs : List ℕ) (room : ℕ) (r : Refusal) → Err r ≡ loaded bs longest_row → Err r ≡ again bs room
unfolding again
again_stops bs room r e =
    let refused : load_check bs longest_row ≡ Err r = (answer_refused (load_check bs longest_row) _ r).0 (sym e) in
    rw refused refl

-- of a file that is loaded there is only the room to be looked at
again_passed :
    (bs : List ℕ) (room : ℕ) (b : Bool) → load_check bs longest_row ≡ Ok tt → ltb room (length bs) ≡ b →
    again bs room ≡ or_else (test b BufferTooShort) (Ok (length bs))
unfolding again
again_passed bs room b passes e = rw (passes, e) refl

module _ (bs : List ℕ) (k : ℕ) (read : Ok k ≡ loaded bs longest_row) where
  -- what was loaded is a part of the row
  pub again_within : k * numbers ≤ longest_row
  again_within = (accepted bs longest_row k (sym read)).fits

  pub again_saves :
      (before row out now : List ℕ) (s : Result ℕ Refusal) → Bytes bs → length before ≡ longest_row → row ≡ loaded_in (Ok k) bs before →
      s ≡ saved (take (k * numbers) row) (length out) → now ≡ saved_in s (take (k * numbers) row) out →
      (s ≡ again bs (length out)) × (now ≡ again_in s bs out)
  unfolding saved_in again_in
  again_saves before row out now s bytes row-long row_is s-is now-is = go (ltb (length out) (length bs)) refl
    where
      trains : List ℕ
      trains = take (k * numbers) (loaded_in (Ok k) bs before)

      loads_it : loaded bs (length before) ≡ Ok k
      loads_it = ap (loaded bs) row-long ∙ sym read

      passes : load_check bs longest_row ≡ Ok tt
      passes = ((answer_value _ _ k).0 (sym read)).0

      whole : take (k * numbers) row ≡ trains
      whole = ap (take (k * numbers)) row_is

      -- the answer of saving is the one that the contract states
      agree :
          (a : Result ℕ Refusal) → saved trains (length out) ≡ a → again bs (length out) ≡ a → saved_in a trains out ≡ again_in a bs out →
          (s ≡ again bs (length out)) × (now ≡ again_in s bs out)
      agree a l g same = (cc (whole), cc (whole))

      go : (b : Bool) → ltb (length out) (length bs) ≡ b → (s ≡ again bs (length out)) × (now ≡ again_in s bs out)
      go true e =
          let fits = (save_after_load bs before bs k bytes loads_it (omega arith)).0 in
          agree (Err BufferTooShort)
          (save_room trains (length out) (length bs) (length bs) fits (ltb-true (length out) (length bs) e))
          (again_passed bs (length out) true passes e) refl
      go false e =
          let trip = save_after_load bs before out k bytes loads_it (ltb-false (length out) (length bs) e) in
          agree (Ok (length bs)) trip.0 (again_passed bs (length out) false passes e) trip.1
