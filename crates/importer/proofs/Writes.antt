-- What is written to the row, on plain values: the loop over the trains of a listing.
-- Core: more_trains, one_is, one_behind. The rest is the record `Putting` and its laws.
-- Assumes nothing.
use Prim.Native.Nat.{ℕ, suc, ◌+◌, ◌*◌, ◌<◌, ◌≤◌}
use mathlib.Core.Path.{◌≡◌, refl, sym, ap, ◌∙◌}
use mathlib.Core.List.{List, [], ◌∷◌, map}
use native.Mathlib.Nat.{add-zero}
use native.Mathlib.Omega.{arith}
use lib.ListN.{length, get_or, drop, length-drop, length-map}
use lib.Seq.{drop-drop, get_or-drop}
use Rattle.lent.specs.Lent.{over, fitted}
use Rattle.lent.proofs.Over.{fitted_room}
use Rattle.lent.proofs.Records.{Writing, writing_begins, writing_on, writing_ends}
use Rattle.decimal.specs.Answer.{nothing, found}
use Rattle.table.specs.declared.Entry.{Entry}
use Rattle.table.specs.Row.{numbers, no_entry, numbers_of, row_of, lowest_entry}
use Rattle.table.proofs.Rows.{lowest_at}
use Rattle.listing.specs.Answer.{entry_in, Listed, bad, trains, one_more, entries_from, trains_of}
use Rattle.listing.proofs.Texts.{entries_in, entries_bad, entries_on, never, trains_are}
use Rattle.importer.specs.Inside.{listed_from, Ready}

-- ---- Core laws

-- the trains behind one that was read
record Split (a : Entry) (x : Listed) (gs : List Entry) : Type 0 where
  others : List Entry
  listed_others : x ≡ trains others
  whole : gs ≡ a ∷ others

more_trains : (a : Entry) (x : Listed) (gs : List Entry) → one_more a x ≡ trains gs → Split a x gs
unfolding one_more
more_trains a (bad k) gs e = absurd (never k gs e)
more_trains a (trains fs) gs e = record { others = fs; listed_others = refl; whole = trains_are gs (a ∷ fs) (sym e) }

module _ (es : List Entry) (i : ℕ) (a : Entry) (fs : List Entry) (e : drop i es ≡ a ∷ fs) where
  one_is : a ≡ get_or es i no_entry
  one_is =
      sym (ap (λ (l : List Entry). get_or l 0 no_entry) e) ∙ get_or-drop i es 0 no_entry
      ∙ ap (λ (k : ℕ). get_or es k no_entry) (add-zero i)

  one_behind : drop (i + 1) es ≡ fs
  one_behind = sym (drop-drop 1 i es) ∙ ap (drop 1) e

-- where trains are left, a good record stands there
left_good : (number : ℕ) (l : List ℕ) (gs : List Entry) → entries_in number l ≡ trains gs → 0 < length gs → nothing ≡ entry_in l → ⊥
unfolding entries_from
left_good number [] gs e h gone = let none : [] ≡ gs = trains_are [] gs e in omega (arith, ap length none)
left_good number (b ∷ bs) gs e h gone = never number gs (sym (entries_bad number (b ∷ bs) (omega arith) (sym gone)) ∙ e)

-- ---- The loop over the trains

-- The trains up to this position are written in lowest terms, and those behind it are still to be read.
pub record Putting (es : List Entry) (before now rest : List ℕ) (position : ℕ) : Type 0 where
  pub number : ℕ
  pub left : entries_in number rest ≡ trains (drop position es)
  pub writing : Writing numbers_of numbers (λ e. refl) (map lowest_entry es) 0 before now position
  pub long : length now ≡ length before
  pub room : length es * numbers ≤ length before

pub putting_begins :
    (records row : List ℕ) (count : ℕ) → Ready (listed_from records) count (length row) →
    Putting (trains_of (listed_from records)) row row records 0
putting_begins records row count ready =
    record {
      number = 2;
      left = ready.good;
      writing = writing_begins numbers_of numbers (λ e. refl) _ 0 row;
      long = refl;
      room = omega (arith, ready.counted, ready.fits);
    }

module _ (es : List Entry) (before now rest : List ℕ) (position : ℕ) (so_far : Putting es before now rest position) where
  module _ (within : position < length es) where
    pub putting_never : nothing ≡ entry_in rest → ⊥
    putting_never e = left_good so_far.number rest (drop position es) so_far.left (omega (arith, length-drop position es)) e

    pub putting_room : position * numbers + numbers ≤ length now
    putting_room = omega (arith, so_far.room, so_far.long)

    pub putting_on :
        (a : Entry) (next : List ℕ) → found a next ≡ entry_in rest → (low : Entry) → low ≡ lowest_entry a → (now2 : List ℕ) →
        now2 ≡ fitted now (position * numbers) (numbers_of low) → length now2 ≡ length now → Putting es before now2 next (position + 1)
    putting_on a next e low low_is now2 wrote same =
        let split : Split a (entries_in (suc so_far.number) next) (drop position es) =
        more_trains a (entries_in (suc so_far.number) next) (drop position es)
        (sym (entries_on so_far.number rest next a (sym e)) ∙ so_far.left) in
        record {
          number = suc so_far.number;
          left = split.listed_others ∙ ap trains (sym (one_behind es position a split.others split.whole));
          writing =
              writing_on numbers_of numbers (λ x. refl) (map lowest_entry es) 0 before now now2 position (position * numbers) low no_entry
              (omega (arith, length-map es lowest_entry)) (omega arith) (omega arith)
              (low_is ∙ ap lowest_entry (one_is es position a split.others split.whole) ∙ sym (lowest_at es position))
              so_far.writing (wrote ∙ fitted_room now (position * numbers) (numbers_of low) putting_room);
          long = same ∙ so_far.long;
          room = so_far.room;
        }

  pub putting_ends : length es ≤ position → now ≡ over before 0 (row_of (map lowest_entry es))
  putting_ends h =
      writing_ends numbers_of numbers (λ x. refl) (map lowest_entry es) 0 before now position
      (omega (arith, length-map es lowest_entry)) so_far.writing
