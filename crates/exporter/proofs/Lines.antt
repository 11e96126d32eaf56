-- The loops over the trains of a row: the one that measures their lines, and the one that writes them.
-- Core: lines_next. The rest follows from it.
-- Assumes nothing.
use Prim.Native.Nat.{ℕ, suc, ◌+◌, ◌-◌, ◌*◌, ◌<◌, ◌≤◌}
use mathlib.Core.Path.{◌≡◌, refl, sym, ap, ◌∙◌}
use mathlib.Core.List.{List, [], ◌++◌, append_assoc, append-nil, flat_map}
use native.Mathlib.Numerals.{add-one}
use native.Mathlib.Omega.{arith}
use lib.ListN.{length, get_or, take, drop, length-append, length-drop, drop_of_length-le}
use lib.Seq.{drop-cons, drop-drop}
use borrow.Rule.Slice.PartMut.{put_mid}
use Rattle.std.proofs.lemmas.List.{take_rest}
use Rattle.lent.specs.Lent.{over}
use Rattle.lent.proofs.Over.{over_then, over_front, over_none, length_over}
use Rattle.table.specs.declared.Entry.{Entry}
use Rattle.table.specs.Row.{no_entry}
use Rattle.listing.specs.Layout.{record_text}

-- what is written to the front of what is left of a text is written where that begins
pub over_tail :
    (l vs tail : List ℕ) (at : ℕ) → at + length vs ≤ length l → tail ≡ over (take (length l - at) (drop at l)) 0 vs →
    put_mid at (length l - at) l tail ≡ over l at vs
unfolding over
over_tail l vs tail at h w =
    let behind : tail ≡ vs ++ drop (at + length vs) l =
    w ∙ ap (λ (d : List ℕ). over d 0 vs) (take_rest l at) ∙ over_front (drop at l) vs (length vs) refl
    ∙ ap (λ (us : List ℕ). vs ++ us) (drop-drop (length vs) at l) in
    let none : drop (length l - at) (drop at l) ≡ [] = drop_of_length-le (drop at l) (omega (arith, length-drop at l)) in
    ap (λ (us : List ℕ). take at l ++ (us ++ drop (length l - at) (drop at l))) behind
    ∙ ap (λ (us : List ℕ). take at l ++ ((vs ++ drop (at + length vs) l) ++ us)) none
    ∙ ap (λ (us : List ℕ). take at l ++ us) (append-nil (vs ++ drop (at + length vs) l))
    ∙ sym (append_assoc (take at l) vs (drop (at + length vs) l))

module _ (es : List Entry) where
  -- The lines of the trains from a position on.
  abbrev lines : ℕ → List ℕ
  lines i = flat_map record_text (drop i es)

  module _ (i : ℕ) (h : i < length es) (e : Entry) (e-is : e ≡ get_or es i no_entry) where
    -- those that are left are the next one and those behind it
    lines_next : lines i ≡ record_text e ++ lines (i + 1)
    unfolding flat_map
    lines_next =
        ap (flat_map record_text) (drop-cons es i no_entry h)
        ∙ ap (λ (f : Entry). record_text f ++ flat_map record_text (drop (suc i) es)) (sym e-is)
        ∙ ap (λ (n : ℕ). record_text e ++ flat_map record_text (drop n es)) (sym (add-one i))

    pub next_length : length (lines i) ≡ length (record_text e) + length (lines (i + 1))
    next_length = ap length lines_next ∙ length-append (record_text e) (lines (i + 1))

  no_lines : (i : ℕ) → length es ≤ i → lines i ≡ []
  unfolding flat_map
  no_lines i h = ap (flat_map record_text) (drop_of_length-le es h)

  -- ---- The loop that measures

  -- What was measured and what is left are the whole, and no line is longer than a bound.
  pub record Measuring (width i : ℕ) : Type 0 where
    pub so_far : i ≤ length es
    pub whole : width + length (lines i) ≡ length (flat_map record_text es)
    pub bound : width ≤ i * 127

  pub measuring_begins : Measuring 0 0
  measuring_begins = record { so_far = omega arith; whole = omega arith; bound = omega arith }

  pub measuring_on :
      (width i w : ℕ) (e : Entry) → i < length es → e ≡ get_or es i no_entry → (w ≡ length (record_text e)) × (w ≤ 127) →
      Measuring width i → Measuring (width + w) (i + 1)
  measuring_on width i w e h e-is w-is before =
      record {
        so_far = omega arith;
        whole = omega (arith, before.whole, next_length i h e e-is, w-is.0);
        bound = omega (arith, before.bound, w-is.1);
      }

  pub measuring_ends : (width i : ℕ) → length es ≤ i → Measuring width i → width ≡ length (flat_map record_text es)
  measuring_ends width i h before = omega (arith, before.whole, ap length (no_lines i h))

  -- ---- The loop that writes

  -- Where the lines from i on are written at `end`, all are written at the front.
  pub record Putting (before now : List ℕ) (end i : ℕ) : Type 0 where
    pub so_far : i ≤ length es
    pub same : length now ≡ length before
    pub ends : end + length (lines i) ≡ length (flat_map record_text es)
    pub whole : over now end (lines i) ≡ over before 0 (flat_map record_text es)

  pub putting_begins : (before : List ℕ) → Putting before before 0 0
  putting_begins before = record { so_far = omega arith; same = refl; ends = omega arith; whole = refl }

  module _ (before now : List ℕ) (end i : ℕ) (e : Entry) (room : length (flat_map record_text es) ≤ length before)
      (putting : Putting before now end i) where
    module _ (h : i < length es) (e-is : e ≡ get_or es i no_entry) where
      -- the next line has room
      pub putting_room : end + length (record_text e) ≤ length now
      putting_room = omega (arith, putting.ends, putting.same, next_length i h e e-is)

      pub putting_on :
          (tail : List ℕ) (w : ℕ) → w ≡ length (record_text e) → tail ≡ over (take (length now - end) (drop end now)) 0 (record_text e) →
          Putting before (put_mid end (length now - end) now tail) (end + w) (i + 1)
      putting_on tail w w_is wrote =
          let after : List ℕ = put_mid end (length now - end) now tail in
          let is : after ≡ over now end (record_text e) = over_tail now (record_text e) tail end putting_room wrote in
          record {
            so_far = omega arith;
            same = ap length is ∙ length_over now end (record_text e) putting_room ∙ putting.same;
            ends = omega (arith, putting.ends, next_length i h e e-is);
            whole =
                over_then now after (record_text e) (lines (i + 1)) end (end + w) (omega (arith, putting_room)) (omega arith) is
                ∙ ap (over now end) (sym (lines_next i h e e-is))
                ∙ putting.whole;
          }

    module _ (h : length es ≤ i) where
      pub putting_end : end ≡ length (flat_map record_text es)
      putting_end = omega (arith, putting.ends, ap length (no_lines i h))

      pub putting_ends : now ≡ over before 0 (flat_map record_text es)
      putting_ends = sym (over_none now end) ∙ ap (over now end) (sym (no_lines i h)) ∙ putting.whole
