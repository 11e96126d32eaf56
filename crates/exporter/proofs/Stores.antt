-- What the stores of the private functions write, on plain values: a time, a record, the whole text.
-- Core: whole_at, parts_at, time_whole, time_parts, record_written. The rest puts writes together.
-- Assumes nothing.
use Prim.Native.Nat.{ℕ, ◌+◌, ◌-◌, ◌<◌, ◌≤◌}
use mathlib.Core.Path.{◌≡◌, refl, sym, ap, ◌∙◌}
use mathlib.Core.Bool.{true, false}
use mathlib.Core.List.{List, [], ◌∷◌, ◌++◌, append_assoc, map, flat_map}
use native.Mathlib.Omega.{arith}
use lib.Dec.{leb}
use lib.ListN.{length, set, take, drop, length-append, length-set}
use borrow.Rule.Slice.PartMut.{put_mid}
use borrow.Author.Tests.{eq-eqb, ne_eqb, le-leb, leb-true, leb-false}
use Rattle.std.specs.Prelude.{Ok}
use Rattle.lent.specs.Lent.{over, fitted, end_in}
use Rattle.lent.proofs.Over.{over_more, over_slice, over_then, over_front, length_over, fitted_room, end_room}
use Rattle.decimal.specs.Answer.{decimal}
use Rattle.fraction.specs.declared.Fraction.{Fraction}
use Rattle.fraction.specs.Answer.{lowest}
use Rattle.table.specs.declared.Entry.{Entry}
use Rattle.table.specs.Row.{Words, entries, lowest_entry}
use Rattle.table.specs.Answer.{Outcome, checked}
use Rattle.listing.specs.Grammar.{comma, return, newline}
use Rattle.listing.specs.Means.{slash}
use Rattle.listing.specs.Layout.{time_text, heading_text, record_text, text_of, longest_export}
use Rattle.listing.specs.Answer.{exported, exported_in}
use Rattle.listing.proofs.Layouts.{whole_length, parts_length, line_length, text_length_lem}
use Rattle.listing.proofs.Exporting.{way_written, row_within}
use Rattle.exporter.proofs.Lines.{over_tail}

-- ---- A time

-- its text, from the lowest terms that the code has
module _ (time reduced : Fraction) (lowest_is : reduced ≡ lowest time) where
  same_length : length (time_text reduced) ≡ length (time_text (lowest time))
  same_length = ap (λ (f : Fraction). length (time_text f)) lowest_is

  pub whole_at : reduced.denominator ≡ 1 → length (decimal reduced.numerator) ≡ length (time_text (lowest time))
  whole_at h = whole_length reduced h ∙ same_length

  pub parts_at :
      (reduced.denominator ≡ 1 → ⊥) →
      length (decimal reduced.numerator) + 1 + length (decimal reduced.denominator) ≡ length (time_text (lowest time))
  parts_at h = parts_length reduced h ∙ same_length

  whole_text : reduced.denominator ≡ 1 → decimal reduced.numerator ≡ time_text (lowest time)
  unfolding time_text
  whole_text h = simp (eq-eqb reduced.denominator 1 h) at (ap time_text lowest_is)

  parts_text :
      (reduced.denominator ≡ 1 → ⊥) →
      decimal reduced.numerator ++ (slash ∷ decimal reduced.denominator) ≡ time_text (lowest time)
  unfolding time_text
  parts_text h = simp (ne_eqb reduced.denominator 1 h) at (ap time_text lowest_is)

  module _ (l m : List ℕ) (end : ℕ) (room : length (time_text (lowest time)) ≤ length l)
      (end_is : end ≡ end_in (length l) 0 (decimal reduced.numerator)) (wrote : m ≡ fitted l 0 (decimal reduced.numerator)) where
    -- n alone
    module _ (h : reduced.denominator ≡ 1) where
      alone_fits : 0 + length (decimal reduced.numerator) ≤ length l
      alone_fits = omega (arith, whole_at h)

      pub time_end : end ≡ length (time_text (lowest time))
      time_end = omega (arith, end_is ∙ end_room (length l) 0 (decimal reduced.numerator) alone_fits, whole_at h)

      pub time_whole : m ≡ over l 0 (time_text (lowest time))
      time_whole = wrote ∙ fitted_room l 0 (decimal reduced.numerator) alone_fits ∙ ap (over l 0) (whole_text h)

    module _ (h : reduced.denominator ≡ 1 → ⊥) where
      n_fits : 0 + length (decimal reduced.numerator) ≤ length l
      n_fits = omega (arith, parts_at h)

      -- where the slash stands
      pub slash_at : end ≡ length (decimal reduced.numerator)
      slash_at = omega (arith, end_is ∙ end_room (length l) 0 (decimal reduced.numerator) n_fits)

      -- n, a slash and m
      module _ (same : length m ≡ length l) where
        m_fits : end + 1 + length (decimal reduced.denominator) ≤ length (set m end slash)
        m_fits = omega (arith, parts_at h, slash_at, length-set m end slash ∙ same)

        pub parts_end : (last : ℕ) → last ≡ end_in (length (set m end slash)) (end + 1) (decimal reduced.denominator) → last ≡ length (time_text (lowest time))
        parts_end last last_is =
            last_is ∙ end_room (length (set m end slash)) (end + 1) (decimal reduced.denominator) m_fits ∙ omega (arith, parts_at h, slash_at)

        pub time_parts : (n : List ℕ) → n ≡ fitted (set m end slash) (end + 1) (decimal reduced.denominator) → n ≡ over l 0 (time_text (lowest time))
        time_parts n n_is =
            let p : List ℕ = decimal reduced.numerator in
            let q : List ℕ = decimal reduced.denominator in
            let first : set m end slash ≡ over l 0 (p ++ (slash ∷ [])) =
            over_more l m p 0 end slash (omega (arith, parts_at h, slash_at)) (omega (arith, slash_at)) (wrote ∙ fitted_room l 0 p n_fits) in
            let both : 0 + length (p ++ (slash ∷ [])) ≡ end + 1 = omega (arith, slash_at, length-append p (slash ∷ [])) in
            n_is
            ∙ fitted_room (set m end slash) (end + 1) q m_fits
            ∙ over_then l (set m end slash) (p ++ (slash ∷ [])) q 0 (end + 1) (omega arith) both first
            ∙ ap (over l 0) (append_assoc p (slash ∷ []) q ∙ parts_text h)

-- ---- A record

-- three times, each with what stands behind it, and each written to what is left
module _ (l : List ℕ) (e : Entry) (room : length (record_text (lowest_entry e)) ≤ length l) where
  abbrev phase : List ℕ
  phase = time_text (lowest e.phase)

  abbrev period : List ℕ
  period = time_text (lowest e.period)

  abbrev duration : List ℕ
  duration = time_text (lowest e.duration)

  fits : length phase + 1 + length period + 1 + length duration + 2 ≤ length l
  fits = omega (arith, line_length (lowest_entry e))

  module _ (m : List ℕ) (first : ℕ) (first_is : first ≡ length phase) (w : m ≡ over l 0 phase) where
    behind_first : set m first comma ≡ over l 0 (phase ++ (comma ∷ []))
    behind_first = over_more l m phase 0 first comma (omega (arith, fits)) (omega arith) w

    module _ (tail : List ℕ) (p : ℕ) (p_is : p ≡ length period) where
      abbrev second : ℕ
      second = first + 1 + p

      abbrev with_second : List ℕ
      with_second = put_mid (first + 1) (length (set m first comma) - (first + 1)) (set m first comma) tail

      module _
          (w2 : tail ≡ over (take (length (set m first comma) - (first + 1)) (drop (first + 1) (set m first comma))) 0 period)
        where
          behind_second : set with_second second comma ≡ over l 0 (phase ++ (comma ∷ []) ++ period ++ (comma ∷ []))
          behind_second =
              let t : List ℕ = phase ++ (comma ∷ []) in
              let here : 0 + length t ≡ first + 1 = omega (arith, length-append phase (comma ∷ [])) in
              let same : length (set m first comma) ≡ length l = ap length behind_first ∙ length_over l 0 t (omega (arith, fits)) in
              let wrote : with_second ≡ over l 0 (t ++ period) =
              over_tail (set m first comma) period tail (first + 1) (omega (arith, fits)) w2
              ∙ over_then l (set m first comma) t period 0 (first + 1) (omega arith) here behind_first in
              over_more l with_second (t ++ period) 0 second comma (omega (arith, fits)) (omega (arith, length-append t period)) wrote

          module _ (last : List ℕ) (d : ℕ) (d_is : d ≡ length duration) where
            abbrev before_third : List ℕ
            before_third = set with_second second comma

            abbrev third : ℕ
            third = second + 1 + d

            pub record_written :
                (ends : List ℕ) (k : ℕ) → last ≡ over (take (length before_third - (second + 1)) (drop (second + 1) before_third)) 0 duration →
                ends ≡ return ∷ newline ∷ [] → k ≡ 2 →
                put_mid third k (put_mid (second + 1) (length before_third - (second + 1)) before_third last) ends
                ≡ over l 0 (record_text (lowest_entry e))
            record_written ends k w3 ends_is k_is =
                let t : List ℕ = phase ++ (comma ∷ []) ++ period ++ (comma ∷ []) in
                let long : length t ≡ second + 1 = simp length-append (omega arith) in
                let same : length before_third ≡ length l = ap length behind_second ∙ length_over l 0 t (omega (arith, fits)) in
                let all : List ℕ = put_mid (second + 1) (length before_third - (second + 1)) before_third last in
                let wrote : all ≡ over l 0 (t ++ duration) =
                over_tail before_third duration last (second + 1) (omega (arith, fits)) w3
                ∙ over_then l before_third t duration 0 (second + 1) (omega arith) (omega arith) behind_second in
                over_slice all (return ∷ newline ∷ []) ends third k ends_is k_is
                ∙ over_then l all (t ++ duration) (return ∷ newline ∷ []) 0 third (omega arith) (omega (arith, length-append t duration)) wrote
                ∙ ap (over l 0) (simp append_assoc)

-- ---- The room

module _ (row : List ℕ) (room : ℕ) where
  -- the longest text has room
  pub room_longest : Words row → checked row ≡ Ok tt → longest_export ≤ room → leb longest_export room ≡ leb (length (text_of (map lowest_entry (entries row)))) room
  room_longest words passes h =
      le-leb longest_export room h ∙ sym (le-leb (length (text_of (map lowest_entry (entries row)))) room (omega (arith, row_within row words passes)))

  -- the heading and the records are the text
  pub room_measured :
      (width : ℕ) → width ≡ length (flat_map record_text (map lowest_entry (entries row))) →
      leb (23 + width) room ≡ leb (length (text_of (map lowest_entry (entries row)))) room
  room_measured width e = ap (λ (n : ℕ). leb n room) (ap (◌+◌ 23) e ∙ sym (text_length_lem (map lowest_entry (entries row))))

  pub room_short :
      false ≡ leb (length (text_of (map lowest_entry (entries row)))) room → room < length (text_of (map lowest_entry (entries row)))
  room_short is = leb-false (length (text_of (map lowest_entry (entries row)))) room (sym is)

  pub room_there :
      true ≡ leb (length (text_of (map lowest_entry (entries row)))) room →
      23 + length (flat_map record_text (map lowest_entry (entries row))) ≤ room
  room_there is =
      rw (← text_length_lem (map lowest_entry (entries row)))
      (leb-true (length (text_of (map lowest_entry (entries row)))) room (sym is))

-- ---- The whole text

-- with room for all of it the heading is written, and the records begin where it ends
module _ (row before : List ℕ) (there : true ≡ leb (length (text_of (map lowest_entry (entries row)))) (length before)) where
  pub heading_end : (heading : List ℕ) (head : ℕ) → head ≡ end_in (length before) 0 heading → length heading ≡ 23 → head ≡ 23
  heading_end heading head is long =
      is ∙ end_room (length before) 0 heading (omega (arith, long, room_there row (length before) there)) ∙ omega (arith, long)

  heading_there : (front : List ℕ) → front ≡ fitted before 0 heading_text → front ≡ over before 0 heading_text
  heading_there front is = is ∙ fitted_room before 0 heading_text (omega (arith, room_there row (length before) there))

module _ (row : List ℕ) (end : ℕ) (end_is : end ≡ 23 + length (flat_map record_text (map lowest_entry (entries row)))) where
  long : length (text_of (map lowest_entry (entries row))) ≡ end
  long = text_length_lem (map lowest_entry (entries row)) ∙ sym end_is

  pub text_answers :
      (room : ℕ) (o : Outcome) → o ≡ checked row → o ≡ Ok tt →
      23 + length (flat_map record_text (map lowest_entry (entries row))) ≤ room → Ok end ≡ exported row room
  text_answers room o o_is passed there =
      ap Ok (sym long) ∙ way_written row room o o_is passed (omega (arith, text_length_lem (map lowest_entry (entries row))))

  pub text_written :
      (before front records : List ℕ) (head : ℕ) →
      true ≡ leb (length (text_of (map lowest_entry (entries row)))) (length before) →
      head ≡ end_in (length before) 0 heading_text → front ≡ fitted before 0 heading_text →
      records ≡ over (take (length front - head) (drop head front)) 0 (flat_map record_text (map lowest_entry (entries row))) →
      put_mid head (length front - head) front records ≡ exported_in (Ok end) row before
  unfolding exported_in text_of
  text_written before front records head there head_is front_is wrote =
      let lines : List ℕ = flat_map record_text (map lowest_entry (entries row)) in
      let fits = room_there row (length before) there in
      let at : head ≡ 23 = heading_end row before there heading_text head head_is refl in
      let written : front ≡ over before 0 heading_text = heading_there row before there front front_is in
      let same : length front ≡ length before = ap length written ∙ length_over before 0 heading_text (omega (arith, fits)) in
      over_tail front lines records head (omega (arith, fits)) wrote
      ∙ over_then before front heading_text lines 0 head (omega arith) (sym at) written
      ∙ over_front before (heading_text ++ lines) end long
