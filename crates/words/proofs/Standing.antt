-- Which record words stand for, after a write: the places and what stands behind them.
-- Core: place_there, place_read, place_kept. The rest follows from these.
-- Assumes nothing.
use Rattle.std.proofs.Common.{◌≡◌, ℕ, zero, suc, ◌+◌, ◌*◌, ◌<◌, ◌≤◌, Bool, true, false, cond, eqb, ltb, List, length, get_or, set, replicate, sym, refl, ap, ◌∙◌, subst, arith, length-set, get_or-set_other, get_or-set_same, ext_get_or, ltb-false, ltb-true, eqb-true, lt-ltb}
use mathlib.Core.List.{flat_map}
use lib.Seq.{length-sets}
use Rattle.std.specs.List.{position_or_len}
use Rattle.std.specs.Prelude.{MatchOption}
use Rattle.std.proofs.lemmas.List.Sums.{position_or_len_is}
use borrow.Author.Tests.{eqb-false}
use Rattle.lent.specs.Lent.{over}
use Rattle.lent.proofs.Over.{over_sets, over_before, over_there, over_behind}
use Rattle.std.specs.Prelude.{Option, Some, None}
use Rattle.dispatcher.specs.declared.Held.{Held}
use Rattle.dispatcher.specs.declared.Held.TheVariants.{Empty, Holds}
use Rattle.dispatcher.specs.declared.Place.{Place}
use Rattle.dispatcher.specs.declared.Dispatcher.{Dispatcher}
use Rattle.dispatcher.specs.History.{place_count}
use Rattle.dispatcher.specs.Answer.{lowest_place, empty_place, put}
use Rattle.words.specs.Answer.{fresh_in}
use Rattle.words.specs.Record.{place_length, last_at, word_count, place_in, places_from, places_in, record_in, held_words, place_words, tail_words, words_of, place_over, tail_over}

-- ---- The places

pub places_length : (ws : List ℕ) (q n : ℕ) → length (places_from ws q n) ≡ n
unfolding places_from
places_length ws q zero = refl
places_length ws q (suc n) = ap suc (places_length ws (suc q) n)

-- the place at a position is the one with that number
place_there : (ws : List ℕ) (q n i : ℕ) → i < n → get_or (places_from ws q n) i empty_place ≡ place_in ws (q + i)
unfolding places_from
place_there ws q zero i h = absurd (omega arith)
place_there ws q (suc n) zero h = ap (place_in ws) (omega arith)
place_there ws q (suc n) (suc i) h =
    place_there ws (suc q) n i (omega arith) ∙ ap (place_in ws) (omega arith)

pub place_at : (ws : List ℕ) (q : ℕ) → q < place_count → get_or (places_in ws) q empty_place ≡ place_in ws q
place_at ws q h = place_there ws 0 place_count q h ∙ ap (place_in ws) (omega arith)

-- a place that was set is what was put there
pub set_place : (ws : List ℕ) (q : ℕ) (p : Place) → q < place_count → get_or (set (places_in ws) q p) q empty_place ≡ p
set_place ws q p h = get_or-set_same (places_in ws) q p empty_place (omega (arith, places_length ws 0 place_count))

-- what is read at a place passes a test, where the place of the record does
pub tests_there :
    (test : Held → Bool) (ws : List ℕ) (q : ℕ) (here : Place) (b : Bool) → q < place_count → here ≡ place_in ws q → test here.held ≡ b →
    test (get_or (places_in ws) q empty_place).held ≡ b
tests_there test ws q here b h e so = ap (λ (p : Place). test p.held) (place_at ws q h ∙ sym e) ∙ so

-- the first place whose number passes is the lowest that does
pub lowest_at :
    (test : Held → Bool) (ws : List ℕ) (found : Option ℕ) →
    MatchOption found ((k : ℕ) → 0 ≤ k → k < place_count → test (place_in ws k).held ≡ false)
    (λ (q : ℕ).
    (0 ≤ q) × (q < place_count) × (test (place_in ws q).held ≡ true)
    × ((k : ℕ) → 0 ≤ k → k < q → test (place_in ws k).held ≡ false)) →
    found ≡ lowest_place test (places_in ws)
lowest_at test ws found h = by found h
  where
    passes : Place → Bool
    passes place = test place.held

    count : length (places_in ws) ≡ place_count
    count = places_length ws 0 place_count

    -- where the lowest place is known, and it is one or not
    there : (q : ℕ) → q < place_count → position_or_len passes (places_in ws) ≡ q → Some q ≡ lowest_place test (places_in ws)
    there q l e = rw e (simp (count, lt-ltb q place_count l))

    nowhere : position_or_len passes (places_in ws) ≡ place_count → None ≡ lowest_place test (places_in ws)
    nowhere e = rw e (simp count)

    by :
        (o : Option ℕ) →
        MatchOption o ((k : ℕ) → 0 ≤ k → k < place_count → test (place_in ws k).held ≡ false)
        (λ (q : ℕ).
        (0 ≤ q) × (q < place_count) × (test (place_in ws q).held ≡ true)
        × ((k : ℕ) → 0 ≤ k → k < q → test (place_in ws k).held ≡ false)) →
        o ≡ lowest_place test (places_in ws)
    by None none =
        nowhere
        (position_or_len_is passes (places_in ws) place_count empty_place (omega (arith, count))
        (λ k l. tests_there test ws k (place_in ws k) false l refl (none k (omega arith) l))
        (λ l. absurd (omega (arith, count))))
    by (Some q) some =
        there q some.1
        (position_or_len_is passes (places_in ws) q empty_place (omega (arith, count, some.1))
        (λ k l. tests_there test ws k (place_in ws k) false (omega (arith, some.1)) refl (some.3 k (omega arith) l))
        (λ l. tests_there test ws q (place_in ws q) true some.1 refl some.2))

-- ---- A place by its four words

-- what a place is, by its words
abbrev place_of : (flag next period duration : ℕ) → Place
place_of flag next period duration =
    cond (eqb flag 0) empty_place (record { held = Holds (record { next = next; period = period; duration = duration }) })

-- the words of a place are read as that place
held_read :
    (h : Held) →
    place_of (get_or (held_words h) 0 0) (get_or (held_words h) 1 0) (get_or (held_words h) 2 0) (get_or (held_words h) 3 0) ≡ record { held = h }
held_read Empty = refl
held_read (Holds p) = refl

pub four : (h : Held) → length (held_words h) ≡ 4
four Empty = refl
four (Holds p) = refl

-- places are equal where their words are
same_words :
    (ws vs : List ℕ) (q : ℕ) → ((k : ℕ) → k < 4 → get_or ws (q * place_length + k) 0 ≡ get_or vs (q * place_length + k) 0) →
    place_in ws q ≡ place_in vs q
unfolding place_in
same_words ws vs q same =
    let first : get_or ws (q * place_length) 0 ≡ get_or vs (q * place_length) 0 =
    ap (λ (n : ℕ). get_or ws n 0) (omega arith) ∙ same 0 (omega arith) ∙ ap (λ (n : ℕ). get_or vs n 0) (omega arith) in
    λ i.
    place_of (first i) (same 1 (omega arith) i) (same 2 (omega arith) i) (same 3 (omega arith) i)

module _ (ws : List ℕ) (all : length ws ≡ word_count) where
  module _ (q : ℕ) (h : q < place_count) (p : Place) where
    -- ---- A place that is written

    abbrev written : List ℕ
    written = place_over ws q p

    at_le : q * place_length ≤ length ws
    at_le = omega arith

    abbrev at : ℕ
    at = q * place_length

    -- one write of four words
    is_over : written ≡ over ws at (place_words p)
    is_over = over_sets ws at (place_words p) (omega (arith, four p.held))

    -- a word of it
    word_read : (k : ℕ) → k < 4 → get_or written (q * place_length + k) 0 ≡ get_or (place_words p) k 0
    word_read k b =
        ap (λ (l : List ℕ). get_or l (at + k) 0) is_over ∙ over_there ws (place_words p) at k 0 at_le (omega (arith, four p.held))

    -- it is read again
    place_read : place_in written q ≡ p
    unfolding place_in
    place_read =
        let first : get_or written (q * place_length) 0 ≡ get_or (place_words p) 0 0 =
        ap (λ (n : ℕ). get_or written n 0) (omega arith) ∙ word_read 0 (omega arith) in
        (λ i. place_of (first i) (word_read 1 (omega arith) i) (word_read 2 (omega arith) i) (word_read 3 (omega arith) i))
        ∙ held_read p.held

    -- every other word is kept
    word_kept : (i : ℕ) → (q * place_length ≤ i → q * place_length + 4 ≤ i) → get_or written i 0 ≡ get_or ws i 0
    word_kept i away = go (ltb i (q * place_length)) refl
      where
        go : (b : Bool) → ltb i (q * place_length) ≡ b → get_or written i 0 ≡ get_or ws i 0
        go true e =
            ap (λ (l : List ℕ). get_or l i 0) is_over ∙ over_before ws (place_words p) at i 0 at_le (ltb-true i (q * place_length) e)
        go false e =
            ap (λ (l : List ℕ). get_or l i 0) is_over
            ∙ over_behind ws (place_words p) at i 0 at_le (omega (arith, four p.held, away (ltb-false i (q * place_length) e)))

    -- every other place is kept
    place_kept : (i : ℕ) → (i ≡ q → ⊥) → place_in written i ≡ place_in ws i
    place_kept i other =
        same_words written ws i (λ k b. word_kept (i * place_length + k) (λ l. omega (arith, other)))

    -- the places are the others and this one
    places_set : places_in written ≡ set (places_in ws) q p
    places_set =
        ext_get_or empty_place (places_in written) (set (places_in ws) q p)
        (places_length written 0 place_count ∙ sym (length-set (places_in ws) q p ∙ places_length ws 0 place_count))
        (λ i b. each i (subst (λ (n : ℕ). i < n) (places_length written 0 place_count) b) (eqb i q) refl)
      where
        each :
            (i : ℕ) → i < place_count → (b : Bool) → eqb i q ≡ b →
            get_or (places_in written) i empty_place ≡ get_or (set (places_in ws) q p) i empty_place
        each i l true e =
            let there : q < length (places_in ws) = omega (arith, places_length ws 0 place_count) in
            place_at written i l
            ∙ ap (place_in written) (eqb-true i q e)
            ∙ place_read
            ∙ sym (ap (λ (n : ℕ). get_or (set (places_in ws) q p) n empty_place) (eqb-true i q e) ∙ get_or-set_same (places_in ws) q p empty_place there)
        each i l false e =
            place_at written i l
            ∙ place_kept i (eqb-false i q e)
            ∙ sym (get_or-set_other (places_in ws) q i p empty_place (eqb-false i q e) ∙ place_at ws i l)

    -- so the record is the one with another place
    pub record_place : record_in written ≡ put (record_in ws) q p
    record_place =
        λ i.
        record {
          places = places_set i;
          last = word_kept last_at (λ l. omega arith) i;
          run = record { place = word_kept (last_at + 1) (λ l. omega arith) i; left = word_kept (last_at + 2) (λ l. omega arith) i };
        }

    pub place_over_length : length written ≡ word_count
    place_over_length = length-sets ws (q * place_length) (place_words p) ∙ all

  -- ---- What stands behind the places, written

  module _ (d : Dispatcher) where
    -- one write of three words
    tail_is_over : tail_over ws d ≡ over ws last_at (tail_words d)
    tail_is_over = over_sets ws last_at (tail_words d) (omega arith)

    tail_read : (k : ℕ) → k < 3 → get_or (tail_over ws d) (last_at + k) 0 ≡ get_or (tail_words d) k 0
    tail_read k b =
        ap (λ (l : List ℕ). get_or l (last_at + k) 0) tail_is_over ∙ over_there ws (tail_words d) last_at k 0 (omega arith) b

    places_kept : places_in (tail_over ws d) ≡ places_in ws
    places_kept =
        ext_get_or empty_place (places_in (tail_over ws d)) (places_in ws)
        (places_length (tail_over ws d) 0 place_count ∙ sym (places_length ws 0 place_count))
        (λ i b. each i (subst (λ (n : ℕ). i < n) (places_length (tail_over ws d) 0 place_count) b))
      where
        each : (i : ℕ) → i < place_count → get_or (places_in (tail_over ws d)) i empty_place ≡ get_or (places_in ws) i empty_place
        each i l =
            place_at (tail_over ws d) i l
            ∙ same_words (tail_over ws d) ws i
            (λ k b.
            ap (λ (l : List ℕ). get_or l (i * place_length + k) 0) tail_is_over
            ∙ over_before ws (tail_words d) last_at (i * place_length + k) 0 (omega arith) (omega arith))
            ∙ sym (place_at ws i l)

    pub record_tail : record_in (tail_over ws d) ≡ record { places = places_in ws; last = d.last; run = d.run }
    record_tail =
        λ i.
        record {
          places = places_kept i;
          last = tail_read 0 (omega arith) i;
          run = record { place = tail_read 1 (omega arith) i; left = tail_read 2 (omega arith) i };
        }

-- ---- A fresh start

-- all words are 0 but the count
pub fresh_words : (count : ℕ) → set (replicate word_count 0) last_at count ≡ fresh_in count
unfolding words_of flat_map
fresh_words count = refl

-- ---- What the calls cite

-- The places that the words stand for, read and set.
pub ruleset places_read = (places_length, place_at, set_place)
