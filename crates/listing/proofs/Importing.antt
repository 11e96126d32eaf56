-- What is promised of import: which texts it takes, what it refuses, what it answers and what it leaves in the row.
-- Core: table_follows, imported_long, imported_short, listed_entries. The rest is the laws of the readers and of the orders in these words.
-- Assumes nothing.
use Prim.Native.Nat.{ℕ, zero, suc, ◌*◌, ◌<◌, ◌≤◌, ◌∣◌}
use mathlib.Core.Path.{◌≡◌, refl, sym, ap, subst, ◌∙◌}
use mathlib.Core.Bool.{Bool, true, false}
use mathlib.Core.Logic.{◌↔◌, ⊎_elim, inr}
use mathlib.Core.List.{List, [], ◌∷◌, ◌++◌, map}
use native.Mathlib.Nat.{dvd-mul_left}
use native.Mathlib.Omega.{arith}
use lib.Dec.{ltb}
use lib.ListN.{length, get_or, drop}
use borrow.Author.Tests.{lt-ltb, le-ltb, ltb-true, ltb-false}
use Rattle.std.specs.Prelude.{Result, Ok, Err}
use Rattle.refusal.specs.declared.Refusal.{Refusal}
use Rattle.refusal.specs.declared.Refusal.TheVariants.{TrainCount, ZeroTime, DurationAbovePeriod, TextTooLong, BufferTooShort, BadRecord}
use Rattle.refusal.specs.Paper.{Printed, paper, Said, answers, refuse}
use Rattle.refusal.specs.Order.{in_turn, None, First, Gives, refusals_of, at_each}
use Rattle.refusal.proofs.Orders.{first_of_both, first_each}
use Rattle.refusal.proofs.Answers.{answers_not_refuse, refusals_both}
use Rattle.fraction.specs.declared.Fraction.{Fraction}
use Rattle.table.specs.declared.Entry.{Entry}
use Rattle.table.specs.Row.{capacity, numbers, no_entry, row_of, lowest_entry, SameRow}
use Rattle.table.specs.Given.{NoDenominator, train_checks, checked_order}
use Rattle.table.specs.Answer.{or_else, checked}
use Rattle.table.proofs.InOrder.{ltb_is, Follows, follows_then, follows_last}
use Rattle.table.proofs.Following.{checked_follows}
use Rattle.table.proofs.Numbers.{checked_in_order}
use Rattle.table.proofs.Rows.{row_length, row_entries, lowest_row_same}
use Rattle.judge.specs.Answer.{verdict}
use Rattle.judge.proofs.Meaning.{verdict_same}
use Rattle.listing.specs.Grammar.{File}
use Rattle.listing.specs.Means.{Time, whole, parts, Phase, blank, time, Good, good, Goods, FirstUnfit, Listing, BadAt}
use Rattle.listing.specs.Layout.{longest_text, Small, SmallEntry, HasDenominators}
use Rattle.listing.specs.Given.{table_order, ImportRefuses, too_long}
use Rattle.listing.specs.Paper.{paper_imported}
use Rattle.listing.specs.Answer.{Listed, bad, trains, listed, trains_of}
use Rattle.listing.specs.Answer.{table_check, imported_of, imported, imported_in, row_after}
use Rattle.listing.proofs.Answered.{answer_tells, answer_is, answer_gives, answer_passes}
use Rattle.listing.proofs.Texts.{never, trains_are, bad_is, read_listed, listing_read, read_bad, bad_read}
use Rattle.listing.proofs.Unique.{files_one}
use Rattle.listing.proofs.Counted.{bad_unfit, unfit_bad}

-- ---- Texts

pub records_one : (text : List ℕ) (one other : List (List (List ℕ))) → File one text → File other text → one ≡ other
records_one text one other p q = files_one p q refl

pub lists_one : (text : List ℕ) (one other : List Entry) → Listing text one → Listing text other → one ≡ other
lists_one text one other y z = trains_are one other (sym (listing_read text one y) ∙ listing_read text other z)

pub bad_one : (text : List ℕ) (j k : ℕ) → BadAt j text → BadAt k text → j ≡ k
bad_one text j k y z = bad_is k j (sym (bad_read text k z) ∙ bad_read text j y)

pub lists_not_bad : (text : List ℕ) (es : List Entry) (k : ℕ) → Listing text es → BadAt k text → ⊥
lists_not_bad text es k y z = never k es (sym (bad_read text k z) ∙ listing_read text es y)

neither : (x : Listed) → ((es : List Entry) → x ≡ trains es → ⊥) → ((k : ℕ) → x ≡ bad k → ⊥) → ⊥
neither (bad k) n m = m k refl
neither (trains es) n m = n es refl

pub lists_or_bad : (text : List ℕ) → (((es : List Entry) → Listing text es → ⊥) × ((k : ℕ) → BadAt k text → ⊥)) → ⊥
lists_or_bad text n = neither (listed text) (λ es e. n.0 es (read_listed text es e)) (λ k e. n.1 k (read_bad text k e))

pub bad_of_records : (text : List ℕ) (rs : List (List (List ℕ))) (k : ℕ) → File rs text → BadAt k text ↔ FirstUnfit 1 k rs
bad_of_records text rs k file = (bad_unfit text rs k file, unfit_bad text rs k file)

-- ---- The trains of a listing

time_small : {v : List ℕ} {f : Fraction} → Time v f → Small f
time_small (whole k) = record { numerator = k.small; denominator = omega arith }
time_small (parts j k h) = record { numerator = j.small; denominator = k.small }

time_positive : {v : List ℕ} {f : Fraction} → Time v f → 0 < f.denominator
time_positive (whole k) = omega arith
time_positive (parts j k h) = h

phase_small : {v : List ℕ} {f : Fraction} → Phase v f → Small f
phase_small blank = record { numerator = omega arith; denominator = omega arith }
phase_small (time t) = time_small t

phase_positive : {v : List ℕ} {f : Fraction} → Phase v f → 0 < f.denominator
phase_positive blank = omega arith
phase_positive (time t) = time_positive t

good_entry : {vs : List (List ℕ)} {e : Entry} → Good vs e → SmallEntry e × HasDenominators e
good_entry (good p q r) = (
  record { phase = phase_small p; period = time_small q; duration = time_small r },
  record { phase = phase_positive p; period = time_positive q; duration = time_positive r },
)

goods_entries :
    (rs : List (List (List ℕ))) (es : List Entry) → Goods rs es → (i : ℕ) → i < length es →
    SmallEntry (get_or es i no_entry) × HasDenominators (get_or es i no_entry)
goods_entries rs es Goods.none i h = absurd (omega arith)
goods_entries rs es (Goods.more g gs) zero h = good_entry g
goods_entries rs es (Goods.more {rs = qs} {es = fs} g gs) (suc i) h = goods_entries qs fs gs i (omega arith)

-- the numbers of what is listed have 32 bits, and no denominator is 0
pub listed_entries :
    (text : List ℕ) (es : List Entry) → Listing text es → (i : ℕ) → i < length es →
    SmallEntry (get_or es i no_entry) × HasDenominators (get_or es i no_entry)
listed_entries text es y = goods_entries y.records es y.goods

-- ---- Answers

table_follows : (es : List Entry) (room : ℕ) → Follows (table_check es room) (table_order es room)
unfolding table_check
table_follows es room =
    follows_then (checked (row_of es)) _ (checked_order (row_of es)) _ (checked_follows (row_of es))
    (λ passed. follows_last _ BufferTooShort _ (ltb_is room (length es * numbers)))

module _ (es : List Entry) (room : ℕ) where
  -- what is answered of trains
  abbrev of_trains : Result ℕ Refusal
  of_trains = or_else (table_check es room) (Ok (length es))

  trains_refused : (number place : ℕ) → (paper_imported of_trains ≡ refuse number place) ↔ Gives (table_order es room) number place
  trains_refused = answer_gives (table_check es room) (table_order es room) (table_follows es room) _

  trains_answered : (k : ℕ) → (paper_imported of_trains ≡ answers k) ↔ (None (table_order es room) × (k ≡ length es))
  trains_answered = answer_passes (table_check es room) (table_order es room) (table_follows es room) _

module _ (text : List ℕ) (room : ℕ) where
  pub imported_long : longest_text < length text → imported text room ≡ Err TextTooLong
  unfolding imported
  imported_long h = rw (lt-ltb longest_text (length text) h)

  pub imported_short : length text ≤ longest_text → imported text room ≡ imported_of room (listed text)
  unfolding imported
  imported_short h = rw (le-ltb longest_text (length text) h)

  imported_bad : (k : ℕ) → length text ≤ longest_text → BadAt k text → imported text room ≡ Err (BadRecord k)
  imported_bad k h y = imported_short h ∙ ap (imported_of room) (bad_read text k y)

  imported_trains : (es : List Entry) → length text ≤ longest_text → Listing text es → imported text room ≡ of_trains es room
  imported_trains es h y = imported_short h ∙ ap (imported_of room) (listing_read text es y)

-- ---- Refusals

pub import_in_order :
    (es : List Entry) (room : ℕ) →
    refusals_of (table_order es room)
    ≡ refuse 1 64 ∷ (at_each (λ i. refuse 2 i ∷ refuse 3 i ∷ refuse 4 i ∷ []) 0 (length es) ++ (refuse 8 64 ∷ []))
unfolding refusals_of
import_in_order es room =
    refusals_both (checked_order (row_of es)) _
    ∙ ap (λ (l : List Said). l ++ (refuse 8 64 ∷ [])) (checked_in_order (row_of es))
    ∙ ap
    (λ (fs : List Entry). refuse 1 64 ∷ (at_each (λ i. refuse 2 i ∷ refuse 3 i ∷ refuse 4 i ∷ []) 0 (length fs) ++ (refuse 8 64 ∷ [])))
    (row_entries es)

module _ (text : List ℕ) (room number place : ℕ) where
  -- a text that is not too long
  short_refused :
      length text ≤ longest_text → (x : Listed) → listed text ≡ x → paper_imported (imported_of room x) ≡ refuse number place →
      ImportRefuses text room number place
  short_refused h (bad k) e g =
      let a : number ≡ 18 = cc in
      let b : k ≡ place = cc in
      subst (λ (n : ℕ). ImportRefuses text room n place) (sym a)
      (ImportRefuses.bad h (subst (λ (i : ℕ). BadAt i text) b (read_bad text k e)))
  short_refused h (trains es) e g = ImportRefuses.trains h (read_listed text es e) ((trains_refused es room number place).0 g)

  refused_says : paper_imported (imported text room) ≡ refuse number place → ImportRefuses text room number place
  refused_says e = go (ltb longest_text (length text)) refl
    where
      go : (t : Bool) → ltb longest_text (length text) ≡ t → ImportRefuses text room number place
      go true q =
          let h : longest_text < length text = ltb-true _ _ q in
          let g : refuse 7 64 ≡ refuse number place = sym (ap paper_imported (imported_long text room h)) ∙ e in
          let a : 7 ≡ number = cc in
          let b : 64 ≡ place = cc in
          subst (ImportRefuses text room number) b (subst (λ (n : ℕ). ImportRefuses text room n 64) a (too_long h))
      go false q =
          let h : length text ≤ longest_text = ltb-false _ _ q in
          short_refused h (listed text) refl (sym (ap paper_imported (imported_short text room h)) ∙ e)

says_refused :
    {text : List ℕ} {room number place : ℕ} → ImportRefuses text room number place →
    paper_imported (imported text room) ≡ refuse number place
says_refused {text} {room} (too_long h) = ap paper_imported (imported_long text room h)
says_refused {text} {room} (ImportRefuses.bad {k = k} h y) = ap paper_imported (imported_bad text room k h y)
says_refused {text} {room} {number} {place} (ImportRefuses.trains {es = es} h y g) =
    ap paper_imported (imported_trains text room es h y) ∙ (trains_refused es room number place).1 g

pub import_refused :
    (text : List ℕ) (room number place : ℕ) →
    (paper_imported (imported text room) ≡ refuse number place) ↔ ImportRefuses text room number place
import_refused text room number place = (refused_says text room number place, says_refused)

-- what import leaves is what its answer says
pub row_is :
    (text before : List ℕ) (answer : Result ℕ Refusal) → imported text (length before) ≡ answer →
    row_after text before ≡ imported_in answer text before
row_is text before answer e = ap (λ (a : Result ℕ Refusal). imported_in a text before) e

pub import_keeps :
    (text before : List ℕ) (number place : ℕ) →
    paper_imported (imported text (length before)) ≡ refuse number place → row_after text before ≡ before
unfolding imported_in
import_keeps text before number place e =
    let found = answer_tells.only (imported text (length before)) number place e in
    row_is text before (Err found.0) found.1

-- ---- 2 is never given

-- a refusal with another number
other_number : (s r : Refusal) → ((paper s).number ≡ 2 → ⊥) → s ≡ r → (paper r).number ≡ 2 → ⊥
other_number s r other e two = other (ap (λ (q : Refusal). (paper q).number) e ∙ two)

has_denominators : (e : Entry) → HasDenominators e → NoDenominator e → ⊥
has_denominators e has =
    ⊎_elim (λ z. omega (arith, has.phase)) (⊎_elim (λ z. omega (arith, has.period)) (λ z. omega (arith, has.duration)))

train_never : (i : ℕ) (e : Entry) (r : Refusal) → HasDenominators e → First (train_checks i e) r → (paper r).number ≡ 2 → ⊥
unfolding First
train_never i e r has first two =
    ⊎_elim
    (λ h. has_denominators e has h.0)
    (λ rest.
    ⊎_elim
    (λ h. other_number (ZeroTime i) r (λ z. omega arith) h.1 two)
    (λ more. ⊎_elim (λ h. other_number (DurationAbovePeriod i) r (λ z. omega arith) h.1 two) (λ h. h.1) more.1)
    rest.1)
    first

-- trains that all have denominators
table_never :
    (es : List Entry) (room : ℕ) (r : Refusal) → ((i : ℕ) → i < length es → HasDenominators (get_or es i no_entry)) →
    First (table_order es room) r → (paper r).number ≡ 2 → ⊥
unfolding First
table_never es room r has first two =
    ⊎_elim
    (⊎_elim
    (λ h. other_number TrainCount r (λ z. omega arith) h.1 two)
    (λ h. each (subst (λ (fs : List Entry). First (in_turn train_checks 0 fs) r) (row_entries es) h.1)))
    (λ h. ⊎_elim (λ s. other_number BufferTooShort r (λ z. omega arith) s.1 two) (λ s. s.1) h.1)
    ((first_of_both (checked_order (row_of es)) _ r).0 first)
  where
    each : First (in_turn train_checks 0 es) r → ⊥
    each f =
        let found = (first_each no_entry train_checks es r).0 f in
        train_never found.0 (get_or es found.0 no_entry) r (has found.0 found.1.inside) found.1.here two

never_two : {text : List ℕ} {room number place : ℕ} → ImportRefuses text room number place → number ≡ 2 → ⊥
never_two (too_long h) two = omega arith
never_two (ImportRefuses.bad h y) two = omega arith
never_two {text} {room} (ImportRefuses.trains {es = es} h y g) two =
    table_never es room g.0 (λ i k. (listed_entries text es y i k).1) g.1 (ap (λ (p : Printed). p.number) g.2 ∙ two)

pub import_never_2 : (text : List ℕ) (room train : ℕ) → paper_imported (imported text room) ≡ refuse 2 train → ⊥
import_never_2 text room train e = never_two (refused_says text room 2 train e) refl

-- ---- Counts

pub import_answers :
    (text : List ℕ) (room k : ℕ) →
    (paper_imported (imported text room) ≡ answers k)
    ↔ ((length text ≤ longest_text) × ((es : List Entry) × Listing text es × None (table_order es room) × (k ≡ length es)))
import_answers text room k = (there, back)
  where
    short :
        length text ≤ longest_text → (x : Listed) → listed text ≡ x → paper_imported (imported_of room x) ≡ answers k →
        (es : List Entry) × Listing text es × None (table_order es room) × (k ≡ length es)
    short h (bad j) e g = absurd (answers_not_refuse (sym g))
    short h (trains es) e g = let found = (trains_answered es room k).0 g in (es, read_listed text es e, found.0, found.1)

    there :
        paper_imported (imported text room) ≡ answers k →
        (length text ≤ longest_text) × ((es : List Entry) × Listing text es × None (table_order es room) × (k ≡ length es))
    there e = go (ltb longest_text (length text)) refl
      where
        go :
            (t : Bool) → ltb longest_text (length text) ≡ t →
            (length text ≤ longest_text) × ((es : List Entry) × Listing text es × None (table_order es room) × (k ≡ length es))
        go true q = absurd (answers_not_refuse (sym e ∙ ap paper_imported (imported_long text room (ltb-true _ _ q))))
        go false q =
            let h : length text ≤ longest_text = ltb-false _ _ q in
            (h, short h (listed text) refl (sym (ap paper_imported (imported_short text room h)) ∙ e))

    back :
        (length text ≤ longest_text) × ((es : List Entry) × Listing text es × None (table_order es room) × (k ≡ length es)) →
        paper_imported (imported text room) ≡ answers k
    back (h, (es, y, none, count)) =
        ap paper_imported (imported_trains text room es h y) ∙ (trains_answered es room k).1 (none, count)

pub import_written :
    (text before : List ℕ) (es : List Entry) → length text ≤ longest_text → Listing text es → None (table_order es (length before)) →
    row_after text before ≡ row_of (map lowest_entry es) ++ drop (length es * numbers) before
unfolding imported_in
import_written text before es h y none =
    let room : ℕ = length before in
    let count = (answer_is (imported text room) (length es)).0
    (ap paper_imported (imported_trains text room es h y) ∙ (trains_answered es room (length es)).1 (none, refl)) in
    row_is text before _ count
    ∙ ap (λ (x : Listed). row_of (map lowest_entry (trains_of x)) ++ drop (length es * numbers) before) (listing_read text es y)

-- trains that pass refusal 1 are at most 64
few_trains : (es : List Entry) (room : ℕ) → None (table_order es room) → length es ≤ capacity
unfolding None
few_trains es room none = go (ltb capacity (length es)) refl
  where
    go : (t : Bool) → ltb capacity (length es) ≡ t → length es ≤ capacity
    go true e = absurd (none.0 (inr (omega (arith, row_length es, ltb-true capacity (length es) e))))
    go false e = ltb-false _ _ e

pub import_few : (text : List ℕ) (room k : ℕ) → paper_imported (imported text room) ≡ answers k → k ≤ capacity
import_few text room k e =
    let found = ((import_answers text room k).0 e).1 in
    omega (arith, few_trains found.0 room found.2, found.3)

-- ---- The times and the verdict

pub imported_same : (es : List Entry) → SameRow (row_of es) (row_of (map lowest_entry es))
imported_same es =
    let whole-trains : numbers ∣ length (row_of es) = rw (row_length es) (dvd-mul_left numbers (length es)) in
    subst (λ (fs : List Entry). SameRow (row_of es) (row_of (map lowest_entry fs))) (row_entries es) (lowest_row_same (row_of es) whole-trains)

pub imported_verdict : (es : List Entry) → verdict (row_of (map lowest_entry es)) ≡ verdict (row_of es)
imported_verdict es = sym (verdict_same (row_of es) (row_of (map lowest_entry es)) (imported_same es))
