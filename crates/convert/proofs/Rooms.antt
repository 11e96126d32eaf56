-- A buffer of the longest length is never too short: 8 is given for nothing but the room, and all that passes has room.
-- Core: first_other, others_both, others_each. The rest goes through the orders with these.
-- Assumes nothing.
use Prim.Native.Nat.{ℕ, suc, ◌*◌, ◌<◌, ◌≤◌}
use mathlib.Core.Path.{◌≡◌, refl, sym, ap, ◌∙◌}
use mathlib.Core.Logic.{⊎_elim}
use mathlib.Core.List.{List, [], ◌∷◌, ◌++◌}
use native.Mathlib.Omega.{arith}
use lib.ListN.{length}
use Rattle.refusal.specs.declared.Refusal.{Refusal}
use Rattle.refusal.specs.declared.Refusal.TheVariants.{BufferTooShort}
use Rattle.refusal.specs.Paper.{Printed, paper, refuse}
use Rattle.refusal.specs.Order.{Check, ◌when◌, in_turn, None, First}
use Rattle.refusal.proofs.Orders.{first_of_both}
use Rattle.table.specs.declared.Entry.{Entry}
use Rattle.table.specs.Row.{numbers, longest_row, entries, row_of}
use Rattle.table.specs.Given.{train_checks, checked_order}
use Rattle.table.proofs.Entries.{entries_few}
use Rattle.table.proofs.Following.{checked_follows, checked_length}
use Rattle.stored.specs.Layout.{length_of, longest, Bytes}
use Rattle.stored.specs.Found.{count_in, trains_in}
use Rattle.stored.specs.Given.{stored_checks, head_checks, load_order}
use Rattle.stored.specs.Paper.{paper_answer}
use Rattle.stored.specs.Answer.{saved}
use Rattle.stored.proofs.Following.{head_follows, load_follows, answer_value}
use Rattle.stored.proofs.Loading.{head_passed}
use Rattle.stored.proofs.Numbers.{save_refused}
use Rattle.stored.proofs.Accepted.{accepted, accepted_stored}
use Rattle.listing.specs.Layout.{text_of, longest_export}
use Rattle.listing.specs.Paper.{paper_exported}
use Rattle.convert.specs.Answer.{store_answer, list_answer}
use Rattle.convert.proofs.Storing.{Told, is_long, is_bad, is_list, told, store_long, store_bad, store_lists}
use Rattle.convert.proofs.Listings.{list_refused, stored_within}

-- ---- Orders without 8

-- No check of the order is one for refusal 8.
unfoldable Others : List Check → Type 0
Others [] = Unit {0}
Others (c ∷ order) = ((paper c.refusal).number ≡ 8 → ⊥) × Others order

first_other : (order : List Check) (r : Refusal) → Others order → First order r → (paper r).number ≡ 8 → ⊥
unfolding Others First
first_other [] r others first eight = first
first_other (c ∷ order) r others first eight =
    ⊎_elim
    (λ h. others.0 (ap (λ (q : Refusal). (paper q).number) h.1 ∙ eight))
    (λ h. first_other order r others.1 h.1 eight)
    first

others_both : (earlier later : List Check) → Others earlier → Others later → Others (earlier ++ later)
unfolding Others
others_both [] later first next = next
others_both (c ∷ earlier) later first next = (first.0, others_both earlier later first.1 next)

others_each :
    (checks : ℕ → Entry → List Check) → ((i : ℕ) (e : Entry) → Others (checks i e)) → (i : ℕ) (es : List Entry) → Others (in_turn checks i es)
unfolding Others in_turn
others_each checks each i [] = tt
others_each checks each i (e ∷ es) = others_both (checks i e) (in_turn checks (suc i) es) (each i e) (others_each checks each (suc i) es)

train_others : (i : ℕ) (e : Entry) → Others (train_checks i e)
unfolding Others
train_others i e = ((λ z. omega arith), ((λ z. omega arith), ((λ z. omega arith), tt)))

checked_others : (row : List ℕ) → Others (checked_order row)
unfolding Others
checked_others row = ((λ z. omega arith), others_each train_checks train_others 0 (entries row))

stored_others : (i : ℕ) (e : Entry) → Others (stored_checks i e)
unfolding Others
stored_others i e = (
  (λ z. omega arith),
  (
    (λ z. omega arith),
    (
      (λ z. omega arith),
      (
        (λ z. omega arith),
        ((λ z. omega arith), ((λ z. omega arith), ((λ z. omega arith), ((λ z. omega arith), tt)))),
      ),
    ),
  ),
)

head_others : (bs : List ℕ) → Others (head_checks bs)
unfolding Others
head_others bs = ((λ z. omega arith), ((λ z. omega arith), ((λ z. omega arith), ((λ z. omega arith), ((λ z. omega arith), tt)))))

-- ---- The room, behind other checks

-- where the others pass there is room, so 8 is not given
room_other :
    (order : List Check) (room needed : ℕ) (r : Refusal) → (First order r → (paper r).number ≡ 8 → ⊥) → (None order → needed ≤ room) →
    First (order ++ ((BufferTooShort when (room < needed)) ∷ [])) r → (paper r).number ≡ 8 → ⊥
unfolding First
room_other order room needed r others fits first eight =
    ⊎_elim
    (λ h. others h eight)
    (λ h. ⊎_elim (λ c. let f = fits h.0 in omega (arith, f, c.0)) (λ c. c.1) h.1)
    ((first_of_both order _ r).0 first)

-- refusals that are printed alike have one number
refuse_number : {number other place behind : ℕ} → refuse number place ≡ refuse other behind → number ≡ other
refuse_number e = cc

-- ---- The calls

save_room : (row : List ℕ) (room place : ℕ) → longest ≤ room → paper_answer (saved row room) ≡ refuse 8 place → ⊥
save_room row room place long e =
    let given = (save_refused row room 8 place).0 e in
    room_other (checked_order row) room (length_of (length (entries row))) given.0
    (first_other (checked_order row) given.0 (checked_others row))
    (λ none. omega (arith, long, entries_few row (checked_length row ((checked_follows row).passed.1 none))))
    given.1 (ap (λ (p : Printed). p.number) given.2)

pub store_room : (text : List ℕ) (room place : ℕ) → longest ≤ room → paper_answer (store_answer text room) ≡ refuse 8 place → ⊥
store_room text room place long e = go (told text)
  where
    go : Told text → ⊥
    go (is_long h) = let z = refuse_number (sym (ap paper_answer (store_long text room h)) ∙ e) in omega (arith, z)
    go (is_bad k h y) = let z = refuse_number (sym (ap paper_answer (store_bad text room k h y)) ∙ e) in omega (arith, z)
    go (is_list es h y) = save_room (row_of es) room place long (sym (ap paper_answer (store_lists text es room h y)) ∙ e)

-- a row of the longest table has room for the trains of any file
load_other : (bs : List ℕ) (r : Refusal) → First (load_order bs longest_row) r → (paper r).number ≡ 8 → ⊥
load_other bs r first eight =
    ⊎_elim
    (λ h. first_other (head_checks bs) r (head_others bs) h eight)
    (λ h.
    let few = (head_passed bs ((head_follows bs).passed.1 h.0)).few in
    room_other (in_turn stored_checks 0 (trains_in bs)) longest_row (count_in bs * numbers) r
    (first_other (in_turn stored_checks 0 (trains_in bs)) r (others_each stored_checks stored_others 0 (trains_in bs)))
    (λ none. omega (arith, few)) h.1 eight)
    ((first_of_both (head_checks bs) _ r).0 first)

pub list_room : (bs : List ℕ) (room place : ℕ) → Bytes bs → longest_export ≤ room → paper_exported (list_answer bs room) ≡ refuse 8 place → ⊥
list_room bs room place bytes long e =
    let given = (list_refused bs room 8 place).0 e in
    room_other (load_order bs longest_row) room (length (text_of (trains_in bs))) given.0 (load_other bs given.0)
    (λ none.
    let a = accepted bs longest_row (count_in bs) ((answer_value _ _ _).1 ((load_follows bs longest_row).passed.1 none, refl)) in
    omega (arith, long, stored_within bs (trains_in bs) bytes (accepted_stored bs longest_row (count_in bs) bytes a).0))
    given.1 (ap (λ (p : Printed). p.number) given.2)
