-- The laws of the running multiple over the entries of a row.
-- Core: denominators_more. The rest follows from these.
-- Assumes nothing.
use Prim.Native.Nat.{ℕ, suc, ◌+◌, ◌<◌, ◌≤◌}
use mathlib.Core.Path.{◌≡◌, refl, sym, ap, ◌∙◌}
use mathlib.Core.List.{List, [], ◌∷◌, ◌++◌, append_assoc}
use native.Mathlib.Numerals.{add-one}
use lib.ListN.{length, get_or, take}
use lib.Seq.{take-suc, take_all}
use Rattle.std.specs.Prelude.{Option, None, Some, Ok, Err, ok_or}
use Rattle.refusal.specs.declared.Refusal.{Refusal}
use Rattle.refusal.specs.declared.Refusal.TheVariants.{TickTooFine}
use Rattle.fraction.specs.Answer.{running_from, running}
use Rattle.fraction.proofs.CommonMultiple.{running_append}
use Rattle.table.specs.declared.Entry.{Entry}
use Rattle.table.specs.Row.{denominators_of, denominators, no_entry}
use Rattle.table.specs.Answer.{test, is_above, multiple_check, multiple_checked}
use Rattle.table.specs.Inside.{Found}
use Rattle.table.proofs.Checks.{Passing, passing_begins, passing_on, passing_refused, passing_ends}

-- ---- Core laws

denominators_append : (es fs : List Entry) → denominators (es ++ fs) ≡ denominators es ++ denominators fs
unfolding denominators
denominators_append [] fs = refl
denominators_append (e ∷ es) fs =
    ap (λ (ds : List ℕ). denominators_of e ++ ds) (denominators_append es fs)
    ∙ sym (append_assoc (denominators_of e) (denominators es) (denominators fs))

-- one train more
denominators_more :
    (es : List Entry) (i : ℕ) → i < length es →
    denominators (take (suc i) es) ≡ denominators (take i es) ++ denominators_of (get_or es i no_entry)
unfolding denominators
denominators_more es i h = ap denominators (take-suc es i no_entry h) ∙ denominators_append (take i es) (get_or es i no_entry ∷ [])

-- ---- The loop over the trains

-- The loop stands at position i with the multiple m of the trains before it, and has refused none of them.
pub record Running (es : List Entry) (m i : ℕ) : Type 0 where
  pub passing : Passing (multiple_check es) es i
  pub so_far : running (denominators (take i es)) ≡ Some m

pub running_begins : (es : List Entry) → Running es 1 0
unfolding denominators running running_from
running_begins es = record { passing = passing_begins (multiple_check es) es; so_far = refl }

module _ (es : List Entry) (m i : ℕ) (r : Running es m i) where
  -- the multiple with the next train
  running_next : i < length es → running (denominators (take (suc i) es)) ≡ running_from (Some m) (denominators_of (get_or es i no_entry))
  unfolding running
  running_next h =
      ap (running_from (Some 1)) (denominators_more es i h)
      ∙ running_append (Some 1) (denominators (take i es)) (denominators_of (get_or es i no_entry))
      ∙ ap (λ (x : Option ℕ). running_from x (denominators_of (get_or es i no_entry))) r.so_far

  -- refusal 5 of the next train, from the multiple that the code has found
  next_check :
      (x : Option ℕ) → i < length es → x ≡ running_from (Some m) (denominators_of (get_or es i no_entry)) →
      multiple_check es i (get_or es i no_entry) ≡ test (is_above x) (TickTooFine i)
  next_check x h e = ap (λ (y : Option ℕ). test (is_above y) (TickTooFine i)) (running_next h ∙ sym e)

  pub running_refused :
      (x : Option ℕ) (q : Refusal) → i < length es → x ≡ running_from (Some m) (denominators_of (get_or es i no_entry)) →
      Err q ≡ ok_or x (TickTooFine i) → multiple_checked es ≡ Err q
  running_refused None q h e is =
      let blamed : q ≡ TickTooFine i = cc in
      sym (passing_refused (multiple_check es) es i r.passing q h (next_check None h e ∙ ap (λ (x : Refusal). Err x) (sym blamed)))
  running_refused (Some n) q h e is = cc

  pub running_on :
      (n : ℕ) → i < length es → Some n ≡ running_from (Some m) (denominators_of (get_or es i no_entry)) → Running es n (i + 1)
  running_on n h e =
      record {
        passing = passing_on (multiple_check es) es i r.passing h (next_check (Some n) h e);
        so_far = ap (λ (k : ℕ). running (denominators (take k es))) (add-one i) ∙ running_next h ∙ sym e;
      }

  pub running_ends : length es ≤ i → Found es (Ok m)
  running_ends h =
      (sym (passing_ends (multiple_check es) es i r.passing h), ap (λ (fs : List Entry). running (denominators fs)) (sym (take_all i es h)) ∙ r.so_far)

-- the laws of the loop, for the check
pub ruleset running_laws = (running_refused, running_ends)
