-- `withdraw` meets its contract: no train is past the last place, nor at an empty one.
use Rattle.std.proofs.Common.{◌≡◌, true, sym, ap, ◌∙◌}
use Rattle.std.specs.Prelude.{Result, ⊤}
use Rattle.refusal.specs.declared.Refusal.{Refusal}
use Rattle.refusal.specs.declared.Refusal.TheVariants.{NoTrainThere}
use Rattle.dispatcher.specs.declared.Called.{Called}
use Rattle.dispatcher.specs.declared.Sought.TheVariants as sought
use Rattle.dispatcher.specs.History.{place_count}
use Rattle.dispatcher.specs.Answer.{is_sought, refused_call, withdrawal}
use Rattle.dispatcher.proofs.Answers.{withdrawal_none, withdrawal_outside}
use Rattle.words.specs.Record.{record_in}
use Rattle.words.specs.Answer.{withdrew_in}
use Rattle.words.proofs.Standing.{places_length, tests_there}
use Rattle.words.proofs.withdraw.Goals.{then-place-ge-PLACES-via-then-place-ge-PLACES, then-place-ge-PLACES-via-else-place-ge-PLACES+then-is}
use Rattle.words.proofs.withdraw.Goals as goal

pub returns-then-place-ge-PLACES : goal.returns-then-place-ge-PLACES
returns-then-place-ge-PLACES c =
    let ws = c.args.words.now in
    let q = c.args.place in
    let refused : refused_call (record_in ws) NoTrainThere ≡ withdrawal (record_in ws) q =
    elim c.then-place-ge-PLACES.branch [
      | then-place-ge-PLACES-via-then-place-ge-PLACES w ↦
          sym (withdrawal_outside (record_in ws) q (places_length ws 0 place_count) w.if-place-ge-PLACES.true)
      | then-place-ge-PLACES-via-else-place-ge-PLACES+then-is w ↦
          sym
          (withdrawal_none (record_in ws) q
          (tests_there (is_sought sought.Empty) ws q _ true w.if-place-ge-PLACES.false w.place_at.ensures (sym w.is.ensures ∙ w.if-is.true)))
    ] in
    record {
      answer = ap (λ (x : Called (Result ⊤ Refusal)). x.answer) refused;
      memory = ap (λ (x : Called (Result ⊤ Refusal)). withdrew_in q x ws) refused;
    }
