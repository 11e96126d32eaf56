-- A list of calls on words: after each call the words stand for the record after it, so the log is the record's.
-- Core: admit_stands, withdraw_stands, step_stands. The rest follows from these.
-- Assumes nothing.
use Rattle.std.proofs.Common.{◌≡◌, ℕ, ◌-◌, ◌*◌, ◌<◌, ◌≤◌, Bool, true, false, ltb, List, [], ◌∷◌, length, get_or, set, sym, refl, ap, ◌∙◌, subst, ltb-false, ltb-true}
use lib.Seq.{length-sets}
use Rattle.std.specs.Prelude.{Result, Ok, Err, ⊤}
use Rattle.refusal.specs.declared.Refusal.{Refusal}
use Rattle.train.specs.declared.Train.{Train}
use Rattle.train.specs.Answer.{within_limits}
use Rattle.dispatcher.specs.declared.Place.{Place}
use Rattle.dispatcher.specs.declared.Run.{Run}
use Rattle.dispatcher.specs.declared.Dispatcher.{Dispatcher}
use Rattle.dispatcher.specs.declared.Sought.TheVariants as sought
use Rattle.dispatcher.specs.declared.Called.{Called}
use Rattle.dispatcher.specs.declared.Tick.{Tick}
use Rattle.dispatcher.specs.declared.Tick.TheVariants as tick
use Rattle.dispatcher.specs.Calls.{Call, admit, withdraw, step, Event, refused}
use Rattle.dispatcher.specs.History.{place_count}
use Rattle.dispatcher.specs.Answer.{is_sought, lowest, empty_place, held_at, fresh, next_count, is_next, put, place_for, admission, ended, withdrawal, started_place, starting, stepping}
use Rattle.dispatcher.specs.Played.{admission_event, withdrawal_event, tick_event, event_of, record_after, log_of}
use Rattle.dispatcher.proofs.Answers.{admission_not_a_train, admission_no_place, admission_collides, admission_placed, withdrawal_outside, withdrawal_none, withdrawal_done, stepping_wrong, stepping_goes_on, stepping_starts, stepping_idle}
use Rattle.words.specs.Record.{place_length, last_at, word_count, place_in, places_from, places_in, record_in, place_words, tail_words, place_over}
use Rattle.words.specs.Answer.{fresh_in, at_place, both_over, admitted_by, withdrew_by, stepped_by, admitted_in, withdrew_in, stepped_in}
use Rattle.words.specs.Played.{words_after, log_in}
use Rattle.words.proofs.Standing.{places_length, record_place, place_over_length, record_tail, set_place, fresh_words}

module _ (ws : List ℕ) (all : length ws ≡ word_count) where
  -- ---- What is written, as a record

  -- one place
  place_stands : (q : ℕ) (p : Place) → q < place_count → record_in (place_over ws q (get_or (set (places_in ws) q p) q empty_place)) ≡ put (record_in ws) q p
  place_stands q p h = ap (λ (x : Place). record_in (place_over ws q x)) (set_place ws q p h) ∙ record_place ws all q h p

  -- one place, and what stands behind the places
  both_stands :
      (q last : ℕ) (p : Place) (run : Run) → q < place_count → let d : Dispatcher = record { places = set (places_in ws) q p; last = last; run = run } in
      record_in (both_over ws q d) ≡ d
  both_stands q last p run h =
      let d : Dispatcher = record { places = set (places_in ws) q p; last = last; run = run } in
      let mid : List ℕ = place_over ws q (get_or (set (places_in ws) q p) q empty_place) in
      let long : length mid ≡ word_count = place_over_length ws all q h (get_or (set (places_in ws) q p) q empty_place) in
      record_tail mid long d ∙ (λ i. record { places = (place_stands q p h i).places; last = last; run = run })

  both_length : (q : ℕ) (d : Dispatcher) → length (both_over ws q d) ≡ word_count
  both_length q d =
      length-sets (place_over ws q (at_place d q)) last_at (tail_words d) ∙ length-sets ws (q * place_length) (place_words (at_place d q)) ∙ all

  -- ---- Each call: its words stand for its record

  abbrev AdmitStands : Called (Result ℕ Refusal) → Type 0
  AdmitStands a = record_in (admitted_in a ws) ≡ a.dispatcher

  pub admit_stands : (train : Train) → AdmitStands (admission (record_in ws) train)
  admit_stands train = limits (within_limits train) refl
    where
      d : Dispatcher
      d = record_in ws

      empty : ℕ
      empty = lowest (is_sought sought.Empty) d.places

      met : ℕ
      met = lowest (is_sought (sought.Colliding (next_count d) train)) d.places

      way : (a : Called (Result ℕ Refusal)) → admission d train ≡ a → AdmitStands a → AdmitStands (admission d train)
      way a e so = subst AdmitStands (sym e) so

      free : within_limits train ≡ true → empty < place_count → (b : Bool) → ltb met place_count ≡ b → AdmitStands (admission d train)
      free l h true e = way _ (admission_collides d train l h (ltb-true met place_count e)) refl
      free l h false e =
          way _ (admission_placed d train l h (ltb-false met place_count e)) (place_stands empty (place_for (next_count d) train) h)

      room : within_limits train ≡ true → (b : Bool) → ltb empty place_count ≡ b → AdmitStands (admission d train)
      room l true e = free l (ltb-true empty place_count e) (ltb met place_count) refl
      room l false e = way _ (admission_no_place d train l (ltb-false empty place_count e)) refl

      limits : (b : Bool) → within_limits train ≡ b → AdmitStands (admission d train)
      limits true l = room l (ltb empty place_count) refl
      limits false l = way _ (admission_not_a_train d train l) refl

  abbrev WithdrawStands : ℕ → Called (Result ⊤ Refusal) → Type 0
  WithdrawStands q w = record_in (withdrew_in q w ws) ≡ w.dispatcher

  pub withdraw_stands : (q : ℕ) → WithdrawStands q (withdrawal (record_in ws) q)
  withdraw_stands q = inside (ltb q place_count) refl
    where
      d : Dispatcher
      d = record_in ws

      way : (w : Called (Result ⊤ Refusal)) → withdrawal d q ≡ w → WithdrawStands q w → WithdrawStands q (withdrawal d q)
      way w e so = subst (WithdrawStands q) (sym e) so

      held : q < place_count → (b : Bool) → is_sought sought.Empty (held_at d q) ≡ b → WithdrawStands q (withdrawal d q)
      held h true e = way _ (withdrawal_none d q e) refl
      held h false e = way _ (withdrawal_done d q e) (both_stands q d.last empty_place (ended d.run q) h)

      inside : (b : Bool) → ltb q place_count ≡ b → WithdrawStands q (withdrawal d q)
      inside true e = held (ltb-true q place_count e) (is_sought sought.Empty (held_at d q)) refl
      inside false e = way _ (withdrawal_outside d q (places_length ws 0 place_count) (ltb-false q place_count e)) refl

  abbrev StepStands : Called (Result Tick Refusal) → Type 0
  StepStands s = record_in (stepped_in s ws) ≡ s.dispatcher

  pub step_stands : (count : ℕ) → StepStands (stepping (record_in ws) count)
  step_stands count = right (is_next (record_in ws) count) refl
    where
      d : Dispatcher
      d = record_in ws

      due : ℕ
      due = lowest (is_sought (sought.Due count)) d.places

      way : (s : Called (Result Tick Refusal)) → stepping d count ≡ s → StepStands s → StepStands (stepping d count)
      way s e so = subst StepStands (sym e) so

      starts : is_next d count ≡ true → d.run.left ≤ 0 → (b : Bool) → ltb due place_count ≡ b → StepStands (stepping d count)
      starts r n true e =
          let h = ltb-true due place_count e in
          let next : Called (Result Tick Refusal) = starting (record { places = d.places; last = count; run = d.run }) due in
          way next (stepping_starts d count r n h)
          (both_stands due count (started_place (get_or d.places due empty_place)) next.dispatcher.run h)
      starts r n false e =
          way _ (stepping_idle d count r n (ltb-false due place_count e))
          (record_tail ws all (record { places = d.places; last = count; run = d.run }))

      runs : is_next d count ≡ true → (b : Bool) → ltb 0 d.run.left ≡ b → StepStands (stepping d count)
      runs r true e =
          let next : Dispatcher = record { places = d.places; last = count; run = record { place = d.run.place; left = d.run.left - 1 } } in
          way _ (stepping_goes_on d count r (ltb-true 0 d.run.left e)) (record_tail ws all next)
      runs r false e = starts r (ltb-false 0 d.run.left e) (ltb due place_count) refl

      right : (b : Bool) → is_next d count ≡ b → StepStands (stepping d count)
      right true e = runs e (ltb 0 d.run.left) refl
      right false e = way _ (stepping_wrong d count e) refl

  -- ---- So for any call

  pub call_stands : (call : Call) → record_in (words_after ws call) ≡ record_after (record_in ws) call
  unfolding words_after record_after
  call_stands (admit delay period duration) = admit_stands (record { phase = delay; period = period; duration = duration })
  call_stands (withdraw q) = withdraw_stands q
  call_stands (step count) = step_stands count

  pub call_length : (call : Call) → length (words_after ws call) ≡ word_count
  unfolding words_after
  call_length (admit delay period duration) = after admitted.answer
    where
      admitted : Called (Result ℕ Refusal)
      admitted = admission (record_in ws) (record { phase = delay; period = period; duration = duration })

      after : (a : Result ℕ Refusal) → length (admitted_by a admitted.dispatcher ws) ≡ word_count
      after (Ok q) = length-sets ws (q * place_length) (place_words (at_place admitted.dispatcher q)) ∙ all
      after (Err r) = all
  call_length (withdraw q) = after withdrew.answer
    where
      withdrew : Called (Result ⊤ Refusal)
      withdrew = withdrawal (record_in ws) q

      after : (a : Result ⊤ Refusal) → length (withdrew_by a q withdrew.dispatcher ws) ≡ word_count
      after (Ok tt) = both_length q withdrew.dispatcher
      after (Err r) = all
  call_length (step count) = after stepped.answer
    where
      stepped : Called (Result Tick Refusal)
      stepped = stepping (record_in ws) count

      after : (a : Result Tick Refusal) → length (stepped_by a stepped.dispatcher ws) ≡ word_count
      after (Ok tick.Idle) = length-sets ws last_at (tail_words stepped.dispatcher) ∙ all
      after (Ok (tick.Starts q)) = both_length q stepped.dispatcher
      after (Ok (tick.GoesOn q)) = length-sets ws last_at (tail_words stepped.dispatcher) ∙ all
      after (Err r) = all

-- ---- And for any list of calls

pub words_log : (ws : List ℕ) → length ws ≡ word_count → (calls : List Call) → log_in ws calls ≡ log_of (record_in ws) calls
unfolding log_in log_of
words_log ws all [] = refl
words_log ws all (call ∷ calls) =
    ap (λ (log : List Event). event_of (record_in ws) call ∷ log)
    (words_log (words_after ws call) (call_length ws all call) calls ∙ ap (λ (d : Dispatcher). log_of d calls) (call_stands ws all call))

-- ---- A fresh start

pub fresh_length : (count : ℕ) → length (fresh_in count) ≡ word_count
fresh_length count = ap length (sym (fresh_words count)) ∙ refl

pub fresh_stands : (count : ℕ) → record_in (fresh_in count) ≡ fresh count
unfolding places_from place_in
fresh_stands count = ap record_in (sym (fresh_words count)) ∙ refl

pub fresh_log : (count : ℕ) (calls : List Call) → log_in (fresh_in count) calls ≡ log_of (fresh count) calls
fresh_log count calls = words_log (fresh_in count) (fresh_length count) calls ∙ ap (λ (d : Dispatcher). log_of d calls) (fresh_stands count)

-- ---- A refused call

pub refused_words :
    (ws : List ℕ) (call c : Call) (number place : ℕ) → event_of (record_in ws) call ≡ refused c number place → words_after ws call ≡ ws
unfolding event_of words_after
refused_words ws (admit delay period duration) c number place e =
    so (admission (record_in ws) (record { phase = delay; period = period; duration = duration })).answer e
  where
    so : (a : Result ℕ Refusal) → admission_event delay period duration a ≡ refused c number place →
        admitted_by a (admission (record_in ws) (record { phase = delay; period = period; duration = duration })).dispatcher ws ≡ ws
    so (Ok q) f = cc
    so (Err r) f = refl
refused_words ws (withdraw q) c number place e = so (withdrawal (record_in ws) q).answer e
  where
    so : (a : Result ⊤ Refusal) → withdrawal_event q a ≡ refused c number place → withdrew_by a q (withdrawal (record_in ws) q).dispatcher ws ≡ ws
    so (Ok tt) f = cc
    so (Err r) f = refl
refused_words ws (step count) c number place e = so (stepping (record_in ws) count).answer e
  where
    so : (a : Result Tick Refusal) → tick_event count a ≡ refused c number place → stepped_by a (stepping (record_in ws) count).dispatcher ws ≡ ws
    so (Ok tick.Idle) f = cc
    so (Ok (tick.Starts q)) f = cc
    so (Ok (tick.GoesOn q)) f = cc
    so (Err r) f = refl
