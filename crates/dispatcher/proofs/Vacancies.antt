-- A place without a train: it stays so until the next admission to it, and no tick is its own.
-- Core: vacant_on, vacant_idle, vacant_tick. The rest follows from these.
-- Assumes nothing.
use Rattle.std.proofs.Common.{◌≡◌, ℕ, ◌<◌, ◌≤◌, false, List, [], ◌∷◌, ◌++◌, length, get_or, sym, refl, ap, ◌∙◌, subst, ⊎_elim, arith, ne_eqb}
use Rattle.train.specs.declared.Train.{Train}
use Rattle.dispatcher.specs.Calls.{Doing, idle, starts, goes_on, Event, admitted, withdrawn, stepped, refused, ticks}
use Rattle.dispatcher.specs.History.{History, beginning, At, arriving, Does, Right, becomes, Rights, after}
use Rattle.dispatcher.specs.Share.{doing_at, is_of, NoneAdmitted, Gone, Unused}
use Rattle.dispatcher.proofs.Histories.{Sound, sound_beginning, at_placed, at_emptied, nobody_at_first}
use Rattle.dispatcher.proofs.Logs.{rights_both, ticks_both}
use Rattle.dispatcher.proofs.Pieces.{each_tick, piece_tick, Piece, sound_then, rights_meanwhile, ticks_are}

-- No train is at the place.
abbrev Vacant : History → ℕ → Type 0
Vacant h q = (a : Train) → At h q a → ⊥

-- it stays so through any event but an admission to it
vacant_on :
    (h : History) (e : Event) (q : ℕ) → ((delay period duration : ℕ) → e ≡ admitted delay period duration q → ⊥) →
    Vacant h q → Vacant (becomes h e) q
unfolding becomes
vacant_on h (admitted delay period duration p) q other vacant a at =
    ⊎_elim (λ here. other delay period duration (ap (admitted delay period duration) (sym here.0))) (λ old. vacant a old.1)
    (at_placed h p (arriving h delay period duration) q a at)
vacant_on h (withdrawn p) q other vacant a at = vacant a (at_emptied h p q a at).1
vacant_on h (stepped count doing) q other vacant a at = vacant a at
vacant_on h (refused call number place) q other vacant a at = vacant a at

-- the processor does not work for it
vacant_idle : (h : History) (q : ℕ) → Vacant h q → (doing : Doing) → Does h doing → is_of q doing ≡ false
vacant_idle h q vacant idle does = refl
vacant_idle h q vacant (starts p) does = ne_eqb p q (λ e. vacant does.0 (subst (λ (r : ℕ). At h r does.0) e does.1))
vacant_idle h q vacant (goes_on p) does = ne_eqb p q (λ e. vacant does.0 (subst (λ (r : ℕ). At h r does.0) e does.1))

-- in no tick of a log that admits no train to it
vacant_tick :
    (h : History) → Sound h → (log : List Event) → Rights h log → (q : ℕ) → Vacant h q → NoneAdmitted q log →
    (i : ℕ) → i < length (ticks log) → is_of q (get_or (ticks log) i idle) ≡ false
unfolding NoneAdmitted
vacant_tick h sound log rights q vacant none_admitted =
    each_tick (λ (h : History) (log : List Event). Vacant h q × NoneAdmitted q log) (λ (t : ℕ) (doing : Doing). is_of q doing ≡ false) stays
    (λ h log sound holds. vacant_idle h q holds.0) h sound log rights (vacant, none_admitted)
  where
    stays :
        (h : History) (e : Event) (log : List Event) → Right h e → Vacant h q × NoneAdmitted q (e ∷ log) → Vacant (becomes h e) q × NoneAdmitted q log
    stays h e log right holds = (vacant_on h e q holds.1.0 holds.0, holds.1.1)

module _ (count : ℕ) (log : List Event) (rights : Rights (beginning count) log) where
  -- from a withdrawal on
  pub gone_gets_nothing : (q from until : ℕ) → Gone log q from until → (t : ℕ) → from ≤ t → t < until → is_of q (doing_at log t) ≡ false
  unfolding becomes ticks
  gone_gets_nothing q from until gone t l k =
      let piece : Piece log (withdrawn q) =
      record { before = gone.before; meanwhile = gone.meanwhile; behind = gone.behind; whole = gone.whole } in
      let there : History = after (beginning count) gone.before in
      let vacant : Vacant (becomes there (withdrawn q)) q = λ a at. (at_emptied there q q a at).0 refl in
      piece_tick log (ticks gone.before) (ticks gone.meanwhile) (ticks gone.behind) (ticks_are log (withdrawn q) piece (λ rest. refl))
      (λ (n : ℕ) (doing : Doing). is_of q doing ≡ false)
      (vacant_tick (becomes there (withdrawn q)) (sound_then count log rights (withdrawn q) piece) gone.meanwhile
      (rights_meanwhile count log rights (withdrawn q) piece) q vacant gone.none_admitted)
      t (omega (arith, gone.from_is)) (omega (arith, gone.from_is, gone.until_is))

  -- from the fresh start on
  pub unused_gets_nothing : (q until : ℕ) → Unused log q until → (t : ℕ) → t < until → is_of q (doing_at log t) ≡ false
  unused_gets_nothing q until unused t k =
      let whole : ticks log ≡ [] ++ (ticks unused.meanwhile ++ ticks unused.behind) =
      ap ticks unused.whole ∙ ticks_both unused.meanwhile unused.behind in
      let right = rights_both (beginning count) unused.meanwhile unused.behind (subst (Rights (beginning count)) unused.whole rights) in
      piece_tick log [] (ticks unused.meanwhile) (ticks unused.behind) whole (λ (n : ℕ) (doing : Doing). is_of q doing ≡ false)
      (vacant_tick (beginning count) (sound_beginning count) unused.meanwhile right.0 q (nobody_at_first count q) unused.none_admitted)
      t (omega arith) (omega (arith, unused.until_is))
