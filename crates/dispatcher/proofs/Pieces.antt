-- The ticks of a log: the part in front of one, what is so of each tick because it stays so through the events, and the ticks of a
-- piece of a log. Core: before_tick_lem, each_tick, piece_tick.
-- Assumes nothing.
use Rattle.std.proofs.Common.{◌≡◌, ℕ, zero, suc, ◌+◌, ◌-◌, ◌<◌, ◌≤◌, List, [], ◌∷◌, ◌++◌, length, get_or, refl, ap, ◌∙◌, subst, add-zero, zero-add, arith, get_or-append-add}
use mathlib.Core.Path.{subst⁻¹}
use lib.ListN.{get_or-append}
use Rattle.dispatcher.specs.Calls.{Doing, idle, Event, admitted, withdrawn, stepped, refused, ticks}
use Rattle.dispatcher.specs.History.{History, beginning, Does, Right, becomes, Rights, after}
use Rattle.dispatcher.specs.Share.{doing_at, before_tick}
use Rattle.dispatcher.proofs.Histories.{Sound, sound_beginning, sound_becomes}
use Rattle.dispatcher.proofs.Logs.{rights_both, ticks_both, steps_after, sound_after}

-- ---- The part in front of a tick

-- What stands in front of tick t has t ticks, and the step that takes it comes next.
abbrev InFront : List Event → ℕ → Type 0
InFront log t =
    (length (ticks (before_tick log t)) ≡ t)
    × ((c : ℕ) × (behind : List Event) × (log ≡ before_tick log t ++ (stepped c (doing_at log t) ∷ behind)))

pub before_tick_lem : (log : List Event) (t : ℕ) → t < length (ticks log) → InFront log t
unfolding ticks before_tick
before_tick_lem [] t l = absurd (omega arith)
before_tick_lem (admitted delay period duration q ∷ log) t l =
    let rest = before_tick_lem log t l in
    (rest.0, (rest.1.0, rest.1.1, ap (λ (xs : List Event). admitted delay period duration q ∷ xs) rest.1.2))
before_tick_lem (withdrawn q ∷ log) t l =
    let rest = before_tick_lem log t l in (rest.0, (rest.1.0, rest.1.1, ap (λ (xs : List Event). withdrawn q ∷ xs) rest.1.2))
before_tick_lem (stepped count doing ∷ log) zero l = (refl, (count, log, refl))
before_tick_lem (stepped count doing ∷ log) (suc t) l =
    let rest = before_tick_lem log t (omega arith) in
    (ap suc rest.0, (rest.1.0, rest.1.1, ap (λ (xs : List Event). stepped count doing ∷ xs) rest.1.2))
before_tick_lem (refused call number place ∷ log) t l =
    let rest = before_tick_lem log t l in
    (rest.0, (rest.1.0, rest.1.1, ap (λ (xs : List Event). refused call number place ∷ xs) rest.1.2))

-- ---- What stays so

-- Something that holds of a history and of the events to come stays so through each of them; where it holds, what the processor has
-- to do makes the tick so.
module _ (Holds : History → List Event → Type 0) (Ticked : ℕ → Doing → Type 0)
    (stays : (h : History) (e : Event) (log : List Event) → Right h e → Holds h (e ∷ log) → Holds (becomes h e) log)
    (makes : (h : History) (log : List Event) → Sound h → Holds h log → (doing : Doing) → Does h doing → Ticked h.steps doing) where
  -- then each tick of the log is so
  pub each_tick :
      (h : History) → Sound h → (log : List Event) → Rights h log → Holds h log →
      (i : ℕ) → i < length (ticks log) → Ticked (h.steps + i) (get_or (ticks log) i idle)
  unfolding Rights ticks Right becomes
  each_tick h sound [] rights holds i l = absurd (omega arith)
  each_tick h sound (e ∷ log) rights holds i l =
      go e rights.0 holds
      (each_tick (becomes h e) (sound_becomes h sound e rights.0) log rights.1 (stays h e log rights.0 holds)) i l
    where
      -- this event, and the ticks behind it
      go :
          (e : Event) → Right h e → Holds h (e ∷ log) →
          ((i : ℕ) → i < length (ticks log) → Ticked ((becomes h e).steps + i) (get_or (ticks log) i idle)) →
          (i : ℕ) → i < length (ticks (e ∷ log)) → Ticked (h.steps + i) (get_or (ticks (e ∷ log)) i idle)
      go (admitted delay period duration p) right holds behind i l = behind i l
      go (withdrawn p) right holds behind i l = behind i l
      go (stepped count doing) right holds behind zero l =
          subst⁻¹ (λ (t : ℕ). Ticked t doing) (add-zero h.steps) (makes h (stepped count doing ∷ log) sound holds doing right.1)
      go (stepped count doing) right holds behind (suc i) l =
          let e : suc h.steps + i ≡ h.steps + suc i = omega arith in
          subst (λ (t : ℕ). Ticked t (get_or (ticks log) i idle)) e (behind i (omega arith))
      go (refused call number place) right holds behind i l = behind i l

-- ---- A piece of a log

-- The ticks of a log are those before a piece of it, of the piece, and behind it: what is so of each tick of the piece is so of the log's.
pub piece_tick :
    (log : List Event) (before meanwhile behind : List Doing) → ticks log ≡ before ++ (meanwhile ++ behind) →
    (Ticked : ℕ → Doing → Type 0) → ((i : ℕ) → i < length meanwhile → Ticked (length before + i) (get_or meanwhile i idle)) →
    (t : ℕ) → length before ≤ t → t < length before + length meanwhile → Ticked t (doing_at log t)
piece_tick log before meanwhile behind whole Ticked each t l k =
    let i : ℕ = t - length before in
    let e : length before + i ≡ t = omega arith in
    let inside : i < length meanwhile = omega arith in
    let doing-is : doing_at log (length before + i) ≡ get_or meanwhile i idle =
    ap (λ (xs : List Doing). get_or xs (length before + i) idle) whole
    ∙ get_or-append-add before (meanwhile ++ behind) i idle
    ∙ get_or-append meanwhile behind idle i inside in
    subst (λ (n : ℕ). Ticked n (doing_at log n)) e (subst⁻¹ (Ticked (length before + i)) doing-is (each i inside))

-- An event of a log: what comes before it, a piece of the log behind it, and the rest.
pub record Piece (log : List Event) (e : Event) : Type 0 where
  pub before : List Event
  pub meanwhile : List Event
  pub behind : List Event
  pub whole : log ≡ before ++ (e ∷ (meanwhile ++ behind))

module _ (count : ℕ) (log : List Event) (rights : Rights (beginning count) log) (e : Event) (piece : Piece log e) where
  -- The history in which the event comes.
  abbrev there : History
  there = after (beginning count) piece.before

  -- the log before it is right, and so is the log from there on
  parts : Rights (beginning count) piece.before × Rights there (e ∷ (piece.meanwhile ++ piece.behind))
  parts = rights_both (beginning count) piece.before _ (subst (Rights (beginning count)) piece.whole rights)

  pub sound_there : Sound there
  sound_there = sound_after (beginning count) (sound_beginning count) piece.before parts.0

  pub right_there : Right there e
  unfolding Rights
  right_there = parts.1.0

  pub sound_then : Sound (becomes there e)
  sound_then = sound_becomes there sound_there e right_there

  pub rights_meanwhile : Rights (becomes there e) piece.meanwhile
  unfolding Rights
  rights_meanwhile = (rights_both (becomes there e) piece.meanwhile piece.behind parts.1.1).0

  pub steps_there : there.steps ≡ length (ticks piece.before)
  steps_there = steps_after (beginning count) piece.before ∙ zero-add (length (ticks piece.before))

-- the ticks of the log, where the event is no step
pub ticks_are :
    (log : List Event) (e : Event) (piece : Piece log e) → ((rest : List Event) → ticks (e ∷ rest) ≡ ticks rest) →
    ticks log ≡ ticks piece.before ++ (ticks piece.meanwhile ++ ticks piece.behind)
ticks_are log e piece no_step =
    ap ticks piece.whole
    ∙ ticks_both piece.before (e ∷ (piece.meanwhile ++ piece.behind))
    ∙ ap (λ (xs : List Doing). ticks piece.before ++ xs)
    (no_step (piece.meanwhile ++ piece.behind) ∙ ticks_both piece.meanwhile piece.behind)
