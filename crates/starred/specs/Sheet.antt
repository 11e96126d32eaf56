-- The starred rows of the paper's bench sheet, in its order, the bytes of its 36/13 table, and its paragraph on the dispatcher.
--     Line                 a table, and what the paper prints for it
--     whole p P d          a train of whole milliseconds: phase, period, duration
--     parts m p P d        a train whose times are all over the denominator m
--     thirteenths          the row of the 36/13 table
--     sheet                the starred rows
--     thirteenths_bytes    the bytes in which the 36/13 table is stored
--     paragraph            the calls of the dispatcher's paragraph, after its fresh start
--     answers              what they are answered
use Rattle.std.specs.Prelude.{ℕ, List, [], ◌∷◌, ◌++◌}
use Rattle.judge.specs.Paper.{Shown, accept, collide, refuse}
use Rattle.dispatcher.specs.Calls.{Call, admit, step, starts, Event, admitted, stepped, refused}

-- A table as a row, and what is printed for it.
pub record Line : Type 0 where
  pub row : List ℕ
  pub shown : Shown

-- A train whose times are all over one denominator.
abbrev pub parts : (m phase period duration : ℕ) → List ℕ
parts m phase period duration = phase ∷ m ∷ period ∷ m ∷ duration ∷ m ∷ []

-- A train of whole milliseconds.
abbrev pub whole : (phase period duration : ℕ) → List ℕ
whole phase period duration = parts 1 phase period duration

-- The 36/13 table: (0/1, 36/13, 12/13) (12/13, 72/13, 12/13).
abbrev pub thirteenths : List ℕ
thirteenths = (0 ∷ 1 ∷ 36 ∷ 13 ∷ 12 ∷ 13 ∷ []) ++ parts 13 12 72 12

-- The bench sheet, its starred rows.
abbrev pub sheet : List Line
sheet =
    record { row = []; shown = accept 1 0 }
    ∷ record { row = whole 5 1 1; shown = accept 1 0 }
    ∷ record { row = whole 0 8 2 ++ whole 3 12 1; shown = accept 1 2 }
    ∷ record { row = whole 3 12 1 ++ whole 0 8 2; shown = accept 1 2 }
    ∷ record { row = whole 0 8 2 ++ whole 1 12 1; shown = collide 0 1 1 1 2 }
    ∷ record { row = whole 0 8 2 ++ whole 2 12 2; shown = accept 1 2 }
    ∷ record { row = whole 0 8 2 ++ whole 3 12 2; shown = collide 0 1 16 1 2 }
    ∷ record { row = whole 0 4 1 ++ whole 2 4 1 ++ whole 1 6 1; shown = accept 1 5 }
    ∷ record { row = whole 0 5 1 ++ whole 1 7 1; shown = collide 0 1 15 1 3 }
    ∷ record { row = whole 0 4 1 ++ whole 0 4 1; shown = collide 0 1 0 1 1 }
    ∷ record { row = thirteenths; shown = accept 13 1 }
    ∷ record { row = 0 ∷ 1 ∷ 3 ∷ 1 ∷ 10 ∷ 3 ∷ []; shown = refuse 4 0 }
    ∷ []

-- 55 bytes that begin 53 54 54 00 01 00 02 (hex): the head, and six numbers of four bytes for each of the two trains.
abbrev pub thirteenths_bytes : List ℕ
thirteenths_bytes =
    83 ∷ 84 ∷ 84 ∷ 0 ∷ 1 ∷ 0 ∷ 2
    ∷ 0 ∷ 0 ∷ 0 ∷ 0 ∷ 0 ∷ 0 ∷ 0 ∷ 1 ∷ 0 ∷ 0 ∷ 0 ∷ 36 ∷ 0 ∷ 0 ∷ 0 ∷ 13 ∷ 0 ∷ 0 ∷ 0 ∷ 12 ∷ 0 ∷ 0 ∷ 0 ∷ 13
    ∷ 0 ∷ 0 ∷ 0 ∷ 12 ∷ 0 ∷ 0 ∷ 0 ∷ 13 ∷ 0 ∷ 0 ∷ 0 ∷ 72 ∷ 0 ∷ 0 ∷ 0 ∷ 13 ∷ 0 ∷ 0 ∷ 0 ∷ 12 ∷ 0 ∷ 0 ∷ 0 ∷ 13 ∷ []

-- Admit (0,8,2); admit (3,12,1); the step with count 0; admit (0,4,1); admit (1,4,1).
abbrev pub paragraph : List Call
paragraph = admit 0 8 2 ∷ admit 3 12 1 ∷ step 0 ∷ admit 0 4 1 ∷ admit 1 4 1 ∷ []

-- Place 0; place 1; starts place 0; refused 15 at place 0; takes place 2.
abbrev pub answers : List Event
answers = admitted 0 8 2 0 ∷ admitted 3 12 1 1 ∷ stepped 0 (starts 0) ∷ refused (admit 0 4 1) 15 0 ∷ admitted 1 4 1 2 ∷ []
