-- The text of trains lists just these trains.
-- Core: train_says, lines_say. The rest follows from these and from the laws of the layout.
-- Assumes nothing.
use Prim.Native.Nat.{suc}
use mathlib.Core.Path.{refl}
use mathlib.Core.List.{List, [], ◌∷◌, ◌++◌, map}
use native.Mathlib.Omega.{arith}
use Rattle.table.specs.declared.Entry.{Entry}
use Rattle.listing.specs.Grammar.{comma, plain, Record}
use Rattle.listing.specs.Grammar as grammar
use Rattle.listing.specs.Means.{time, phase_word, period_word, duration_word, heading, Good, good, Goods, Listing}
use Rattle.listing.specs.Means as means
use Rattle.listing.specs.Layout.{text_of, SmallEntry, HasDenominators}
use Rattle.listing.proofs.Words.{letters, letters_plain}
use Rattle.listing.proofs.Layouts.{time_says, values, Sayable, lines_file}

-- ---- What is written says what it stands for

train_says : (e : Entry) → SmallEntry e → HasDenominators e → Good (values e) e
train_says e small some =
    good (time (time_says e.phase small.phase some.phase)) (time_says e.period small.period some.period)
    (time_says e.duration small.duration some.duration)

lines_say : (es : List Entry) → Sayable es → Goods (map values es) es
lines_say [] each = means.none
lines_say (e ∷ es) each =
    let here = each 0 (omega arith) in
    means.more (train_says e here.0 here.1) (lines_say es (λ i h. each (suc i) (omega arith)))

-- the heading is a record of its three words
heading_record : Record heading (phase_word ++ (comma ∷ period_word ++ (comma ∷ duration_word)))
unfolding letters
heading_record =
    grammar.more {t = phase_word} (plain (letters_plain phase_word refl))
    (grammar.more {t = period_word} (plain (letters_plain period_word refl)) (grammar.last (plain (letters_plain duration_word refl))))

pub text_lists : (es : List Entry) → Sayable es → Listing (text_of es) es
unfolding text_of
text_lists es each =
    record {
      records = map values es;
      file = lines_file heading (phase_word ++ (comma ∷ period_word ++ (comma ∷ duration_word))) es heading_record each;
      goods = lines_say es each;
    }
