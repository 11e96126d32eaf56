-- What good records are, and what a listing lists, with no algorithm.
--     slash                                     the byte 47
--     fraction n m                              n/m
--     Time v f                                  the value v says the time f: n, or n/m with m not 0
--     blank_phase                               what a blank phase means
--     Phase v f                                 the value v says the phase f: a time, or blank
--     phase_word, period_word, duration_word    the three words
--     heading                                   the values of the first record
--     entry f g h                               the train with these times
--     Good vs e                                 a record with the values vs says the train e
--     Fits k vs                                 a record with the values vs may be the record with the number k, the heading being 1
--     FirstUnfit n k rs                         of records with the numbers from n on, k is the first that may not be there
--     Goods rs es                               records with these values say these trains
--     Listing t es                              the text t lists the trains es
--     Passed n t rest                           the first n records of the text t are good, and a further one begins where the rest begins
--     Stands k rest                             a good record k stands at the front of the rest, with its end
--     BadAt k t                                 record k is the first bad one of the text t
use Rattle.std.specs.Prelude.{ℕ, suc, ◌<◌, ◌≡◌, List, [], ◌∷◌, ◌++◌}
use Rattle.decimal.specs.Digits.{Number}
use Rattle.fraction.specs.declared.Fraction.{Fraction}
use Rattle.table.specs.declared.Entry.{Entry}
use Rattle.listing.specs.Grammar.{Record, Ends, File}

-- The byte of a slash.
abbrev pub slash : ℕ
slash = 47

-- The fraction n/m.
abbrev pub fraction : (n m : ℕ) → Fraction
fraction n m = record { numerator = n; denominator = m }

-- n or n/m in decimal digits, numbers of 32 bits, m not 0.
pub data Time : List ℕ → Fraction → Type 0 where
  whole : {n : ℕ} {ds : List ℕ} → Number n ds → Time ds (fraction n 1)
  parts : {n m : ℕ} {ds es : List ℕ} → Number n ds → Number m es → 0 < m → Time (ds ++ 47 ∷ es) (fraction n m)

-- A blank phase means 0.
abbrev pub blank_phase : Fraction
blank_phase = fraction 0 1

-- A phase is a time, or blank: the empty value.
pub data Phase : List ℕ → Fraction → Type 0 where
  blank : Phase [] blank_phase
  time : {v : List ℕ} {f : Fraction} → Time v f → Phase v f

-- The word `phase`.
abbrev pub phase_word : List ℕ
phase_word = 112 ∷ 104 ∷ 97 ∷ 115 ∷ 101 ∷ []

-- The word `period`.
abbrev pub period_word : List ℕ
period_word = 112 ∷ 101 ∷ 114 ∷ 105 ∷ 111 ∷ 100 ∷ []

-- The word `duration`.
abbrev pub duration_word : List ℕ
duration_word = 100 ∷ 117 ∷ 114 ∷ 97 ∷ 116 ∷ 105 ∷ 111 ∷ 110 ∷ []

-- The first record is `phase,period,duration`.
abbrev pub heading : List (List ℕ)
heading = phase_word ∷ period_word ∷ duration_word ∷ []

-- The train with these times.
abbrev pub entry : Fraction → Fraction → Fraction → Entry
entry f g h = record { phase = f; period = g; duration = h }

-- Each later record has three fields; the phase may be blank.
pub data Good : List (List ℕ) → Entry → Type 0 where
  good :
      {p q r : List ℕ} {f g h : Fraction} → Phase p f → Time q g → Time r h →
      Good (p ∷ q ∷ r ∷ []) (entry f g h)

-- The first record is the heading, and each later one says a train.
pub data Fits : ℕ → List (List ℕ) → Type 0 where
  first : Fits 1 heading
  later : {k : ℕ} {vs : List (List ℕ)} {e : Entry} → 1 < k → Good vs e → Fits k vs

-- Of records that are counted from n on, k is the first that does not fit.
pub data FirstUnfit : (n k : ℕ) → List (List (List ℕ)) → Type 0 where
  here : {n : ℕ} {vs : List (List ℕ)} {rs : List (List (List ℕ))} → (Fits n vs → ⊥) → FirstUnfit n n (vs ∷ rs)
  there : {n k : ℕ} {vs : List (List ℕ)} {rs : List (List (List ℕ))} → Fits n vs → FirstUnfit (suc n) k rs → FirstUnfit n k (vs ∷ rs)

-- Records and the trains that they say.
pub data Goods : List (List (List ℕ)) → List Entry → Type 0 where
  none : Goods [] []
  more : {vs : List (List ℕ)} {e : Entry} {rs : List (List (List ℕ))} {es : List Entry} → Good vs e → Goods rs es → Goods (vs ∷ rs) (e ∷ es)

-- A text lists trains: its records are the heading and records that say these trains.
pub record Listing (text : List ℕ) (es : List Entry) : Type 0 where
  pub records : List (List (List ℕ))
  pub file : File (heading ∷ records) text
  pub goods : Goods records es

-- The first n records of a text are good and have a CRLF behind them, and a further one begins where the rest begins.
pub data Passed : ℕ → (text rest : List ℕ) → Type 0 where
  none : {text : List ℕ} → Passed 0 text text
  more :
      {n b : ℕ} {text t rest : List ℕ} {vs : List (List ℕ)} → Passed n text (t ++ 13 ∷ 10 ∷ b ∷ rest) → Record vs t → Fits (suc n) vs →
      Passed (suc n) text (b ∷ rest)

-- A good record k, with its end, stands at the front of the rest.
pub record Stands (k : ℕ) (rest : List ℕ) : Type 0 where
  pub values : List (List ℕ)
  pub text : List ℕ
  pub behind : List ℕ
  pub after : List ℕ
  pub is : Record values text
  pub fits : Fits k values
  pub ends : Ends behind after
  pub whole : rest ≡ text ++ behind

-- Record k is the first bad one: good ones stand before it, and where it begins there stands no good one.
pub record BadAt (k : ℕ) (text : List ℕ) : Type 0 where
  pub before : ℕ
  pub rest : List ℕ
  pub number : k ≡ suc before
  pub passed : Passed before text rest
  pub bad : Stands k rest → ⊥
