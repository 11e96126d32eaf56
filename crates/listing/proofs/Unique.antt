-- A text has one list of records at most, whatever their fields say. The values of a field are taken off a text by a function
-- that is used here alone; that it takes what stands there is all that is needed of it.
-- Core: field_taken; record_one and files_one follow by induction.
-- Assumes nothing.
use Prim.Native.Nat.{ℕ}
use mathlib.Core.Path.{◌≡◌, refl, sym, ap, ◌∙◌}
use mathlib.Core.Bool.{cond}
use mathlib.Core.List.{List, [], ◌∷◌, ◌++◌, append_assoc}
use native.Mathlib.Omega.{arith}
use lib.Dec.{eqb}
use lib.ListN.{get_or, drop}
use borrow.Author.Tests.{ne_eqb}
use Rattle.decimal.specs.Answer.{Found, nothing, found}
use Rattle.listing.specs.Grammar.{NonEscaped, Inside, a_text, a_comma, a_return, a_newline, a_quote, Field, plain, quoted}
use Rattle.listing.specs.Grammar.{Record, File, Ends, of_text, of_line}
use Rattle.listing.proofs.Fronts.{Border, at_end, at_comma, at_return}
use Rattle.listing.proofs.Fields.{no_data, no_quote}

-- ---- A field

-- one byte more in front of a value
consed : ℕ → Found (List ℕ) → Found (List ℕ)
consed b nothing = nothing
consed b (found v rest) = found (b ∷ v) rest

-- the value in quotes, from behind the first one on
unquote : List ℕ → Found (List ℕ)
unquote [] = nothing
unquote (b ∷ []) = cond (eqb b 34) (found [] []) nothing
unquote (b ∷ c ∷ bs) =
    cond (eqb b 34) (cond (eqb c 34) (consed 34 (unquote bs)) (found [] (c ∷ bs))) (consed b (unquote (c ∷ bs)))

-- the value without quotes
bare : List ℕ → Found (List ℕ)
bare [] = found [] []
bare (b ∷ bs) = cond (eqb b 44) (found [] (b ∷ bs)) (cond (eqb b 13) (found [] (b ∷ bs)) (consed b (bare bs)))

-- the value of the field in front
field_of : List ℕ → Found (List ℕ)
field_of l = cond (eqb (get_or l 0 0) 34) (unquote (drop 1 l)) (bare l)

unquote_byte : (b : ℕ) (l : List ℕ) → (b ≡ 34 → ⊥) → unquote (b ∷ l) ≡ consed b (unquote l)
unfolding unquote consed
unquote_byte b [] n = rw (ne_eqb b 34 n)
unquote_byte b (c ∷ l) n = rw (ne_eqb b 34 n)

module _ (rest : List ℕ) (border : Border rest) where
  unquote_end : unquote (34 ∷ rest) ≡ found [] rest
  unfolding unquote
  unquote_end = go rest border
    where
      go : (r : List ℕ) → Border r → unquote (34 ∷ r) ≡ found [] r
      go r at_end = refl
      go r at_comma = refl
      go r at_return = refl

  byte_taken :
      (b : ℕ) (v t : List ℕ) → (b ≡ 34 → ⊥) → unquote (t ++ 34 ∷ rest) ≡ found v rest →
      unquote (b ∷ (t ++ 34 ∷ rest)) ≡ found (b ∷ v) rest
  unfolding consed
  byte_taken b v t n e = unquote_byte b (t ++ 34 ∷ rest) n ∙ ap (consed b) e

  inside_taken : {v t : List ℕ} → Inside v t → unquote (t ++ 34 ∷ rest) ≡ found v rest
  unfolding unquote consed
  inside_taken Inside.none = unquote_end
  inside_taken (a_text {b = b} {v = v} {t = t} d i) = byte_taken b v t (no_data b d).0 (inside_taken i)
  inside_taken (a_comma {v = v} {t = t} i) = byte_taken 44 v t (λ e. omega arith) (inside_taken i)
  inside_taken (a_return {v = v} {t = t} i) = byte_taken 13 v t (λ e. omega arith) (inside_taken i)
  inside_taken (a_newline {v = v} {t = t} i) = byte_taken 10 v t (λ e. omega arith) (inside_taken i)
  inside_taken (a_quote i) = ap (consed 34) (inside_taken i)

  bare_end : bare rest ≡ found [] rest
  unfolding bare
  bare_end = go rest border
    where
      go : (r : List ℕ) → Border r → bare r ≡ found [] r
      go r at_end = refl
      go r at_comma = refl
      go r at_return = refl

  plain_taken : {v : List ℕ} → NonEscaped v → bare (v ++ rest) ≡ found v rest
  unfolding bare consed
  plain_taken NonEscaped.none = bare_end
  plain_taken (NonEscaped.more {b = b} {bs = bs} d p) =
      rw (ne_eqb b 44 (no_data b d).1, ne_eqb b 13 (no_data b d).2, plain_taken p)

  field_taken : (v t : List ℕ) → Field v t → field_of (t ++ rest) ≡ found v rest
  unfolding field_of
  field_taken v t (plain p) = rw (no_quote v rest p border) (plain_taken p)
  field_taken v t (quoted {t = u} i) = ap unquote (append_assoc u (34 ∷ []) rest) ∙ inside_taken i

-- two values that were taken, and what follows them
pub record Same {A : Type 0} (a b : A) (l m : List ℕ) : Type 0 where
  pub values : a ≡ b
  pub rests : l ≡ m

same_found : (v w l m : List ℕ) → ◌≡◌ {A = Found (List ℕ)} (found v l) (found w m) → Same v w l m
same_found v w l m e = record { values = cc; rests = cc }

field_one :
    (v w s t l m : List ℕ) → Field v s → Field w t → Border l → Border m → s ++ l ≡ t ++ m → Same v w l m
field_one v w s t l m p q f g e =
    same_found v w l m (sym (field_taken l f v s p) ∙ ap field_of e ∙ field_taken m g w t q)

-- ---- A record

-- what may stand behind a record
pub data Over : List ℕ → Type 0 where
  no_more : Over []
  next_line : {l : List ℕ} → Over (13 ∷ l)

over_border : {l : List ℕ} → Over l → Border l
over_border no_more = at_end
over_border next_line = at_return

over_no_comma : {l : List ℕ} (m : List ℕ) → Over l → l ≡ 44 ∷ m → ⊥
over_no_comma m no_more e = let z : ◌≡◌ {A = ℕ} 0 1 = cc in omega arith
over_no_comma m next_line e = let z : ◌≡◌ {A = ℕ} 13 44 = cc in omega arith

pub record_one :
    {vs ws : List (List ℕ)} {s t : List ℕ} (l m : List ℕ) → Record vs s → Record ws t → Over l → Over m → s ++ l ≡ t ++ m → Same vs ws l m
record_one l m (Record.last {v = v} {t = s} p) (Record.last {v = w} {t = t} q) f g e =
    let k = field_one v w s t l m p q (over_border f) (over_border g) e in
    record { values = ap (λ (x : List ℕ). x ∷ []) k.values; rests = k.rests }
record_one l m (Record.last {v = v} {t = s} p) (Record.more {v = w} {t = t} {ts = ts} q qs) f g e =
    let k = field_one v w s t l (44 ∷ (ts ++ m)) p q (over_border f) at_comma (e ∙ append_assoc t (44 ∷ ts) m) in
    absurd (over_no_comma (ts ++ m) f k.rests)
record_one l m (Record.more {v = v} {t = s} {ts = ss} p ps) (Record.last {v = w} {t = t} q) f g e =
    let k = field_one v w s t (44 ∷ (ss ++ l)) m p q at_comma (over_border g) (sym (append_assoc s (44 ∷ ss) l) ∙ e) in
    absurd (over_no_comma (ss ++ l) g (sym k.rests))
record_one l m (Record.more {v = v} {t = s} {ts = ss} p ps) (Record.more {v = w} {t = t} {ts = ts} q qs) f g e =
    let k = field_one v w s t (44 ∷ (ss ++ l)) (44 ∷ (ts ++ m)) p q at_comma at_comma
    (sym (append_assoc s (44 ∷ ss) l) ∙ e ∙ append_assoc t (44 ∷ ts) m) in
    let n = record_one l m ps qs f g (ap (drop 1) k.rests) in
    record { values = λ i. k.values i ∷ n.values i; rests = n.rests }

-- ---- A text

pub ends_over : {e rest : List ℕ} → Ends e rest → Over e
ends_over of_text = no_more
ends_over of_line = next_line

ends_last : {e : List ℕ} (b : ℕ) (l : List ℕ) → Ends e [] → e ≡ 13 ∷ 10 ∷ b ∷ l → ⊥
ends_last b l of_text e = let z : ◌≡◌ {A = ℕ} 0 1 = cc in omega arith
ends_last b l of_line e = let same : [] ≡ b ∷ l = ap (drop 2) e in
    let z : ◌≡◌ {A = ℕ} 0 1 = cc in omega arith

pub files_one : {rs qs : List (List (List ℕ))} {l m : List ℕ} → File rs l → File qs m → l ≡ m → rs ≡ qs
files_one (File.last {t = s} {e = e} p f) (File.last {t = t} {e = d} q g) w =
    ap (λ (r : List (List ℕ)). r ∷ []) (record_one e d p q (ends_over f) (ends_over g) w).values
files_one (File.last {t = s} {e = e} p f) (File.more {t = t} {rest = n} {b = b} q qs) w =
    absurd (ends_last b n f (record_one e (13 ∷ 10 ∷ b ∷ n) p q (ends_over f) next_line w).rests)
files_one (File.more {t = s} {rest = n} {b = b} p ps) (File.last {t = t} {e = d} q g) w =
    absurd (ends_last b n g (sym (record_one (13 ∷ 10 ∷ b ∷ n) d p q next_line (ends_over g) w).rests))
files_one (File.more {t = s} {rest = n} {b = b} p ps) (File.more {t = t} {rest = o} {b = c} q qs) w =
    let k = record_one (13 ∷ 10 ∷ b ∷ n) (13 ∷ 10 ∷ c ∷ o) p q next_line next_line w in
    let next = files_one ps qs (ap (drop 2) k.rests) in
    λ i. k.values i ∷ next i
