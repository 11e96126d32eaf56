-- A text that is well-formed to its end: the record that is refused is the first of its records that is not good.
-- Core: records_judged, and unfit_one.
-- Assumes nothing.
use Prim.Native.Nat.{ℕ, suc, ◌<◌}
use mathlib.Core.Path.{◌≡◌, refl, sym, ap, subst, ◌∙◌}
use mathlib.Core.List.{List, [], ◌∷◌, ◌++◌}
use native.Mathlib.Omega.{arith}
use lib.ListN.{length}
use Rattle.decimal.specs.Answer.{Found, nothing, found}
use Rattle.table.specs.declared.Entry.{Entry}
use Rattle.listing.specs.Grammar.{Record, File, Ends, of_line}
use Rattle.listing.specs.Means.{Good, heading, Fits, first, later, Goods, FirstUnfit, here, there, BadAt}
use Rattle.listing.specs.Answer.{heading_in, entry_in, bad, trains, one_more, listed}
use Rattle.listing.proofs.Records.{AsEnded, Trained, Headed, entry_found, entry_read, heading_found, heading_read}
use Rattle.listing.proofs.Texts.{entries_in, entries_bad, entries_on, entries_end, listed_bad, listed_on, fits_good, fits_heading}
use Rattle.listing.proofs.Texts.{never, bad_is, read_bad, bad_read}
use Rattle.listing.proofs.Unique.{record_one, ends_over}

-- ---- One record

-- a record is no train and none is found, or it is one and that is found
data Judged (n : ℕ) (vs : List (List ℕ)) (l rest : List ℕ) : Type 0 where
  unfit : (Fits n vs → ⊥) → entry_in l ≡ nothing → Judged n vs l rest
  fit : (a : Entry) → Good vs a → entry_in l ≡ found a rest → Judged n vs l rest

clash : (l rest : List ℕ) (a : Entry) → entry_in l ≡ nothing → entry_in l ≡ found a rest → ⊥
clash l rest a e f = let z : ◌≡◌ {A = ℕ} 0 1 = cc in omega arith

judged : (n : ℕ) (vs : List (List ℕ)) (t e rest : List ℕ) → 1 < n → Record vs t → Ends e rest → Judged n vs (t ++ e) rest
judged n vs t e rest h is ends = go (entry_in (t ++ e)) refl (entry_found (t ++ e))
  where
    go : (f : Found Entry) → entry_in (t ++ e) ≡ f → AsEnded Trained (t ++ e) f → Judged n vs (t ++ e) rest
    go nothing m r =
        unfit
        (λ s. let g = fits_good s h in clash (t ++ e) rest g.train m (entry_read vs t e rest g.train is g.says ends))
        m
    go (found a after) m r =
        let one = record_one r.behind e r.says.is is (ends_over r.ends) (ends_over ends) (sym r.whole) in
        let good-here = subst (λ (ws : List (List ℕ)). Good ws a) one.values r.says.says in
        fit a good-here (entry_read vs t e rest a is good-here ends)

-- ---- The records of a text

data AllJudged (n : ℕ) (rs : List (List (List ℕ))) (l : List ℕ) : Type 0 where
  refused : (k : ℕ) → FirstUnfit n k rs → entries_in n l ≡ bad k → AllJudged n rs l
  passed : (es : List Entry) → Goods rs es → entries_in n l ≡ trains es → AllJudged n rs l

first_refused :
    (n : ℕ) (vs : List (List ℕ)) (rs : List (List (List ℕ))) (l : List ℕ) → 0 < length l → (Fits n vs → ⊥) → entry_in l ≡ nothing →
    AllJudged n (vs ∷ rs) l
first_refused n vs rs l h s e = refused n (here s) (entries_bad n l h e)

last_judged :
    (n : ℕ) (vs : List (List ℕ)) (l : List ℕ) → 1 < n → 0 < length l → Judged n vs l [] → AllJudged n (vs ∷ []) l
unfolding one_more
last_judged n vs l h g (unfit s e) = first_refused n vs [] l g s e
last_judged n vs l h g (fit a s e) =
    passed (a ∷ []) (Goods.more s Goods.none) (entries_on n l [] a e ∙ ap (one_more a) (entries_end 0 (suc n)))

more_judged :
    (n : ℕ) (vs : List (List ℕ)) (rs : List (List (List ℕ))) (l rest : List ℕ) → 1 < n → 0 < length l → Judged n vs l rest →
    AllJudged (suc n) rs rest → AllJudged n (vs ∷ rs) l
unfolding one_more
more_judged n vs rs l rest h g (unfit s e) next = first_refused n vs rs l g s e
more_judged n vs rs l rest h g (fit a s e) (refused k u f) =
    refused k (there (later h s) u) (entries_on n l rest a e ∙ ap (one_more a) f)
more_judged n vs rs l rest h g (fit a s e) (passed es gs f) =
    passed (a ∷ es) (Goods.more s gs) (entries_on n l rest a e ∙ ap (one_more a) f)

some_text : (t : List ℕ) (b : ℕ) (m : List ℕ) → 0 < length (t ++ b ∷ m)
some_text [] b m = omega arith
some_text (x ∷ t) b m = omega arith

records_judged : (n : ℕ) {rs : List (List (List ℕ))} {l : List ℕ} → 1 < n → 0 < length l → File rs l → AllJudged n rs l
records_judged n h g (File.last {r = vs} {t = t} {e = e} is ends) = last_judged n vs (t ++ e) h g (judged n vs t e [] h is ends)
records_judged n h g (File.more {r = vs} {rs = rs} {t = t} {rest = m} {b = b} is file) =
    more_judged n vs rs _ (b ∷ m) h g (judged n vs t (13 ∷ 10 ∷ b ∷ m) (b ∷ m) h is of_line)
    (records_judged (suc n) (omega arith) (omega arith) file)

-- ---- With the heading

data Whole (rs : List (List (List ℕ))) (l : List ℕ) : Type 0 where
  refused : (k : ℕ) → FirstUnfit 1 k rs → listed l ≡ bad k → Whole rs l
  passed : (qs : List (List (List ℕ))) (es : List Entry) → rs ≡ heading ∷ qs → Goods qs es → listed l ≡ trains es → Whole rs l

data HeadingJudged (vs : List (List ℕ)) (l rest : List ℕ) : Type 0 where
  unfit : (Fits 1 vs → ⊥) → heading_in l ≡ nothing → HeadingJudged vs l rest
  fit : vs ≡ heading → heading_in l ≡ found tt rest → HeadingJudged vs l rest

heading_judged : (vs : List (List ℕ)) (t e rest : List ℕ) → Record vs t → Ends e rest → HeadingJudged vs (t ++ e) rest
heading_judged vs t e rest is ends = go (heading_in (t ++ e)) refl (heading_found (t ++ e))
  where
    read_as : vs ≡ heading → heading_in (t ++ e) ≡ found tt rest
    read_as same = heading_read t e rest (subst (λ (ws : List (List ℕ)). Record ws t) same is) ends

    go : (f : Found (Unit {0})) → heading_in (t ++ e) ≡ f → AsEnded Headed (t ++ e) f → HeadingJudged vs (t ++ e) rest
    go nothing m r =
        unfit
        (λ s. let f = read_as (fits_heading s refl) in let z : ◌≡◌ {A = ℕ} 0 1 = cc in omega arith)
        m
    go (found u after) m r =
        let one = record_one r.behind e r.says is (ends_over r.ends) (ends_over ends) (sym r.whole) in
        fit (sym one.values) (read_as (sym one.values))

heading_fits : (vs : List (List ℕ)) → vs ≡ heading → Fits 1 vs
heading_fits vs e = subst (Fits 1) (sym e) first

whole_last : (vs : List (List ℕ)) (l : List ℕ) → HeadingJudged vs l [] → Whole (vs ∷ []) l
whole_last vs l (HeadingJudged.unfit s e) = Whole.refused 1 (here s) (listed_bad l e)
whole_last vs l (HeadingJudged.fit s e) =
    Whole.passed [] [] (ap (λ (ws : List (List ℕ)). ws ∷ []) s) Goods.none (listed_on l [] tt e ∙ entries_end 0 2)

whole_more :
    (vs : List (List ℕ)) (rs : List (List (List ℕ))) (l rest : List ℕ) → HeadingJudged vs l rest → AllJudged 2 rs rest → Whole (vs ∷ rs) l
whole_more vs rs l rest (HeadingJudged.unfit s e) next = Whole.refused 1 (here s) (listed_bad l e)
whole_more vs rs l rest (HeadingJudged.fit s e) (AllJudged.refused k u f) =
    Whole.refused k (there (heading_fits vs s) u) (listed_on l rest tt e ∙ f)
whole_more vs rs l rest (HeadingJudged.fit s e) (AllJudged.passed es gs f) =
    Whole.passed rs es (ap (λ (ws : List (List ℕ)). ws ∷ rs) s) gs (listed_on l rest tt e ∙ f)

whole : {rs : List (List (List ℕ))} {l : List ℕ} → File rs l → Whole rs l
whole (File.last {r = vs} {t = t} {e = e} is ends) = whole_last vs (t ++ e) (heading_judged vs t e [] is ends)
whole (File.more {r = vs} {rs = rs} {t = t} {rest = m} {b = b} is file) =
    whole_more vs rs _ (b ∷ m) (heading_judged vs t (13 ∷ 10 ∷ b ∷ m) (b ∷ m) is of_line)
    (records_judged 2 (omega arith) (omega arith) file)

-- ---- The first that does not fit

unfit_one : {n j k : ℕ} {rs : List (List (List ℕ))} → FirstUnfit n j rs → FirstUnfit n k rs → j ≡ k
unfit_one (here s) (here t) = refl
unfit_one (here s) (there t u) = absurd (s t)
unfit_one (there s u) (here t) = absurd (t s)
unfit_one (there s u) (there t v) = unfit_one u v

goods_fit : {n k : ℕ} {rs : List (List (List ℕ))} {es : List Entry} → 1 < n → Goods rs es → FirstUnfit n k rs → ⊥
goods_fit h Goods.none m = elim m [ ]
goods_fit h (Goods.more g gs) (here s) = s (later h g)
goods_fit h (Goods.more g gs) (there s u) = goods_fit (omega arith) gs u

first_fit : {n k : ℕ} {qs : List (List (List ℕ))} {es : List Entry} → n ≡ 1 → Goods qs es → FirstUnfit n k (heading ∷ qs) → ⊥
first_fit e gs (here s) = s (subst (λ (i : ℕ). Fits i heading) (sym e) first)
first_fit e gs (there s u) = goods_fit (omega arith) gs u

headed_fit :
    {k : ℕ} {es : List Entry} (rs qs : List (List (List ℕ))) → rs ≡ heading ∷ qs → Goods qs es → FirstUnfit 1 k rs → ⊥
headed_fit {k} rs qs e gs u = first_fit refl gs (subst (FirstUnfit 1 k) e u)

module _ (text : List ℕ) (rs : List (List (List ℕ))) (k : ℕ) (file : File rs text) where
  pub bad_unfit : BadAt k text → FirstUnfit 1 k rs
  bad_unfit y = go (whole file) (bad_read text k y)
    where
      go : Whole rs text → listed text ≡ bad k → FirstUnfit 1 k rs
      go (Whole.refused j u e) f = subst (λ (i : ℕ). FirstUnfit 1 i rs) (sym (bad_is j k (sym e ∙ f))) u
      go (Whole.passed qs es s gs e) f = absurd (never k es (sym f ∙ e))

  pub unfit_bad : FirstUnfit 1 k rs → BadAt k text
  unfit_bad u = go (whole file)
    where
      go : Whole rs text → BadAt k text
      go (Whole.refused j v e) = subst (λ (i : ℕ). BadAt i text) (unfit_one v u) (read_bad text j e)
      go (Whole.passed qs es s gs e) = absurd (headed_fit rs qs s gs u)
