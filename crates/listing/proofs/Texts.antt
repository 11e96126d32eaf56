-- The whole text: what is read of it, it lists, and what it lists is read of it; and so for its first bad record.
-- Core: entries_listed and records_read; entries_bad and passed_on.
-- Assumes nothing.
use Prim.Native.Nat.{ℕ, zero, suc, ◌<◌, ◌≤◌}
use mathlib.Core.Path.{◌≡◌, refl, sym, ap, subst, ◌∙◌}
use mathlib.Core.List.{List, [], ◌∷◌, ◌++◌}
use native.Mathlib.Nat.{le_refl}
use native.Mathlib.Omega.{arith}
use lib.ListN.{length}
use Rattle.decimal.specs.Answer.{Found, nothing, found}
use Rattle.table.specs.declared.Entry.{Entry}
use Rattle.listing.specs.Grammar.{Record, File, Ends, of_text, of_line}
use Rattle.listing.specs.Means.{Good, heading, Fits, first, later, Goods, Listing, Passed, Stands, BadAt}
use Rattle.listing.specs.Answer.{after, heading_in, entry_in, Listed, bad, trains, one_more, entries_from, listed}
use Rattle.listing.proofs.Records.{Ended, AsEnded, Trained, Headed, entry_found, entry_read, heading_found, heading_read}
use Rattle.listing.proofs.Records.{entry_shorter}

-- ---- The records from one on, without the bound

-- the records from record k on
abbrev pub entries_in : ℕ → List ℕ → Listed
entries_in k l = entries_from (length l) k l

pub entries_end : (n k : ℕ) → entries_from n k [] ≡ trains []
unfolding entries_from
entries_end zero k = refl
entries_end (suc n) k = refl

enough : (n m k : ℕ) (l : List ℕ) → length l ≤ n → length l ≤ m → entries_from n k l ≡ entries_from m k l
unfolding entries_from after
enough zero m k [] g h = sym (entries_end m k)
enough zero m k (b ∷ bs) g h = absurd (omega arith)
enough (suc n) m k [] g h = sym (entries_end m k)
enough (suc n) zero k (b ∷ bs) g h = absurd (omega arith)
enough (suc n) (suc m) k (b ∷ bs) g h = go (entry_in (b ∷ bs)) refl (enough n m (suc k))
  where
    go :
        (f : Found Entry) → entry_in (b ∷ bs) ≡ f →
        ((r : List ℕ) → length r ≤ n → length r ≤ m → entries_from n (suc k) r ≡ entries_from m (suc k) r) →
        after f (bad k) (λ e rest. one_more e (entries_from n (suc k) rest))
        ≡ after f (bad k) (λ e rest. one_more e (entries_from m (suc k) rest))
    go nothing e next = refl
    go (found a rest) e next =
        let less : length rest < length (b ∷ bs) = entry_shorter (b ∷ bs) rest a e in
        ap (one_more a) (next rest (omega arith) (omega arith))

pub entries_bad : (k : ℕ) (l : List ℕ) → 0 < length l → entry_in l ≡ nothing → entries_in k l ≡ bad k
unfolding entries_from after
entries_bad k [] h e = absurd (omega arith)
entries_bad k (b ∷ bs) h e = rw e

pub entries_on :
    (k : ℕ) (l rest : List ℕ) (a : Entry) → entry_in l ≡ found a rest → entries_in k l ≡ one_more a (entries_in (suc k) rest)
unfolding entries_from after
entries_on k [] rest a e =
    let less : length rest < 0 = entry_shorter [] rest a e in absurd (omega arith)
entries_on k (b ∷ bs) rest a e =
    let less : length rest < length (b ∷ bs) = entry_shorter (b ∷ bs) rest a e in
    rw e (ap (one_more a) (enough (length bs) (length rest) (suc k) rest (omega arith) (le_refl _)))

pub listed_bad : (l : List ℕ) → heading_in l ≡ nothing → listed l ≡ bad 1
unfolding listed after
listed_bad l e = rw e

pub listed_on : (l rest : List ℕ) (u : Unit {0}) → heading_in l ≡ found u rest → listed l ≡ entries_in 2 rest
unfolding listed after
listed_on l rest u e = rw e

-- ---- What is read is listed

pub never : (k : ℕ) (es : List Entry) → bad k ≡ trains es → ⊥
never k es e = let z : ◌≡◌ {A = ℕ} 0 1 = cc in omega arith

-- a text is empty and lists nothing more, or its records say these trains
data Tail : List ℕ → List Entry → Type 0 where
  nil : Tail [] []
  some : {rs : List (List (List ℕ))} {l : List ℕ} {es : List Entry} → 0 < length l → File rs l → Goods rs es → Tail l es

record_before :
    (t e rest : List ℕ) (vs : List (List ℕ)) (rs : List (List (List ℕ))) → Record vs t → Ends e rest → 0 < length rest → File rs rest →
    File (vs ∷ rs) (t ++ e)
record_before t e rest vs rs is of_text h file = absurd (omega arith)
record_before t e [] vs rs is of_line h file = absurd (omega arith)
record_before t e (b ∷ bs) vs rs is of_line h file = File.more is file

tail_more : (l rest : List ℕ) (a : Entry) (es : List Entry) → 0 < length l → Ended Trained l a rest → Tail rest es → Tail l (a ∷ es)
tail_more l rest a es h r nil =
    some h (subst (File _) (sym r.whole) (File.last r.says.is r.ends)) (Goods.more r.says.says Goods.none)
tail_more l rest a es h r (some {rs = rs} g file goods) =
    some h
    (subst (File _) (sym r.whole) (record_before r.text r.behind rest r.says.values rs r.says.is r.ends g file))
    (Goods.more r.says.says goods)

entries_listed : (n k : ℕ) (l : List ℕ) (es : List Entry) → length l ≤ n → entries_in k l ≡ trains es → Tail l es
unfolding entries_from one_more
entries_listed zero k [] es h e = let same : es ≡ [] = cc in subst (Tail []) (sym same) nil
entries_listed zero k (b ∷ bs) es h e = absurd (omega arith)
entries_listed (suc n) k [] es h e = let same : es ≡ [] = cc in subst (Tail []) (sym same) nil
entries_listed (suc n) k (b ∷ bs) es h e = go (entry_in (b ∷ bs)) refl (entries_listed n (suc k)) (entry_found (b ∷ bs))
  where
    more :
        (a : Entry) (rest : List ℕ) (x : Listed) → Ended Trained (b ∷ bs) a rest → ((fs : List Entry) → x ≡ trains fs → Tail rest fs) →
        one_more a x ≡ trains es → Tail (b ∷ bs) es
    more a rest (bad j) r next g = absurd (never j es g)
    more a rest (trains fs) r next g =
        let same : es ≡ a ∷ fs = cc in
        subst (Tail (b ∷ bs)) (sym same) (tail_more (b ∷ bs) rest a fs (omega arith) r (next fs refl))

    go :
        (f : Found Entry) → entry_in (b ∷ bs) ≡ f →
        ((r : List ℕ) (fs : List Entry) → length r ≤ n → entries_in (suc k) r ≡ trains fs → Tail r fs) →
        AsEnded Trained (b ∷ bs) f → Tail (b ∷ bs) es
    go nothing g next r = absurd (never k es (sym (entries_bad k (b ∷ bs) (omega arith) g) ∙ e))
    go (found a rest) g next r =
        let less : length rest < length (b ∷ bs) = entry_shorter (b ∷ bs) rest a g in
        more a rest (entries_in (suc k) rest) r (λ fs x. next rest fs (omega arith) x) (sym (entries_on k (b ∷ bs) rest a g) ∙ e)

listing_of : (l rest : List ℕ) (u : Unit {0}) (es : List Entry) → Ended Headed l u rest → Tail rest es → Listing l es
listing_of l rest u es r nil =
    record { records = []; file = subst (File _) (sym r.whole) (File.last r.says r.ends); goods = Goods.none }
listing_of l rest u es r (some {rs = rs} g file goods) =
    record {
      records = rs;
      file = subst (File _) (sym r.whole) (record_before r.text r.behind rest heading rs r.says r.ends g file);
      goods = goods;
    }

pub read_listed : (l : List ℕ) (es : List Entry) → listed l ≡ trains es → Listing l es
read_listed l es e = go (heading_in l) refl (heading_found l)
  where
    go : (f : Found (Unit {0})) → heading_in l ≡ f → AsEnded Headed l f → Listing l es
    go nothing g r = absurd (never 1 es (sym (listed_bad l g) ∙ e))
    go (found u rest) g r =
        listing_of l rest u es r (entries_listed (length rest) 2 rest es (le_refl _) (sym (listed_on l rest u g) ∙ e))

-- ---- What is listed is read

records_read : (k : ℕ) (rs : List (List (List ℕ))) (l : List ℕ) (es : List Entry) → File rs l → Goods rs es → entries_in k l ≡ trains es
unfolding one_more
records_read k rs l es (File.last {r = r} {t = t} {e = e} is ends) (Goods.more {e = a} g Goods.none) =
    entries_on k (t ++ e) [] a (entry_read r t e [] a is g ends) ∙ ap (one_more a) (entries_end 0 (suc k))
records_read k rs l es (File.more {r = r} {rs = qs} {t = t} {rest = rest} {b = b} is file) (Goods.more {e = a} {es = fs} g gs) =
    entries_on k _ (b ∷ rest) a (entry_read r t (13 ∷ 10 ∷ b ∷ rest) (b ∷ rest) a is g of_line)
    ∙ ap (one_more a) (records_read (suc k) qs (b ∷ rest) fs file gs)

headed_read : (l : List ℕ) (es : List Entry) (rs : List (List (List ℕ))) → File (heading ∷ rs) l → Goods rs es → listed l ≡ trains es
headed_read l es rs (File.last {t = t} {e = e} is ends) Goods.none =
    listed_on (t ++ e) [] tt (heading_read t e [] is ends) ∙ entries_end 0 2
headed_read l es rs (File.more {t = t} {rest = rest} {b = b} is file) gs =
    listed_on _ (b ∷ rest) tt (heading_read t (13 ∷ 10 ∷ b ∷ rest) (b ∷ rest) is of_line)
    ∙ records_read 2 rs (b ∷ rest) es file gs

pub listing_read : (l : List ℕ) (es : List Entry) → Listing l es → listed l ≡ trains es
listing_read l es y = headed_read l es y.records y.file y.goods

-- ---- A record that is refused is the first bad one

pub record Says (vs : List (List ℕ)) : Type 0 where
  pub train : Entry
  pub says : Good vs train

pub fits_good : {k : ℕ} {vs : List (List ℕ)} → Fits k vs → 1 < k → Says vs
fits_good first h = absurd (omega arith)
fits_good (later {e = a} g says) h = record { train = a; says = says }

pub fits_heading : {k : ℕ} {vs : List (List ℕ)} → Fits k vs → k ≡ 1 → vs ≡ heading
fits_heading first h = refl
fits_heading (later g says) h = absurd (omega arith)

-- where a train stands, one is found
stands_found : (k : ℕ) (l : List ℕ) → 1 < k → Stands k l → entry_in l ≡ nothing → ⊥
stands_found k l h s e =
    let g = fits_good s.fits h in
    let f = entry_read s.values s.text s.behind s.after g.train s.is g.says s.ends in
    let y : nothing ≡ found g.train s.after = sym e ∙ ap entry_in s.whole ∙ f in
    let z : ◌≡◌ {A = ℕ} 0 1 = cc in omega arith

heading_stands : (l : List ℕ) → Stands 1 l → heading_in l ≡ nothing → ⊥
heading_stands l s e =
    let is = subst (λ (vs : List (List ℕ)). Record vs s.text) (fits_heading s.fits refl) s.is in
    let f = heading_read s.text s.behind s.after is s.ends in
    let y : nothing ≡ found tt s.after = sym e ∙ ap heading_in s.whole ∙ f in
    let z : ◌≡◌ {A = ℕ} 0 1 = cc in omega arith

passed_more :
    (j : ℕ) (text l t e rest : List ℕ) (vs : List (List ℕ)) → Passed j text l → Record vs t → Fits (suc j) vs → Ends e rest → l ≡ t ++ e →
    0 < length rest → Passed (suc j) text rest
passed_more j text l t e rest vs p is fits of_text w h = absurd (omega arith)
passed_more j text l t e [] vs p is fits of_line w h = absurd (omega arith)
passed_more j text l t e (b ∷ bs) vs p is fits of_line w h = Passed.more (subst (Passed j text) w p) is fits

more_bad : (a : Entry) (x : Listed) (k : ℕ) → one_more a x ≡ bad k → x ≡ bad k
unfolding one_more
more_bad a (bad j) k e = e
more_bad a (trains es) k e = absurd (never k (a ∷ es) (sym e))

some_left : (k j : ℕ) (l : List ℕ) → entries_in k l ≡ bad j → 0 < length l
unfolding entries_from
some_left k j [] e = absurd (never j [] (sym e))
some_left k j (b ∷ bs) e = omega arith

pub trains_are : (es fs : List Entry) → trains es ≡ trains fs → es ≡ fs
trains_are es fs e = cc

pub bad_is : (j k : ℕ) → bad j ≡ bad k → k ≡ j
bad_is j k e = cc

refused_bad :
    (n j : ℕ) (text l : List ℕ) (k : ℕ) → length l ≤ n → 0 < j → Passed j text l → entries_in (suc j) l ≡ bad k → BadAt k text
refused_bad zero j text l k h g p e = absurd (omega (arith, some_left (suc j) k l e))
refused_bad (suc n) j text l k h g p e = go (entry_in l) refl (entry_found l) (refused_bad n (suc j) text)
  where
    go :
        (f : Found Entry) → entry_in l ≡ f → AsEnded Trained l f →
        ((r : List ℕ) (i : ℕ) → length r ≤ n → 0 < suc j → Passed (suc j) text r → entries_in (suc (suc j)) r ≡ bad i → BadAt i text) →
        BadAt k text
    go nothing m r next =
        let same : k ≡ suc j = bad_is (suc j) k (sym (entries_bad (suc j) l (some_left (suc j) k l e) m) ∙ e) in
        record {
          before = j;
          rest = l;
          number = same;
          passed = p;
          bad = λ s. stands_found k l (omega arith) s m;
        }
    go (found a rest) m r next =
        let less : length rest < length l = entry_shorter l rest a m in
        let again : entries_in (suc (suc j)) rest ≡ bad k =
        more_bad a (entries_in (suc (suc j)) rest) k (sym (entries_on (suc j) l rest a m) ∙ e) in
        next rest k (omega arith) (omega arith)
        (passed_more j text l r.text r.behind rest r.says.values p r.says.is
        (later (omega arith) r.says.says) r.ends r.whole (some_left (suc (suc j)) k rest again))
        again

pub read_bad : (l : List ℕ) (k : ℕ) → listed l ≡ bad k → BadAt k l
read_bad l k e = go (heading_in l) refl (heading_found l)
  where
    go : (f : Found (Unit {0})) → heading_in l ≡ f → AsEnded Headed l f → BadAt k l
    go nothing m r =
        let same : k ≡ 1 = bad_is 1 k (sym (listed_bad l m) ∙ e) in
        record {
          before = 0;
          rest = l;
          number = same;
          passed = Passed.none;
          bad = λ s. heading_stands l (subst (λ (i : ℕ). Stands i l) same s) m;
        }
    go (found u rest) m r =
        let again : entries_in 2 rest ≡ bad k = sym (listed_on l rest u m) ∙ e in
        refused_bad (length rest) 1 l rest k (le_refl _) (omega arith)
        (passed_more 0 l l r.text r.behind rest heading Passed.none r.says first r.ends r.whole
        (some_left 2 k rest again))
        again

-- ---- The first bad record is refused

passed_none : {j : ℕ} {text l : List ℕ} → Passed j text l → j ≡ 0 → text ≡ l
passed_none Passed.none e = refl
passed_none (Passed.more p is fits) e = absurd (omega arith)

passed_on :
    (j : ℕ) (text l : List ℕ) (k : ℕ) → Passed j text l → 0 < j → entries_in (suc j) l ≡ bad k → listed text ≡ bad k
unfolding one_more
passed_on j text l k Passed.none h e = absurd (omega arith)
passed_on j text l k (Passed.more {n = n} {b = b} {t = t} {rest = rest} {vs = vs} p is fits) h e = go n p fits (passed_on n text _ k p) e
  where
    go :
        (i : ℕ) → Passed i text (t ++ 13 ∷ 10 ∷ b ∷ rest) → Fits (suc i) vs →
        (0 < i → entries_in (suc i) (t ++ 13 ∷ 10 ∷ b ∷ rest) ≡ bad k → listed text ≡ bad k) →
        entries_in (suc (suc i)) (b ∷ rest) ≡ bad k → listed text ≡ bad k
    go zero p fits next e =
        let head = subst (λ (ws : List (List ℕ)). Record ws t) (fits_heading fits refl) is in
        ap listed (passed_none p refl)
        ∙ listed_on _ (b ∷ rest) tt (heading_read t (13 ∷ 10 ∷ b ∷ rest) (b ∷ rest) head of_line) ∙ e
    go (suc i) p fits next e =
        let g = fits_good fits (omega arith) in
        next (omega arith)
        (entries_on (suc (suc i)) _ (b ∷ rest) g.train (entry_read vs t (13 ∷ 10 ∷ b ∷ rest) (b ∷ rest) g.train is g.says of_line)
        ∙ ap (one_more g.train) e)

passed_left : {j : ℕ} {text l : List ℕ} → Passed j text l → 0 < j → 0 < length l
passed_left Passed.none h = absurd (omega arith)
passed_left (Passed.more p is fits) h = omega arith

-- a train that is found stands there
found_stands : (k : ℕ) (l : List ℕ) → 1 < k → (Stands k l → ⊥) → entry_in l ≡ nothing
found_stands k l h none-stands = go (entry_in l) (entry_found l)
  where
    go : (f : Found Entry) → AsEnded Trained l f → f ≡ nothing
    go nothing r = refl
    go (found a rest) r =
        absurd
        (none-stands
        (record {
          values = r.says.values;
          text = r.text;
          behind = r.behind;
          after = rest;
          is = r.says.is;
          fits = later h r.says.says;
          ends = r.ends;
          whole = r.whole;
        }))

heading_found_stands : (l : List ℕ) → (Stands 1 l → ⊥) → heading_in l ≡ nothing
heading_found_stands l none-stands = go (heading_in l) (heading_found l)
  where
    go : (f : Found (Unit {0})) → AsEnded Headed l f → f ≡ nothing
    go nothing r = refl
    go (found u rest) r =
        absurd
        (none-stands
        (record {
          values = heading;
          text = r.text;
          behind = r.behind;
          after = rest;
          is = r.says;
          fits = first;
          ends = r.ends;
          whole = r.whole;
        }))

pub bad_read : (l : List ℕ) (k : ℕ) → BadAt k l → listed l ≡ bad k
bad_read l k y =
    go y.before y.rest y.passed (subst (λ (i : ℕ). Stands i y.rest → ⊥) y.number y.bad) ∙ ap bad (sym y.number)
  where
    go : (j : ℕ) (rest : List ℕ) → Passed j l rest → (Stands (suc j) rest → ⊥) → listed l ≡ bad (suc j)
    go zero rest p n =
        listed_bad l (heading_found_stands l (λ s. n (subst (Stands 1) (passed_none p refl) s)))
    go (suc j) rest p n =
        passed_on (suc j) l rest (suc (suc j)) p (omega arith)
        (entries_bad (suc (suc j)) rest (passed_left p (omega arith)) (found_stands (suc (suc j)) rest (omega arith) n))
