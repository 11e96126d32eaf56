-- No fraction changes on the way: a listing that is stored and listed again, and a stored table that is listed and stored again.
-- Core: list_after_store, store_after_list.
-- Assumes nothing.
use Prim.Native.Nat.{ℕ, ◌≤◌}
use mathlib.Core.Path.{◌≡◌, sym, ap, subst, ◌∙◌}
use mathlib.Core.List.{List, ◌++◌, map}
use native.Mathlib.Omega.{arith}
use lib.ListN.{length, take, drop}
use lib.Seq.{take_at}
use Rattle.refusal.specs.Paper.{answers}
use Rattle.table.specs.declared.Entry.{Entry}
use Rattle.table.specs.Row.{lowest_entry}
use Rattle.stored.specs.Layout.{bytes_of, length_of, Bytes}
use Rattle.stored.specs.Paper.{paper_answer}
use Rattle.stored.proofs.Lengths.{layout_length}
use Rattle.stored.proofs.RoundTrip.{all_already}
use Rattle.listing.specs.Means.{Listing}
use Rattle.listing.specs.Layout.{text_of, longest_text}
use Rattle.listing.specs.Paper.{paper_exported}
use Rattle.listing.proofs.Lists.{text_lists}
use Rattle.convert.specs.Answer.{store_answer, bytes_after, list_answer, text_after}
use Rattle.convert.proofs.Storing.{store_answers, store_written}
use Rattle.convert.proofs.Listings.{list_stored, list_answers, list_written, stored_sayable, stored_within}

pub list_after_store :
    (text before out : List ℕ) (es : List Entry) (n : ℕ) → Listing text es → paper_answer (store_answer text (length before)) ≡ answers n →
    length (text_of (map lowest_entry es)) ≤ length out →
    (paper_exported (list_answer (take n (bytes_after text before)) (length out)) ≡ answers (length (text_of (map lowest_entry es))))
    × (text_after (take n (bytes_after text before)) out ≡ text_of (map lowest_entry es) ++ drop (length (text_of (map lowest_entry es))) out)
list_after_store text before out es n lists e room =
    let file : List ℕ = take n (bytes_after text before) in
    let stored = (store_written text before es n lists e).1 in
    let answer = list_stored file (map lowest_entry es) (length out) stored room in
    (answer, list_written file out (map lowest_entry es) _ stored answer)

pub store_after_list :
    (bs before out : List ℕ) (n : ℕ) → Bytes bs → paper_exported (list_answer bs (length before)) ≡ answers n → length bs ≤ length out →
    (paper_answer (store_answer (take n (text_after bs before)) (length out)) ≡ answers (length bs))
    × (bytes_after (take n (text_after bs before)) out ≡ bs ++ drop (length bs) out)
store_after_list bs before out n bytes e room =
    let found = (list_answers bs (length before) n bytes).0 e in
    let es : List Entry = found.0 in
    let stored = found.1 in
    let text : take n (text_after bs before) ≡ text_of es =
    ap (take n) (list_written bs before es n stored e) ∙ take_at (text_of es) (drop n before) n (sym found.2) in
    let lists : Listing (text_of es) es = text_lists es (stored_sayable bs es bytes stored) in
    let short : length (text_of es) ≤ longest_text = omega (arith, stored_within bs es bytes stored) in
    let long : length bs ≡ length_of (length es) = ap length stored.layout ∙ layout_length es in
    let answer = (store_answers (text_of es) (length out) (length bs)).1 (short, (es, lists, stored.passes, long, room)) in
    subst
    (λ (l : List ℕ).
    (paper_answer (store_answer l (length out)) ≡ answers (length bs)) × (bytes_after l out ≡ bs ++ drop (length bs) out))
    (sym text) (
      answer,
      (store_written (text_of es) out es (length bs) lists answer).0
          ∙ ap (λ (fs : List Entry). bytes_of fs ++ drop (length bs) out) (all_already es stored.lowest)
          ∙ ap (λ (l : List ℕ). l ++ drop (length bs) out) (sym stored.layout),
    )
