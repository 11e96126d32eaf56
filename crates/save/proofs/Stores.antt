-- What the stores of the private functions write, on plain values.
-- Core: save_writes, whole_part.
-- Assumes nothing.
use Prim.Native.Nat.{ℕ, ◌+◌, ◌-◌, ◌*◌}
use mathlib.Core.Path.{◌≡◌, sym, ap, ◌∙◌}
use mathlib.Core.List.{List, ◌++◌, append_assoc, append-nil, map, flat_map}
use native.Mathlib.Omega.{arith}
use lib.ListN.{length, drop, length-map}
use lib.Seq.{drop-drop, drop-length}
use borrow.Rule.Slice.PartMut.{put_mid}
use Rattle.std.specs.Prelude.{Ok}
use Rattle.lent.specs.Lent.{over}
use Rattle.lent.proofs.Over.{over_front}
use Rattle.table.specs.declared.Entry.{Entry}
use Rattle.table.specs.Row.{record_length, entries, lowest_entry}
use Rattle.stored.specs.Layout.{head_length, record_of, head_of, bytes_of}
use Rattle.stored.specs.Answer.{saved_in}

-- head and records are the whole layout, at the front of the buffer
pub save_writes :
    (row before head records : List ℕ) (n : ℕ) → n ≡ length (entries row) → head ≡ head_of n →
    records ≡ flat_map record_of (map lowest_entry (entries row)) →
    put_mid head_length (head_length + n * record_length - head_length) (head ++ drop head_length before) records
    ≡ saved_in (Ok (head_length + n * record_length)) row before
unfolding saved_in bytes_of
save_writes row before head records n n-is h r =
    let es : List Entry = map lowest_entry (entries row) in
    let k : ℕ = head_length + n * record_length - head_length in
    let count : length es ≡ n = length-map (entries row) lowest_entry ∙ sym n-is in
    let end : head_length + k ≡ head_length + n * record_length = omega arith in
    ap (λ (l : List ℕ). put_mid head_length k (l ++ drop head_length before) records) h
    ∙ ap (λ (l : List ℕ). head_of n ++ (l ++ drop k (drop head_length before))) r
    ∙ sym (append_assoc (head_of n) (flat_map record_of es) (drop k (drop head_length before)))
    ∙ ap (λ (l : List ℕ). head_of n ++ flat_map record_of es ++ l) (drop-drop k head_length before ∙ ap (λ (m : ℕ). drop m before) end)
    ∙ ap (λ (m : ℕ). head_of m ++ flat_map record_of es ++ drop (head_length + n * record_length) before) (sym count)

-- the records are the whole part that they are written to
pub whole_part : (vs before now : List ℕ) → length before ≡ length vs → now ≡ over before 0 vs → now ≡ vs
whole_part vs before now h w =
    w ∙ over_front before vs (length before) (sym h) ∙ ap (λ (l : List ℕ). vs ++ l) (drop-length before) ∙ append-nil vs
