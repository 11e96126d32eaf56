-- What is at the front of a buffer, from what was read to the count. Assumes nothing.
use Rattle.std.proofs.Common.{◌≡◌, ℕ, ◌+◌, ◌≤◌, List, ◌++◌, length, take, drop, ap, ◌∙◌, le_refl, drop_at, length-take-le}
use Rattle.std.proofs.lemmas.Slice.{take-put_mid_below}
use borrow.Rule.Slice.PartMut.{put_mid, post_of}
use lib.Seq.{take-add, take-append-le}

-- What is read into a buffer from there on follows what is at its front.
pub front_grows :
    (a k n : ℕ) (buffer more : List ℕ) → a ≤ length buffer → n ≤ length more →
    take (a + n) (put_mid a k buffer more) ≡ take a buffer ++ take n more
front_grows a k n buffer more within fits =
    let after = post_of a k buffer in
    let below = take-put_mid_below _ _ _ _ _ (le_refl _) within in
    let above = ap (take n) (drop_at (take a buffer) (more ++ after) a (length-take-le a buffer within)) ∙ take-append-le n more after fits in
    take-add a n (put_mid a k buffer more)
    ∙ ap (λ front. front ++ take n (drop a (put_mid a k buffer more))) below
    ∙ ap (λ rest. take a buffer ++ rest) above
