-- A part of a list that is written over from a place on: what then stands in front.
use Rattle.std.proofs.Common.{◌≡◌, ℕ, ◌+◌, ◌≤◌, List, ◌++◌, length, take, drop, ap, ◌∙◌, drop_at, length-take-le, le_refl}
use Rattle.std.proofs.lemmas.Slice.{take-put_mid_below}
use borrow.Rule.Slice.PartMut.{put_mid, post_of}
use lib.Seq.{take-add, take-append-le}

-- what was written goes on from what stood there
pub filled : (at n k : ℕ) (xs ys : List ℕ) → at ≤ length xs → n ≤ length ys → take (at + n) (put_mid at k xs ys) ≡ take at xs ++ take n ys
filled at n k xs ys within fits =
    let all = put_mid at k xs ys in
    let front : take at all ≡ take at xs = take-put_mid_below at k xs ys at (le_refl _) within in
    let behind : drop at all ≡ ys ++ post_of at k xs = drop_at (take at xs) (ys ++ post_of at k xs) at (length-take-le at xs within) in
    take-add at n all ∙ ap (λ l. l ++ take n (drop at all)) front
    ∙ ap (λ l. take at xs ++ l) (ap (take n) behind ∙ take-append-le n ys (post_of at k xs) fits)
