-- A buffer `xs` whose part of k bytes from `at` on now holds ys, of which the first n are new.
use Rattle.std.proofs.Common.{◌≡◌, ℕ, ◌+◌, ◌≤◌, List, ◌++◌, length, take, drop, ap, ◌∙◌, arith, length-take-le, drop_at}
use Rattle.std.proofs.lemmas.List.{take-append-le}
use Rattle.std.proofs.lemmas.Slice.{take-put_mid_below}
use borrow.Rule.Slice.PartMut.{put_mid, post_of}
use lib.Seq.{take-add}

drop-put_mid_at : (at k : ℕ) (xs ys : List ℕ) → at ≤ length xs → drop at (put_mid at k xs ys) ≡ ys ++ post_of at k xs
drop-put_mid_at at k xs ys within = drop_at (take at xs) _ at (length-take-le at xs within)

-- the front is what was there, and then the new bytes
pub take-put_mid_filled : (at k n : ℕ) (xs ys : List ℕ) → at ≤ length xs → n ≤ length ys
    → take (at + n) (put_mid at k xs ys) ≡ take at xs ++ take n ys
take-put_mid_filled at k n xs ys within fits =
    take-add at n (put_mid at k xs ys)
    ∙ ap (λ l. take at (put_mid at k xs ys) ++ take n l) (drop-put_mid_at at k xs ys within)
    ∙ ap (λ l. take at (put_mid at k xs ys) ++ l) (take-append-le n ys (post_of at k xs) fits)
    ∙ ap (λ l. l ++ take n ys) (take-put_mid_below at k xs ys at (omega arith) within)
