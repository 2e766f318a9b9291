-- A source in memory moves the first n of its bytes from `at` on into the front of a buffer.
use Rattle.std.proofs.Common.{◌≡◌, ℕ, ◌+◌, ◌≤◌, ◌<◌, List, [], ◌++◌, min, length, take, drop, sym, ap, ◌∙◌, arith, take-append-drop, length-append, length-take-le}
use Rattle.std.proofs.lemmas.List.{take_at, drop-drop, length-drop, drop_all}

-- what was left is what now stands in the front of the buffer, and then what is still left
pub left-served : (bytes front rest : List ℕ) (at n : ℕ) → n ≤ length (drop at bytes) → front ≡ take n (drop at bytes)
    → drop at bytes ≡ take n (front ++ rest) ++ drop (at + n) bytes
left-served bytes front rest at n fits copied =
    let long = ap length copied ∙ length-take-le n (drop at bytes) fits in
    sym (take-append-drop n (drop at bytes))
    ∙ ap (λ l. l ++ drop n (drop at bytes)) (sym (take_at front rest n long ∙ copied))
    ∙ ap (λ l. take n (front ++ rest) ++ l) (drop-drop n at bytes)

-- a buffer that is not empty gets nothing only at the end
pub none-left : (bytes buf front : List ℕ) (at n : ℕ) → n ≡ min (length buf) (length (drop at bytes)) → length front ≡ n
    → n ≡ 0 → 0 < length (front ++ drop n buf) → drop (at + n) bytes ≡ []
none-left bytes buf front at n least long none room =
    drop_all (at + n) bytes (omega (arith, length-append front (drop n buf), length-drop n buf, length-drop at bytes))
