-- What a search through the numbers of a range finds.
use Rattle.std.proofs.Common.{◌≡◌, ℕ, zero, suc, ◌+◌, ◌<◌, Bool, true, false, cond, None, Some, List, [], ◌∷◌, ◌++◌, refl, ap, sym, ◌∙◌, arith, subst}
use Rattle.std.specs.Prelude.{filter, length}
use Rattle.std.specs.List.{find, range_with_len, slice_get}
use Rattle.std.proofs.Common.{length-append}
use Rattle.std.proofs.lemmas.List.Elements.{filter-append}

-- the first number that passes
pub found_in_range : (p : ℕ → Bool) (n i a : ℕ) → i < n → ((j : ℕ) → j < i → p (a + j) ≡ false) → p (a + i) ≡ true
    → find p (range_with_len a n) ≡ Some (a + i)
found_in_range p zero i a h before here = absurd (omega arith)
found_in_range p (suc n) zero a h before here =
    let first : p a ≡ true = subst (λ (x : ℕ). p x ≡ true) (omega arith) here in
    let at : a ≡ a + 0 = omega arith in
    ap (λ (b : Bool). cond b (Some a) (find p (range_with_len (a + 1) n))) first ∙ ap (λ (x : ℕ). Some x) at
found_in_range p (suc n) (suc i) a h before here =
    let first : p a ≡ false = subst (λ (x : ℕ). p x ≡ false) (omega arith) (before 0 (omega arith)) in
    let at : a + 1 + i ≡ a + suc i = omega arith in
    let rest : find p (range_with_len (a + 1) n) ≡ Some (a + 1 + i) =
    found_in_range p n i (a + 1) (omega arith)
    (λ j k. subst (λ (x : ℕ). p x ≡ false) (omega arith) (before (suc j) (omega arith)))
    (subst (λ (x : ℕ). p x ≡ true) (omega arith) here) in
    ap (λ (b : Bool). cond b (Some a) (find p (range_with_len (a + 1) n))) first ∙ (rest ∙ ap (λ (x : ℕ). Some x) at)

-- none where none passes
pub none_in_range : (p : ℕ → Bool) (n a : ℕ) → ((j : ℕ) → j < n → p (a + j) ≡ false) → find p (range_with_len a n) ≡ None
none_in_range p zero a none = refl
none_in_range p (suc n) a none =
    let first : p a ≡ false = subst (λ (x : ℕ). p x ≡ false) (omega arith) (none 0 (omega arith)) in
    ap (λ (b : Bool). cond b (Some a) (find p (range_with_len (a + 1) n))) first
    ∙ none_in_range p n (a + 1) (λ j k. subst (λ (x : ℕ). p x ≡ false) (omega arith) (none (suc j) (omega arith)))

-- the same for the numbers below n
pub found_below : (p : ℕ → Bool) (n i : ℕ) → i < n → ((j : ℕ) → j < i → p j ≡ false) → p i ≡ true → find p (range_with_len 0 n) ≡ Some i
found_below p n i h before here =
    let at : 0 + i ≡ i = omega arith in
    found_in_range p n i 0 h (λ j k. subst (λ (x : ℕ). p x ≡ false) (omega arith) (before j k)) (subst (λ (x : ℕ). p x ≡ true) (omega arith) here)
    ∙ ap (λ (x : ℕ). Some x) at

pub none_below : (p : ℕ → Bool) (n : ℕ) → ((j : ℕ) → j < n → p j ≡ false) → find p (range_with_len 0 n) ≡ None
none_below p n none = none_in_range p n 0 (λ j k. subst (λ (x : ℕ). p x ≡ false) (omega arith) (none j k))

range_more : (a n : ℕ) → range_with_len a (suc n) ≡ range_with_len a n ++ (a + n) ∷ []
range_more a zero = ap (λ (x : ℕ). x ∷ []) (omega arith)
range_more a (suc n) =
    let at : a + 1 + n ≡ a + suc n = omega arith in
    ap (λ (xs : List ℕ). a ∷ xs) (range_more (a + 1) n ∙ ap (λ (x : ℕ). range_with_len (a + 1) n ++ x ∷ []) at)

-- how many pass, with one number more
pub count_more : (p : ℕ → Bool) (i : ℕ) → length (filter p (range_with_len 0 (i + 1))) ≡ length (filter p (range_with_len 0 i)) + cond {A = ℕ} (p i) 1 0
count_more p i =
    let next : i + 1 ≡ suc i = omega arith in
    let here : 0 + i ≡ i = omega arith in
    ap (λ (n : ℕ). length (filter p (range_with_len 0 n))) next
    ∙ (ap (λ (xs : List ℕ). length (filter p xs)) (range_more 0 i ∙ ap (λ (x : ℕ). range_with_len 0 i ++ x ∷ []) here)
    ∙ (ap length (filter-append p (range_with_len 0 i) (i ∷ []))
    ∙ (length-append (filter p (range_with_len 0 i)) (filter p (i ∷ [])) ∙ ap (λ (k : ℕ). length (filter p (range_with_len 0 i)) + k) (one (p i)))))
  where
    one : (b : Bool) → length (cond b (i ∷ []) []) ≡ cond {A = ℕ} b 1 0
    one true = refl
    one false = refl

-- a number that passes stands behind those before it that pass
passing_in : (p : ℕ → Bool) (i n a : ℕ) → i < n → p (a + i) ≡ true
    → slice_get (filter p (range_with_len a n)) (length (filter p (range_with_len a i))) ≡ Some (a + i)
passing_in p i zero a h here = absurd (omega arith)
passing_in p zero (suc n) a h here =
    let first : p a ≡ true = subst (λ (x : ℕ). p x ≡ true) (omega arith) here in
    let at : a ≡ a + 0 = omega arith in
    ap (λ (b : Bool). slice_get (cond b (a ∷ filter p (range_with_len (a + 1) n)) (filter p (range_with_len (a + 1) n))) 0) first ∙ ap (λ (x : ℕ). Some x) at
passing_in p (suc i) (suc n) a h here =
    let at : a + 1 + i ≡ a + suc i = omega arith in
    by (p a) refl (passing_in p i n (a + 1) (omega arith) (subst (λ (x : ℕ). p x ≡ true) (omega arith) here)) ∙ ap (λ (x : ℕ). Some x) at
  where
    by : (b : Bool) → p a ≡ b
        → slice_get (filter p (range_with_len (a + 1) n)) (length (filter p (range_with_len (a + 1) i))) ≡ Some (a + 1 + i)
        → slice_get (filter p (range_with_len a (suc n))) (length (filter p (range_with_len a (suc i)))) ≡ Some (a + 1 + i)
    by true e rest =
        ap (λ (b : Bool). slice_get (cond b (a ∷ filter p (range_with_len (a + 1) n)) (filter p (range_with_len (a + 1) n)))
        (length (cond b (a ∷ filter p (range_with_len (a + 1) i)) (filter p (range_with_len (a + 1) i))))) e ∙ rest
    by false e rest =
        ap (λ (b : Bool). slice_get (cond b (a ∷ filter p (range_with_len (a + 1) n)) (filter p (range_with_len (a + 1) n)))
        (length (cond b (a ∷ filter p (range_with_len (a + 1) i)) (filter p (range_with_len (a + 1) i))))) e ∙ rest

pub passing_at : (p : ℕ → Bool) (n i k : ℕ) → i < n → k ≡ length (filter p (range_with_len 0 i)) → p i ≡ true
    → slice_get (filter p (range_with_len 0 n)) k ≡ Some i
passing_at p n i k h count here =
    let at : 0 + i ≡ i = omega arith in
    ap (slice_get (filter p (range_with_len 0 n))) count
    ∙ (passing_in p i n 0 h (subst (λ (x : ℕ). p x ≡ true) (sym at) here) ∙ ap (λ (x : ℕ). Some x) at)
