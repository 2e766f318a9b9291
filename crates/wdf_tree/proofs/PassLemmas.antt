-- One frame: its words are small, its inputs are the samples', and the states after it are the step's.
use Rattle.std.proofs.Common.{◌≡◌, ℕ, zero, suc, ◌+◌, ◌*◌, ◌^◌, ◌<◌, ◌≤◌, Bool, true, false, cond, ◌==◌, List, [], ◌∷◌, length, map, refl, sym, subst, arith}
use Rattle.std.specs.Prelude.{ℤ, pos, unsigned_abs, All, filter}
use Rattle.std.specs.List.{range_with_len}
use Rattle.std.proofs.Math.Nat.{mul-le-mul}
use Rattle.std.proofs.lemmas.Int.{unsigned_abs-mul}
use Rattle.std.proofs.lemmas.List.Elements.{All-head, All-tail, All-nil, All-cons}
use Rattle.wdf_law.specs.Trees.{AdaptorTree, leaf, series, parallel}
use Rattle.wdf_law.specs.Network.{Network, has_leaf}
use Rattle.wdf_law.specs.Step.{Waves, ends, forks, Frame, sent, sent_in}
use Rattle.wdf_law.specs.OutputRule.{scaled_up}
use Rattle.wdf_law.specs.Run.{entry}
use Rattle.wdf_bounds.specs.HeldWords.{AreLimited, IsFrameLimited}

-- ---- words

-- what an element is sent is within the limit of words
either_small : (limit : ℕ) (b : Bool) (x y : ℤ) → unsigned_abs x ≤ limit → unsigned_abs y ≤ limit → unsigned_abs (cond b x y) ≤ limit
either_small limit true x y h k = h
either_small limit false x y h k = k

none_small : (limit : ℕ) → unsigned_abs (pos 0) ≤ limit
none_small limit = omega arith

sent_small : (limit : ℕ) (t : AdaptorTree) (w : Waves) (i : ℕ) → AreLimited limit w → unsigned_abs (sent t w i) ≤ limit
sent_small c (leaf j k flip) (ends u d) i h = either_small c (j == i) d (pos 0) h.1 (none_small c)
sent_small c (leaf j k flip) (forks u d b1 b2 b wl wr) i h = none_small c
sent_small c (series m l r) (ends u d) i h = none_small c
sent_small c (series m l r) (forks u d b1 b2 b wl wr) i h = either_small c (has_leaf l i) (sent l wl i) (sent r wr i) (sent_small c l wl i h.2) (sent_small c r wr i h.3)
sent_small c (parallel m l r) (ends u d) i h = none_small c
sent_small c (parallel m l r) (forks u d b1 b2 b wl wr) i h = either_small c (has_leaf l i) (sent l wl i) (sent r wr i) (sent_small c l wl i h.2) (sent_small c r wr i h.3)

pub sent_in_small : (limit : ℕ) (n : Network) (s : Frame) (i : ℕ) → IsFrameLimited limit s → unsigned_abs (sent_in n s i) ≤ limit
sent_in_small c n s i h = either_small c (has_leaf n.left i) (sent n.left s.left i) (sent n.right s.right i) (sent_small c n.left s.left i h.left) (sent_small c n.right s.right i h.right)

-- ---- inputs

-- no source's value is larger than the greatest sample's
pub entry_small : (guard c i : ℕ) (ks : List ℕ) (zs : List ℤ) → All (λ (z : ℤ). unsigned_abs z ≤ c) zs → unsigned_abs (entry ks (map (scaled_up guard) zs) i) ≤ c * 2 ^ guard
entry_small guard c i [] zs h = omega arith
entry_small guard c i (k ∷ ks) [] h = omega arith
entry_small guard c i (k ∷ ks) (z ∷ zs) h =
    let size : unsigned_abs (scaled_up guard z) ≡ unsigned_abs z * 2 ^ guard = unsigned_abs-mul z (pos (2 ^ guard)) in
    let first : unsigned_abs z ≤ c = All-head (λ (z : ℤ). unsigned_abs z ≤ c) z zs h in
    let most : unsigned_abs z * 2 ^ guard ≤ c * 2 ^ guard = mul-le-mul first (omega arith) in
    by (k == i) (subst (λ (m : ℕ). m ≤ c * 2 ^ guard) (sym size) most) (entry_small guard c i ks zs (All-tail (λ (z : ℤ). unsigned_abs z ≤ c) z zs h))
  where
    by : (b : Bool) → unsigned_abs (scaled_up guard z) ≤ c * 2 ^ guard → unsigned_abs (entry ks (map (scaled_up guard) zs) i) ≤ c * 2 ^ guard
        → unsigned_abs (cond b (scaled_up guard z) (entry ks (map (scaled_up guard) zs) i)) ≤ c * 2 ^ guard
    by true first rest = first
    by false first rest = rest

-- ---- numbers of a range that pass

pub passing_below : (p : ℕ → Bool) (a n c : ℕ) → a + n ≤ c → All (λ (i : ℕ). i < c) (filter p (range_with_len a n))
passing_below p a zero c h = All-nil (λ (i : ℕ). i < c)
passing_below p a (suc n) c h = by (p a) (passing_below p (a + 1) n c (omega arith))
  where
    by : (b : Bool) → All (λ (i : ℕ). i < c) (filter p (range_with_len (a + 1) n)) → All (λ (i : ℕ). i < c) (cond b (a ∷ filter p (range_with_len (a + 1) n)) (filter p (range_with_len (a + 1) n)))
    by true rest = All-cons (λ (i : ℕ). i < c) a (filter p (range_with_len (a + 1) n)) (omega arith) rest
    by false rest = rest

pub passing_few : (p : ℕ → Bool) (a n : ℕ) → length (filter p (range_with_len a n)) ≤ n
passing_few p a zero = omega arith
passing_few p a (suc n) = by (p a) (passing_few p (a + 1) n)
  where
    by : (b : Bool) → length (filter p (range_with_len (a + 1) n)) ≤ n → length (cond b (a ∷ filter p (range_with_len (a + 1) n)) (filter p (range_with_len (a + 1) n))) ≤ suc n
    by true rest = omega arith
    by false rest = omega arith

-- two functions that agree below c give such numbers the same
pub map_same : (f g : ℕ → ℤ) (c : ℕ) (ks : List ℕ) → All (λ (i : ℕ). i < c) ks → ((i : ℕ) → i < c → f i ≡ g i) → map f ks ≡ map g ks
map_same f g c [] below same = refl
map_same f g c (k ∷ ks) below same =
    let first : f k ≡ g k = same k (All-head (λ (i : ℕ). i < c) k ks below) in
    let rest : map f ks ≡ map g ks = map_same f g c ks (All-tail (λ (i : ℕ). i < c) k ks below) same in
    λ j. first j ∷ rest j
