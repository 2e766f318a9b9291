-- The walk: where the waves of a step are words, so are those on its way, and what it writes are the step's down waves.
use Rattle.std.proofs.Common.{◌≡◌, ℕ, ◌-◌, List, refl, ap, sym, ◌∙◌, subst}
use Rattle.std.specs.Prelude.{ℤ, unsigned_abs, ◌≤◌}
use Rattle.wdf_algebra.specs.JunctionValues.{series_part, parallel_part, root_value}
use Rattle.wdf_algebra.specs.Truncation.{trunc}
use Rattle.wdf_law.specs.Trees.{AdaptorTree, leaf, series, parallel}
use Rattle.wdf_law.specs.Solved.{ups, waves}
use Rattle.wdf_tree.specs.declared.wave_tree.WaveTree.{WaveTree, Leaf, Series', Parallel'}
use Rattle.wdf_tree.specs.Words.{IsWord}
use Rattle.wdf_tree.specs.WaveTrees.{tree_of, IsFilled, HasWordUps, HasWordDowns, spread}
use Rattle.wdf_bounds.specs.HeldWords.{AreLimited}
use Rattle.wdf_tree.specs.Walks.{placed}

-- numbers within a limit are words
abbrev pub FitsWords : ℕ → ℕ → Type 0
FitsWords limit q = (z : ℤ) → unsigned_abs z ≤ limit → IsWord q z

pub ups_words : (limit q : ℕ) (x e : ℕ → ℤ) (t : AdaptorTree) (d : ℤ) → FitsWords limit q → AreLimited limit (waves q x e t d) → HasWordUps q x e t
ups_words c q x e (leaf i k flip) d fits h = fits (ups q x e (leaf i k flip)) h.0
ups_words c q x e (series m l r) d fits h = (fits (ups q x e (series m l r)) h.0, ups_words c q x e l _ fits h.2, ups_words c q x e r _ fits h.3)
ups_words c q x e (parallel m l r) d fits h = (fits (ups q x e (parallel m l r)) h.0, ups_words c q x e l _ fits h.2, ups_words c q x e r _ fits h.3)

-- the wave that a tree reflects is among them
pub up_word : (q : ℕ) (x e : ℕ → ℤ) (t : AdaptorTree) → HasWordUps q x e t → IsWord q (ups q x e t)
up_word q x e (leaf i k flip) h = h
up_word q x e (series m l r) h = h.0
up_word q x e (parallel m l r) h = h.0

-- a property of two numbers that are equal to two others
both : (P : ℤ → ℤ → Type 0) (a b c d : ℤ) → a ≡ c → b ≡ d → P c d → P a b
both P a b c d e f h = subst (λ (z : ℤ). P z b) (sym e) (subst (λ (z : ℤ). P c z) (sym f) h)

pub downs_words : (limit q : ℕ) (x e : ℕ → ℤ) (c : WaveTree) (d : ℤ) → FitsWords limit q → IsFilled q x e c → AreLimited limit (waves q x e (tree_of c) d) → HasWordDowns q c d
downs_words a q x e (Leaf i k flip) d fits f h = tt
downs_words limit q x e (Series' m up p l pr r) d fits f h =
    let u1 = ups q x e (tree_of l) in
    let u2 = ups q x e (tree_of r) in
    both (λ (a : ℤ) (b : ℤ). IsWord q a × IsWord q b × IsWord q d
    × HasWordDowns q l (trunc (series_part q m a b d a) q) × HasWordDowns q r (trunc (series_part q (q - m) a b d b) q))
    up.first up.second u1 u2 f.0 f.1 (
      up_word q x e (tree_of l) (ups_words limit q x e (tree_of l) _ fits h.2),
      up_word q x e (tree_of r) (ups_words limit q x e (tree_of r) _ fits h.3),
      fits d h.1,
      downs_words limit q x e l (trunc (series_part q m u1 u2 d u1) q) fits f.2 h.2,
      downs_words limit q x e r (trunc (series_part q (q - m) u1 u2 d u2) q) fits f.3 h.3,
    )
downs_words limit q x e (Parallel' m up p l pr r) d fits f h =
    let u1 = ups q x e (tree_of l) in
    let u2 = ups q x e (tree_of r) in
    both (λ (a : ℤ) (b : ℤ). IsWord q a × IsWord q b × IsWord q d
    × HasWordDowns q l (trunc (parallel_part q m (q - m) a b d a) q) × HasWordDowns q r (trunc (parallel_part q m (q - m) a b d b) q))
    up.first up.second u1 u2 f.0 f.1 (
      up_word q x e (tree_of l) (ups_words limit q x e (tree_of l) _ fits h.2),
      up_word q x e (tree_of r) (ups_words limit q x e (tree_of r) _ fits h.3),
      fits d h.1,
      downs_words limit q x e l (trunc (parallel_part q m (q - m) u1 u2 d u1) q) fits f.2 h.2,
      downs_words limit q x e r (trunc (parallel_part q m (q - m) u1 u2 d u2) q) fits f.3 h.3,
    )

pub spread_is : (q : ℕ) (x e : ℕ → ℤ) (c : WaveTree) (d : ℤ) (xs : List ℤ) → IsFilled q x e c → spread q c d xs ≡ placed (tree_of c) (waves q x e (tree_of c) d) xs
spread_is q x e (Leaf i k flip) d xs f = refl
spread_is q x e (Series' m up p l pr r) d xs f =
    let u1 = ups q x e (tree_of l) in
    let u2 = ups q x e (tree_of r) in
    let d1 = trunc (series_part q m u1 u2 d u1) q in
    let d2 = trunc (series_part q (q - m) u1 u2 d u2) q in
    both (λ (a : ℤ) (b : ℤ). spread q r (trunc (series_part q (q - m) a b d b) q) (spread q l (trunc (series_part q m a b d a) q) xs)
    ≡ placed (tree_of r) (waves q x e (tree_of r) d2) (placed (tree_of l) (waves q x e (tree_of l) d1) xs))
    up.first up.second u1 u2 f.0 f.1
    (spread_is q x e r d2 (spread q l d1 xs) f.3 ∙ ap (placed (tree_of r) (waves q x e (tree_of r) d2)) (spread_is q x e l d1 xs f.2))
spread_is q x e (Parallel' m up p l pr r) d xs f =
    let u1 = ups q x e (tree_of l) in
    let u2 = ups q x e (tree_of r) in
    let d1 = trunc (parallel_part q m (q - m) u1 u2 d u1) q in
    let d2 = trunc (parallel_part q m (q - m) u1 u2 d u2) q in
    both (λ (a : ℤ) (b : ℤ). spread q r (trunc (parallel_part q m (q - m) a b d b) q) (spread q l (trunc (parallel_part q m (q - m) a b d a) q) xs)
    ≡ placed (tree_of r) (waves q x e (tree_of r) d2) (placed (tree_of l) (waves q x e (tree_of l) d1) xs))
    up.first up.second u1 u2 f.0 f.1
    (spread_is q x e r d2 (spread q l d1 xs) f.3 ∙ ap (placed (tree_of r) (waves q x e (tree_of r) d2)) (spread_is q x e l d1 xs f.2))

-- ---- one tree in the walk: its tree and its unit are the network's

pub up_side : (limit q p : ℕ) (x e : ℕ → ℤ) (c : WaveTree) (t : AdaptorTree) (d : ℤ) → FitsWords limit p → q ≡ p → tree_of c ≡ t → AreLimited limit (waves p x e t d) → HasWordUps q x e (tree_of c)
up_side limit q p x e c t d fits same tree h =
    subst (λ (n : ℕ). HasWordUps n x e (tree_of c)) (sym same) (subst (λ (s : AdaptorTree). HasWordUps p x e s) (sym tree) (ups_words limit p x e t d fits h))

-- what it reflects
pub reflects : (q p : ℕ) (x e : ℕ → ℤ) (s t : AdaptorTree) (u : ℤ) → q ≡ p → s ≡ t → u ≡ ups q x e s → u ≡ ups p x e t
reflects q p x e s t u same tree h = h ∙ (λ i. ups (same i) x e (tree i))

-- what the root sends it
pub root_sends : (q p m n : ℕ) (u1 u2 u v1 v2 v z : ℤ) → q ≡ p → m ≡ n → u1 ≡ v1 → u2 ≡ v2 → u ≡ v
    → z ≡ trunc (root_value q m (q - m) u1 u2 u) q → z ≡ trunc (root_value p n (p - n) v1 v2 v) p
root_sends q p m n u1 u2 u v1 v2 v z same part first second own h =
    h ∙ (λ i. trunc (root_value (same i) (part i) (same i - part i) (first i) (second i) (own i)) (same i))

pub down_side : (limit q p : ℕ) (x e : ℕ → ℤ) (c : WaveTree) (t : AdaptorTree) (d z : ℤ) → FitsWords limit p → q ≡ p → tree_of c ≡ t → IsFilled q x e c → z ≡ d
    → AreLimited limit (waves p x e t d) → HasWordDowns q c z
down_side limit q p x e c t d z fits same tree f sends h =
    subst (λ (n : ℕ). HasWordDowns n c z) (sym same) (subst (λ (y : ℤ). HasWordDowns p c y) (sym sends)
    (downs_words limit p x e c d fits (subst (λ (n : ℕ). IsFilled n x e c) same f) (subst (λ (s : AdaptorTree). AreLimited limit (waves p x e s d)) (sym tree) h)))

pub spread_side : (q p : ℕ) (x e : ℕ → ℤ) (c : WaveTree) (t : AdaptorTree) (d z : ℤ) (xs : List ℤ) → q ≡ p → tree_of c ≡ t → IsFilled q x e c → z ≡ d
    → spread q c z xs ≡ placed t (waves p x e t d) xs
spread_side q p x e c t d z xs same tree f sends =
    (λ i. spread (same i) c (sends i) xs) ∙ (spread_is p x e c d xs (subst (λ (n : ℕ). IsFilled n x e c) same f) ∙ (λ i. placed (tree i) (waves p x e (tree i) d) xs))
