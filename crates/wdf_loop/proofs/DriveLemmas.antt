-- Each source has its own of the values that drive a frame.
use Rattle.std.proofs.Common.{◌≡◌, ℕ, zero, suc, ◌+◌, ◌*◌, ◌<◌, ◌≤◌, Bool, true, false, cond, ◌==◌, List, [], ◌∷◌, length, length-take-le, map, take, drop, refl, ap, ap₂, ◌∙◌, arith}
use Rattle.std.specs.Prelude.{ℤ, filter}
use Rattle.std.specs.List.{range_with_len}
use Rattle.std.proofs.lemmas.Bool.Decides.{nat_tests}
use Rattle.std.proofs.lemmas.List.{length-drop, length-map}
use Rattle.wdf_law.specs.Network.{Network, elements, has_source, source_numbers}
use Rattle.wdf_law.specs.Run.{entry, source_values}
use Rattle.wdf_loop.specs.Blocks.{frame_values}
use Rattle.wdf_loop.specs.RunCells.{wave_in}
use Rattle.wdf_loop.proofs.PlaceLemmas.{ahead}

-- numbers from b on that agree
map-late : (p : ℕ → Bool) (m b : ℕ) (f g : ℕ → ℤ) → ((i : ℕ) → b ≤ i → f i ≡ g i) → map f (filter p (range_with_len b m)) ≡ map g (filter p (range_with_len b m))
map-late p zero b f g same = refl
map-late p (suc m) b f g same = by (p b) (filter p (range_with_len (b + 1) m)) (map-late p m (b + 1) f g (λ i h. same i (omega (arith, h))))
  where
    by : (c : Bool) (rest : List ℕ) → map f rest ≡ map g rest → map f (cond c (b ∷ rest) rest) ≡ map g (cond c (b ∷ rest) rest)
    by true rest h = ap₂ (λ (z : ℤ) (l : List ℤ). z ∷ l) (same b (omega arith)) h
    by false rest h = h

-- each key has its own value
entered : (p : ℕ → Bool) (m a : ℕ) (zs : List ℤ) → length zs ≡ length (filter p (range_with_len a m))
    → map (entry (filter p (range_with_len a m)) zs) (filter p (range_with_len a m)) ≡ zs
entered p zero a [] long = refl
entered p zero a (z ∷ zs) long = absurd (omega arith)
entered p (suc m) a zs long = by (p a) (filter p (range_with_len (a + 1) m)) zs long (map-late p m (a + 1)) (entered p m (a + 1))
  where
    by : (c : Bool) (rest : List ℕ) (zs : List ℤ) → length zs ≡ length (cond c (a ∷ rest) rest)
        → ((f g : ℕ → ℤ) → ((i : ℕ) → a + 1 ≤ i → f i ≡ g i) → map f rest ≡ map g rest)
        → ((ys : List ℤ) → length ys ≡ length rest → map (entry rest ys) rest ≡ ys)
        → map (entry (cond c (a ∷ rest) rest) zs) (cond c (a ∷ rest) rest) ≡ zs
    by true rest [] long late behind = absurd (omega arith)
    by true rest (z ∷ zs) long late behind =
        let first : entry (a ∷ rest) (z ∷ zs) a ≡ z = (let here : (a == a) ≡ true = grind (arith, nat_tests) in ap (λ (c : Bool). cond c z (entry rest zs a)) here) in
        let later : (i : ℕ) → a + 1 ≤ i → entry (a ∷ rest) (z ∷ zs) i ≡ entry rest zs i
        = λ i h. (let other : (a == i) ≡ false = grind (arith, nat_tests) in ap (λ (c : Bool). cond c z (entry rest zs i)) other) in
        ap₂ (λ (y : ℤ) (l : List ℤ). y ∷ l) first (late (entry (a ∷ rest) (z ∷ zs)) (entry rest zs) later ∙ behind zs (omega arith))
    by false rest zs long late behind = behind zs long

-- so the sources have what they are driven by
pub driven : (n : Network) (zs : List ℤ) → length zs ≡ length (source_numbers n) → map (source_values n zs) (source_numbers n) ≡ zs
driven n zs long = entered (has_source (elements n)) (length (elements n)) 0 zs long

-- a frame has a value for each
pub frame_long : (n count f c : ℕ) (rows : List (List ℤ)) → length rows ≡ count * n → f < count → length (frame_values n rows f c) ≡ n
frame_long n count f c rows long h =
    let inside = ahead f count n h in
    length-map (take n (drop (f * n) rows)) (λ (row : List ℤ). wave_in row c) ∙ length-take-le n (drop (f * n) rows) (omega (arith, inside, long, length-drop (f * n) rows))
