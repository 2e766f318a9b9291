-- Sums of squares down a column of rows.
use Rattle.std.proofs.Common.{◌≡◌, ℕ, zero, suc, ◌+◌, ◌-◌, ◌*◌, ◌<◌, ◌≤◌, List, [], ◌∷◌, ◌++◌, length, map, take, drop, get_or, refl, ap, ◌∙◌, arith}
use Rattle.std.specs.Prelude.{ℤ, pos}
use Rattle.std.specs.List.{sum_by}
use Rattle.std.proofs.Math.Nat.{mul-le-mul_left}
use Rattle.std.proofs.lemmas.List.{take_more, map-append, get_or-drop, length-drop}
use Rattle.std.proofs.lemmas.List.Sums.{sum_by_push}
use Rattle.wdf_algebra.specs.Squares.{square}
use Rattle.wdf_energy.specs.Blocks.{in_column, column_of, frame_column}
use Rattle.wdf_energy.specs.PortLists.{every_row, squares_over}

-- ---- sums over a count

pub over-next : (g : ℕ → ℤ) (i : ℕ) → squares_over g (i + 1) ≡ squares_over g i + square (g i)
over-next g i = let e : i + 1 ≡ suc i = omega arith in ap (squares_over g) e

over-add : (g : ℕ → ℤ) (i m : ℕ) → squares_over g i ≤ squares_over g (i + m)
over-add g i zero = let e : i + 0 ≡ i = omega arith in let same = ap (squares_over g) e in omega arith
over-add g i (suc m) =
    let e : i + suc m ≡ suc (i + m) = omega arith in
    let same = ap (squares_over g) e in
    let before = over-add g i m in
    omega arith

-- one square more is at most all
pub over-below : (g : ℕ → ℤ) (i n : ℕ) → i < n → squares_over g i + square (g i) ≤ squares_over g n
over-below g i n h =
    let e : i + 1 + (n - (i + 1)) ≡ n = omega arith in
    let all = over-add g (i + 1) (n - (i + 1)) in
    let same = ap (squares_over g) e in
    let next = over-next g i in
    omega arith

pub over-agree : (g h : ℕ → ℤ) (n : ℕ) → ((f : ℕ) → f < n → g f ≡ h f) → squares_over g n ≡ squares_over h n
over-agree g h zero same = refl
over-agree g h (suc n) same = λ i. over-agree g h n (λ f below. same f (omega arith)) i + square (same n (omega arith) i)

-- ---- rows

-- the row of an element in a frame is one of all
pub row-inside : (f i count width rows : ℕ) → f < count → i < width → rows ≡ count * width → f * width + i < rows
row-inside f i count width rows here there all =
    let few : f + 1 ≤ count = omega arith in
    let times : width * (f + 1) ≤ width * count = mul-le-mul_left width few in
    omega arith

-- so many rows from one on
window : (rows : List (List ℤ)) (column at width : ℕ) → at + width ≤ length rows
    → squares_over (in_column rows column) (at + width) ≡ squares_over (in_column rows column) at + sum_by square (column_of (take width (drop at rows)) column)
window rows column at zero inside =
    let e : at + 0 ≡ at = omega arith in
    let same = ap (squares_over (in_column rows column)) e in
    omega arith
window rows column at (suc w) inside =
    let g = in_column rows column in
    let pick : List ℤ → ℤ = λ row. get_or row column (pos 0) in
    let e : at + suc w ≡ suc (at + w) = omega arith in
    let more = ap (squares_over g) e in
    let before = window rows column at w (omega arith) in
    let long = length-drop at rows in
    let on : suc w ≡ w + 1 = omega arith in
    let front = ap (λ (k : ℕ). take k (drop at rows)) on ∙ take_more (drop at rows) w [] (omega arith) in
    let listed : column_of (take (suc w) (drop at rows)) column ≡ column_of (take w (drop at rows)) column ++ pick (get_or (drop at rows) w []) ∷ []
    = ap (map pick) front ∙ map-append pick (take w (drop at rows)) (get_or (drop at rows) w [] ∷ []) in
    let sum = ap (sum_by square) listed ∙ sum_by_push square (column_of (take w (drop at rows)) column) (pick (get_or (drop at rows) w [])) in
    let here = ap (λ (row : List ℤ). square (pick row)) (get_or-drop at rows w []) in
    omega arith

-- of a frame
pub frame-window : (rows : List (List ℤ)) (column width frame count : ℕ) → frame < count → length rows ≡ count * width
    → squares_over (in_column rows column) ((frame + 1) * width) ≡ squares_over (in_column rows column) (frame * width) + sum_by square (frame_column width rows column frame)
frame-window rows column width frame count here all =
    let few : frame + 1 ≤ count = omega arith in
    let times : width * (frame + 1) ≤ width * count = mul-le-mul_left width few in
    let e : (frame + 1) * width ≡ frame * width + width = omega arith in
    ap (squares_over (in_column rows column)) e ∙ window rows column (frame * width) width (omega arith)

-- each row
pub each-row : (rows : List (List ℤ)) (column n : ℕ) → squares_over (every_row 1 rows column 0) n ≡ squares_over (in_column rows column) n
each-row rows column n = over-agree (every_row 1 rows column 0) (in_column rows column) n (λ f below. ap (in_column rows column) (one f))
  where
    one : (f : ℕ) → f * 1 + 0 ≡ f
    one f = omega arith
