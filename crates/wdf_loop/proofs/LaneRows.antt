-- The cells of several runs in a row.
use Rattle.std.proofs.Common.{◌≡◌, ℕ, zero, suc, ◌+◌, ◌*◌, ◌<◌, ◌^◌, refl, ap, ◌∙◌, arith, List, ◌∷◌, map, replicate, subst, sym}
use Rattle.std.specs.Prelude.{ℤ, pos}
use Rattle.std.specs.List.{range_with_len}
use prog.Memory.{up}
use Rattle.wdf_loop.specs.declared.cell.Cell.{Cell}
use Rattle.wdf_loop.specs.declared.lane_cells.LaneCells.{LaneCells}
use Rattle.wdf_loop.specs.LaneCells.{InLanes, lane_cell, lane_cells}
use Rattle.wdf_loop.specs.RunCells.{InEach, cell_in, silent, wave_in}
use Rattle.wdf_loop.proofs.LaneLemmas.{zeros}

from_on : (each : ℕ → Cell) (n a c : ℕ) → c < n → cell_in (map each (range_with_len a n)) c ≡ each (a + c)
from_on each zero a c h = absurd (omega arith)
from_on each (suc n) a zero h = ap each (omega arith)
from_on each (suc n) a (suc c) h = from_on each n (a + 1) c (omega arith) ∙ ap each (omega arith)

pub cell_of : (n : ℕ) (f : LaneCells n) (c : ℕ) → c < n → cell_in (lane_cells f) c ≡ lane_cell f c
cell_of n f c h = from_on (lane_cell f) n 0 c h ∙ ap (lane_cell f) (omega arith)

pub rows_of : (n : ℕ) (P : ℤ → Cell → Cell → ℤ → Type 0) (waves : List ℤ) (f g : LaneCells n) (waves' : List ℤ) → InLanes P waves f g waves' → InEach n P waves (lane_cells f) (lane_cells g) waves'
rows_of n P waves f g waves' each c h =
    subst (λ (d : Cell). P (wave_in waves c) d (cell_in (lane_cells g) c) (wave_in waves' c)) (sym (cell_of n f c h))
    (subst (λ (d : Cell). P (wave_in waves c) (lane_cell f c) d (wave_in waves' c)) (sym (cell_of n g c h)) (each c h))

-- before any frame
same : (each : ℕ → Cell) (d : Cell) → ((c : ℕ) → each c ≡ d) → (n a : ℕ) → map each (range_with_len a n) ≡ replicate n d
same each d h zero a = refl
same each d h (suc n) a = λ i. h a i ∷ same each d h n (a + 1) i

abbrev pub resting : (n : ℕ) → LaneCells n
resting n =
    let none = replicate n (pos 0) in
    record { fed = none; under = none; up = none; below = none; raw = none; down = none; onward = none }

pub at-rest : (n : ℕ) → lane_cells (resting n) ≡ replicate n silent
at-rest n = same (lane_cell (resting n)) silent (λ c i. record {
  fed = zeros n c i;
  under = zeros n c i;
  up = zeros n c i;
  below = zeros n c i;
  raw = zeros n c i;
  down = zeros n c i;
  onward = zeros n c i;
}) n 0

-- the seven arrays of a stage lie in the memory that there is
abbrev with_one_more : ℕ → ℕ → ℕ
with_one_more n before = up 8 (before + n * 8)

abbrev pub IsInMemory : ℕ → Type 0
IsInMemory n =
    let more = with_one_more n in
    more (more (more (more (more (more (more 0)))))) < 2 ^ 63

pub can_do : (n : ℕ) (P : ℤ → Cell → Type 0) (waves : List ℤ) (f : LaneCells n) → ((c : ℕ) → c < n → P (wave_in waves c) (cell_in (lane_cells f) c)) → (c : ℕ) → c < n → P (wave_in waves c) (lane_cell f c)
can_do n P waves f each c h = subst (λ (d : Cell). P (wave_in waves c) d) (cell_of n f c h) (each c h)
