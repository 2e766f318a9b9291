-- The cells of a stage in several runs at once, each run's in a lane of its own.
use Rattle.std.specs.Prelude.{ℕ, ◌<◌, ℤ, List, map}
use Rattle.std.specs.List.{range_with_len}
use Rattle.wdf_loop.specs.declared.cell.Cell.{Cell}
use Rattle.wdf_loop.specs.declared.lane_cells.LaneCells.{LaneCells}
use Rattle.wdf_loop.specs.declared.share.Share.{Share}
use Rattle.wdf_loop.specs.Cells.{CanBegin, CanFall, CanRise}
use Rattle.wdf_loop.specs.RunCells.{wave_in}

-- the cell of the run c
abbrev pub lane_cell : {n : ℕ} → LaneCells n → ℕ → Cell
lane_cell f c = record {
  fed = wave_in f.fed c;
  under = wave_in f.under c;
  up = wave_in f.up c;
  below = wave_in f.below c;
  raw = wave_in f.raw c;
  down = wave_in f.down c;
  onward = wave_in f.onward c;
}

-- each of the runs can rise, fall, and begin
abbrev pub LanesCanRise : {n : ℕ} → ℕ → Share → List ℤ → LaneCells n → Type 0
LanesCanRise {n} q s waves f = (c : ℕ) → c < n → CanRise q s (wave_in waves c) (lane_cell f c)

abbrev pub LanesCanFall : {n : ℕ} → ℕ → Share → List ℤ → LaneCells n → Type 0
LanesCanFall {n} q s waves f = (c : ℕ) → c < n → CanFall q s (wave_in waves c) (lane_cell f c)

abbrev pub LanesCanBegin : {n : ℕ} → ℕ → LaneCells n → Type 0
LanesCanBegin {n} q f = (c : ℕ) → c < n → CanBegin q (lane_cell f c)

-- what holds of a wave and a cell and of what they become, in each run
abbrev pub InLanes : {n : ℕ} → (ℤ → Cell → Cell → ℤ → Type 0) → List ℤ → LaneCells n → LaneCells n → List ℤ → Type 0
InLanes {n} P waves f f' waves' = (c : ℕ) → c < n → P (wave_in waves c) (lane_cell f c) (lane_cell f' c) (wave_in waves' c)

-- the cells of the runs
abbrev pub lane_cells : {n : ℕ} → LaneCells n → List Cell
lane_cells {n} f = map (lane_cell f) (range_with_len 0 n)
