-- A row: what a stage, a place among the junctions or the root, has in each of several runs at once. The runs are numbered
-- from 0 on.
use Rattle.std.specs.Prelude.{◌≡◌, ℕ, ◌<◌, ℤ, pos, List, slice_index_or}
use Rattle.wdf_loop.specs.declared.cell.Cell.{Cell}
use Rattle.wdf_loop.specs.declared.share.Share.{Share}
use Rattle.wdf_loop.specs.Cells.{CanBegin, CanFall, CanRise, fallen, risen, turned, wave_up}

-- a cell before any frame
abbrev pub silent : Cell
silent = record { fed = pos 0; under = pos 0; up = pos 0; below = pos 0; raw = pos 0; down = pos 0; onward = pos 0 }

-- the cell of the run c, and its wave
abbrev pub cell_in : List Cell → ℕ → Cell
cell_in row c = slice_index_or row c silent

abbrev pub wave_in : List ℤ → ℕ → ℤ
wave_in waves c = slice_index_or waves c (pos 0)

-- each of `count` runs can rise, turn round at the root, and fall
abbrev pub AllCanRise : ℕ → ℕ → Share → List ℤ → List Cell → Type 0
AllCanRise q count s waves row = (c : ℕ) → c < count → CanRise q s (wave_in waves c) (cell_in row c)

abbrev pub AllCanFall : ℕ → ℕ → Share → List ℤ → List Cell → Type 0
AllCanFall q count s waves row = (c : ℕ) → c < count → CanFall q s (wave_in waves c) (cell_in row c)

abbrev pub AllCanBegin : ℕ → ℕ → List Cell → Type 0
AllCanBegin q count row = (c : ℕ) → c < count → CanBegin q (cell_in row c)

-- from a wave and a cell to what they have become: on the way up,
pub record Rises (q : ℕ) (s : Share) (w : ℤ) (c d : Cell) (z : ℤ) : Type 0 where
  pub cell : d ≡ risen s w c
  pub wave : z ≡ wave_up q s d

-- at the root,
pub record Turns (q : ℕ) (s : Share) (w : ℤ) (c d : Cell) (z : ℤ) : Type 0 where
  pub cell : d ≡ turned q s w c
  pub wave : z ≡ d.onward

-- and on the way down
pub record Falls (q : ℕ) (s : Share) (w : ℤ) (c d : Cell) (z : ℤ) : Type 0 where
  pub cell : d ≡ fallen q s w c
  pub wave : z ≡ d.onward

-- so in each of `count` runs, for one of these three
abbrev pub InEach : ℕ → (ℤ → Cell → Cell → ℤ → Type 0) → List ℤ → List Cell → List Cell → List ℤ → Type 0
InEach count P waves row row' waves' = (c : ℕ) → c < count → P (wave_in waves c) (cell_in row c) (cell_in row' c) (wave_in waves' c)
