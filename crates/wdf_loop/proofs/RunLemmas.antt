-- One run more of a row.
use Rattle.std.proofs.Common.{◌≡◌, ℕ, ◌+◌, ◌<◌, ◌≤◌, List, length, subst, arith}
use Rattle.std.specs.Prelude.{ℤ, pos, slice_set}
use Rattle.std.proofs.lemmas.List.{get_or-set_same, get_or-set_other}
use Rattle.std.proofs.lemmas.Bool.{cases_lt}
use mathlib.Core.Logic.{◌⊎◌, inl, inr}
use Rattle.wdf_loop.specs.declared.cell.Cell.{Cell}
use Rattle.wdf_loop.specs.RunCells.{cell_in, silent, wave_in}

pub each_more : (P : ℤ → Cell → Cell → ℤ → Type 0) (c : ℕ) (before row : List Cell) (held waves : List ℤ) (d : Cell) (z : ℤ) → c < length row → c < length waves
    → ((i : ℕ) → i < c → P (wave_in held i) (cell_in before i) (cell_in row i) (wave_in waves i))
    → P (wave_in held c) (cell_in before c) d z
    → (i : ℕ) → i < c + 1 → P (wave_in held i) (cell_in before i) (cell_in (slice_set row c d) i) (wave_in (slice_set waves c z) i)
each_more P c before row held waves d z room places so_far now i h = by (cases_lt i c)
  where
    by : (i < c) ⊎ (c ≤ i) → P (wave_in held i) (cell_in before i) (cell_in (slice_set row c d) i) (wave_in (slice_set waves c z) i)
    by (inl less) =
        let cell : cell_in (slice_set row c d) i ≡ cell_in row i = get_or-set_other row c i d silent (λ e. absurd (omega arith)) in
        let wave : wave_in (slice_set waves c z) i ≡ wave_in waves i = get_or-set_other waves c i z (pos 0) (λ e. absurd (omega arith)) in
        rw (cell, wave) (so_far i less)
    by (inr more) =
        let at : c ≡ i = omega arith in
        let cell : cell_in (slice_set row c d) c ≡ d = get_or-set_same row c d silent room in
        let wave : wave_in (slice_set waves c z) c ≡ z = get_or-set_same waves c z (pos 0) places in
        subst (λ (k : ℕ). P (wave_in held k) (cell_in before k) (cell_in (slice_set row c d) k) (wave_in (slice_set waves c z) k)) at (rw (cell, wave) now)

-- the runs behind it
pub cell_later : (c : ℕ) (row : List Cell) (d : Cell) (i : ℕ) → c + 1 ≤ i → cell_in (slice_set row c d) i ≡ cell_in row i
cell_later c row d i h = get_or-set_other row c i d silent (λ e. absurd (omega arith))

pub wave_later : (c : ℕ) (waves : List ℤ) (z : ℤ) (i : ℕ) → c + 1 ≤ i → wave_in (slice_set waves c z) i ≡ wave_in waves i
wave_later c waves z i h = get_or-set_other waves c i z (pos 0) (λ e. absurd (omega arith))
