-- A frame of one run as values, stage by stage, and what the laws of junctions say of them. The passes up and down leave these
-- values in the run's cells.
use Rattle.std.specs.Prelude.{◌≡◌, ℕ, ◌+◌, ◌<◌, ◌≤◌, ◌⊎◌, ℤ, ◌+ℤ◌, unsigned_abs, true, false, List, [], length, slice_index_or}
use Rattle.wdf_algebra.specs.JunctionValues.{series_part, parallel_value, root_value}
use Rattle.wdf_algebra.specs.Truncation.{trunc}
use Rattle.wdf_sched.specs.Operations.{parallel_rest}
use Rattle.wdf_loop.specs.declared.cell.Cell.{Cell}
use Rattle.wdf_loop.specs.declared.share.Share.{Share}
use Rattle.wdf_loop.specs.Cells.{IsWord, bottom, reflects}
use Rattle.wdf_loop.specs.Layouts.{share_at}
use Rattle.wdf_loop.specs.RunCells.{cell_in, wave_in}

-- the cells of a stage, and of one run
abbrev pub row_at : List (List Cell) → ℕ → List Cell
row_at cells j = slice_index_or cells j []

abbrev pub cell_at : List (List Cell) → ℕ → ℕ → Cell
cell_at cells j c = cell_in (row_at cells j) c

-- what is fixed of a stage
pub record IsShare (q : ℕ) (s : Share) : Type 0 where
  pub whole : s.m + s.n ≡ q
  pub sign : unsigned_abs s.sign ≤ 1

abbrev pub AreShares : ℕ → List Share → Type 0
AreShares q shares = (j : ℕ) → j < length shares → IsShare q (share_at shares j)

-- ---- the values of a stage

-- named as in a cell and in a mark
pub record Values : Type 0 where
  pub fed : ℤ
  pub up : ℤ
  pub below : ℤ
  pub raw : ℤ
  pub out : ℤ
  pub sent : ℤ
  pub down : ℤ
  pub onward : ℤ

-- a series junction's law,
pub record IsSeries (q : ℕ) (s : Share) (v : Values) : Type 0 where
  pub rises : v.out ≡ v.up +ℤ v.below
  pub down : v.down ≡ trunc (series_part q s.m v.up v.below v.sent v.up) q
  pub onward : v.onward ≡ trunc (series_part q s.n v.up v.below v.sent v.below) q

-- a parallel junction's,
pub record IsParallel (q : ℕ) (s : Share) (v : Values) : Type 0 where
  pub raw : v.raw ≡ parallel_value s.m s.n v.up v.below
  pub rises : v.out ≡ trunc v.raw q
  pub down : v.down ≡ trunc (parallel_rest q v.raw v.sent v.up) q
  pub onward : v.onward ≡ trunc (parallel_rest q v.raw v.sent v.below) q

-- and the root's
pub record IsRoot (q : ℕ) (s : Share) (v : Values) : Type 0 where
  pub down : v.down ≡ trunc (root_value q s.m s.n v.up v.below v.up) q
  pub onward : v.onward ≡ trunc (root_value q s.m s.n v.up v.below v.below) q

-- a junction, none of whose waves is larger than a word holds
pub record IsJunction (q : ℕ) (s : Share) (v : Values) : Type 0 where
  pub series : s.parallel ≡ false → IsSeries q s v
  pub parallel : s.parallel ≡ true → IsParallel q s v
  pub up : IsWord q v.up
  pub below : IsWord q v.below
  pub sent : IsWord q v.sent

-- ---- a cell that has come to show the values d of it

-- The way up and the root leave what is fed and what was sent before,
pub record HasRisen (s : Share) (v : Values) (c d : Cell) : Type 0 where
  pub fed : d.fed ≡ c.fed
  pub under : d.under ≡ c.under
  pub down : d.down ≡ c.down
  pub onward : d.onward ≡ c.onward
  pub up : d.up ≡ v.up
  pub below : d.below ≡ v.below
  pub raw : s.parallel ≡ true → d.raw ≡ v.raw

-- and the way down leaves what the way up made.
pub record HasFallen (v : Values) (c d : Cell) : Type 0 where
  pub fed : d.fed ≡ c.fed
  pub under : d.under ≡ c.under
  pub up : d.up ≡ c.up
  pub below : d.below ≡ c.below
  pub raw : d.raw ≡ c.raw
  pub down : d.down ≡ v.down
  pub onward : d.onward ≡ v.onward

-- ---- a chain, with the values of its stages first..end: height j is the wave that comes up to the stage j, and depth j the wave
-- that it sends down; those at its end belong to its top

pub record IsClimb (q : ℕ) (shares : List Share) (first end : ℕ) (v : ℕ → Values) (height : ℕ → ℤ) : Type 0 where
  pub junctions : (j : ℕ) → first ≤ j → j < end → IsJunction q (share_at shares j) (v j)
  pub below : (j : ℕ) → first ≤ j → j < end → height j ≡ (v j).below
  pub out : (j : ℕ) → first ≤ j → j < end → height (j + 1) ≡ (v j).out

pub record IsDescent (q : ℕ) (shares : List Share) (first end : ℕ) (v : ℕ → Values) (depth : ℕ → ℤ) : Type 0 where
  pub junctions : (j : ℕ) → first ≤ j → j < end → IsJunction q (share_at shares j) (v j)
  pub sent : (j : ℕ) → first ≤ j → j < end → depth (j + 1) ≡ (v j).sent
  pub onward : (j : ℕ) → first ≤ j → j < end → depth j ≡ (v j).onward

-- before the way up it in the run c
pub record CanClimb (q : ℕ) (shares : List Share) (first end : ℕ) (v : ℕ → Values) (height : ℕ → ℤ) (cells : List (List Cell)) (waves : List ℤ) (c : ℕ) : Type 0 where
  pub climb : IsClimb q shares first end v height
  pub up : (j : ℕ) → first ≤ j → j < end → reflects (share_at shares j) (cell_at cells j c) ≡ (v j).up
  pub states : (j : ℕ) → first ≤ j → j < end → IsWord q (cell_at cells j c).down
  pub wave : wave_in waves c ≡ height first

-- and before that from the element at its bottom
pub record CanAscend (q : ℕ) (shares : List Share) (first end : ℕ) (sign : ℤ) (v : ℕ → Values) (height : ℕ → ℤ) (cells : List (List Cell)) (c : ℕ) : Type 0 where
  pub climb : IsClimb q shares first end v height
  pub up : (j : ℕ) → first ≤ j → j < end → reflects (share_at shares j) (cell_at cells j c) ≡ (v j).up
  pub states : (j : ℕ) → first ≤ j → j < end → IsWord q (cell_at cells j c).down
  pub below : bottom sign (cell_at cells first c) ≡ height first
  pub state : IsWord q (cell_at cells first c).onward
  pub word : IsWord q (height first)

-- before the way down it
pub record CanDescend (q : ℕ) (shares : List Share) (first end : ℕ) (v : ℕ → Values) (depth : ℕ → ℤ) (cells : List (List Cell)) (waves : List ℤ) (c : ℕ) : Type 0 where
  pub descent : IsDescent q shares first end v depth
  pub up : (j : ℕ) → first ≤ j → j < end → (cell_at cells j c).up ≡ (v j).up
  pub below : (j : ℕ) → first ≤ j → j < end → (cell_at cells j c).below ≡ (v j).below
  pub raw : (j : ℕ) → first ≤ j → j < end → (share_at shares j).parallel ≡ true → (cell_at cells j c).raw ≡ (v j).raw
  pub wave : wave_in waves c ≡ depth end

-- the stages outside first..end stay
abbrev pub KeepsOthers : ℕ → ℕ → List (List Cell) → List (List Cell) → Type 0
KeepsOthers first end before after = (j : ℕ) → (j < first) ⊎ (end ≤ j) → row_at after j ≡ row_at before j

-- each of `count` runs has such values,
abbrev pub AllCanClimb : ℕ → ℕ → List Share → ℕ → ℕ → List (List Cell) → List ℤ → Type 0
AllCanClimb count q shares first end cells waves =
    (c : ℕ) → c < count → (v : ℕ → Values) × (height : ℕ → ℤ) × CanClimb q shares first end v height cells waves c

abbrev pub AllCanAscend : ℕ → ℕ → List Share → ℕ → ℕ → ℤ → List (List Cell) → Type 0
AllCanAscend count q shares first end sign cells =
    (c : ℕ) → c < count → (v : ℕ → Values) × (height : ℕ → ℤ) × CanAscend q shares first end sign v height cells c

abbrev pub AllCanDescend : ℕ → ℕ → List Share → ℕ → ℕ → List (List Cell) → List ℤ → Type 0
AllCanDescend count q shares first end cells waves =
    (c : ℕ) → c < count → (v : ℕ → Values) × (depth : ℕ → ℤ) × CanDescend q shares first end v depth cells waves c

-- and whatever such values it has, they are in its cells when the way up has come to the stage `to`
abbrev pub HaveClimbed : ℕ → ℕ → List Share → ℕ → ℕ → ℕ → List (List Cell) → List ℤ → List (List Cell) → List ℤ → Type 0
HaveClimbed count q shares first end to before held cells waves =
    (c : ℕ) → c < count → (v : ℕ → Values) (height : ℕ → ℤ) → CanClimb q shares first end v height before held c
    → ((j : ℕ) → first ≤ j → j < to → HasRisen (share_at shares j) (v j) (cell_at before j c) (cell_at cells j c)) × (wave_in waves c ≡ height to)

abbrev pub HaveAscended : ℕ → ℕ → List Share → ℕ → ℕ → ℤ → List (List Cell) → List (List Cell) → List ℤ → Type 0
HaveAscended count q shares first end sign before cells waves =
    (c : ℕ) → c < count → (v : ℕ → Values) (height : ℕ → ℤ) → CanAscend q shares first end sign v height before c
    → ((j : ℕ) → first ≤ j → j < end → HasRisen (share_at shares j) (v j) (cell_at before j c) (cell_at cells j c)) × (wave_in waves c ≡ height end)

-- and when the way down has
abbrev pub HaveDescended : ℕ → ℕ → List Share → ℕ → ℕ → ℕ → List (List Cell) → List ℤ → List (List Cell) → List ℤ → Type 0
HaveDescended count q shares first end to before held cells waves =
    (c : ℕ) → c < count → (v : ℕ → Values) (depth : ℕ → ℤ) → CanDescend q shares first end v depth before held c
    → ((j : ℕ) → to ≤ j → j < end → HasFallen (v j) (cell_at before j c) (cell_at cells j c)) × (wave_in waves c ≡ depth to)
