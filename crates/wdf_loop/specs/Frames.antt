-- A frame of one run over all chains, as values, and what its passes leave in the cells.
use Rattle.std.specs.Prelude.{◌≡◌, ℕ, ◌+◌, ◌<◌, ◌≤◌, ℤ, ◌+ℤ◌, ◌*ℤ◌, unsigned_abs, true, List, length}
use Rattle.wdf_loop.specs.declared.cell.Cell.{Cell}
use Rattle.wdf_loop.specs.declared.chain.Chain.{Chain}
use Rattle.wdf_loop.specs.declared.share.Share.{Share}
use Rattle.wdf_loop.specs.Cells.{IsWord}
use Rattle.wdf_loop.specs.Layouts.{chain_at, share_at}
use Rattle.wdf_loop.specs.RunCells.{wave_in}
use Rattle.wdf_loop.specs.Runs.{IsClimb, IsDescent, IsRoot, Values, cell_at}

-- the values of each stage, and of each chain t the waves in it, up and down
pub record RunValues : Type 0 where
  pub stage : ℕ → Values
  pub height : ℕ → ℕ → ℤ
  pub depth : ℕ → ℕ → ℤ

-- the place of a chain
abbrev pub first_of : List Chain → ℕ → ℕ
first_of chains t = (chain_at chains t).first

abbrev pub end_of : List Chain → ℕ → ℕ
end_of chains t = (chain_at chains t).end

abbrev pub to_of : List Chain → ℕ → ℕ
to_of chains t = (chain_at chains t).to

-- neither the chain t nor a later one but the last hangs beside the stage j
abbrev pub IsFed : List Chain → ℕ → ℕ → Type 0
IsFed chains t j = (i : ℕ) → t ≤ i → i + 1 < length chains → to_of chains i ≡ j → ⊥

-- The values are those of a frame: each chain's waves come up to the part beside the stage where it hangs, or to the tree below
-- the root, and what these are sent goes down the chain.
pub record IsRun (q root : ℕ) (shares : List Share) (chains : List Chain) (r : RunValues) : Type 0 where
  pub climbs : (t : ℕ) → t < length chains → IsClimb q shares (first_of chains t) (end_of chains t) r.stage (r.height t)
  pub descends : (t : ℕ) → t < length chains → IsDescent q shares (first_of chains t) (end_of chains t) r.stage (r.depth t)
  pub delivered : (t : ℕ) → t + 1 < length chains → r.height t (end_of chains t) ≡ (r.stage (to_of chains t)).fed
  pub collected : (t : ℕ) → t + 1 < length chains → r.depth t (end_of chains t) ≡ (r.stage (to_of chains t)).down
  pub arrives : (t : ℕ) → t + 1 ≡ length chains → r.height t (end_of chains t) ≡ (r.stage root).below
  pub returns : (t : ℕ) → t + 1 ≡ length chains → r.depth t (end_of chains t) ≡ (r.stage root).onward
  pub turns : IsRoot q (share_at shares root) (r.stage root)
  pub root_up : IsWord q (r.stage root).up
  pub root_below : IsWord q (r.stage root).below
  pub bottoms : (t : ℕ) → t < length chains → IsWord q (r.height t (first_of chains t))

-- The cells of the run c are such that these follow: what the parts reflect is of the states in the cells, and what parts are fed
-- that are elements is there.
pub record Begins (q root : ℕ) (shares : List Share) (chains : List Chain) (r : RunValues) (cells : List (List Cell)) (c : ℕ) : Type 0 where
  pub up : (j : ℕ) → j ≤ root → (share_at shares j).sign *ℤ (cell_at cells j c).down +ℤ (r.stage j).fed ≡ (r.stage j).up
  pub down : (j : ℕ) → j ≤ root → IsWord q (cell_at cells j c).down
  pub onward : (j : ℕ) → j ≤ root → IsWord q (cell_at cells j c).onward
  pub fed : (j : ℕ) → j ≤ root → IsFed chains 0 j → (cell_at cells j c).fed ≡ (r.stage j).fed
  pub bottoms : (t : ℕ) → t < length chains
      → (chain_at chains t).sign *ℤ (cell_at cells (first_of chains t) c).onward +ℤ (cell_at cells (first_of chains t) c).under ≡ r.height t (first_of chains t)

abbrev pub AllRun : ℕ → ℕ → ℕ → List Share → List Chain → List (List Cell) → Type 0
AllRun count q root shares chains cells =
    (c : ℕ) → c < count → (r : RunValues) × IsRun q root shares chains r × Begins q root shares chains r cells c

-- ---- what the cells of the run c have come to, from those before the frame

-- the numbers of a cell that the way up leaves
pub record KeepsStates (c d : Cell) : Type 0 where
  pub under : d.under ≡ c.under
  pub down : d.down ≡ c.down
  pub onward : d.onward ≡ c.onward

-- a cell has the waves of the way up, what a parallel junction reflects before it is truncated, and the waves of the way down
pub record HasUps (v : Values) (d : Cell) : Type 0 where
  pub up : d.up ≡ v.up
  pub below : d.below ≡ v.below

abbrev pub HasRaw : Share → Values → Cell → Type 0
HasRaw s v d = s.parallel ≡ true → d.raw ≡ v.raw

pub record HasDowns (v : Values) (d : Cell) : Type 0 where
  pub down : d.down ≡ v.down
  pub onward : d.onward ≡ v.onward

-- up the stages before `upto`, and fed by the chains before t
pub record IsUp (root : ℕ) (shares : List Share) (chains : List Chain) (upto t : ℕ) (r : RunValues) (before cells : List (List Cell)) (c : ℕ) : Type 0 where
  pub ups : (j : ℕ) → j < upto → HasUps (r.stage j) (cell_at cells j c)
  pub raws : (j : ℕ) → j < upto → HasRaw (share_at shares j) (r.stage j) (cell_at cells j c)
  pub states : (j : ℕ) → j ≤ root → KeepsStates (cell_at before j c) (cell_at cells j c)
  pub fed : (j : ℕ) → j ≤ root → IsFed chains t j → (cell_at cells j c).fed ≡ (r.stage j).fed

-- up all of them, with the wave that the tree below the root reflects
pub record IsRisen (root : ℕ) (shares : List Share) (r : RunValues) (before cells : List (List Cell)) (waves : List ℤ) (c : ℕ) : Type 0 where
  pub ups : (j : ℕ) → j < root → HasUps (r.stage j) (cell_at cells j c)
  pub raws : (j : ℕ) → j < root → HasRaw (share_at shares j) (r.stage j) (cell_at cells j c)
  pub states : (j : ℕ) → j ≤ root → KeepsStates (cell_at before j c) (cell_at cells j c)
  pub fed : (j : ℕ) → j ≤ root → (cell_at cells j c).fed ≡ (r.stage j).fed
  pub wave : wave_in waves c ≡ (r.stage root).below

-- the root has turned
pub record HasTurned (root : ℕ) (shares : List Share) (r : RunValues) (cells : List (List Cell)) (waves : List ℤ) (c : ℕ) : Type 0 where
  pub ups : (j : ℕ) → j ≤ root → HasUps (r.stage j) (cell_at cells j c)
  pub raws : (j : ℕ) → j < root → HasRaw (share_at shares j) (r.stage j) (cell_at cells j c)
  pub downs : HasDowns (r.stage root) (cell_at cells root c)
  pub wave : wave_in waves c ≡ (r.stage root).onward

-- the numbers of a cell that the way down leaves and no other way makes
pub record KeepsFed (c d : Cell) : Type 0 where
  pub fed : d.fed ≡ c.fed
  pub under : d.under ≡ c.under

-- down the stages from `from` on, before is how the cells were when the root had turned
pub record IsDown (root : ℕ) (shares : List Share) (from : ℕ) (r : RunValues) (before cells : List (List Cell)) (c : ℕ) : Type 0 where
  pub ups : (j : ℕ) → j ≤ root → HasUps (r.stage j) (cell_at cells j c)
  pub raws : (j : ℕ) → j < root → HasRaw (share_at shares j) (r.stage j) (cell_at cells j c)
  pub downs : (j : ℕ) → from ≤ j → j ≤ root → HasDowns (r.stage j) (cell_at cells j c)
  pub kept : (j : ℕ) → j ≤ root → KeepsFed (cell_at before j c) (cell_at cells j c)

-- the frame is done
pub record IsDone (root : ℕ) (shares : List Share) (r : RunValues) (before cells : List (List Cell)) (c : ℕ) : Type 0 where
  pub ups : (j : ℕ) → j ≤ root → HasUps (r.stage j) (cell_at cells j c)
  pub raws : (j : ℕ) → j < root → HasRaw (share_at shares j) (r.stage j) (cell_at cells j c)
  pub downs : (j : ℕ) → j ≤ root → HasDowns (r.stage j) (cell_at cells j c)
  pub fed : (j : ℕ) → j ≤ root → (cell_at cells j c).fed ≡ (r.stage j).fed
  pub under : (j : ℕ) → j ≤ root → (cell_at cells j c).under ≡ (cell_at before j c).under

-- so it is in each of `count` runs, whatever values are those of a frame that follows
abbrev pub HaveRisenTo : ℕ → ℕ → ℕ → List Share → List Chain → ℕ → List (List Cell) → List (List Cell) → Type 0
HaveRisenTo count q root shares chains t before cells =
    (c : ℕ) → c < count → (r : RunValues) → IsRun q root shares chains r → Begins q root shares chains r before c → IsUp root shares chains (first_of chains t) t r before cells c

abbrev pub HaveRisen : ℕ → ℕ → ℕ → List Share → List Chain → List (List Cell) → List (List Cell) → List ℤ → Type 0
HaveRisen count q root shares chains before cells waves =
    (c : ℕ) → c < count → (r : RunValues) → IsRun q root shares chains r → Begins q root shares chains r before c → IsRisen root shares r before cells waves c

abbrev pub AllHaveTurned : ℕ → ℕ → ℕ → List Share → List Chain → List (List Cell) → List ℤ → Type 0
AllHaveTurned count q root shares chains cells waves =
    (c : ℕ) → c < count → (r : RunValues) × IsRun q root shares chains r × HasTurned root shares r cells waves c

abbrev pub HaveFallenTo : ℕ → ℕ → ℕ → List Share → List Chain → ℕ → List (List Cell) → List ℤ → List (List Cell) → Type 0
HaveFallenTo count q root shares chains from before held cells =
    (c : ℕ) → c < count → (r : RunValues) → IsRun q root shares chains r → HasTurned root shares r before held c → IsDown root shares from r before cells c

abbrev pub AreDone : ℕ → ℕ → ℕ → List Share → List Chain → List (List Cell) → List (List Cell) → Type 0
AreDone count q root shares chains before cells =
    (c : ℕ) → c < count → (r : RunValues) → IsRun q root shares chains r → Begins q root shares chains r before c → IsDone root shares r before cells c

-- the signs of the elements at the bottoms
abbrev pub AreSigns : List Chain → Type 0
AreSigns chains = (t : ℕ) → t < length chains → unsigned_abs (chain_at chains t).sign ≤ 1
