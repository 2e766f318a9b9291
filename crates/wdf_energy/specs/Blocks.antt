-- Frames of a channel that are noted as one block. Their numbers stand in rows, one row for each source or element of each
-- frame, frame after frame; a row has a column for each of several channels.
use Rattle.std.specs.Prelude.{◌≡◌, ℕ, ◌+◌, ◌*◌, ◌<◌, ◌≤◌, ℤ, pos, List, [], length, map, take, drop, Some, slice_get, slice_index_or}
use Rattle.wdf_law.specs.Network.{Network, elements, reactances, source_numbers, absorbing_numbers}
use Rattle.wdf_law.specs.Step.{Frame, IsStep, sent_in}
use Rattle.wdf_law.specs.Run.{states}
use Rattle.wdf_bounds.specs.Plans.{PlanOf}
use Rattle.wdf_bounds.specs.HeldWords.{IsInput}
use Rattle.wdf_energy.specs.Accounts.{AccountOf, HasRoom, noted, all_noted}
use Rattle.wdf_energy.specs.LedgerLaws.{HoldsFrames}

-- ---- rows

-- what a row has in a column
abbrev pub in_column : List (List ℤ) → (column row : ℕ) → ℤ
in_column rows column row = slice_index_or (slice_index_or rows row []) column (pos 0)

-- the whole column
abbrev pub column_of : List (List ℤ) → (column : ℕ) → List ℤ
column_of rows column = map (λ (row : List ℤ). slice_index_or row column (pos 0)) rows

-- in a frame, of so many rows each
abbrev pub frame_column : (width : ℕ) → List (List ℤ) → (column frame : ℕ) → List ℤ
frame_column width rows column frame = column_of (take width (drop (frame * width) rows)) column

-- The rows, one for each element that absorbs in netlist order, have in this column the waves that these elements were sent.
abbrev pub HaveSent : Network → (count : ℕ) → (ℕ → ℕ → ℤ) → List (List ℤ) → (column : ℕ) → Type 0
HaveSent n count sent rows column = (f i : ℕ) → f < count → i < length (absorbing_numbers n)
    → in_column rows column (f * length (absorbing_numbers n) + i) ≡ sent f (slice_index_or (absorbing_numbers n) i 0)

-- the last of so many frames sent the elements these waves
abbrev pub AreLast : Network → (count : ℕ) → (ℕ → ℕ → ℤ) → (ℕ → ℤ) → Type 0
AreLast n count sent last = (f j : ℕ) → f + 1 ≡ count → j < length (elements n) → last j ≡ sent f j

-- ---- the account

-- so many frames are noted one after another, by the values of the sources and the waves that the elements are sent in each
pub record NotesOver (n : Network) (count : ℕ) (values : ℕ → List ℤ) (sent : ℕ → ℕ → ℤ) (a b : AccountOf) : Type 0 where
  -- the accounts by how many frames are noted
  pub account : ℕ → AccountOf
  pub opens : account 0 ≡ a
  pub notes : (f : ℕ) → f < count → account (f + 1) ≡ noted n (values f) (sent f) (account f)
  pub closes : account count ≡ b

-- after frames whose waves are in such rows no sum of squares reaches 2^124
pub record HasRoomFor (n : Network) (count : ℕ) (values : ℕ → List ℤ) (rows : List (List ℤ)) (column : ℕ) (a : AccountOf) : Type 0 where
  pub sent : ℕ → ℕ → ℤ
  pub waves : HaveSent n count sent rows column
  pub room : (b : AccountOf) → NotesOver n count values sent a b → HasRoom b

-- ---- frames of a run

-- a frame from the state zs, which sends the elements these waves
pub record StepsFrom (n : Network) (zs : List ℤ) (e sent : ℕ → ℤ) : Type 0 where
  pub frame : Frame
  pub step : IsStep n (states n zs) e frame
  pub waves : (j : ℕ) → j < length (elements n) → sent j ≡ sent_in n frame j

-- So many frames under a plan, each from the state that the one before left; before them the elements were sent these waves.
pub record StepsOver (n : Network) (plan : PlanOf) (before : ℕ → ℤ) (count : ℕ) (values : ℕ → List ℤ) (sent : ℕ → ℕ → ℤ) : Type 0 where
  -- the sources' values by the elements' numbers, and the states by how many frames are done
  pub inputs : ℕ → ℕ → ℤ
  pub state : ℕ → List ℤ
  pub begins : state 0 ≡ map before (reactances n)
  pub allowed : (f : ℕ) → f < count → IsInput n plan (inputs f)
  pub driven : (f : ℕ) → f < count → values f ≡ map (inputs f) (source_numbers n)
  pub steps : (f : ℕ) → f < count → StepsFrom n (state f) (inputs f) (sent f)
  pub next : (f : ℕ) → f < count → state (f + 1) ≡ map (sent f) (reactances n)

-- what an account has of a block of at least one frame
pub record FollowsBlocks (n : Network) (plan : PlanOf) : Type 0 where
  -- where not more frames are done than the plan's, there is room for them
  pub room : (done count : ℕ) (before : ℕ → ℤ) (values : ℕ → List ℤ) (sent : ℕ → ℕ → ℤ) (a b : AccountOf)
      → 0 < count → done + count ≤ plan.frames → StepsOver n plan before count values sent → HoldsFrames n plan done before a
      → NotesOver n count values sent a b → HasRoom b
  -- it holds them then
  pub goes_on : (done count : ℕ) (before last : ℕ → ℤ) (values : ℕ → List ℤ) (sent : ℕ → ℕ → ℤ) (a b : AccountOf)
      → 0 < count → StepsOver n plan before count values sent → AreLast n count sent last → HoldsFrames n plan done before a
      → NotesOver n count values sent a b → HoldsFrames n plan (done + count) last b
  -- and it is that of the lists of the inputs and the frames
  pub listed : (es : List (ℕ → ℤ)) (ss : List Frame) (values : ℕ → List ℤ) (sent : ℕ → ℕ → ℤ) (a b : AccountOf)
      → length ss ≡ length es
      → ((f : ℕ) (e : ℕ → ℤ) → slice_get es f ≡ Some e → values f ≡ map e (source_numbers n))
      → ((f : ℕ) (s : Frame) → slice_get ss f ≡ Some s → (j : ℕ) → j < length (elements n) → sent f j ≡ sent_in n s j)
      → NotesOver n (length es) values sent a b → b ≡ all_noted n es ss a
