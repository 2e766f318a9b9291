-- How the operations of a schedule lie in a row: a stage for each junction, in the order of the way up, and behind them one for
-- the root. Of a stage's two parts one hangs beside, and the other is the tree below: that of the stage before, or an element.
-- Stages each of which has the one before as its tree below make a chain; the top of each chain but the last hangs beside a later
-- stage, and the last chain is the tree below the root.
use Rattle.std.specs.Prelude.{◌≡◌, ℕ, ◌+◌, ◌*◌, ◌<◌, ◌≤◌, ◌⊎◌, ℤ, pos, ◌+ℤ◌, ◌*ℤ◌, unsigned_abs, Bool, true, false, not, ◌&&◌, ◌==◌, if◌then◌else◌, List, [], ◌∷◌, length, slice_index_or, IsTrue}
use Rattle.wdf_algebra.specs.JunctionValues.{series_part, parallel_value, root_value}
use Rattle.wdf_algebra.specs.Truncation.{trunc}
use Rattle.wdf_law.specs.Elements.{signed}
use Rattle.wdf_law.specs.Network.{unit_of, elements, has_reactance, source_numbers}
use Rattle.wdf_law.specs.Run.{source_values}
use Rattle.wdf_sched.specs.declared.op.Op.{Op}
use Rattle.wdf_sched.specs.Operations.{Slots, HoldAll, IsAtMost, AreWithin, parallel_rest}
use Rattle.wdf_sched.specs.Meaning.{Starts, slot_at}
use Rattle.wdf_sched.specs.Schedules.{ScheduleValue}
use Rattle.wdf_loop.specs.declared.chain.Chain.{Chain}
use Rattle.wdf_loop.specs.declared.feed.Feed.{Feed}
use Rattle.wdf_loop.specs.declared.mark.Mark.{Mark}
use Rattle.wdf_loop.specs.declared.share.Share.{Share}

-- what stands at a place of a list
abbrev pub share_at : List Share → ℕ → Share
share_at shares j = slice_index_or shares j (record { m = 0; n = 0; parallel = false; sign = pos 0 })

abbrev pub mark_at : List Mark → ℕ → Mark
mark_at marks j = slice_index_or marks j (record { up = 0; down = 0; below = 0; onward = 0; raw = 0; out = 0; sent = 0 })

abbrev pub chain_at : List Chain → ℕ → Chain
chain_at chains i = slice_index_or chains i (record { first = 0; end = 0; to = 0; sign = pos 0 })

abbrev pub feed_at : List Feed → ℕ → Feed
feed_at feeds i = slice_index_or feeds i (record { stage = 0; beside = false; flip = false })

-- ---- a stage: its multipliers, and the slots of its waves

-- what the operations say of a series junction's stage
pub record IsSeriesStage (q : ℕ) (ops : List Op) (s : Share) (k : Mark) : Type 0 where
  pub whole : s.m + s.n ≡ q
  pub rises : (g : Slots) → HoldAll q g ops → g k.out ≡ g k.up +ℤ g k.below
  pub down : (g : Slots) → HoldAll q g ops → g k.down ≡ trunc (series_part q s.m (g k.up) (g k.below) (g k.sent) (g k.up)) q
  pub onward : (g : Slots) → HoldAll q g ops → g k.onward ≡ trunc (series_part q s.n (g k.up) (g k.below) (g k.sent) (g k.below)) q
  pub sent : (limit : ℕ) (g : Slots) → AreWithin q limit g ops → IsAtMost limit (g k.sent)

-- of a parallel junction's
pub record IsParallelStage (q : ℕ) (ops : List Op) (s : Share) (k : Mark) : Type 0 where
  pub whole : s.m + s.n ≡ q
  pub raw : (g : Slots) → HoldAll q g ops → g k.raw ≡ parallel_value s.m s.n (g k.up) (g k.below)
  pub rises : (g : Slots) → HoldAll q g ops → g k.out ≡ trunc (g k.raw) q
  pub down : (g : Slots) → HoldAll q g ops → g k.down ≡ trunc (parallel_rest q (g k.raw) (g k.sent) (g k.up)) q
  pub onward : (g : Slots) → HoldAll q g ops → g k.onward ≡ trunc (parallel_rest q (g k.raw) (g k.sent) (g k.below)) q
  pub sent : (limit : ℕ) (g : Slots) → AreWithin q limit g ops → IsAtMost limit (g k.sent) × IsAtMost (q * limit) (g k.raw)

abbrev pub IsJunctionStage : ℕ → List Op → Share → Mark → Type 0
IsJunctionStage q ops s k = (s.parallel ≡ false → IsSeriesStage q ops s k) × (s.parallel ≡ true → IsParallelStage q ops s k)

-- of the root's
pub record IsRootStage (q : ℕ) (ops : List Op) (s : Share) (k : Mark) : Type 0 where
  pub whole : s.m + s.n ≡ q
  pub down : (g : Slots) → HoldAll q g ops → g k.down ≡ trunc (root_value q s.m s.n (g k.up) (g k.below) (g k.up)) q
  pub onward : (g : Slots) → HoldAll q g ops → g k.onward ≡ trunc (root_value q s.m s.n (g k.up) (g k.below) (g k.below)) q

-- no wave of a stage is larger than what no slot of the operations exceeds
pub record IsSmallStage (q : ℕ) (ops : List Op) (k : Mark) : Type 0 where
  pub waves : (limit : ℕ) (g : Slots) → AreWithin q limit g ops
      → IsAtMost limit (g k.up) × IsAtMost limit (g k.below) × IsAtMost limit (g k.down) × IsAtMost limit (g k.onward)

-- ---- elements

-- what the feeds put at a place from the sources' values, source 0 first, and 0 where none of them has that place
abbrev pub fed_by : (Feed → Bool) → List Feed → List ℤ → ℤ
fed_by is [] zs = pos 0
fed_by is (f ∷ fs) [] = pos 0
fed_by is (f ∷ fs) (z ∷ zs) = if is f then signed f.flip z else fed_by is fs zs

-- beside the stage j, and at the bottom of the chain that begins there
abbrev pub is_beside : ℕ → Feed → Bool
is_beside j f = f.beside && (f.stage == j)

abbrev pub is_under : ℕ → Feed → Bool
is_under j f = not f.beside && (f.stage == j)

-- A part that is an element: its up slot is its number, and its down slot the listed one. It reflects, with the sign, its state,
-- and besides what it is fed; only a reactance has a sign that is not 0, and it is fed nothing.
pub record IsElement (s : ScheduleValue) (up down : ℕ) (sign : ℤ) (fed : List ℤ → ℤ) : Type 0 where
  pub number : up < length (elements s.net)
  pub listed : down ≡ slot_at s.down_slots up
  pub size : unsigned_abs sign ≤ 1
  pub state : (sign ≡ pos 0) ⊎ (IsTrue (has_reactance (elements s.net) up) × ((zs : List ℤ) → fed zs ≡ pos 0))
  pub reflects : (x : ℕ → ℤ) (zs : List ℤ) (g : Slots) → Starts s.net x (source_values s.net zs) g → g up ≡ sign *ℤ x up +ℤ fed zs

-- ---- chains

-- The chains are the stages before the root, one chain behind the other. Each but the last has a stage, and hangs beside a later
-- stage, or the root, that no other hangs beside.
pub record IsRowOfChains (root : ℕ) (chains : List Chain) : Type 0 where
  pub some : 0 < length chains
  pub from : (chain_at chains 0).first ≡ 0
  pub next : (i : ℕ) → i + 1 < length chains → (chain_at chains (i + 1)).first ≡ (chain_at chains i).end
  pub filled : (i : ℕ) → i + 1 < length chains → (chain_at chains i).first < (chain_at chains i).end
  pub to : (i : ℕ) → i + 1 < length chains → ((chain_at chains i).end ≤ (chain_at chains i).to) × ((chain_at chains i).to ≤ root)
  pub last : (i : ℕ) → i + 1 ≡ length chains → ((chain_at chains i).first ≤ (chain_at chains i).end) × ((chain_at chains i).end ≡ root)
  pub apart : (i k : ℕ) → i < k → k + 1 < length chains → (chain_at chains i).to ≡ (chain_at chains k).to → ⊥

-- What a stage of the chain reflects and is sent are the waves of the next stage's tree below, and the slots up and down hold
-- those of the last.
pub record IsLinked (marks : List Mark) (c : Chain) (up down : ℕ) : Type 0 where
  pub inner : (j : ℕ) → c.first ≤ j → j + 1 < c.end
      → ((mark_at marks j).out ≡ (mark_at marks (j + 1)).below) × ((mark_at marks j).sent ≡ (mark_at marks (j + 1)).onward)
  pub top : (j : ℕ) → c.first ≤ j → j + 1 ≡ c.end → ((mark_at marks j).out ≡ up) × ((mark_at marks j).sent ≡ down)

-- a chain that is not the last hangs beside the stage j, whose part beside has no state
pub record HasChain (chains : List Chain) (j : ℕ) (sign : ℤ) : Type 0 where
  pub chain : ℕ
  pub more : chain + 1 < length chains
  pub here : (chain_at chains chain).to ≡ j
  pub still : sign ≡ pos 0

-- ---- slots

-- the stage shows the slot i: that of a wave of its parts, or of a parallel junction's own before it is truncated
abbrev pub ShowsSlot : Share → Mark → ℕ → Type 0
ShowsSlot s k i = (k.up ≡ i) ⊎ (k.below ≡ i) ⊎ (k.down ≡ i) ⊎ (k.onward ≡ i) ⊎ ((s.parallel ≡ true) × (k.raw ≡ i))

-- ---- all of it

pub record IsLayout (s : ScheduleValue) (shares : List Share) (marks : List Mark) (chains : List Chain) (feeds : List Feed) : Type 0 where
  -- the stages: the junctions are those below the number of the root
  pub root : ℕ
  pub few : root < 1024
  pub shares_count : length shares ≡ root + 1
  pub marks_count : length marks ≡ root + 1
  pub junctions : (j : ℕ) → j < root → IsJunctionStage (unit_of s.net) s.ops (share_at shares j) (mark_at marks j)
  pub turn : IsRootStage (unit_of s.net) s.ops (share_at shares root) (mark_at marks root)
  pub plain : (share_at shares root).parallel ≡ false
  pub small : (j : ℕ) → j ≤ root → IsSmallStage (unit_of s.net) s.ops (mark_at marks j)
  -- the chains, and where they hang
  pub row : IsRowOfChains root chains
  pub hung : (i : ℕ) → i + 1 < length chains
      → IsLinked marks (chain_at chains i) (mark_at marks (chain_at chains i).to).up (mark_at marks (chain_at chains i).to).down
  pub last : (i : ℕ) → i + 1 ≡ length chains → IsLinked marks (chain_at chains i) (mark_at marks root).below (mark_at marks root).onward
  pub trees : (i : ℕ) → i + 1 < length chains → length (elements s.net) ≤ (mark_at marks (chain_at chains i).to).up
  -- the elements, at the bottoms of the chains and beside stages
  pub bottoms : (i : ℕ) → i < length chains
      → IsElement s (mark_at marks (chain_at chains i).first).below (mark_at marks (chain_at chains i).first).onward (chain_at chains i).sign
      (fed_by (is_under (chain_at chains i).first) feeds)
  pub beside : (j : ℕ) → j ≤ root
      → IsElement s (mark_at marks j).up (mark_at marks j).down (share_at shares j).sign (fed_by (is_beside j) feeds)
      ⊎ HasChain chains j (share_at shares j).sign
  -- each of them is sent the wave of its down slot by some stage
  pub parts : (i : ℕ) → i < length (elements s.net)
      → (j : ℕ) × ((j ≤ root) × (((mark_at marks j).down ≡ slot_at s.down_slots i) ⊎ ((mark_at marks j).onward ≡ slot_at s.down_slots i)))
  -- the feeds, source 0 first, no two of which have one place
  pub feeds_count : length feeds ≡ length (source_numbers s.net)
  pub stages : (i : ℕ) → i < length feeds → (feed_at feeds i).stage ≤ root
  pub places : (i k : ℕ) → i < k → k < length feeds → (feed_at feeds i).stage ≡ (feed_at feeds k).stage
      → (feed_at feeds i).beside ≡ (feed_at feeds k).beside → ⊥
  -- some stage shows each slot
  pub shown : (i : ℕ) → i < s.slot_count → (j : ℕ) × ((j ≤ root) × ShowsSlot (share_at shares j) (mark_at marks j) i)
