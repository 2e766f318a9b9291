-- What a junction makes of its numbers for one run, on the way up and on the way down. Its first part is the tree that hangs
-- beside, with the multiplier m, and its second part the tree below, with the multiplier n.
use Rattle.std.specs.Prelude.{◌≡◌, ℕ, ◌*◌, ◌^◌, ◌≤◌, ℤ, pos, ◌+ℤ◌, ◌-ℤ◌, ◌*ℤ◌, unsigned_abs, true, if◌then◌else◌}
use Rattle.wdf_algebra.specs.JunctionValues.{series_part, parallel_value, root_value}
use Rattle.wdf_algebra.specs.Truncation.{trunc}
use Rattle.wdf_law.specs.Elements.{signed}
use Rattle.wdf_loop.specs.declared.cell.Cell.{Cell}
use Rattle.wdf_loop.specs.declared.feed.Feed.{Feed}
use Rattle.wdf_loop.specs.declared.field.Field.{Field}
use Rattle.wdf_loop.specs.declared.field.Field.TheVariants.{Up, Down, Below, Onward, Raw}
use Rattle.wdf_loop.specs.declared.share.Share.{Share}

-- what the part beside reflects: its last down wave with the sign of its kind, and what it is fed
abbrev pub reflects : Share → Cell → ℤ
reflects s c = s.sign *ℤ c.down +ℤ c.fed

-- and the tree below, where it is an element with this sign
abbrev pub bottom : ℤ → Cell → ℤ
bottom sign c = sign *ℤ c.onward +ℤ c.under

-- the part beside fed with w
abbrev pub fed_with : ℤ → Cell → Cell
fed_with w c = record { fed = w; under = c.under; up = c.up; below = c.below; raw = c.raw; down = c.down; onward = c.onward }

-- a number of a cell by its name
abbrev pub value_of : Field → Cell → ℤ
value_of Up c = c.up
value_of Down c = c.down
value_of Below c = c.below
value_of Onward c = c.onward
value_of Raw c = c.raw

-- a source fed with w, which hangs where the feed says
abbrev pub under_with : ℤ → Cell → Cell
under_with w c = record { fed = c.fed; under = w; up = c.up; below = c.below; raw = c.raw; down = c.down; onward = c.onward }

abbrev pub given : Feed → ℤ → Cell → Cell
given f z c = if f.beside then fed_with (signed f.flip z) c else under_with (signed f.flip z) c

-- on the way up, the tree below reflecting w
abbrev pub risen_series : Share → ℤ → Cell → Cell
risen_series s w c = record { fed = c.fed; under = c.under; up = reflects s c; below = w; raw = c.raw; down = c.down; onward = c.onward }

abbrev pub risen_parallel : Share → ℤ → Cell → Cell
risen_parallel s w c = record { fed = c.fed; under = c.under; up = reflects s c; below = w; raw = parallel_value s.m s.n (reflects s c) w; down = c.down; onward = c.onward }

abbrev pub risen : Share → ℤ → Cell → Cell
risen s w c = if s.parallel then risen_parallel s w c else risen_series s w c

-- what it then reflects
abbrev pub wave_up : ℕ → Share → Cell → ℤ
wave_up q s c = if s.parallel then trunc c.raw q else c.up +ℤ c.below

-- on the way down, the junction being sent d
abbrev pub fallen_series : ℕ → Share → ℤ → Cell → Cell
fallen_series q s d c = record {
  fed = c.fed;
  under = c.under;
  up = c.up;
  below = c.below;
  raw = c.raw;
  down = trunc (series_part q s.m c.up c.below d c.up) q;
  onward = trunc (series_part q s.n c.up c.below d c.below) q;
}

abbrev pub fallen_parallel : ℕ → ℤ → Cell → Cell
fallen_parallel q d c = record {
  fed = c.fed;
  under = c.under;
  up = c.up;
  below = c.below;
  raw = c.raw;
  down = trunc (pos q *ℤ d +ℤ c.raw -ℤ pos q *ℤ c.up) q;
  onward = trunc (pos q *ℤ d +ℤ c.raw -ℤ pos q *ℤ c.below) q;
}

abbrev pub fallen : ℕ → Share → ℤ → Cell → Cell
fallen q s d c = if s.parallel then fallen_parallel q d c else fallen_series q s d c

-- at the root, which sends both parts their waves at once
abbrev pub turned : ℕ → Share → ℤ → Cell → Cell
turned q s w c = record {
  fed = c.fed;
  under = c.under;
  up = reflects s c;
  below = w;
  raw = c.raw;
  down = trunc (root_value q s.m s.n (reflects s c) w (reflects s c)) q;
  onward = trunc (root_value q s.m s.n (reflects s c) w w) q;
}

-- ---- sizes: q times a wave is at most 2^60

abbrev pub IsWord : ℕ → ℤ → Type 0
IsWord q z = q * unsigned_abs z ≤ 2 ^ 60

-- what the way up reads; what the part beside is fed is at most two waves
pub record CanRise (q : ℕ) (s : Share) (w : ℤ) (c : Cell) : Type 0 where
  pub sign : unsigned_abs s.sign ≤ 1
  pub fed : unsigned_abs c.fed ≤ 2 ^ 61
  pub down : IsWord q c.down
  pub up : IsWord q (reflects s c)
  pub below : IsWord q w

-- what an element below reads
pub record CanBegin (q : ℕ) (c : Cell) : Type 0 where
  pub under : unsigned_abs c.under ≤ 2 ^ 61
  pub onward : IsWord q c.onward

-- what the way down reads, the junction being sent d: the waves,
pub record AreWords (q : ℕ) (d : ℤ) (c : Cell) : Type 0 where
  pub up : IsWord q c.up
  pub below : IsWord q c.below
  pub sent : IsWord q d

-- and what a parallel junction reflects before it is truncated
pub record CanFall (q : ℕ) (s : Share) (d : ℤ) (c : Cell) : Type 0 where
  pub words : AreWords q d c
  pub raw : s.parallel ≡ true → unsigned_abs c.raw ≤ 2 ^ 61
