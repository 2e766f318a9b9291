-- The networks of a netlist by their sides: a ladder has one network, a lattice one for each branch.
use Rattle.std.specs.Prelude.{ℕ, ◌+◌, ◌==◌, if◌then◌else◌, length, Option, Some, None}
use Rattle.wdf_law.specs.declared.side.Side.{Side}
use Rattle.wdf_law.specs.declared.side.Side.TheVariants.{Whole, A, B}
use Rattle.wdf_law.specs.Network.{Network, source_numbers}
use Rattle.wdf_lattice.specs.declared.networks.Networks.{Networks}
use Rattle.wdf_lattice.specs.declared.networks.Networks.TheVariants.{Ladder, Lattice}

-- the network of a side, where the form has it
abbrev pub network_at : Networks → Side → Option Network
network_at (Ladder n) Whole = Some n
network_at (Ladder n) A = None
network_at (Ladder n) B = None
network_at (Lattice a b) Whole = None
network_at (Lattice a b) A = Some a
network_at (Lattice a b) B = Some b

-- how many samples a run takes in each frame: one for each source; a branch of a lattice has one source
abbrev pub sources_driven : Networks → ℕ
sources_driven (Ladder n) = length (source_numbers n)
sources_driven (Lattice a b) = 1

-- how many runs the channels of a wave drive: with one source each channel has a run of its own; several sources
-- are driven in one run, each by its channel
abbrev pub run_count : Networks → ℕ → ℕ
run_count ns channels = if sources_driven ns == 1 then channels else 1

-- the output is a load wave by 2^down_shift; a lattice gives half the difference of its branches
abbrev pub down_shift_of : Networks → (guard shift : ℕ) → ℕ
down_shift_of (Ladder n) guard shift = guard + shift
down_shift_of (Lattice a b) guard shift = guard + shift + 1
