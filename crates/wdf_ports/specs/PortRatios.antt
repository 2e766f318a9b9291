-- The ratios of the ports of a shape, in units of 2^-40 of the resistance of source 0. At a junction with parts of the
-- ratios r1 and r2:
--   series r1 + r2,  parallel r1·r2/(r1 + r2), rounded down.
use Rattle.std.specs.Prelude.{◌≡◌, ℕ, ◌+◌, ◌*◌, ◌/◌, ◌<◌, Bool, Option, None, Some, Result, Ok, Err}
use Rattle.std.specs.Option.{option_or}
use Rattle.wdf_law.specs.declared.connection.Connection.{Connection}
use Rattle.wdf_law.specs.declared.connection.Connection.TheVariants.{Series, Parallel}
use Rattle.wdf_law.specs.declared.port_tree.PortTree.{PortTree}
use Rattle.wdf_law.specs.Outline.{Outline, single, joined, outline_first}
use Rattle.wdf_law.specs.PortOutline.{PortOutline, leaf_port, series_port, parallel_port, port_outline, ratio_of, shape_outline, HaveRatios}
use Rattle.wdf_ports.specs.declared.port_fault.PortFault.{PortFault}
use Rattle.wdf_ports.specs.declared.port_fault.PortFault.TheVariants.{Range, NoMemory}
use Rattle.wdf_ports.specs.PortRatio.{out_of_range}

-- two parts joined, with the ratio of their common port
abbrev pub joined_ports : Connection → PortOutline → PortOutline → PortOutline
joined_ports Series l r = series_port (ratio_of l + ratio_of r) l r
joined_ports Parallel l r = parallel_port (ratio_of l * ratio_of r / (ratio_of l + ratio_of r)) l r

-- the ports of a shape whose elements have these ratios, by their numbers
abbrev pub ports_with : (ℕ → ℕ) → Outline → PortOutline
ports_with ratio (single elem kind flip) = leaf_port elem kind flip (ratio elem)
ports_with ratio (joined c l r) = joined_ports c (ports_with ratio l) (ports_with ratio r)

-- the first port whose ratio is out of range, parts before their junction and the first part first; a junction's port
-- is named by its first leaf
abbrev pub range_fault : PortOutline → Option (ℕ × Bool)
range_fault (leaf_port elem _ _ ratio) = out_of_range elem ratio
range_fault (series_port ratio l r) = option_or (range_fault l) (option_or (range_fault r) (out_of_range (outline_first (shape_outline l)) ratio))
range_fault (parallel_port ratio l r) = option_or (range_fault l) (option_or (range_fault r) (out_of_range (outline_first (shape_outline l)) ratio))

-- these ports where their ratios are in range, or the first that is out of it
abbrev pub GivesPorts : PortOutline → Result PortTree PortFault → Type 0
GivesPorts p (Ok t) = (port_outline t ≡ p) × HaveRatios p × (range_fault p ≡ None)
GivesPorts p (Err (Range element low)) = range_fault p ≡ Some (element, low)
GivesPorts p (Err NoMemory) = Unit {0}

-- all leaves of an outline have numbers below the count
abbrev pub AreBelow : ℕ → Outline → Type 0
AreBelow count (single elem _ _) = elem < count
AreBelow count (joined c l r) = AreBelow count l × AreBelow count r

-- a ratio that is out of range is told of an element with a number below the count
abbrev pub NamesBelow : {A : Type 0} → ℕ → Result A PortFault → Type 0
NamesBelow count (Ok _) = Unit {0}
NamesBelow count (Err (Range element low)) = element < count
NamesBelow count (Err NoMemory) = Unit {0}
