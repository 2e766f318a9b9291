-- What the stages of bounds answer for the network of one side.
use Rattle.std.specs.Prelude.{◌≡◌, ℕ, ◌^◌, ◌<◌, true, false, List, length, Result, Ok, Err, ⊤}
use Rattle.wdf_law.specs.declared.side.Side.{Side}
use Rattle.wdf_law.specs.Network.{Network, elements}
use Rattle.wdf_netlist.specs.declared.form.Form.{Form}
use Rattle.wdf_quant.specs.declared.port_ratio.PortRatio.{PortRatio}
use Rattle.wdf_quant.specs.PortBound.{Encloses, HasLeafNumbers, walk, wide_of}
use Rattle.wdf_bounds.specs.Plans.{PlanOf}
use Rattle.wdf_bounds.specs.WordBound.{BoundsMeet, Fits, first_over, word_limit}
use Rattle.wdf_design.specs.Realising.{IsElementAt}
use Rattle.wdf_stages.specs.declared.bound_stop.BoundStop.{BoundStop}
use Rattle.wdf_stages.specs.declared.bound_stop.BoundStop.TheVariants.{Bound, NoMemory}
use Rattle.wdf_stages.specs.Bounding.{IsExcessAt, on_side}

-- the circuit of the side has the elements of the network
abbrev pub HasElements : Form → Side → Network → Type 0
HasElements form side n = (element : ℕ) → element < length (elements n) → IsElementAt form side element

-- the numbers of the network's ports, or the first that is too wide
abbrev pub GivesRatios : Form → Side → Network → Result (List PortRatio) BoundStop → Type 0
GivesRatios form side n (Ok ratios) = Encloses n (Ok ratios) × HasLeafNumbers n ratios
GivesRatios form side n (Err (Bound at name true need limit)) = (at ≡ side) × IsExcessAt form (on_side side (wide_of n)) side name need × (limit ≡ 2 ^ 62)
GivesRatios form side n (Err (Bound at name false need limit)) = ⊥
GivesRatios form side n (Err NoMemory) = ⊤

-- the bounds of its words, or the first that exceeds the limit of a word
abbrev pub GivesWords : Form → Side → Network → PlanOf → Result (List ℕ) BoundStop → Type 0
GivesWords form side n plan (Ok words) = BoundsMeet plan (walk n) (Ok words) × Fits n plan
GivesWords form side n plan (Err (Bound at name true need limit)) = ⊥
GivesWords form side n plan (Err (Bound at name false need limit)) =
    (at ≡ side) × IsExcessAt form (on_side side (first_over plan (walk n))) side name need × (limit ≡ word_limit plan)
GivesWords form side n plan (Err NoMemory) = ⊤
