-- The bounds of the words of a netlist's networks under a plan, and the first port at which a limit is exceeded.
use Rattle.std.specs.Prelude.{◌≡◌, ℕ, ◌^◌, true, false, List, Option, None, Some, Ok, ⊤}
use Rattle.std.specs.Option.{option_or}
use Rattle.wdf_law.specs.declared.side.Side.{Side}
use Rattle.wdf_law.specs.declared.side.Side.TheVariants.{Whole, A, B}
use Rattle.wdf_law.specs.Network.{Network}
use Rattle.wdf_netlist.specs.declared.form.Form.{Form}
use Rattle.wdf_quant.specs.PortBound.{Encloses, HasLeafNumbers, walk, wide_of}
use Rattle.wdf_bounds.specs.Plans.{PlanOf}
use Rattle.wdf_bounds.specs.WordBound.{BoundsMeet, first_over, word_limit}
use Rattle.wdf_lattice.specs.declared.networks.Networks.{Networks}
use Rattle.wdf_lattice.specs.declared.networks.Networks.TheVariants.{Ladder, Lattice}
use Rattle.wdf_stages.specs.declared.bound_stop.BoundStop.{BoundStop}
use Rattle.wdf_stages.specs.declared.bound_stop.BoundStop.TheVariants.{Bound, NoMemory}
use Rattle.wdf_stages.specs.declared.network_bounds.NetworkBounds.{NetworkBounds}
use Rattle.wdf_stages.specs.declared.plan_bounds.PlanBounds.{PlanBounds}
use Rattle.wdf_stages.specs.declared.plan_bounds.PlanBounds.TheVariants as bounds
use Rattle.wdf_stages.specs.ElementNames.{name_at}

-- ---- the bounds

-- the numbers of a network's ports, none too wide, and the bounds that follow, none above the limit of a word
pub record IsBounded (n : Network) (plan : PlanOf) (b : NetworkBounds) : Type 0 where
  pub ratios : Encloses n (Ok b.ratios)
  -- each element's port is among them
  pub leaves : HasLeafNumbers n b.ratios
  pub words : BoundsMeet plan (walk n) (Ok b.words)

-- those of each network
abbrev pub AreBounded : Networks → PlanOf → PlanBounds → Type 0
AreBounded (Ladder n) plan (bounds.Ladder b) = IsBounded n plan b
AreBounded (Ladder n) plan (bounds.Lattice b c) = ⊥
AreBounded (Lattice m n) plan (bounds.Ladder b) = ⊥
AreBounded (Lattice m n) plan (bounds.Lattice b c) = IsBounded m plan b × IsBounded n plan c

-- ---- the first port at which a limit is exceeded

-- a port of the network of a side, by its element's number, and what it needs there
pub record Excess : Type 0 where
  pub side : Side
  pub element : ℕ
  pub need : ℕ

abbrev pub on_side : Side → Option (ℕ × ℕ) → Option Excess
on_side side None = None
on_side side (Some (element, need)) = Some (record { side = side; element = element; need = need })

-- the first of each network, branch A before branch B
abbrev pub first_excess : (Network → Option (ℕ × ℕ)) → Networks → Option Excess
first_excess first (Ladder n) = on_side Whole (first n)
first_excess first (Lattice a b) = option_or (on_side A (first a)) (on_side B (first b))

-- where the number that bounds follow from exceeds 2^62
abbrev pub first_wide_port : Networks → Option Excess
first_wide_port ns = first_excess wide_of ns

-- where the bound of a word exceeds the limit of a word
abbrev pub first_wide_word : PlanOf → Networks → Option Excess
first_wide_word plan ns = first_excess (λ n. first_over plan (walk n)) ns

-- that is at the element of this name
pub record IsExcessAt (form : Form) (first : Option Excess) (side : Side) (name : List ℕ) (need : ℕ) : Type 0 where
  pub element : ℕ
  pub named : name_at form side element ≡ Some name
  pub excess : first ≡ Some (record { side = side; element = element; need = need })

-- why the plan does not fit the networks: no bound of a word is looked at before all numbers that bounds follow from
abbrev pub BoundRefuses : Form → Networks → PlanOf → BoundStop → Type 0
BoundRefuses form ns plan (Bound side name true need limit) = IsExcessAt form (first_wide_port ns) side name need × (limit ≡ 2 ^ 62)
BoundRefuses form ns plan (Bound side name false need limit) =
    (first_wide_port ns ≡ None) × IsExcessAt form (first_wide_word plan ns) side name need × (limit ≡ word_limit plan)
BoundRefuses form ns plan NoMemory = ⊤
