-- The made ladder has no core, and a soak the refusals of its stages.
use Rattle.std.proofs.Common.{◌≡◌, ℕ, Bool, List, Option, Some, None, Result, Ok, Err, refl, sym, ap, ◌∙◌, subst}
use Rattle.std.specs.Prelude.{ok_or, IsSome}
use Rattle.wdf_law.specs.declared.side.Side.{Side}
use Rattle.wdf_law.specs.declared.side.Side.TheVariants.{Whole}
use Rattle.wdf_law.specs.Network.{Network}
use Rattle.wdf_law.specs.Outline.{Outline}
use Rattle.wdf_netlist.specs.Circuits.{CircuitValue}
use Rattle.wdf_netlist.specs.Netlists.{NetlistValue}
use Rattle.wdf_netlist.specs.declared.form.Form.TheVariants.{Ladder as One}
use Rattle.wdf_sp.specs.Reduction.{Arc}
use Rattle.wdf_bounds.specs.Plans.{PlanOf}
use Rattle.wdf_lattice.specs.declared.networks.Networks.{Networks}
use Rattle.wdf_lattice.specs.declared.networks.Networks.TheVariants.{Ladder, Lattice}
use Rattle.wdf_lattice.specs.Sides.{network_at}
use Rattle.wdf_design.specs.declared.design_fault.DesignFault.{DesignFault}
use Rattle.wdf_design.specs.declared.design_fault.DesignFault.TheVariants.{Core, Range}
use Rattle.wdf_design.specs.Designs.{IsDesigned, core_of, design_of, first_out_of_range, network_of, network_with, trees_of, unless_out_of_range, with_value}
use Rattle.wdf_design.specs.Realising.{RealisesEach}
use Rattle.wdf_made.specs.Ladder.{circuit_with, made_netlist, made_value}
use Rattle.wdf_stages.specs.declared.bound_stop.BoundStop.{BoundStop}
use Rattle.wdf_stages.specs.declared.bound_stop.BoundStop.TheVariants as bounds
use Rattle.wdf_stages.specs.declared.plan_bounds.PlanBounds.{PlanBounds}
use Rattle.wdf_stages.specs.Bounding.{AreBounded, BoundRefuses}
use Rattle.wdf_made.specs.LadderLaws.{HasShape}
use Rattle.wdf_soak.specs.declared.soak_stop.SoakStop.{SoakStop}
use Rattle.wdf_soak.specs.declared.soak_stop.SoakStop.TheVariants.{PortRange, Bound, NoMemory}
use Rattle.wdf_soak.specs.Soaks.{IsSoaked, IsSummary, LadderRefuses, SoakRefuses, WordsRefuse, stop_of_words, usual_plan}

-- a ratio out of range is no core
ranged : (side : Side) (first : Option (ℕ × Bool)) (n : Network) (at : Side) (element : ℕ) (core : List Arc)
    → with_value (unless_out_of_range side first n) (λ (m : Network). Ok (Ladder m)) ≡ Err (Core at element core) → ⊥
ranged side None n at element core e = cc
ranged side (Some (i, low)) n at element core e = cc

pub no_core : (seed order k : ℕ) (side : Side) (element : ℕ) (core : List Arc) → HasShape (circuit_with (made_value seed) order)
    → design_of (made_netlist seed order) k ≡ Err (Core side element core) → ⊥
no_core seed order k side element core (t, has) e =
    let c : CircuitValue = circuit_with (made_value seed) order in
    let given : Outline → Result Networks DesignFault = λ (s : Outline). with_value (network_of 48000 k Whole c (trees_of c s)) (λ (n : Network). Ok (Ladder n)) in
    let shaped : design_of (made_netlist seed order) k ≡ given t = ap (λ (o : Option Outline). with_value (ok_or o (core_of Whole c)) given) has in
    ranged Whole (first_out_of_range 48000 c (trees_of c t)) (network_with 48000 k c (trees_of c t)) side element core (sym shaped ∙ e)

pub is_whole : (k : ℕ) (c : CircuitValue) (ns : Networks) → RealisesEach k (One c) ns → IsSome (network_at ns Whole)
is_whole k c (Ladder n) r = refl
is_whole k c (Lattice a b) r = absurd r

-- why the plan does not fit
pub words_told : (n : NetlistValue) (ns : Networks) (plan : PlanOf) (stop : BoundStop) → plan ≡ usual_plan → BoundRefuses n.form ns plan stop → WordsRefuse n ns (stop_of_words stop)
words_told n ns plan (bounds.Bound side name ratio need limit) same h =
    subst (λ (p : PlanOf). BoundRefuses n.form ns p (bounds.Bound side name ratio need limit)) same h
words_told n ns plan bounds.NoMemory same h = tt

-- what refuses a stage refuses the soak
pub ladder_refuses : (seed order : ℕ) (n : NetlistValue) (stop : SoakStop) → n ≡ made_netlist seed order → LadderRefuses n stop → SoakRefuses seed order stop
ladder_refuses seed order n (PortRange side name low) same h = subst (λ (m : NetlistValue). LadderRefuses m (PortRange side name low)) same h
ladder_refuses seed order n (Bound side name ratio need limit) same h = absurd h
ladder_refuses seed order n NoMemory same h = tt

pub words_refuse : (seed order : ℕ) (n : NetlistValue) (ns : Networks) (stop : SoakStop) → n ≡ made_netlist seed order → IsDesigned n usual_plan.k ns → WordsRefuse n ns stop
    → SoakRefuses seed order stop
words_refuse seed order n ns (PortRange side name low) same designed h = absurd h
words_refuse seed order n ns (Bound side name ratio need limit) same designed h = (
  ns,
  subst (λ (m : NetlistValue). IsDesigned m usual_plan.k ns) same designed,
  subst (λ (m : NetlistValue). WordsRefuse m ns (Bound side name ratio need limit)) same h,
)
words_refuse seed order n ns NoMemory same designed h = tt

-- and what its stages give is the soak's
pub is_soaked : (seed order frames : ℕ) (n : NetlistValue) (ns : Networks) (b : PlanBounds) (text : List ℕ) → n ≡ made_netlist seed order → IsDesigned n usual_plan.k ns
    → AreBounded ns usual_plan b → IsSummary seed order frames ns text → IsSoaked seed order frames text
is_soaked seed order frames n ns b text same designed bounded summary = record {
  networks = ns;
  designed = subst (λ (m : NetlistValue). IsDesigned m usual_plan.k ns) same designed;
  bounds = b;
  bounded = bounded;
  summary = summary;
}
