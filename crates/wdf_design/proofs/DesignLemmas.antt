-- A design is one answer.
use Rattle.std.proofs.Common.{◌≡◌, ◌≢◌, ℕ, Bool, Result, Ok, Err, Option, None, Some, refl, sym, subst}
use Rattle.std.specs.Option.{ok_or}
use Rattle.wdf_law.specs.declared.side.Side.{Side}
use Rattle.wdf_law.specs.declared.side.Side.TheVariants.{Whole, A, B}
use Rattle.wdf_law.specs.Outline.{Outline}
use Rattle.wdf_netlist.specs.declared.form.Form.{Form}
use Rattle.wdf_netlist.specs.declared.form.Form.TheVariants.{Ladder as One, Lattice as Two}
use Rattle.wdf_netlist.specs.Circuits.{CircuitValue, first_source}
use Rattle.wdf_netlist.specs.Netlists.{NetlistValue}
use Rattle.wdf_sp.specs.Edges.{branches}
use Rattle.wdf_sp.specs.Reduction.{shape_in}
use Rattle.wdf_sp.specs.Structure.{Halves}
use Rattle.wdf_lattice.specs.declared.networks.Networks.{Networks}
use Rattle.wdf_design.specs.declared.design_fault.DesignFault.{DesignFault}
use Rattle.wdf_design.specs.declared.design_fault.DesignFault.TheVariants.{Core, Range, NoMemory}
use Rattle.wdf_design.specs.Designs.{core_of, shape_of, trees_of, first_out_of_range, network_with, unless_out_of_range, network_of, with_value, designed, design_of, Designs}
use Rattle.wdf_design.specs.DesignLaws.{HasOneDesign}

-- ---- a design is no want of memory

abbrev IsAnswer : {X : Type 0} → Result X DesignFault → Type 0
IsAnswer (Ok _) = Unit {0}
IsAnswer (Err (Core _ _ _)) = Unit {0}
IsAnswer (Err (Range _ _ _)) = Unit {0}
IsAnswer (Err NoMemory) = ⊥

value_answer : {X Y : Type 0} (r : Result X DesignFault) (f : X → Result Y DesignFault) → IsAnswer r → ((x : X) → IsAnswer (f x)) → IsAnswer (with_value r f)
value_answer (Ok x) f h each = each x
value_answer (Err (Core side element core)) f h each = tt
value_answer (Err (Range side element low)) f h each = tt
value_answer (Err NoMemory) f h each = h

shape_answer : (side : Side) (c : CircuitValue) → IsAnswer (shape_of side c)
shape_answer side c = by (shape_in (branches c.elements) (first_source c.elements))
  where
    by : (o : Option Outline) → IsAnswer (ok_or o (core_of side c))
    by None = tt
    by (Some t) = tt

network_answer : (rate k : ℕ) (side : Side) (c : CircuitValue) (h : Halves) → IsAnswer (network_of rate k side c h)
network_answer rate k side c h = by (first_out_of_range rate c h)
  where
    by : (o : Option (ℕ × Bool)) → IsAnswer (unless_out_of_range side o (network_with rate k c h))
    by None = tt
    by (Some (element, low)) = tt

design_answer : (rate k : ℕ) (form : Form) → IsAnswer (designed rate k form)
design_answer rate k (One c) =
    value_answer (shape_of Whole c) _ (shape_answer Whole c)
    (λ t. value_answer (network_of rate k Whole c (trees_of c t)) _ (network_answer rate k Whole c (trees_of c t)) (λ n. tt))
design_answer rate k (Two a b) =
    value_answer (shape_of A a) _ (shape_answer A a)
    (λ s. value_answer (shape_of B b) _ (shape_answer B b)
    (λ t. value_answer (network_of rate k A a (trees_of a s)) _ (network_answer rate k A a (trees_of a s))
    (λ m. value_answer (network_of rate k B b (trees_of b t)) _ (network_answer rate k B b (trees_of b t)) (λ n. tt))))

-- ---- and it is one

pub one_design : (n : NetlistValue) → HasOneDesign n
one_design n = record {
  some = λ k. by k (design_of n k) refl;
  memory = λ k e. subst IsAnswer e (design_answer n.rate k n.form);
  only = only;
}
  where
    by : (k : ℕ) (r : Result Networks DesignFault) → design_of n k ≡ r → Designs n k r
    by k (Ok ns) e = e
    by k (Err (Core side element core)) e = e
    by k (Err (Range side element low)) e = e
    by k (Err NoMemory) e = tt

    only : (k : ℕ) (r : Result Networks DesignFault) → Designs n k r → r ≢ Err NoMemory → r ≡ design_of n k
    only k (Ok ns) h other = sym h
    only k (Err (Core side element core)) h other = sym h
    only k (Err (Range side element low)) h other = sym h
    only k (Err NoMemory) h other = absurd (other refl)
