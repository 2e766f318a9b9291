-- A circuit of the netlist as the reduction sees it.
use Rattle.std.proofs.Common.{◌≡◌, ◌≢◌, ℕ, ◌+◌, ◌<◌, List, length, Option, None, Some, Result, Ok, Err, refl, ap, sym, ◌∙◌, subst, arith}
use Rattle.std.specs.Prelude.{slice_get, IfOk}
use Rattle.std.specs.Option.{option_map}
use Rattle.std.proofs.lemmas.List.{length-map}
use Rattle.std.proofs.lemmas.Option.{none-some, same_Some, slice_get-map, slice_get_within, get_or_from_slice_get}
use Rattle.wdf_law.specs.declared.shape.Shape.{Shape}
use Rattle.wdf_law.specs.Outline.{outline, outline_depth, outline_elements}
use Rattle.wdf_law.specs.Spans.{Branch}
use Rattle.wdf_netlist.specs.declared.element.Element.{Element}
use Rattle.wdf_netlist.specs.Circuits.{CircuitValue, IsCircuit, IsSourceAt, sources}
use Rattle.wdf_sp.specs.declared.sp_fault.SpFault.{SpFault}
use Rattle.wdf_sp.specs.declared.sp_fault.SpFault.TheVariants.{Core, NoMemory}
use Rattle.wdf_sp.specs.Decomposition.{Decomposes, NamesBelow}
use Rattle.wdf_sp.specs.Edges.{branch, branches}
use Rattle.wdf_netlist.specs.Circuits.{first_source}
use Rattle.wdf_sp.specs.Structure.{IsDriven, SpansCircuit}
use Rattle.wdf_sp.specs.Reduction.{branch_at}
use Rattle.wdf_sp.proofs.ReductionLemmas.{shape_spans, naming_within, depth-leaves}

-- an element of the list of branches is one of the circuit
record IsBranchOf (es : List Element) (i : ℕ) (b : Branch) : Type 0 where
  element : Element
  at : slice_get es i ≡ Some element
  is : branch element ≡ b

branch_of : (es : List Element) (i : ℕ) (b : Branch) → slice_get (branches es) i ≡ Some b → IsBranchOf es i b
branch_of es i b h = by (slice_get es i) refl (sym (slice_get-map branch es i) ∙ h)
  where
    by : (o : Option Element) → slice_get es i ≡ o → option_map branch o ≡ Some b → IsBranchOf es i b
    by None at e = absurd (none-some b e)
    by (Some x) at e = record { element = x; at = at; is = same_Some (branch x) b e }

pub driven : (c : CircuitValue) (source : ℕ) → IsCircuit c → IsSourceAt c.elements source → IsDriven (branches c.elements) source
driven c source rules s = record {
  source_at = (branch s.element, slice_get-map branch c.elements source ∙ ap (option_map branch) s.there, s.source);
  ends = λ i b h.
      let w = branch_of c.elements i b h in
      let apart : w.element.from ≢ w.element.to =
      subst (λ (e : Element). e.from ≢ e.to) (get_or_from_slice_get c.elements i w.element w.element w.at) (rules.ends_differ i w.element (slice_get_within c.elements i w.element w.at)) in
      λ same. apart (ap (λ (x : Branch). x.from) w.is ∙ same ∙ sym (ap (λ (x : Branch). x.to) w.is));
}

-- what the answer's clauses say of the shape
pub record IsDecomposed (c : CircuitValue) (source : ℕ) (r : Result Shape SpFault) : Type 0 where
  pub spans : IfOk r (λ (s : Shape). SpansCircuit (branches c.elements) source (outline s))
  pub leaves : IfOk r (λ (s : Shape). length (outline_elements (outline s)) + 1 ≡ length c.elements)
  pub depth : IfOk r (λ (s : Shape). outline_depth (outline s) < length (outline_elements (outline s)))
  pub named : NamesBelow (length c.elements) r

pub decomposed : (c : CircuitValue) (source : ℕ) (r : Result Shape SpFault) → IsCircuit c → IsSourceAt c.elements source → Decomposes (branches c.elements) source r → IsDecomposed c source r
decomposed c source (Ok s) rules at h =
    let bs = branches c.elements in
    let whole = shape_spans bs source (outline s) (driven c source rules at) h in
    record {
      spans = ((branch_at bs source).from, (branch_at bs source).to, whole.spans);
      leaves = whole.count ∙ length-map c.elements branch;
      depth = depth-leaves (outline s);
      named = tt;
    }
decomposed c source (Err NoMemory) rules at h = record { spans = tt; leaves = tt; depth = tt; named = tt }
decomposed c source (Err (Core element core)) rules at h =
    let bs = branches c.elements in
    let within = naming_within bs source (branch_at bs source).from (branch_at bs source).to (driven c source rules at) in
    record { spans = tt; leaves = tt; depth = tt; named = omega (arith, h.2, within, length-map c.elements branch) }

-- the source is the first one
pub decomposed_first : (c : CircuitValue) (es : List Element) (source : ℕ) (r : Result Shape SpFault) → IsCircuit c → IsSourceAt c.elements source → slice_get (sources c.elements) 0 ≡ Some source
    → es ≡ c.elements → Decomposes (branches es) source r → IsDecomposed c (first_source c.elements) r
decomposed_first c es source r rules at first same h =
    let is : first_source c.elements ≡ source = get_or_from_slice_get (sources c.elements) 0 source 0 first in
    subst (λ (s : ℕ). IsDecomposed c s r) (sym is) (decomposed c source r rules at (subst (λ (xs : List Element). Decomposes (branches xs) source r) same h))
