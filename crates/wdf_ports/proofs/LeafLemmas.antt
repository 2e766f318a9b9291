-- What holds of each leaf in the list of an outline's elements holds of its parts.
use Rattle.std.proofs.Common.{ℕ, ◌+◌, ◌*◌, ◌/◌, ◌<◌, ◌^◌, List, [], ◌∷◌, ◌++◌, length, All, ◌≡◌, Bool, true, false, if◌then◌else◌, Option, None, Some, ap, sym, subst, arith}
use Rattle.std.specs.Prelude.{◌==◌, nat_le, Result, Ok, Err}
use Rattle.std.specs.Option.{option_or}
use Rattle.std.proofs.lemmas.List.Elements.{All-cons, All-tail}
use Rattle.wdf_law.specs.Trees.{LeafElement}
use Rattle.wdf_law.specs.Outline.{Outline, single, joined, outline_elements, outline_first}
use Rattle.wdf_law.specs.PortOutline.{ratio_of, shape_outline}
use Rattle.wdf_law.specs.declared.connection.Connection.TheVariants.{Series, Parallel}
use Rattle.wdf_law.specs.declared.kind.Kind.TheVariants.{Cap, Res}
use Rattle.wdf_law.specs.declared.port_tree.PortTree.{PortTree}
use Rattle.wdf_ports.specs.declared.port_fault.PortFault.{PortFault}
use Rattle.wdf_ports.specs.declared.port_fault.PortFault.TheVariants.{Range, NoMemory}
use Rattle.wdf_ports.specs.PortRatio.{out_of_range}
use Rattle.wdf_ports.specs.PortRatios.{AreBelow, GivesPorts, NamesBelow, ports_with, range_fault}

abbrev Each : ℕ → List LeafElement → Type 0
Each count xs = All (λ (x : LeafElement). x.number < count) xs

parts : (count : ℕ) (xs ys : List LeafElement) → Each count (xs ++ ys) → Each count xs × Each count ys
parts count [] ys all = (λ k d below. absurd (omega (arith, below)), all)
parts count (x ∷ xs) ys all =
    let P = λ (x : LeafElement). x.number < count in
    let rest = parts count xs ys (All-tail P x (xs ++ ys) all) in
    (All-cons P x xs (all 0 x (omega arith)) rest.0, rest.1)

pub are_below : (count : ℕ) (t : Outline) → Each count (outline_elements t) → AreBelow count t
are_below count (single elem kind flip) all = all 0 (record { number = elem; kind = kind; flip = flip }) (omega arith)
are_below count (joined c l r) all =
    let both = parts count (outline_elements l) (outline_elements r) all in
    (are_below count l both.0, are_below count r both.1)

-- ---- the element that is named where a ratio is out of range

-- a junction's first leaf is among its leaves
first_below : (count : ℕ) (ratio : ℕ → ℕ) (t : Outline) → AreBelow count t → outline_first (shape_outline (ports_with ratio t)) < count
first_below count ratio (single elem _ flip) all = all
first_below count ratio (joined Series l r) all = first_below count ratio l all.0
first_below count ratio (joined Parallel l r) all = first_below count ratio l all.0

abbrev told : ℕ → Bool → Option (ℕ × Bool)
told element low = Some (element, low)

abbrev told_number : Option (ℕ × Bool) → ℕ
told_number None = 0
told_number (Some x) = x.0

-- where a ratio is out of range, it is that of the port with this number
named_by : (elem ratio e : ℕ) (low : Bool) → out_of_range elem ratio ≡ Some (e, low) → elem ≡ e
named_by elem ratio e low h = by (ratio == 0) (nat_le ratio (2 ^ 62)) h
  where
    by : (zero wide : Bool) → (if zero then told elem true else if wide then None else told elem false) ≡ told e low → elem ≡ e
    by true wide g = ap told_number g
    by false true g = absurd (cc)
    by false false g = ap told_number g

-- of two parts and their junction one is named
one_named : (count : ℕ) (first second : Option (ℕ × Bool)) (elem ratio e : ℕ) (low : Bool)
    → (first ≡ Some (e, low) → e < count) → (second ≡ Some (e, low) → e < count) → elem < count
    → option_or first (option_or second (out_of_range elem ratio)) ≡ Some (e, low) → e < count
one_named count (Some x) second elem ratio e low at_first at_second below h = at_first h
one_named count None (Some y) elem ratio e low at_first at_second below h = at_second h
one_named count None None elem ratio e low at_first at_second below h = subst (λ (i : ℕ). i < count) (named_by elem ratio e low h) below

fault_below : (count : ℕ) (ratio : ℕ → ℕ) (t : Outline) (e : ℕ) (low : Bool) → AreBelow count t → range_fault (ports_with ratio t) ≡ Some (e, low) → e < count
fault_below count ratio (single elem _ flip) e low all h = subst (λ (i : ℕ). i < count) (named_by elem (ratio elem) e low h) all
fault_below count ratio (joined Series l r) e low all h =
    let a = ports_with ratio l in
    let b = ports_with ratio r in
    one_named count (range_fault a) (range_fault b) (outline_first (shape_outline a)) (ratio_of a + ratio_of b) e low
    (fault_below count ratio l e low all.0) (fault_below count ratio r e low all.1) (first_below count ratio l all.0) h
fault_below count ratio (joined Parallel l r) e low all h =
    let a = ports_with ratio l in
    let b = ports_with ratio r in
    one_named count (range_fault a) (range_fault b) (outline_first (shape_outline a)) (ratio_of a * ratio_of b / (ratio_of a + ratio_of b)) e low
    (fault_below count ratio l e low all.0) (fault_below count ratio r e low all.1) (first_below count ratio l all.0) h

-- the answer of a shape whose leaves are below the count
pub answer_below : (count : ℕ) (ratio : ℕ → ℕ) (t : Outline) (r : Result PortTree PortFault) → Each count (outline_elements t) → GivesPorts (ports_with ratio t) r → NamesBelow count r
answer_below count ratio t (Ok tree) all h = tt
answer_below count ratio t (Err (Range element low)) all h = fault_below count ratio t element low (are_below count t all) h
answer_below count ratio t (Err NoMemory) all h = tt

-- two leaves in parallel
pub two_below : (count : ℕ) (t : Outline) → 2 < count → t ≡ joined Parallel (single 1 Cap false) (single 2 Res false) → Each count (outline_elements t)
two_below count t below same =
    let P = λ (x : LeafElement). x.number < count in
    let first : LeafElement = record { number = 1; kind = Cap; flip = false } in
    let second : LeafElement = record { number = 2; kind = Res; flip = false } in
    subst (λ (u : Outline). Each count (outline_elements u)) (sym same)
    (All-cons P first (second ∷ []) (omega (arith, below)) (All-cons P second [] below (λ k d none. absurd (omega (arith, none)))))
