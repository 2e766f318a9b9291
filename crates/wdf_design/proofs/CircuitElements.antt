-- The leaves of two trees that have the elements of a circuit are such as a network may have.
use Rattle.std.proofs.Common.{◌≡◌, ℕ, zero, suc, ◌+◌, ◌<◌, ◌≤◌, Bool, true, false, ◌&&◌, ◌||◌, if◌then◌else◌, eqb, List, [], ◌∷◌, length, map, Option, None, Some, refl, ap, sym, ◌∙◌, arith}
use Rattle.std.specs.Prelude.{slice_get, filter, IsTrue}
use Rattle.std.specs.List.{All, range_with_len}
use Rattle.std.specs.Option.{option_map}
use Rattle.std.proofs.lemmas.List.{length-map}
use Rattle.std.proofs.lemmas.List.Elements.{All-nil, All-cons, All-head, All-tail, All-map}
use Rattle.std.proofs.lemmas.Bool.{cond-true, cond-false, eqb-true}
use Rattle.std.proofs.lemmas.Option.{none-some, same_Some, slice_get-get_or, slice_get-map, slice_get_within}
use Rattle.wdf_law.specs.declared.kind.Kind.{Kind}
use Rattle.wdf_law.specs.declared.kind.Kind.TheVariants.{Res}
use Rattle.wdf_law.specs.declared.outlet.Outlet.{Outlet}
use Rattle.wdf_law.specs.declared.outlet.Outlet.TheVariants.{Load, Source}
use Rattle.wdf_law.specs.Trees.{LeafElement}
use Rattle.wdf_law.specs.Network.{is_source, is_resistor, has_kind, has_outlet, times_in, numbers_with}
use Rattle.wdf_law.specs.Spans.{Branch}
use Rattle.wdf_netlist.specs.declared.element.Element.{Element}
use Rattle.wdf_netlist.specs.Circuits.{CircuitValue, IsCircuit, HasOutlet, is_kind_at, numbers_where, count_kind}
use Rattle.wdf_sp.specs.Edges.{branch, branches}
use Rattle.wdf_sp.specs.Structure.{IsElementOf}
use Rattle.wdf_ports.specs.PortRatio.{element_at}
use Rattle.wdf_quant.specs.QuantisedNetwork.{AreNetworkElements}

abbrev pub number : LeafElement → ℕ
number x = x.number

-- ---- kinds by number

-- the leaf with an element's number has its kind
own_kind : (bs : List Branch) (i : ℕ) (b : Branch) (x : LeafElement) → slice_get bs i ≡ Some b → IsElementOf bs x → x.number ≡ i → b.kind ≡ x.kind
own_kind bs i b x at is same =
    let e : b ≡ is.branch = same_Some b is.branch (sym at ∙ ap (slice_get bs) (sym same) ∙ is.at) in
    ap (λ (y : Branch). y.kind) e ∙ is.kind

no_kind : (test : Kind → Bool) (bs : List Branch) (i : ℕ) (b : Branch) → slice_get bs i ≡ Some b → test b.kind ≡ false → (xs : List LeafElement) → All (IsElementOf bs) xs → has_kind test xs i ≡ false
no_kind test bs i b at fails [] all = refl
no_kind test bs i b at fails (x ∷ xs) all = by (eqb x.number i) refl (no_kind test bs i b at fails xs (All-tail (IsElementOf bs) x xs all))
  where
    by : (t : Bool) → eqb x.number i ≡ t → has_kind test xs i ≡ false → ((t && test x.kind) || has_kind test xs i) ≡ false
    by false e rest = rest
    by true e rest =
        let same = own_kind bs i b x at (All-head (IsElementOf bs) x xs all) (eqb-true x.number i e) in
        ap (λ (t : Bool). t || has_kind test xs i) (ap test (sym same) ∙ fails) ∙ rest

some_kind : (test : Kind → Bool) (bs : List Branch) (i : ℕ) (b : Branch) → slice_get bs i ≡ Some b → test b.kind ≡ true
    → (xs : List LeafElement) → All (IsElementOf bs) xs → 1 ≤ times_in (map number xs) i → has_kind test xs i ≡ true
some_kind test bs i b at passes [] all some = absurd (omega arith)
some_kind test bs i b at passes (x ∷ xs) all some = by (eqb x.number i) refl some (some_kind test bs i b at passes xs (All-tail (IsElementOf bs) x xs all))
  where
    by : (t : Bool) → eqb x.number i ≡ t → 1 ≤ (if t then 1 else 0) + times_in (map number xs) i → (1 ≤ times_in (map number xs) i → has_kind test xs i ≡ true)
        → ((t && test x.kind) || has_kind test xs i) ≡ true
    by true e h rest =
        let same = own_kind bs i b x at (All-head (IsElementOf bs) x xs all) (eqb-true x.number i e) in
        ap (λ (t : Bool). t || has_kind test xs i) (ap test (sym same) ∙ passes)
    by false e h rest = rest (omega arith)

-- the leaves have the kinds of the elements, by their numbers
kind_same : (test : Kind → Bool) (es : List Element) (xs : List LeafElement) → All (IsElementOf (branches es)) xs → (i : ℕ) → i < length es → times_in (map number xs) i ≡ 1
    → has_kind test xs i ≡ is_kind_at test es i
kind_same test es xs all i within once = by (test (element_at es i).kind) refl
  where
    there : slice_get es i ≡ Some (element_at es i)
    there = slice_get-get_or es i _ within

    branched : slice_get (branches es) i ≡ Some (branch (element_at es i))
    branched = slice_get-map branch es i ∙ ap (option_map branch) there

    kind_is : (t : Bool) → test (element_at es i).kind ≡ t → is_kind_at test es i ≡ t
    kind_is t e = let a : is_kind_at test es i ≡ test (element_at es i).kind = rw there refl in a ∙ e

    by : (t : Bool) → test (element_at es i).kind ≡ t → has_kind test xs i ≡ is_kind_at test es i
    by true e = some_kind test (branches es) i (branch (element_at es i)) branched e xs all (omega arith) ∙ sym (kind_is true e)
    by false e = no_kind test (branches es) i (branch (element_at es i)) branched e xs all ∙ sym (kind_is false e)

-- a filter goes by what it says of each number
filter_same : (p q : ℕ → Bool) (a n : ℕ) → ((i : ℕ) → a ≤ i → i < a + n → p i ≡ q i) → filter p (range_with_len a n) ≡ filter q (range_with_len a n)
filter_same p q a zero same = refl
filter_same p q a (suc n) same = by (q a) (same a (omega arith) (omega arith)) (filter_same p q (a + 1) n (λ i low high. same i (omega arith) (omega arith)))
  where
    by : (t : Bool) → p a ≡ t → filter p (range_with_len (a + 1) n) ≡ filter q (range_with_len (a + 1) n) → (if p a then a ∷ filter p (range_with_len (a + 1) n) else filter p (range_with_len (a + 1) n)) ≡ (if t then a ∷ filter q (range_with_len (a + 1) n) else filter q (range_with_len (a + 1) n))
    by true e rest = cond-true _ _ _ e ∙ ap (λ (l : List ℕ). a ∷ l) rest
    by false e rest = cond-false _ _ _ e ∙ rest

-- the elements of a circuit as leaves, each once
pub record AreLeavesOf (es : List Element) (xs : List LeafElement) : Type 0 where
  pub elements : All (IsElementOf (branches es)) xs
  pub once : (i : ℕ) → i < length es → times_in (map number xs) i ≡ 1
  pub count : length xs ≡ length es

-- so the numbers of a kind are the same
pub numbers_same : (test : Kind → Bool) (es : List Element) (xs : List LeafElement) → AreLeavesOf es xs → numbers_with (has_kind test) xs ≡ numbers_where test es
numbers_same test es xs w =
    ap (λ (n : ℕ). filter (has_kind test xs) (range_with_len 0 n)) w.count
    ∙ filter_same (has_kind test xs) (is_kind_at test es) 0 (length es) (λ i low high. kind_same test es xs w.elements i (omega arith) (w.once i (omega arith)))

-- ---- the elements of a network

each_below : (es : List Element) (count : ℕ) (xs : List LeafElement) → length es ≤ count → All (IsElementOf (branches es)) xs → All (λ (x : LeafElement). x.number < count) xs
each_below es count [] few all = All-nil (λ (x : LeafElement). x.number < count)
each_below es count (x ∷ xs) few all =
    let is = All-head (IsElementOf (branches es)) x xs all in
    let within = slice_get_within (branches es) x.number is.branch is.at in
    All-cons (λ (y : LeafElement). y.number < count) x xs (omega (arith, within, length-map es branch)) (each_below es count xs few (All-tail (IsElementOf (branches es)) x xs all))

-- the leaves of a tree have numbers of the circuit's elements
pub leaves_below : (es : List Element) (xs : List LeafElement) → AreLeavesOf es xs → All (λ (x : LeafElement). x.number < length es) xs
leaves_below es xs w = each_below es (length es) xs (omega arith) w.elements

-- as many as are counted
abbrev pub AreCounted : List Element → Type 0
AreCounted es = (test : Kind → Bool) → length (numbers_where test es) ≡ count_kind test es

outlet_there : (es : List Element) (xs : List LeafElement) → AreLeavesOf es xs → (outlet : Outlet) → HasOutlet es outlet → IsTrue (has_outlet xs outlet)
outlet_there es xs w Source h = refl
outlet_there es xs w (Load i) h =
    kind_same is_resistor es xs w.elements i within (w.once i within) ∙ (let a : is_kind_at is_resistor es i ≡ true = rw h refl in a)
  where
    within : i < length es
    within = by (slice_get es i) refl h
      where
        by : (o : Option Element) → slice_get es i ≡ o → option_map (λ (e : Element). e.kind) o ≡ Some Res → i < length es
        by None e g = absurd (none-some Res g)
        by (Some x) e g = slice_get_within es i x e

pub network_elements : (c : CircuitValue) (xs : List LeafElement) → IsCircuit c → AreCounted c.elements → AreLeavesOf c.elements xs → AreNetworkElements xs c.outlet
network_elements c xs rules counted w =
    let same = ap (length {A = ℕ}) (numbers_same is_source c.elements xs w) in
    record {
      fewest = omega (arith, w.count, rules.fewest);
      most = omega (arith, w.count, rules.most);
      below = All-map (λ (i : ℕ). i < length xs) number xs (each_below c.elements (length xs) xs (omega (arith, w.count)) w.elements);
      once = λ i within. w.once i (omega (arith, w.count));
      some_source = omega (arith, same, counted is_source, rules.fewest_sources);
      few_sources = omega (arith, same, counted is_source, rules.most_sources);
      outlet_there = outlet_there c.elements xs w c.outlet rules.outlet;
    }
