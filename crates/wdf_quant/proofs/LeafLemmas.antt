-- The number of an element's port in a walk is its number in the tree: an element's number stands once.
use Rattle.std.proofs.Common.{◌≡◌, ℕ, ◌-◌, ◌==◌, Bool, true, false, if◌then◌else◌, List, [], ◌∷◌, ◌++◌, Option, None, Some, refl, ap, sym, ◌∙◌}
use Rattle.std.specs.Prelude.{◌||◌, ◌&&◌}
use Rattle.std.specs.List.{find}
use Rattle.std.specs.Option.{option_map, option_or}
use Rattle.std.proofs.lemmas.List.Folds.{find-append, list_any-append}
use Rattle.wdf_law.specs.Trees.{AdaptorTree, leaf, series, parallel, LeafElement, elements_of, first_of}
use Rattle.wdf_law.specs.Network.{Network, unit_of, elements, has_element, has_leaf, source_numbers}
use Rattle.wdf_law.specs.TreeRules.{AreDisjoint, HasDistinctLeaves, HasNumbers}
use Rattle.wdf_quant.specs.declared.port_ratio.PortRatio.{PortRatio}
use Rattle.wdf_quant.specs.PortBound.{PortNumbers, end, fork, NetworkNumbers, carried, beneath, reached, around, ratios_from, with_ratios, summed, zeros, port_numbers, leaf_number, listed, outwards, walk_from, is_port_of, leaf_in, HasLeafNumbers}
use Rattle.wdf_quant.proofs.WalkLemmas.{IsFitted, beneath-fitted, around-fitted, zeros-fitted, summed-fitted}

option_map-option_or : {A B : Type 0} (f : A → B) (p q : Option A) → option_map f (option_or p q) ≡ option_or (option_map f p) (option_map f q)
option_map-option_or f None q = refl
option_map-option_or f (Some x) q = refl

leaf_in-append : (xs ys : List PortRatio) (j : ℕ) → leaf_in (xs ++ ys) j ≡ option_or (leaf_in xs j) (leaf_in ys j)
leaf_in-append xs ys j =
    ap (option_map (λ (x : PortRatio). x.ratio)) (find-append (is_port_of j) xs ys)
    ∙ option_map-option_or (λ (x : PortRatio). x.ratio) (find (is_port_of j) xs) (find (is_port_of j) ys)

-- a leaf of a junction is one of its first or of its second part
pub has_leaf-series : (m j : ℕ) (l r : AdaptorTree) → has_leaf (series m l r) j ≡ (has_leaf l j || has_leaf r j)
has_leaf-series m j l r = list_any-append (λ (x : LeafElement). x.number == j) (elements_of l) (elements_of r)

-- ---- choices

-- a number where there is one
abbrev chosen : Bool → ℕ → Option ℕ → Option ℕ
chosen b p other = if b then Some p else other

either : (a b : Bool) (x y : ℕ) → option_or (chosen a x None) (chosen b y None) ≡ chosen (a || b) (if a then x else y) None
either true b x y = refl
either false true x y = refl
either false false x y = refl

or_none : (o : Option ℕ) → option_or o None ≡ o
or_none None = refl
or_none (Some x) = refl

-- first what is found in the part with the source, then what lies beyond, where nothing is found if a part has it,
-- then what is found in the other part
first_way : (a b : Bool) (x y : ℕ) (beyond : Option ℕ) → ((a || b) ≡ true → beyond ≡ None)
    → chosen a x (option_or beyond (chosen b y None)) ≡ chosen (a || b) (if a then x else y) beyond
first_way true b x y beyond none = refl
first_way false true x y beyond none = ap (λ (o : Option ℕ). option_or o (Some y)) (none refl)
first_way false false x y beyond none = or_none beyond

second_way : (a b : Bool) (x y : ℕ) (beyond : Option ℕ) → (b ≡ true → a ≡ false) → ((a || b) ≡ true → beyond ≡ None)
    → chosen b y (option_or beyond (chosen a x None)) ≡ chosen (a || b) (if a then x else y) beyond
second_way true true x y beyond apart none = let e = apart refl in absurd (cc)
second_way true false x y beyond apart none = ap (λ (o : Option ℕ). option_or o (Some x)) (none refl)
second_way false true x y beyond apart none = refl
second_way false false x y beyond apart none = or_none beyond

-- ---- lists

at_leaf : (b : Bool) (p : ℕ) (x : PortRatio) (rest : List PortRatio) (j : ℕ) → x.ratio ≡ p
    → option_map (λ (y : PortRatio). y.ratio) (if b then Some x else find (is_port_of j) rest) ≡ chosen (b || false) (if b then p else 0) (leaf_in rest j)
at_leaf true p x rest j e = ap (λ (k : ℕ). Some k) e
at_leaf false p x rest j e = refl

two-listed : (m : ℕ) (l r : AdaptorTree) (wl wr : PortNumbers) (j : ℕ)
    → leaf_in (listed l wl) j ≡ chosen (has_leaf l j) (leaf_number l wl j) None → leaf_in (listed r wr) j ≡ chosen (has_leaf r j) (leaf_number r wr j) None
    → leaf_in (listed l wl ++ listed r wr) j
    ≡ chosen (has_leaf (series m l r) j) (if has_leaf l j then leaf_number l wl j else leaf_number r wr j) None
two-listed m l r wl wr j first second =
    leaf_in-append (listed l wl) (listed r wr) j
    ∙ (λ c. option_or (first c) (second c))
    ∙ either (has_leaf l j) (has_leaf r j) (leaf_number l wl j) (leaf_number r wr j)
    ∙ ap (λ (b : Bool). chosen b (if has_leaf l j then leaf_number l wl j else leaf_number r wr j) None) (sym (has_leaf-series m j l r))

listed-leaf : (t : AdaptorTree) (w : PortNumbers) (j : ℕ) → IsFitted t w → leaf_in (listed t w) j ≡ chosen (has_leaf t j) (leaf_number t w j) None
listed-leaf (leaf i k flip) (end p) j fit = at_leaf (i == j) p (record { elem = i; leaf = true; ratio = p }) [] j refl
listed-leaf (leaf i k flip) (fork p wl wr) j fit = absurd fit
listed-leaf (series m l r) (end p) j fit = absurd fit
listed-leaf (series m l r) (fork p wl wr) j fit = two-listed m l r wl wr j (listed-leaf l wl j fit.0) (listed-leaf r wr j fit.1)
listed-leaf (parallel m l r) (end p) j fit = absurd fit
listed-leaf (parallel m l r) (fork p wl wr) j fit = two-listed m l r wl wr j (listed-leaf l wl j fit.0) (listed-leaf r wr j fit.1)

-- what lies beyond a part: what lies beyond the junction, and its other part
beyond-leaf : (t : AdaptorTree) (w : PortNumbers) (beyond : List PortRatio) (j : ℕ) → IsFitted t w
    → leaf_in (beyond ++ listed t w) j ≡ option_or (leaf_in beyond j) (chosen (has_leaf t j) (leaf_number t w j) None)
beyond-leaf t w beyond j fit = leaf_in-append beyond (listed t w) j ∙ ap (option_or (leaf_in beyond j)) (listed-leaf t w j fit)

-- nothing is found there of a part's own leaves
none-beyond : (a b : Bool) (y : ℕ) (beyond : Option ℕ) → (b ≡ true → a ≡ false) → ((a || b) ≡ true → beyond ≡ None) → a ≡ true
    → option_or beyond (chosen b y None) ≡ None
none-beyond true true y beyond apart none here = let e = apart refl in absurd (cc)
none-beyond true false y beyond apart none here = ap (λ (o : Option ℕ). option_or o None) (none refl)
none-beyond false b y beyond apart none here = absurd (cc)

none-beside : (a b : Bool) (x : ℕ) (beyond : Option ℕ) → (b ≡ true → a ≡ false) → ((a || b) ≡ true → beyond ≡ None) → b ≡ true
    → option_or beyond (chosen a x None) ≡ None
none-beside true true x beyond apart none here = let e = apart refl in absurd (cc)
none-beside false true x beyond apart none here = ap (λ (o : Option ℕ). option_or o None) (none refl)
none-beside a false x beyond apart none here = absurd (cc)

abbrev FindsOutwards : ℕ → ℕ → AdaptorTree → PortNumbers → List PortRatio → Type 0
FindsOutwards i j t w beyond =
    (has_leaf t j ≡ true → leaf_in beyond j ≡ None) → leaf_in (outwards i t w beyond) j ≡ chosen (has_leaf t j) (leaf_number t w j) (leaf_in beyond j)

-- a junction, of its parts; x is its own port
two-outwards : (i j m : ℕ) (l r : AdaptorTree) (wl wr : PortNumbers) (x : PortRatio) (beyond : List PortRatio) → x.leaf ≡ false
    → IsFitted l wl → IsFitted r wr → AreDisjoint l r
    → FindsOutwards i j l wl (x ∷ beyond ++ listed r wr) → FindsOutwards i j r wr (x ∷ beyond ++ listed l wl)
    → (has_leaf (series m l r) j ≡ true → leaf_in beyond j ≡ None)
    → leaf_in (if has_leaf l i then outwards i l wl (x ∷ beyond ++ listed r wr) else outwards i r wr (x ∷ beyond ++ listed l wl)) j
    ≡ chosen (has_leaf (series m l r) j) (if has_leaf l j then leaf_number l wl j else leaf_number r wr j) (leaf_in beyond j)
two-outwards i j m l r wl wr x beyond junction fit_l fit_r apart find_l find_r none = by (has_leaf l i)
  where
    is : has_leaf (series m l r) j ≡ (has_leaf l j || has_leaf r j)
    is = has_leaf-series m j l r

    none' : (has_leaf l j || has_leaf r j) ≡ true → leaf_in beyond j ≡ None
    none' e = none (is ∙ e)

    skip : (rest : List PortRatio) → leaf_in (x ∷ rest) j ≡ leaf_in rest j
    skip rest = ap (λ (b : Bool). option_map (λ (y : PortRatio). y.ratio) (if b && (x.elem == j) then Some x else find (is_port_of j) rest)) junction

    behind_l : leaf_in (x ∷ beyond ++ listed r wr) j ≡ option_or (leaf_in beyond j) (chosen (has_leaf r j) (leaf_number r wr j) None)
    behind_l = skip (beyond ++ listed r wr) ∙ beyond-leaf r wr beyond j fit_r

    behind_r : leaf_in (x ∷ beyond ++ listed l wl) j ≡ option_or (leaf_in beyond j) (chosen (has_leaf l j) (leaf_number l wl j) None)
    behind_r = skip (beyond ++ listed l wl) ∙ beyond-leaf l wl beyond j fit_l

    back : chosen (has_leaf l j || has_leaf r j) (if has_leaf l j then leaf_number l wl j else leaf_number r wr j) (leaf_in beyond j)
        ≡ chosen (has_leaf (series m l r) j) (if has_leaf l j then leaf_number l wl j else leaf_number r wr j) (leaf_in beyond j)
    back = ap (λ (b : Bool). chosen b (if has_leaf l j then leaf_number l wl j else leaf_number r wr j) (leaf_in beyond j)) (sym is)

    by : (b : Bool) → leaf_in (if b then outwards i l wl (x ∷ beyond ++ listed r wr) else outwards i r wr (x ∷ beyond ++ listed l wl)) j
        ≡ chosen (has_leaf (series m l r) j) (if has_leaf l j then leaf_number l wl j else leaf_number r wr j) (leaf_in beyond j)
    by true =
        find_l (λ here. behind_l ∙ none-beyond (has_leaf l j) (has_leaf r j) (leaf_number r wr j) (leaf_in beyond j) (apart j) none' here)
        ∙ ap (chosen (has_leaf l j) (leaf_number l wl j)) behind_l
        ∙ first_way (has_leaf l j) (has_leaf r j) (leaf_number l wl j) (leaf_number r wr j) (leaf_in beyond j) none' ∙ back
    by false =
        find_r (λ here. behind_r ∙ none-beside (has_leaf l j) (has_leaf r j) (leaf_number l wl j) (leaf_in beyond j) (apart j) none' here)
        ∙ ap (chosen (has_leaf r j) (leaf_number r wr j)) behind_r
        ∙ second_way (has_leaf l j) (has_leaf r j) (leaf_number l wl j) (leaf_number r wr j) (leaf_in beyond j) (apart j) none' ∙ back

outwards-leaf : (i j : ℕ) (t : AdaptorTree) (w : PortNumbers) (beyond : List PortRatio) → IsFitted t w → HasDistinctLeaves t → FindsOutwards i j t w beyond
outwards-leaf i j (leaf e k flip) (end p) beyond fit apart none = at_leaf (e == j) p (record { elem = e; leaf = true; ratio = p }) beyond j refl
outwards-leaf i j (leaf e k flip) (fork p wl wr) beyond fit apart none = absurd fit
outwards-leaf i j (series m l r) (end p) beyond fit apart none = absurd fit
outwards-leaf i j (series m l r) (fork p wl wr) beyond fit apart none =
    let x : PortRatio = record { elem = first_of l; leaf = false; ratio = p } in
    two-outwards i j m l r wl wr x beyond refl fit.0 fit.1 apart.0 (outwards-leaf i j l wl (x ∷ beyond ++ listed r wr) fit.0 apart.1) (outwards-leaf i j r wr (x ∷ beyond ++ listed l wl) fit.1 apart.2) none
outwards-leaf i j (parallel m l r) (end p) beyond fit apart none = absurd fit
outwards-leaf i j (parallel m l r) (fork p wl wr) beyond fit apart none =
    let x : PortRatio = record { elem = first_of l; leaf = false; ratio = p } in
    two-outwards i j m l r wl wr x beyond refl fit.0 fit.1 apart.0 (outwards-leaf i j l wl (x ∷ beyond ++ listed r wr) fit.0 apart.1) (outwards-leaf i j r wr (x ∷ beyond ++ listed l wl) fit.1 apart.2) none

-- ---- a network

pub record AreFitted (n : Network) (w : NetworkNumbers) : Type 0 where
  pub left : IsFitted n.left w.left
  pub right : IsFitted n.right w.right

ratios-fitted : (n : Network) (i : ℕ) → AreFitted n (ratios_from n i)
ratios-fitted n i = by (has_leaf n.left i)
  where
    q : ℕ
    q = unit_of n

    by : (b : Bool) → AreFitted n
        (if b
        then record { left = around q i n.left; right = beneath q n.right (carried (reached q i n.left) n.m (q - n.m)) }
        else record { left = beneath q n.left (carried (reached q i n.right) (q - n.m) n.m); right = around q i n.right })
    by true = record { left = around-fitted q i n.left; right = beneath-fitted q n.right (carried (reached q i n.left) n.m (q - n.m)) }
    by false = record { left = beneath-fitted q n.left (carried (reached q i n.right) (q - n.m) n.m); right = around-fitted q i n.right }

with_ratios-fitted : (n : Network) (is : List ℕ) (w : NetworkNumbers) → AreFitted n w → AreFitted n (with_ratios n is w)
with_ratios-fitted n [] w fit = fit
with_ratios-fitted n (i ∷ is) w fit =
    let ratios = ratios-fitted n i in
    with_ratios-fitted n is (record { left = summed w.left (ratios_from n i).left; right = summed w.right (ratios_from n i).right })
    (record { left = summed-fitted n.left w.left (ratios_from n i).left fit.left ratios.left; right = summed-fitted n.right w.right (ratios_from n i).right fit.right ratios.right })

pub numbers-fitted : (n : Network) → AreFitted n (port_numbers n)
numbers-fitted n = with_ratios-fitted n (source_numbers n) (record { left = zeros n.left; right = zeros n.right }) (record { left = zeros-fitted n.left; right = zeros-fitted n.right })

-- the walk of a source finds each element's port
walk_from-leaf : (n : Network) (i j : ℕ) (w : NetworkNumbers) → HasNumbers n → AreFitted n w → (has_leaf n.left j || has_leaf n.right j) ≡ true
    → leaf_in (walk_from n i w) j ≡ Some (if has_leaf n.left j then leaf_number n.left w.left j else leaf_number n.right w.right j)
walk_from-leaf n i j w rules fit here = by (has_leaf n.left i)
  where
    x : ℕ
    x = leaf_number n.left w.left j

    y : ℕ
    y = leaf_number n.right w.right j

    found : (a b : Bool) → (a || b) ≡ true → chosen (a || b) (if a then x else y) None ≡ Some (if a then x else y)
    found a b e = ap (λ (c : Bool). chosen c (if a then x else y) None) e

    left_none : has_leaf n.left j ≡ true → leaf_in (listed n.right w.right) j ≡ None
    left_none e = listed-leaf n.right w.right j fit.right ∙ none-beyond (has_leaf n.left j) (has_leaf n.right j) y None (rules.disjoint j) (λ _. refl) e

    right_none : has_leaf n.right j ≡ true → leaf_in (listed n.left w.left) j ≡ None
    right_none e = listed-leaf n.left w.left j fit.left ∙ none-beside (has_leaf n.left j) (has_leaf n.right j) x None (rules.disjoint j) (λ _. refl) e

    by : (b : Bool) → leaf_in (if b then outwards i n.left w.left (listed n.right w.right) else outwards i n.right w.right (listed n.left w.left)) j
        ≡ Some (if has_leaf n.left j then x else y)
    by true =
        outwards-leaf i j n.left w.left (listed n.right w.right) fit.left rules.left left_none
        ∙ ap (chosen (has_leaf n.left j) x) (listed-leaf n.right w.right j fit.right)
        ∙ first_way (has_leaf n.left j) (has_leaf n.right j) x y None (λ _. refl) ∙ found (has_leaf n.left j) (has_leaf n.right j) here
    by false =
        outwards-leaf i j n.right w.right (listed n.left w.left) fit.right rules.right right_none
        ∙ ap (chosen (has_leaf n.right j) y) (listed-leaf n.left w.left j fit.left)
        ∙ second_way (has_leaf n.left j) (has_leaf n.right j) x y None (rules.disjoint j) (λ _. refl) ∙ found (has_leaf n.left j) (has_leaf n.right j) here

-- an element of the network is a leaf of one of its trees
pub has_element-parts : (n : Network) (j : ℕ) → has_element (elements n) j ≡ (has_leaf n.left j || has_leaf n.right j)
has_element-parts n j = list_any-append (λ (x : LeafElement). x.number == j) (elements_of n.left) (elements_of n.right)

pub walk-leaf : (n : Network) (i : ℕ) → HasNumbers n → HasLeafNumbers n (walk_from n i (port_numbers n))
walk-leaf n i rules = λ j below.
    walk_from-leaf n i j (port_numbers n) rules (numbers-fitted n) (sym (has_element-parts n j) ∙ rules.every j below)
