-- The numbers that bound the words of a network's ports. Seen from a source every port has a ratio: 2^40 at the source's
-- own port, and from each port to the next one away from it, rounded up,
--   series    parent to first child    p·m/q         first child to parent    p·q/m
--             parent to second child   p·(q-m)/q     second child to parent   p·q/(q-m)
--   parallel  parent to first child    p·q/m         first child to parent    p·m/q
--             parent to second child   p·q/(q-m)     second child to parent   p·(q-m)/q
--   root      left to right            p·m/(q-m)     right to left            p·(q-m)/m
-- A child beside the way is reached from its parent. The number of a port is the sum of its ratios over all sources.
use Rattle.std.specs.Prelude.{◌≡◌, ◌<◌, ℕ, ◌+◌, ◌-◌, ◌*◌, ◌^◌, nat_le, ◌==◌, ◌&&◌, if◌then◌else◌, Bool, true, false, List, [], ◌∷◌, ◌++◌, Option, None, Some, Result, Ok, Err, length, ⊤, All, IsTrue}
use Rattle.std.specs.Int.{div_ceil}
use Rattle.std.specs.List.{find}
use Rattle.std.specs.Option.{option_map, option_or}
use Rattle.wdf_law.specs.Trees.{AdaptorTree, leaf, series, parallel, first_of}
use Rattle.wdf_law.specs.Network.{Network, unit_of, elements, has_leaf, source_numbers}
use Rattle.wdf_quant.specs.declared.port_ratio.PortRatio.{PortRatio}
use Rattle.wdf_quant.specs.declared.ratio_fault.RatioFault.{RatioFault}
use Rattle.wdf_quant.specs.declared.ratio_fault.RatioFault.TheVariants.{Wide, NoMemory}

-- a number for each port of a tree, in its shape
pub data PortNumbers : Type 0 where
  end : (p : ℕ) → PortNumbers
  fork : (p : ℕ) (l r : PortNumbers) → PortNumbers

-- that of its own port
abbrev pub own : PortNumbers → ℕ
own (end p) = p
own (fork p l r) = p

-- and for each port of a network
pub record NetworkNumbers : Type 0 where
  pub left : PortNumbers
  pub right : PortNumbers

-- ---- seen from one source

-- p·a/b, rounded up
abbrev pub carried : ℕ → ℕ → ℕ → ℕ
carried p a b = div_ceil (p * a) b

-- a tree that the source is not in, whose own port has p: from each parent to its children
abbrev pub beneath : ℕ → AdaptorTree → ℕ → PortNumbers
beneath q (leaf i k flip) p = end p
beneath q (series m l r) p = fork p (beneath q l (carried p m q)) (beneath q r (carried p (q - m) q))
beneath q (parallel m l r) p = fork p (beneath q l (carried p q m)) (beneath q r (carried p q (q - m)))

-- a tree with the source number i: the ratio of its own port, from each child on the way to its parent
abbrev pub reached : ℕ → ℕ → AdaptorTree → ℕ
reached q i (leaf j k flip) = 2 ^ 40
reached q i (series m l r) = if has_leaf l i then carried (reached q i l) q m else carried (reached q i r) q (q - m)
reached q i (parallel m l r) = if has_leaf l i then carried (reached q i l) m q else carried (reached q i r) (q - m) q

-- and those of all its ports, a child beside the way from its parent
abbrev pub around : ℕ → ℕ → AdaptorTree → PortNumbers
around q i (leaf j k flip) = end (2 ^ 40)
around q i (series m l r) =
    let p = reached q i (series m l r) in
    fork p (if has_leaf l i then around q i l else beneath q l (carried p m q)) (if has_leaf l i then beneath q r (carried p (q - m) q) else around q i r)
around q i (parallel m l r) =
    let p = reached q i (parallel m l r) in
    fork p (if has_leaf l i then around q i l else beneath q l (carried p q m)) (if has_leaf l i then beneath q r (carried p q (q - m)) else around q i r)

-- the ratios of the ports of two trees that are joined at the root by the multiplier m, seen from the source number i
abbrev pub ratios_between : ℕ → ℕ → AdaptorTree → AdaptorTree → ℕ → NetworkNumbers
ratios_between q m left right i =
    if has_leaf left i
    then record { left = around q i left; right = beneath q right (carried (reached q i left) m (q - m)) }
    else record { left = beneath q left (carried (reached q i right) (q - m) m); right = around q i right }

abbrev pub ratios_from : Network → ℕ → NetworkNumbers
ratios_from n i = ratios_between (unit_of n) n.m n.left n.right i

-- ---- over all sources

-- 0 at each port of a tree
abbrev pub zeros : AdaptorTree → PortNumbers
zeros (leaf i k flip) = end 0
zeros (series m l r) = fork 0 (zeros l) (zeros r)
zeros (parallel m l r) = fork 0 (zeros l) (zeros r)

-- the sums, port by port, of the numbers of one tree
abbrev pub summed : PortNumbers → PortNumbers → PortNumbers
summed (end p) w = end (p + own w)
summed (fork p l r) (end s) = fork (p + s) l r
summed (fork p l r) (fork s wl wr) = fork (p + s) (summed l wl) (summed r wr)

-- these numbers and the ratios seen from each of these sources
abbrev pub with_ratios : Network → List ℕ → NetworkNumbers → NetworkNumbers
with_ratios n [] w = w
with_ratios n (i ∷ is) w = with_ratios n is (record { left = summed w.left (ratios_from n i).left; right = summed w.right (ratios_from n i).right })

-- the number of each port
abbrev pub port_numbers : Network → NetworkNumbers
port_numbers n = with_ratios n (source_numbers n) (record { left = zeros n.left; right = zeros n.right })

-- the number of the port of the element j in a tree, 0 where there is none
abbrev pub leaf_number : AdaptorTree → PortNumbers → ℕ → ℕ
leaf_number (leaf i k flip) w j = if i == j then own w else 0
leaf_number (series m l r) (end p) j = 0
leaf_number (series m l r) (fork p wl wr) j = if has_leaf l j then leaf_number l wl j else leaf_number r wr j
leaf_number (parallel m l r) (end p) j = 0
leaf_number (parallel m l r) (fork p wl wr) j = if has_leaf l j then leaf_number l wl j else leaf_number r wr j

-- and in a network
abbrev pub number_at : Network → ℕ → ℕ
number_at n j = if has_leaf n.left j then leaf_number n.left (port_numbers n).left j else leaf_number n.right (port_numbers n).right j

-- ---- in the order of a walk

-- the ports of a tree that the walk reaches at its own port: that port, then its first and its second part
abbrev pub listed : AdaptorTree → PortNumbers → List PortRatio
listed (leaf j k flip) w = record { elem = j; leaf = true; ratio = own w } ∷ []
listed (series m l r) (end p) = []
listed (series m l r) (fork p wl wr) = record { elem = first_of l; leaf = false; ratio = p } ∷ listed l wl ++ listed r wr
listed (parallel m l r) (end p) = []
listed (parallel m l r) (fork p wl wr) = record { elem = first_of l; leaf = false; ratio = p } ∷ listed l wl ++ listed r wr

-- The ports of a tree with the source number i, and those beyond the tree's own port: first the source's port, then at
-- each junction its own port with all that lies beyond it, then the other part.
abbrev pub outwards : ℕ → AdaptorTree → PortNumbers → List PortRatio → List PortRatio
outwards i (leaf j k flip) w beyond = record { elem = j; leaf = true; ratio = own w } ∷ beyond
outwards i (series m l r) (end p) beyond = beyond
outwards i (series m l r) (fork p wl wr) beyond =
    if has_leaf l i
    then outwards i l wl (record { elem = first_of l; leaf = false; ratio = p } ∷ beyond ++ listed r wr)
    else outwards i r wr (record { elem = first_of l; leaf = false; ratio = p } ∷ beyond ++ listed l wl)
outwards i (parallel m l r) (end p) beyond = beyond
outwards i (parallel m l r) (fork p wl wr) beyond =
    if has_leaf l i
    then outwards i l wl (record { elem = first_of l; leaf = false; ratio = p } ∷ beyond ++ listed r wr)
    else outwards i r wr (record { elem = first_of l; leaf = false; ratio = p } ∷ beyond ++ listed l wl)

-- all ports of two trees with these numbers, away from the source number i
abbrev pub walk_between : AdaptorTree → AdaptorTree → ℕ → NetworkNumbers → List PortRatio
walk_between left right i w =
    if has_leaf left i
    then outwards i left w.left (listed right w.right)
    else outwards i right w.right (listed left w.left)

abbrev pub walk_from : Network → ℕ → NetworkNumbers → List PortRatio
walk_from n i w = walk_between n.left n.right i w

-- away from the first of these sources
abbrev pub walk_by : Network → List ℕ → NetworkNumbers → List PortRatio
walk_by n [] w = []
walk_by n (i ∷ is) w = walk_from n i w

-- the ports with their numbers, away from the first source
abbrev pub walk : Network → List PortRatio
walk n = walk_by n (source_numbers n) (port_numbers n)

-- each port passes a test of its number
abbrev pub EachPort : (ℕ → Bool) → PortNumbers → Type 0
EachPort passes (end p) = IsTrue (passes p)
EachPort passes (fork p l r) = IsTrue (passes p) × EachPort passes l × EachPort passes r

-- the walk has every port: what each number of the list passes, each port of the network does
abbrev pub HasWholeWalk : Network → Type 0
HasWholeWalk n = (passes : ℕ → Bool) → All (λ (x : PortRatio). IsTrue (passes x.ratio)) (walk n)
    → EachPort passes (port_numbers n).left × EachPort passes (port_numbers n).right

-- ---- numbers that are too wide

-- the first port whose number exceeds 2^62, as its element and that number
abbrev pub first_wide : List PortRatio → Option (ℕ × ℕ)
first_wide [] = None
first_wide (x ∷ xs) = if nat_le x.ratio (2 ^ 62) then first_wide xs else Some (x.elem, x.ratio)

-- among the ratios seen from each of these sources in turn
abbrev pub first_wide_from : Network → List ℕ → Option (ℕ × ℕ)
first_wide_from n [] = None
first_wide_from n (i ∷ is) = option_or (first_wide (walk_from n i (ratios_from n i))) (first_wide_from n is)

-- a single ratio, or else a sum
abbrev pub wide_of : Network → Option (ℕ × ℕ)
wide_of n = option_or (first_wide_from n (source_numbers n)) (first_wide (walk n))

-- ---- a list of ports by the element

-- it is the port of the element j
abbrev pub is_port_of : ℕ → PortRatio → Bool
is_port_of j x = x.leaf && (x.elem == j)

-- the number of the first port of the element j
abbrev pub leaf_in : List PortRatio → ℕ → Option ℕ
leaf_in xs j = option_map (λ (x : PortRatio). x.ratio) (find (is_port_of j) xs)

-- ---- what the program answers

-- the list has the number of each element's port
abbrev pub HasLeafNumbers : Network → List PortRatio → Type 0
HasLeafNumbers n xs = (j : ℕ) → j < length (elements n) → leaf_in xs j ≡ Some (number_at n j)

-- the ports with their numbers, where none is too wide, or the first that is
abbrev pub Encloses : Network → Result (List PortRatio) RatioFault → Type 0
Encloses n (Ok ratios) = (ratios ≡ walk n) × (wide_of n ≡ None)
Encloses n (Err (Wide element need)) = wide_of n ≡ Some (element, need)
Encloses n (Err NoMemory) = ⊤
