-- The program's trees of ratios as its own contracts see them: a tree of adaptors, and two numbers for each of its ports.
use Rattle.std.specs.Prelude.{◌≡◌, ℕ, ◌^◌, ◌≤◌, true, false, if◌then◌else◌, List, [], ◌∷◌, ◌++◌, None, Some, Result, Ok, Err, ⊤, Vec}
use Rattle.std.specs.declared.alloc.Global.{Global}
use Rattle.wdf_law.specs.Trees.{AdaptorTree, leaf, series, parallel, first_of}
use Rattle.wdf_law.specs.Network.{Network, has_leaf, source_numbers}
use Rattle.wdf_quant.specs.declared.port_ratio.PortRatio.{PortRatio}
use Rattle.wdf_quant.specs.declared.ratio_fault.RatioFault.{RatioFault}
use Rattle.wdf_quant.specs.declared.ratio_fault.RatioFault.TheVariants.{Wide, NoMemory}
use Rattle.wdf_quant.specs.declared.ratio_tree.RatioTree.{RatioTree, Leaf, Series', Parallel'}
use Rattle.wdf_quant.specs.declared.ratio_trees.RatioTrees.{RatioTrees}
use Rattle.wdf_quant.specs.declared.wide_port.WidePort.{WidePort}
use Rattle.wdf_quant.specs.PortBound.{PortNumbers, end, fork, own, NetworkNumbers, reached, around, listed, first_wide, first_wide_from, port_numbers}

abbrev pub tree_of : RatioTree → AdaptorTree
tree_of (Leaf elem kind flip port) = leaf elem kind flip
tree_of (Series' m port p l q r) = series m (tree_of l) (tree_of r)
tree_of (Parallel' m port p l q r) = parallel m (tree_of l) (tree_of r)

-- the ratios seen from one source
abbrev pub ratios_in : RatioTree → PortNumbers
ratios_in (Leaf _ _ _ port) = end port.ratio
ratios_in (Series' m port p l q r) = fork port.ratio (ratios_in l) (ratios_in r)
ratios_in (Parallel' m port p l q r) = fork port.ratio (ratios_in l) (ratios_in r)

-- and their sums over the sources so far
abbrev pub sums_in : RatioTree → PortNumbers
sums_in (Leaf _ _ _ port) = end port.sum
sums_in (Series' m port p l q r) = fork port.sum (sums_in l) (sums_in r)
sums_in (Parallel' m port p l q r) = fork port.sum (sums_in l) (sums_in r)

-- both of a pair of trees
abbrev pub ratios_of : RatioTrees → NetworkNumbers
ratios_of t = record { left = ratios_in t.left; right = ratios_in t.right }

abbrev pub sums_of : RatioTrees → NetworkNumbers
sums_of t = record { left = sums_in t.left; right = sums_in t.right }

-- no number exceeds c
abbrev pub AreAtMost : ℕ → PortNumbers → Type 0
AreAtMost c (end p) = p ≤ c
AreAtMost c (fork p l r) = (p ≤ c) × AreAtMost c l × AreAtMost c r

-- ---- the way of a walk

-- the ports from the source up to the tree's own, with these numbers
abbrev pub chained : ℕ → AdaptorTree → PortNumbers → List PortRatio
chained i (leaf j k flip) w = record { elem = j; leaf = true; ratio = own w } ∷ []
chained i (series m l r) (end p) = []
chained i (series m l r) (fork p wl wr) = (if has_leaf l i then chained i l wl else chained i r wr) ++ record { elem = first_of l; leaf = false; ratio = p } ∷ []
chained i (parallel m l r) (end p) = []
chained i (parallel m l r) (fork p wl wr) = (if has_leaf l i then chained i l wl else chained i r wr) ++ record { elem = first_of l; leaf = false; ratio = p } ∷ []

-- those beside that way, from the tree's own port back to the source
abbrev pub beside : ℕ → AdaptorTree → PortNumbers → List PortRatio
beside i (leaf j k flip) w = []
beside i (series m l r) (end p) = []
beside i (series m l r) (fork p wl wr) = if has_leaf l i then listed r wr ++ beside i l wl else listed l wl ++ beside i r wr
beside i (parallel m l r) (end p) = []
beside i (parallel m l r) (fork p wl wr) = if has_leaf l i then listed r wr ++ beside i l wl else listed l wl ++ beside i r wr

-- the ports on the way from the source have their ratios
abbrev pub HasWay : ℕ → ℕ → RatioTree → Type 0
HasWay q i (Leaf _ _ _ port) = port.ratio ≡ 2 ^ 40
HasWay q i (Series' m port p l u r) =
    (port.ratio ≡ reached q i (series m (tree_of l) (tree_of r)))
    × (has_leaf (tree_of l) i ≡ true → HasWay q i l)
    × (has_leaf (tree_of l) i ≡ false → HasWay q i r)
HasWay q i (Parallel' m port p l u r) =
    (port.ratio ≡ reached q i (parallel m (tree_of l) (tree_of r)))
    × (has_leaf (tree_of l) i ≡ true → HasWay q i l)
    × (has_leaf (tree_of l) i ≡ false → HasWay q i r)

-- ---- answers

-- the ports of the list were visited in turn, up to the first whose number is too wide; now there are these ratios
abbrev pub Fills : {A B : Type 0} → List PortRatio → B → B → Result A WidePort → Type 0
Fills visited want have (Ok done) = (have ≡ want) × (first_wide visited ≡ None)
Fills visited want have (Err w) = first_wide visited ≡ Some (w.element, w.need)

abbrev pub Climbs : {A : Type 0} → ℕ → ℕ → AdaptorTree → RatioTree → Result A WidePort → Type 0
Climbs q i t now (Ok done) = HasWay q i now × (first_wide (chained i t (around q i t)) ≡ None)
Climbs q i t now (Err w) = first_wide (chained i t (around q i t)) ≡ Some (w.element, w.need)

-- the ports were listed in turn, up to the first whose number is too wide
abbrev pub Lists : {A : Type 0} → List PortRatio → List PortRatio → List PortRatio → Result A RatioFault → Type 0
Lists ports before now (Ok done) = (now ≡ before ++ ports) × (first_wide ports ≡ None)
Lists ports before now (Err (Wide element need)) = first_wide ports ≡ Some (element, need)
Lists ports before now (Err NoMemory) = ⊤

-- these are the ports of the list, or the first of them that is too wide
abbrev pub IsListOf : List PortRatio → Result (Vec PortRatio Global) RatioFault → Type 0
IsListOf ports (Ok list) = (list.items ≡ ports) × (first_wide ports ≡ None)
IsListOf ports (Err (Wide element need)) = first_wide ports ≡ Some (element, need)
IsListOf ports (Err NoMemory) = ⊤

-- the sums are the numbers of the network's ports, where no single ratio is too wide, or the first that is
abbrev pub Gathers : Network → Result RatioTrees RatioFault → Type 0
Gathers n (Ok trees) = (sums_of trees ≡ port_numbers n) × (first_wide_from n (source_numbers n) ≡ None)
Gathers n (Err (Wide element need)) = first_wide_from n (source_numbers n) ≡ Some (element, need)
Gathers n (Err NoMemory) = ⊤
