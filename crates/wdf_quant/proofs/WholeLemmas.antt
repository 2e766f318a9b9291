-- A walk has every port of the network.
use Rattle.std.proofs.Common.{ℕ, ◌≤◌, Bool, true, false, if◌then◌else◌, List, [], ◌∷◌, ◌++◌, length, arith}
use Rattle.std.specs.Prelude.{All, IsTrue}
use Rattle.std.proofs.lemmas.List.Elements.{All-head, All-tail, All-nil, All-cons}
use Rattle.wdf_law.specs.Trees.{AdaptorTree, leaf, series, parallel, first_of}
use Rattle.wdf_law.specs.Network.{Network, has_leaf, source_numbers}
use Rattle.wdf_quant.specs.declared.port_ratio.PortRatio.{PortRatio}
use Rattle.wdf_quant.specs.PortBound.{PortNumbers, end, fork, NetworkNumbers, port_numbers, listed, outwards, walk_by, EachPort, HasWholeWalk}
use Rattle.wdf_quant.proofs.WalkLemmas.{IsFitted}
use Rattle.wdf_quant.proofs.LeafLemmas.{AreFitted, numbers-fitted}

abbrev Passing : (ℕ → Bool) → PortRatio → Type 0
Passing passes x = IsTrue (passes x.ratio)

front : (passes : ℕ → Bool) (xs ys : List PortRatio) → All (Passing passes) (xs ++ ys) → All (Passing passes) xs × All (Passing passes) ys
front passes [] ys h = (All-nil (Passing passes), h)
front passes (x ∷ xs) ys h =
    let rest = front passes xs ys (All-tail (Passing passes) x (xs ++ ys) h) in
    (All-cons (Passing passes) x xs (All-head (Passing passes) x (xs ++ ys) h) rest.0, rest.1)

listed-whole : (passes : ℕ → Bool) (t : AdaptorTree) (w : PortNumbers) → IsFitted t w → All (Passing passes) (listed t w) → EachPort passes w
listed-whole passes (leaf i k flip) (end p) fit h = All-head (Passing passes) (record { elem = i; leaf = true; ratio = p }) [] h
listed-whole passes (leaf i k flip) (fork p wl wr) fit h = absurd fit
listed-whole passes (series m l r) (end p) fit h = absurd fit
listed-whole passes (series m l r) (fork p wl wr) fit h =
    let x : PortRatio = record { elem = first_of l; leaf = false; ratio = p } in
    let parts = front passes (listed l wl) (listed r wr) (All-tail (Passing passes) x (listed l wl ++ listed r wr) h) in
    (All-head (Passing passes) x (listed l wl ++ listed r wr) h, listed-whole passes l wl fit.0 parts.0, listed-whole passes r wr fit.1 parts.1)
listed-whole passes (parallel m l r) (end p) fit h = absurd fit
listed-whole passes (parallel m l r) (fork p wl wr) fit h =
    let x : PortRatio = record { elem = first_of l; leaf = false; ratio = p } in
    let parts = front passes (listed l wl) (listed r wr) (All-tail (Passing passes) x (listed l wl ++ listed r wr) h) in
    (All-head (Passing passes) x (listed l wl ++ listed r wr) h, listed-whole passes l wl fit.0 parts.0, listed-whole passes r wr fit.1 parts.1)

-- what the walk out of a tree has: its ports, and what lies beyond
abbrev GoesOut : (ℕ → Bool) → PortNumbers → List PortRatio → List PortRatio → Type 0
GoesOut passes w beyond all = All (Passing passes) all → EachPort passes w × All (Passing passes) beyond

two-whole : (passes : ℕ → Bool) (b : Bool) (l r : AdaptorTree) (wl wr : PortNumbers) (x : PortRatio) (beyond out_l out_r : List PortRatio)
    → IsFitted l wl → IsFitted r wr
    → GoesOut passes wl (x ∷ beyond ++ listed r wr) out_l → GoesOut passes wr (x ∷ beyond ++ listed l wl) out_r
    → GoesOut passes (fork x.ratio wl wr) beyond (if b then out_l else out_r)
two-whole passes true l r wl wr x beyond out_l out_r fit_l fit_r first second h =
    let inner = first h in
    let rest = front passes beyond (listed r wr) (All-tail (Passing passes) x (beyond ++ listed r wr) inner.1) in
    ((All-head (Passing passes) x (beyond ++ listed r wr) inner.1, inner.0, listed-whole passes r wr fit_r rest.1), rest.0)
two-whole passes false l r wl wr x beyond out_l out_r fit_l fit_r first second h =
    let inner = second h in
    let rest = front passes beyond (listed l wl) (All-tail (Passing passes) x (beyond ++ listed l wl) inner.1) in
    ((All-head (Passing passes) x (beyond ++ listed l wl) inner.1, listed-whole passes l wl fit_l rest.1, inner.0), rest.0)

outwards-whole : (passes : ℕ → Bool) (i : ℕ) (t : AdaptorTree) (w : PortNumbers) (beyond : List PortRatio) → IsFitted t w → GoesOut passes w beyond (outwards i t w beyond)
outwards-whole passes i (leaf j k flip) (end p) beyond fit h =
    let x : PortRatio = record { elem = j; leaf = true; ratio = p } in
    (All-head (Passing passes) x beyond h, All-tail (Passing passes) x beyond h)
outwards-whole passes i (leaf j k flip) (fork p wl wr) beyond fit h = absurd fit
outwards-whole passes i (series m l r) (end p) beyond fit h = absurd fit
outwards-whole passes i (series m l r) (fork p wl wr) beyond fit h =
    let x : PortRatio = record { elem = first_of l; leaf = false; ratio = p } in
    two-whole passes (has_leaf l i) l r wl wr x beyond _ _ fit.0 fit.1
    (outwards-whole passes i l wl (x ∷ beyond ++ listed r wr) fit.0) (outwards-whole passes i r wr (x ∷ beyond ++ listed l wl) fit.1) h
outwards-whole passes i (parallel m l r) (end p) beyond fit h = absurd fit
outwards-whole passes i (parallel m l r) (fork p wl wr) beyond fit h =
    let x : PortRatio = record { elem = first_of l; leaf = false; ratio = p } in
    two-whole passes (has_leaf l i) l r wl wr x beyond _ _ fit.0 fit.1
    (outwards-whole passes i l wl (x ∷ beyond ++ listed r wr) fit.0) (outwards-whole passes i r wr (x ∷ beyond ++ listed l wl) fit.1) h

either-whole : (passes : ℕ → Bool) (b : Bool) (l r : AdaptorTree) (w : NetworkNumbers) (out_l out_r : List PortRatio) → IsFitted l w.left → IsFitted r w.right
    → GoesOut passes w.left (listed r w.right) out_l → GoesOut passes w.right (listed l w.left) out_r
    → All (Passing passes) (if b then out_l else out_r) → EachPort passes w.left × EachPort passes w.right
either-whole passes true l r w out_l out_r fit_l fit_r first second h =
    let inner = first h in (inner.0, listed-whole passes r w.right fit_r inner.1)
either-whole passes false l r w out_l out_r fit_l fit_r first second h =
    let inner = second h in (listed-whole passes l w.left fit_l inner.1, inner.0)

pub whole-walk : (n : Network) → 1 ≤ length (source_numbers n) → HasWholeWalk n
whole-walk n some passes = by (source_numbers n) some
  where
    fit : AreFitted n (port_numbers n)
    fit = numbers-fitted n

    by : (is : List ℕ) → 1 ≤ length is → All (Passing passes) (walk_by n is (port_numbers n)) → EachPort passes (port_numbers n).left × EachPort passes (port_numbers n).right
    by [] some h = absurd (omega arith)
    by (i ∷ is) some h =
        either-whole passes (has_leaf n.left i) n.left n.right (port_numbers n) _ _ fit.left fit.right
        (outwards-whole passes i n.left (port_numbers n).left (listed n.right (port_numbers n).right) fit.left)
        (outwards-whole passes i n.right (port_numbers n).right (listed n.left (port_numbers n).left) fit.right) h
