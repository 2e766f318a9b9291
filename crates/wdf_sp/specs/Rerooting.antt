-- The two trees at a root, and where the root is put. Everything outside a part of a shape is a network too,
-- between the same nodes as the part: the source's leaf outside the whole shape, and outside a part of a
-- junction what is outside the junction, connected to the junction's other part.
use Rattle.std.specs.Prelude.{ℕ, ◌+◌, ◌==◌, if◌then◌else◌, false, max, nat_le, List, ◌∷◌, unwrap_or}
use Rattle.std.specs.List.{find, list_all, range_with_len}
use Rattle.wdf_law.specs.declared.connection.Connection.{Connection}
use Rattle.wdf_law.specs.declared.connection.Connection.TheVariants.{Series, Parallel}
use Rattle.wdf_law.specs.declared.kind.Kind.TheVariants.{Src}
use Rattle.wdf_law.specs.Outline.{Outline, single, joined, outline_depth, has_number}
use Rattle.wdf_law.specs.Reversal.{reversed}
use Rattle.wdf_netlist.specs.declared.root_choice.RootChoice.{RootChoice}
use Rattle.wdf_netlist.specs.declared.root_choice.RootChoice.TheVariants.{Source, Element, Shallow}
use Rattle.wdf_sp.specs.Structure.{Halves}

-- what is outside the first part of a junction, and outside the second part, where out is outside the junction
abbrev pub outside_first : Connection → Outline → Outline → Outline
outside_first Series out r = joined Series out (reversed r)
outside_first Parallel out r = joined Parallel out r

abbrev pub outside_second : Connection → Outline → Outline → Outline
outside_second Series l out = joined Series (reversed l) out
outside_second Parallel l out = joined Parallel l out

-- the leaf with the number at, and what is outside it, where out is outside the whole
abbrev pub parted : ℕ → Outline → Outline → Halves
parted at (single elem kind flip) out = record { left = single elem kind flip; right = out }
parted at (joined c l r) out = if has_number l at then parted at l (outside_first c out r) else parted at r (outside_second c l out)

abbrev pub source_leaf : ℕ → Outline
source_leaf source = single source Src false

-- the trees rooted at the source, or at a leaf of the shape
abbrev pub rerooted : Outline → ℕ → ℕ → Halves
rerooted t source at = if at == source then record { left = source_leaf source; right = t } else parted at t (source_leaf source)

-- the depth of what is outside the leaf with the number at, where d is the depth of what is outside the whole
abbrev pub outside_depth : ℕ → Outline → ℕ → ℕ
outside_depth at (single _ _ _) d = d
outside_depth at (joined c l r) d = if has_number l at then outside_depth at l (1 + max d (outline_depth r)) else outside_depth at r (1 + max (outline_depth l) d)

-- the greater depth of the two trees
abbrev pub rooted_depth : Outline → ℕ → ℕ → ℕ
rooted_depth t source at = max (outline_depth (rerooted t source at).left) (outline_depth (rerooted t source at).right)

-- the first of the numbers at which d is least
abbrev pub first_least : (ℕ → ℕ) → List ℕ → ℕ
first_least d xs = unwrap_or (find (λ (i : ℕ). list_all (λ (j : ℕ). nat_le (d i) (d j)) xs) xs) 0

-- the shallowest root of a circuit with n elements: the source where it is among the best, else the first in
-- netlist order
abbrev pub shallowest : Outline → ℕ → ℕ → ℕ
shallowest t source n = first_least (rooted_depth t source) (source ∷ range_with_len 0 n)

-- the element at the root of a circuit with n elements
abbrev pub root_of : RootChoice → ℕ → ℕ → Outline → ℕ
root_of Source source n t = source
root_of (Element i) source n t = i
root_of Shallow source n t = shallowest t source n
