-- The element with a number: its kind, the sign with which it reflects its last down wave, and whether its leaf is flipped.
use Rattle.std.specs.Prelude.{ℕ, ℤ, pos, negsuc, Bool, false, ◌==◌, if◌then◌else◌, List, [], ◌∷◌, Option, None, Some}
use Rattle.wdf_law.specs.declared.kind.Kind.{Kind}
use Rattle.wdf_law.specs.declared.kind.Kind.TheVariants.{Res, Cap, Ind, Src}
use Rattle.wdf_law.specs.Trees.{LeafElement}
use Rattle.wdf_law.specs.Network.{Network, elements}
use Rattle.wdf_loop.specs.declared.leaf.Leaf.{Leaf}

-- the first element with the number
abbrev pub found : List LeafElement → ℕ → Option Leaf
found [] i = None
found (x ∷ xs) i = if x.number == i then Some (record { kind = x.kind; flip = x.flip }) else found xs i

-- a capacitor reflects its last down wave, an inductor that wave negated, and the others none of it
abbrev pub sign_of : Kind → ℤ
sign_of Cap = pos 1
sign_of Ind = negsuc 0
sign_of Res = pos 0
sign_of Src = pos 0

abbrev pub sign_if : Option Leaf → ℤ
sign_if None = pos 0
sign_if (Some leaf) = sign_of leaf.kind

abbrev pub flip_if : Option Leaf → Bool
flip_if None = false
flip_if (Some leaf) = leaf.flip

abbrev pub sign_in : Network → ℕ → ℤ
sign_in n i = sign_if (found (elements n) i)

abbrev pub flip_in : Network → ℕ → Bool
flip_in n i = flip_if (found (elements n) i)
