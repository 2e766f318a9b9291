-- From samples to waves and back. The sample s of a source enters as e = s·2^guard. The load wave w is the down
-- wave at the outlet, negated where its leaf is flipped; the output is w / 2^down_shift, truncated towards zero
-- and limited to the range of bits bits.
use Rattle.std.specs.Prelude.{ℕ, ◌^◌, ◌-◌, ℤ, pos, neg_ℤ, ◌-ℤ◌, ◌*ℤ◌, Bool, ◌&&◌, ◌==◌, List, [], ◌∷◌, map}
use Rattle.std.specs.Int.{int_max, int_min}
use Rattle.std.specs.List.{list_any}
use Rattle.wdf_algebra.specs.Truncation.{trunc}
use Rattle.wdf_law.specs.declared.outlet.Outlet.{Outlet}
use Rattle.wdf_law.specs.declared.outlet.Outlet.TheVariants.{Load, Source}
use Rattle.wdf_law.specs.Trees.{LeafElement}
use Rattle.wdf_law.specs.Network.{Network, elements, source_numbers}
use Rattle.wdf_law.specs.Step.{Frame, sent_in}
use Rattle.wdf_law.specs.Run.{source_values}
use Rattle.wdf_law.specs.Elements.{signed}

-- a sample's value as a source has it
abbrev pub scaled_up : ℕ → ℤ → ℤ
scaled_up guard sample = sample *ℤ pos (2 ^ guard)

-- the input of a frame from its samples, one for each source
abbrev pub drive : ℕ → Network → List ℤ → ℕ → ℤ
drive guard n samples = source_values n (map (scaled_up guard) samples)

-- the outlet Source is source 0, the first by its number
abbrev pub outlet_among : Outlet → List ℕ → ℕ
outlet_among (Load i) sources = i
outlet_among Source [] = 0
outlet_among Source (i ∷ sources) = i

-- the number of the element that the outlet names
abbrev pub outlet_element : Network → ℕ
outlet_element n = outlet_among n.outlet (source_numbers n)

-- the leaf with this number is flipped
abbrev pub is_flipped : List LeafElement → ℕ → Bool
is_flipped xs i = list_any (λ (x : LeafElement). (x.number == i) && x.flip) xs

-- w
abbrev pub load_wave : Network → Frame → ℤ
load_wave n s = signed (is_flipped (elements n) (outlet_element n)) (sent_in n s (outlet_element n))

-- the nearest value that bits bits hold
abbrev pub limited : ℕ → ℤ → ℤ
limited bits z = int_max (neg_ℤ (pos (2 ^ (bits - 1)))) (int_min (pos (2 ^ (bits - 1)) -ℤ pos 1) z)

abbrev pub output_of : ℕ → ℕ → ℤ → ℤ
output_of down_shift bits w = limited bits (trunc w (2 ^ down_shift))
