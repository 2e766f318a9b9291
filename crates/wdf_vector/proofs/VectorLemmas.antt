-- The quotients in each lane.
use Rattle.std.proofs.Common.{◌≡◌, ℕ, ◌<◌, List, length, map, replicate, to_z, of_z, w64}
use lib.IntN.{ℤ}
use lib.Lanes.{zip2}
use mir.Syntax.{Op2, shr, signed, wrap_add, wrap_sub}
use mir.Syntax.{bit_and as and_bits}
use borrow.Rule.Simd.Lanes.{act2}
use borrow.Table.Row.{s_int}
use Rattle.wdf_vector.specs.Lanes.{lane}
use Rattle.wdf_vector.proofs.LaneLemmas.{bits, both, numbers, splat}
use Rattle.wdf_vector.proofs.PartLemmas.{part_lane}

-- an operation in a lane, and in each
abbrev by : Op2 → ℕ → ℕ → ℕ
by o x y = act2 o (s_int w64) (s_int w64) (s_int w64) x y

abbrev by_lanes : Op2 → List ℕ → List ℕ → List ℕ
by_lanes o xs ys = zip2 (by o) xs ys

abbrev floors_of : (n k : ℕ) → List ℤ → List ℤ → List ℕ
floors_of n k ws zs = by_lanes wrap_add (map (of_z w64) ws) (by_lanes (shr signed) (map (of_z w64) zs) (replicate n k))

abbrev owed_of : (n m : ℕ) → List ℤ → List ℕ
owed_of n m zs = by_lanes wrap_sub (replicate n 0) (by_lanes and_bits (map (of_z w64) zs) (replicate n m))

abbrev pub parts_of : (n m k : ℕ) → List ℤ → List ℤ → List ℤ
parts_of n m k ws zs = map (to_z w64) (by_lanes wrap_sub (floors_of n k ws zs) (by_lanes (shr signed) (by_lanes and_bits (floors_of n k ws zs) (owed_of n m zs)) (replicate n 63)))

pub parts_of-lane : (n m k : ℕ) (ws zs : List ℤ) (i : ℕ) → length ws ≡ n → length zs ≡ n → i < n → lane (parts_of n m k ws zs) i ≡ part_lane m k (lane ws i) (lane zs i)
parts_of-lane n m k ws zs i hw hz less =
    let floors = both n (by wrap_add) (bits n ws hw) (both n (by (shr signed)) (bits n zs hz) (splat n k)) in
    let owed = both n (by wrap_sub) (splat n 0) (both n (by and_bits) (bits n zs hz) (splat n m)) in
    numbers n (both n (by wrap_sub) floors (both n (by (shr signed)) (both n (by and_bits) floors owed) (splat n 63))) i less
