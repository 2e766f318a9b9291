-- How many frames are whole.
use Rattle.std.proofs.Common.{ℕ, ◌+◌, ◌*◌, ◌/◌, ◌<◌, ◌≤◌, arith}
use Rattle.std.proofs.Math.Nat.{div-mul-le_self, lt-div-mul-add}

-- the whole frames among the bytes that were read
pub whole_frames : (count align : ℕ) → count / align * align ≤ count
whole_frames count align = div-mul-le_self count align

-- what is left of them is no whole frame
pub part_of_frame : (count align : ℕ) → 0 < align → count < (count / align + 1) * align
part_of_frame count align some = omega (arith, lt-div-mul-add {a = count} some)
