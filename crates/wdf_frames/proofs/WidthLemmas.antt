-- The width of a sample, told and tested.
use Rattle.std.proofs.Common.{ℕ, ◌/◌, ◌<◌, arith}
use Rattle.std.specs.Prelude.{IsTrue}
use Rattle.std.proofs.lemmas.Bool.Decides.{nat_tests}
use Rattle.wdf_algebra.specs.Samples.{IsSampleWidth}
use Rattle.wdf_bounds.specs.Plans.{is_sample_width}

pub width_told : (bits : ℕ) → IsTrue (is_sample_width bits) → IsSampleWidth bits
width_told bits h = grind (arith, nat_tests)

pub width_tested : (bits : ℕ) → IsSampleWidth bits → IsTrue (is_sample_width bits)
width_tested bits h = grind (arith, nat_tests)

-- a sample has at least one byte
pub some_byte : (bits : ℕ) → IsSampleWidth bits → 0 < bits / 8
some_byte bits h = grind arith
