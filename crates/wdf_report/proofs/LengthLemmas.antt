-- How long the pieces of a line are.
use Rattle.std.proofs.Common.{◌≡◌, refl, sym, ap, ◌∙◌, subst, arith, to_z, of_z, ◌⊎◌, inl, inr}
use Rattle.std.specs.Prelude.{ℕ, ℤ, pos, negsuc, suc, ◌^◌, ◌<◌, ◌≤◌, Bool, true, false, ◌&&◌, ◌||◌, nat_le, List, length, decimal, IsTrue}
use mir.Syntax.{w128}
use Rattle.std.specs.Int.{w64}
use Rattle.std.specs.Int.RustNames.{FitsSigned}
use Rattle.std.specs.Fmt.{signed_decimal}
use Rattle.std.specs.List.{list_all}
use Rattle.std.specs.Str.{bytes_eq}
use Rattle.std.proofs.lemmas.Bool.{and_parts, leb-true}
use Rattle.std.proofs.lemmas.Fmt.{length-decimal-le, length-decimal-le_wide}
use Rattle.std.proofs.lemmas.Int.{to_z-of_z}
use Rattle.std.proofs.lemmas.Slice.Eq.{bytes_eq-Decides}
use Rattle.wdf_text.specs.Names.{is_name, is_name_byte, is_name_or_at_sign, at_sign}

pub number_short : (n : ℕ) → n < 2 ^ 64 → length (decimal n) ≤ 20
number_short n h = length-decimal-le 20 n (omega arith) (omega arith) h

pub wide_short : (n : ℕ) → n < 2 ^ 128 → length (decimal n) ≤ 39
wide_short n h = length-decimal-le_wide 39 n (omega arith) (omega arith) (omega arith)

pub signed_short : (z : ℤ) → FitsSigned w64 z → length (signed_decimal z) ≤ 20
signed_short (pos n) h = number_short n (omega (arith, h.sfits))
signed_short (negsuc n) h = omega (arith, length-decimal-le 19 (suc n) (omega arith) (omega (arith, h.sfits)) (omega (arith, h.sfits)))

-- as a number of 128 bits
pub widened : (z : ℤ) → FitsSigned w64 z → to_z w128 (of_z w128 z) ≡ z
widened z h = to_z-of_z w128 z (record { sfits = omega (arith, h.sfits) })

pub widened_short : (z wide : ℤ) → FitsSigned w64 z → wide ≡ z → length (signed_decimal (to_z w128 (of_z w128 wide))) ≤ 20
widened_short z wide h same =
    let whole : to_z w128 (of_z w128 wide) ≡ z = ap (λ (x : ℤ). to_z w128 (of_z w128 x)) same ∙ widened z h in
    subst (λ (x : ℤ). length (signed_decimal x) ≤ 20) (sym whole) (signed_short z h)

is_or : (x y : Bool) → (x || y) ≡ true → (x ≡ true) ⊎ (y ≡ true)
is_or true y e = inl refl
is_or false y e = inr e

-- a name has at most 16 bytes
pub name_short : (bytes : List ℕ) → IsTrue (is_name_or_at_sign bytes) → length bytes ≤ 16
name_short bytes told = by (is_or (is_name bytes) (bytes_eq bytes at_sign) told)
  where
    by : ((is_name bytes ≡ true) ⊎ (bytes_eq bytes at_sign ≡ true)) → length bytes ≤ 16
    by (inl letters) =
        let parts = and_parts (nat_le 1 (length bytes) && nat_le (length bytes) 16) (list_all is_name_byte bytes) letters in
        let lengths = and_parts (nat_le 1 (length bytes)) (nat_le (length bytes) 16) parts.0 in
        leb-true (length bytes) 16 lengths.1
    by (inr one) = omega (arith, ap length ((bytes_eq-Decides bytes at_sign).0 one))
