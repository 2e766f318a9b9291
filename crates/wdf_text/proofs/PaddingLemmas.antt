-- A name and the zeros behind it fill the 16 bytes.
use Rattle.std.proofs.Common.{◌≡◌, ℕ, ◌-◌, ◌≤◌, true, nat_le, List, ◌++◌, length, drop, replicate, sym, ap, ◌∙◌, subst, arith, length-append}
use Rattle.std.specs.Prelude.{IsTrue}
use Rattle.std.specs.List.{list_all}
use Rattle.std.specs.Str.{bytes_eq}
use Rattle.std.proofs.lemmas.List.{drop-replicate, length-replicate}
use Rattle.std.proofs.lemmas.Bool.{and_from, or_left, le-leb}
use Rattle.std.proofs.Math.Seq.{take-append_seam}
use Rattle.wdf_text.specs.Names.{at_sign, is_name_byte, is_name_or_at_sign}
use Rattle.wdf_text.specs.Padding.{IsPaddedName, padded}

pub padded_name : (bytes : List ℕ) → 1 ≤ length bytes → length bytes ≤ 16 → list_all is_name_byte bytes ≡ true
    → IsPaddedName (bytes ++ drop (length bytes) (replicate 16 0)) (length bytes)
padded_name bytes some few letters =
    let zeros : drop (length bytes) (replicate 16 0) ≡ replicate (16 - length bytes) 0 = drop-replicate (length bytes) 16 0 in
    let front = take-append_seam bytes (drop (length bytes) (replicate 16 0)) in
    let P : List ℕ → Type 0 = λ b. IsTrue (is_name_or_at_sign b) in
    record {
      some = some;
      padded = record {
        fits = few;
        rest = ap padded front ∙ ap (λ z. bytes ++ z) (sym zeros);
        long = omega (arith, length-append bytes (drop (length bytes) (replicate 16 0)), ap (length {A = ℕ}) zeros, length-replicate {A = ℕ} (16 - length bytes) 0);
      };
      letters = subst P (sym front) (or_left _ (bytes_eq bytes at_sign) (and_from _ _ (and_from (nat_le 1 (length bytes)) (nat_le (length bytes) 16) (le-leb _ _ some) (le-leb _ _ few)) letters));
    }
