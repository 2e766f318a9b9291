-- The first port that is too wide, in lists that are put together.
use Rattle.std.proofs.Common.{◌≡◌, ℕ, ◌≤◌, ◌<◌, ◌^◌, Bool, true, false, if◌then◌else◌, List, [], ◌∷◌, ◌++◌, Option, None, Some, refl, ap, sym, ◌∙◌, arith, append_assoc}
use Rattle.std.specs.Prelude.{nat_le}
use Rattle.std.specs.Option.{option_or}
use Rattle.std.proofs.lemmas.Bool.Decides.{nat_tests}
use Rattle.wdf_quant.specs.declared.port_ratio.PortRatio.{PortRatio}
use Rattle.wdf_quant.specs.PortBound.{first_wide}

pub first_wide_append : (xs ys : List PortRatio) → first_wide (xs ++ ys) ≡ option_or (first_wide xs) (first_wide ys)
first_wide_append [] ys = refl
first_wide_append (x ∷ xs) ys = by (nat_le x.ratio (2 ^ 62)) (first_wide_append xs ys)
  where
    by : (b : Bool) → first_wide (xs ++ ys) ≡ option_or (first_wide xs) (first_wide ys)
        → (if b then first_wide (xs ++ ys) else Some (x.elem, x.ratio)) ≡ option_or (if b then first_wide xs else Some (x.elem, x.ratio)) (first_wide ys)
    by true rest = rest
    by false rest = refl

pub ruleset listings = (first_wide_append, append_assoc, nat_tests)
