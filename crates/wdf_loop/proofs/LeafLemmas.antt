-- The element with a number, in two lists of elements.
use Rattle.std.proofs.Common.{◌≡◌, ℕ, Bool, true, false, ◌==◌, if◌then◌else◌, List, [], ◌∷◌, ◌++◌, refl, Some}
use Rattle.std.specs.Option.{option_or}
use Rattle.wdf_law.specs.Trees.{LeafElement}
use Rattle.wdf_loop.specs.Leaves.{found}

pub found_either : (xs ys : List LeafElement) (i : ℕ) → found (xs ++ ys) i ≡ option_or (found xs i) (found ys i)
found_either [] ys i = refl
found_either (x ∷ xs) ys i = by (x.number == i) (found_either xs ys i)
  where
    by : (b : Bool) → found (xs ++ ys) i ≡ option_or (found xs i) (found ys i)
        → (if b then Some (record { kind = x.kind; flip = x.flip }) else found (xs ++ ys) i)
        ≡ option_or (if b then Some (record { kind = x.kind; flip = x.flip }) else found xs i) (found ys i)
    by true rest = refl
    by false rest = rest
