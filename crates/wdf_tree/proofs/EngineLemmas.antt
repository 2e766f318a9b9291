-- The engine's values: what its lists hold, its next frame, and its beginning.
use Rattle.std.proofs.Common.{◌≡◌, ℕ, zero, suc, ◌+◌, ◌<◌, ◌≤◌, Bool, List, [], ◌∷◌, length, map, take, refl, ap, sym, ◌∙◌, subst, arith}
use Rattle.std.specs.Prelude.{ℤ, pos, All, IsTrue, replicate}
use Rattle.std.proofs.lemmas.List.{get_or-take, take-replicate}
use Rattle.std.proofs.lemmas.List.Elements.{All-head}
use Rattle.wdf_law.specs.declared.outlet.Outlet.{Outlet}
use Rattle.wdf_law.specs.declared.outlet.Outlet.TheVariants.{Load, Source}
use Rattle.wdf_law.specs.Network.{Network, IsNetwork, elements, has_reactance, has_source, is_resistor, has_outlet, reactances, source_numbers}
use Rattle.wdf_law.specs.TreeRules.{HasNumbers}
use Rattle.wdf_law.specs.Elements.{signed}
use Rattle.wdf_law.specs.Step.{IsStep, sent_in}
use Rattle.wdf_law.specs.Run.{states, at_rest}
use Rattle.wdf_law.specs.OutputRule.{drive, outlet_element, outlet_among, is_flipped}
use Rattle.wdf_bounds.specs.Plans.{PlanOf}
use Rattle.wdf_tree.specs.Passes.{IsPass}
use Rattle.wdf_tree.specs.Places.{at_place, gathered}
use Rattle.wdf_tree.specs.Engines.{IsNext}
use Rattle.wdf_tree.proofs.PassLemmas.{passing_below, map_same}
use Rattle.wdf_tree.proofs.PassParts.{kind_element}

-- the reactances are below the count of the elements
pub reactances_below : (n : Network) → All (λ (i : ℕ). i < length (elements n)) (reactances n)
reactances_below n = passing_below (has_reactance (elements n)) 0 (length (elements n)) (length (elements n)) (omega arith)

-- so a list by element may be cut behind the elements
pub gathered-take : (n : Network) (xs : List ℤ) → gathered n (take (length (elements n)) xs) ≡ gathered n xs
gathered-take n xs =
    map_same (at_place (take (length (elements n)) xs)) (at_place xs) (length (elements n)) (reactances n) (reactances_below n)
    (λ i h. get_or-take (length (elements n)) xs i (pos 0) h)

-- the outlet is an element
outlet_below : (n : Network) (o : Outlet) → HasNumbers n → IsTrue (has_outlet (elements n) o) → 1 ≤ length (source_numbers n) → outlet_among o (source_numbers n) < length (elements n)
outlet_below n (Load i) numbers stands some = numbers.below i (kind_element is_resistor (elements n) i stands)
outlet_below n Source numbers stands some = first (source_numbers n) some (passing_below (has_source (elements n)) 0 (length (elements n)) (length (elements n)) (omega arith))
  where
    first : (ks : List ℕ) → 1 ≤ length ks → All (λ (i : ℕ). i < length (elements n)) ks → outlet_among Source ks < length (elements n)
    first [] some below = absurd (omega arith)
    first (k ∷ ks) some below = All-head (λ (i : ℕ). i < length (elements n)) k ks below

pub outlet_stands : (n : Network) → IsNetwork n → HasNumbers n → outlet_element n < length (elements n)
outlet_stands n rules numbers = outlet_below n n.outlet numbers rules.outlet rules.some_source

-- the engine after one frame more
pub next_of : (n : Network) (plan : PlanOf) (done done' outlet : ℕ) (flip : Bool) (samples before behind : List ℤ) (w : ℤ) → IsPass n plan done samples before behind
    → outlet ≡ outlet_element n → flip ≡ is_flipped (elements n) (outlet_element n) → outlet < length (elements n) → w ≡ signed flip (at_place behind outlet) → done' ≡ done + 1
    → IsNext (record { net = n; plan = plan; done = done; downs = take (length (elements n)) before }) samples w (record { net = n; plan = plan; done = done'; downs = take (length (elements n)) behind })
next_of n plan done done' outlet flip samples before behind w pass number turned small value counted = record {
  frame = pass.frame;
  step = subst (λ (zs : List ℤ). IsStep n (states n zs) (drive plan.guard n samples) pass.frame) (sym (gathered-take n before)) pass.step;
  wave = value ∙ ((λ i. signed (turned i) (pass.downs outlet small i)) ∙ ap (λ (o : ℕ). signed (is_flipped (elements n) (outlet_element n)) (sent_in n pass.frame o)) number);
  state = gathered-take n behind ∙ map_same (at_place behind) (sent_in n pass.frame) (length (elements n)) (reactances n) (reactances_below n) pass.downs;
  downs = λ i h. get_or-take (length (elements n)) behind i (pos 0) h ∙ pass.downs i h;
  net = refl;
  plan = refl;
  done = counted;
}

-- ---- the beginning

-- a list of zeros has zero everywhere
zeros_at : (m i : ℕ) → at_place (replicate m (pos 0)) i ≡ pos 0
zeros_at zero i = refl
zeros_at (suc m) zero = refl
zeros_at (suc m) (suc i) = zeros_at m i

pub gathered-zeros : (n : Network) (m : ℕ) → gathered n (replicate m (pos 0)) ≡ at_rest n
gathered-zeros n m = all (reactances n)
  where
    all : (ks : List ℕ) → map (at_place (replicate m (pos 0))) ks ≡ map (λ (i : ℕ). pos 0) ks
    all [] = refl
    all (k ∷ ks) = λ j. zeros_at m k j ∷ all ks j

-- zeros for each of a list of numbers
pub zeros_each : (ks : List ℕ) (m : ℕ) → length ks ≤ m → take (length ks) (replicate m (pos 0)) ≡ map (λ (i : ℕ). pos 0) ks
zeros_each ks m h = take-replicate (length ks) m (pos 0) h ∙ all ks
  where
    all : (ks : List ℕ) → replicate (length ks) (pos 0) ≡ map (λ (i : ℕ). pos 0) ks
    all [] = refl
    all (k ∷ ks) = ap (λ (zs : List ℤ). pos 0 ∷ zs) (all ks)
