-- Where no bound exceeds the limit and no number is too wide, the plan fits.
use Rattle.std.proofs.Common.{◌≡◌, ℕ, ◌+◌, ◌^◌, ◌<◌, ◌≤◌, max, Bool, true, false, if◌then◌else◌, List, [], ◌∷◌, length, drop, get_or, Option, None, Some, refl, ap, ◌∙◌, subst}
use Rattle.std.specs.Prelude.{All, nat_le}
use Rattle.std.specs.Option.{option_or}
use Rattle.std.proofs.lemmas.Bool.{leb-true}
use Rattle.std.proofs.lemmas.List.{at_drop_more, drop_all}
use Rattle.std.proofs.lemmas.List.Elements.{All-nil, All-cons}
use Rattle.wdf_law.specs.Network.{Network, source_numbers}
use Rattle.wdf_quant.specs.declared.port_ratio.PortRatio.{PortRatio}
use Rattle.wdf_quant.specs.PortBound.{walk, wide_of, first_wide, first_wide_from}
use Rattle.wdf_bounds.specs.Plans.{PlanOf}
use Rattle.wdf_bounds.specs.WordBound.{bound, word_limit, first_over, greatest_of, Fits}

-- the greatest of what is left of a list, one number on
pub greatest_more : (xs : List ℕ) (i : ℕ) → i < length xs → greatest_of (drop i xs) ≡ max (get_or xs i 0) (greatest_of (drop (i + 1) xs))
greatest_more xs i h = at_drop_more greatest_of xs i 0 h

within_first : (plan : PlanOf) (xs : List PortRatio) → first_over plan xs ≡ None → All (λ (x : PortRatio). bound plan x.ratio ≤ word_limit plan) xs
within_first plan [] h = All-nil (λ (x : PortRatio). bound plan x.ratio ≤ word_limit plan)
within_first plan (x ∷ xs) h = by (nat_le (bound plan x.ratio) (word_limit plan)) refl h (within_first plan xs)
  where
    by : (b : Bool) → nat_le (bound plan x.ratio) (word_limit plan) ≡ b → (if b then first_over plan xs else Some (x.elem, bound plan x.ratio)) ≡ None
        → (first_over plan xs ≡ None → All (λ (y : PortRatio). bound plan y.ratio ≤ word_limit plan) xs)
        → All (λ (y : PortRatio). bound plan y.ratio ≤ word_limit plan) (x ∷ xs)
    by true e none rest = All-cons (λ (y : PortRatio). bound plan y.ratio ≤ word_limit plan) x xs (leb-true (bound plan x.ratio) (word_limit plan) e) (rest none)
    by false e none rest = absurd (cc)

narrow_first : (xs : List PortRatio) → first_wide xs ≡ None → All (λ (x : PortRatio). x.ratio ≤ 2 ^ 62) xs
narrow_first [] h = All-nil (λ (x : PortRatio). x.ratio ≤ 2 ^ 62)
narrow_first (x ∷ xs) h = by (nat_le x.ratio (2 ^ 62)) refl h (narrow_first xs)
  where
    by : (b : Bool) → nat_le x.ratio (2 ^ 62) ≡ b → (if b then first_wide xs else Some (x.elem, x.ratio)) ≡ None
        → (first_wide xs ≡ None → All (λ (y : PortRatio). y.ratio ≤ 2 ^ 62) xs) → All (λ (y : PortRatio). y.ratio ≤ 2 ^ 62) (x ∷ xs)
    by true e none rest = All-cons (λ (y : PortRatio). y.ratio ≤ 2 ^ 62) x xs (leb-true x.ratio (2 ^ 62) e) (rest none)
    by false e none rest = absurd (cc)

-- nothing is too wide in either list
second_none : (p q : Option (ℕ × ℕ)) → option_or p q ≡ None → q ≡ None
second_none None q h = h
second_none (Some x) q h = absurd (cc)

pub fits_at_end : (n : Network) (plan : PlanOf) (xs : List PortRatio) (i : ℕ) → xs ≡ walk n → wide_of n ≡ None → plan.k ≡ n.k
    → first_over plan xs ≡ first_over plan (drop i xs) → length xs ≤ i → Fits n plan
fits_at_end n plan xs i whole narrow same within here =
    let none : first_over plan xs ≡ None = within ∙ ap (first_over plan) (drop_all i xs here) in
    record {
      width = same;
      numbers = narrow_first (walk n) (second_none (first_wide_from n (source_numbers n)) (first_wide (walk n)) narrow);
      bounds = subst (All (λ (x : PortRatio). bound plan x.ratio ≤ word_limit plan)) whole (within_first plan xs none);
    }
