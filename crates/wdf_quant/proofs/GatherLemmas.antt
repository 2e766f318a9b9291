-- One more source among those whose ratios are added.
use Rattle.std.proofs.Common.{◌≡◌, ℕ, ◌+◌, List, ◌∷◌, drop, Option, None, Some, Result, Ok, Err, ap, sym, ◌∙◌, subst, arith}
use Rattle.std.specs.Prelude.{slice_get}
use Rattle.std.specs.Option.{option_or}
use Rattle.std.specs.Result.{IsErrAnd}
use Rattle.std.proofs.lemmas.List.{drop_more}
use Rattle.std.proofs.lemmas.Option.{slice_get_within, get_or_from_slice_get}
use Rattle.wdf_law.specs.Trees.{AdaptorTree, leaf, series, parallel}
use Rattle.wdf_law.specs.Network.{Network, unit_of, source_numbers}
use Rattle.wdf_quant.specs.declared.ratio_fault.RatioFault.{RatioFault}
use Rattle.wdf_quant.specs.declared.ratio_fault.RatioFault.TheVariants.{Wide}
use Rattle.wdf_quant.specs.declared.ratio_trees.RatioTrees.{RatioTrees}
use Rattle.wdf_quant.specs.PortBound.{NetworkNumbers, ratios_between, ratios_from, with_ratios, summed, zeros, walk_between, walk_from, first_wide, first_wide_from}
use Rattle.wdf_quant.specs.RatioTrees.{AreAtMost, Gathers}

-- no sum has anything yet
pub zeros-most : (t : AdaptorTree) → AreAtMost 0 (zeros t)
zeros-most (leaf i k flip) = omega arith
zeros-most (series m l r) = (omega arith, zeros-most l, zeros-most r)
zeros-most (parallel m l r) = (omega arith, zeros-most l, zeros-most r)

-- the source at a place is the first of those from there on
drop-source : (xs : List ℕ) (i s : ℕ) → slice_get xs i ≡ Some s → drop i xs ≡ s ∷ drop (i + 1) xs
drop-source xs i s e = drop_more xs i 0 (slice_get_within xs i s e) ∙ ap (λ (x : ℕ). x ∷ drop (i + 1) xs) (get_or_from_slice_get xs i s 0 e)

-- the program's trees are the network's
pub record AreTrees (n : Network) (q m : ℕ) (l r : AdaptorTree) : Type 0 where
  pub unit : q ≡ unit_of n
  pub root : m ≡ n.m
  pub left : l ≡ n.left
  pub right : r ≡ n.right

ratios-same : (n : Network) (q m s : ℕ) (left right : AdaptorTree) → AreTrees n q m left right → ratios_between q m left right s ≡ ratios_from n s
ratios-same n q m s left right same = λ j. ratios_between (same.unit j) (same.root j) (same.left j) (same.right j) s

walk-same : (n : Network) (q m s : ℕ) (left right : AdaptorTree) → AreTrees n q m left right
    → walk_between left right s (ratios_between q m left right s) ≡ walk_from n s (ratios_from n s)
walk-same n q m s left right same = λ j. walk_between (same.left j) (same.right j) s (ratios-same n q m s left right same j)

pub with-next : (n : Network) (q m i s : ℕ) (left right : AdaptorTree) (w r v all : NetworkNumbers) → AreTrees n q m left right
    → slice_get (source_numbers n) i ≡ Some s → r ≡ ratios_between q m left right s → v.left ≡ summed w.left r.left → v.right ≡ summed w.right r.right
    → with_ratios n (drop i (source_numbers n)) w ≡ all → with_ratios n (drop (i + 1) (source_numbers n)) v ≡ all
with-next n q m i s left right w r v all same at ratios sum_left sum_right before =
    let these : r ≡ ratios_from n s = ratios ∙ ratios-same n q m s left right same in
    let next : NetworkNumbers = record { left = summed w.left (ratios_from n s).left; right = summed w.right (ratios_from n s).right } in
    let sums : v ≡ next =
    λ j. record { left = (sum_left ∙ ap (λ (x : NetworkNumbers). summed w.left x.left) these) j; right = (sum_right ∙ ap (λ (x : NetworkNumbers). summed w.right x.right) these) j } in
    ap (with_ratios n (drop (i + 1) (source_numbers n))) sums ∙ sym (ap (λ (is : List ℕ). with_ratios n is w) (drop-source (source_numbers n) i s at)) ∙ before

-- what is wide from a source on
wide-from : (n : Network) (i s : ℕ) → slice_get (source_numbers n) i ≡ Some s
    → first_wide_from n (drop i (source_numbers n)) ≡ option_or (first_wide (walk_from n s (ratios_from n s))) (first_wide_from n (drop (i + 1) (source_numbers n)))
wide-from n i s at = ap (first_wide_from n) (drop-source (source_numbers n) i s at)

pub narrow-next : (n : Network) (q m i s : ℕ) (left right : AdaptorTree) (all : Option (ℕ × ℕ)) → AreTrees n q m left right → slice_get (source_numbers n) i ≡ Some s
    → first_wide (walk_between left right s (ratios_between q m left right s)) ≡ None → first_wide_from n (drop i (source_numbers n)) ≡ all
    → first_wide_from n (drop (i + 1) (source_numbers n)) ≡ all
narrow-next n q m i s left right all same at narrow before =
    let here : first_wide (walk_from n s (ratios_from n s)) ≡ None = sym (ap first_wide (walk-same n q m s left right same)) ∙ narrow in
    sym (wide-from n i s at ∙ ap (λ (o : Option (ℕ × ℕ)). option_or o (first_wide_from n (drop (i + 1) (source_numbers n)))) here) ∙ before

pub wide-here : (n : Network) (q m i s : ℕ) (left right : AdaptorTree) (port : ℕ × ℕ) (all : Option (ℕ × ℕ)) → AreTrees n q m left right → slice_get (source_numbers n) i ≡ Some s
    → first_wide (walk_between left right s (ratios_between q m left right s)) ≡ Some port → first_wide_from n (drop i (source_numbers n)) ≡ all
    → all ≡ Some port
wide-here n q m i s left right port all same at wide before =
    let here : first_wide (walk_from n s (ratios_from n s)) ≡ Some port = sym (ap first_wide (walk-same n q m s left right same)) ∙ wide in
    sym before ∙ wide-from n i s at ∙ ap (λ (o : Option (ℕ × ℕ)). option_or o (first_wide_from n (drop (i + 1) (source_numbers n)))) here

-- the answer where a ratio is too wide
pub gathers-wide : (n : Network) (r : Result RatioTrees RatioFault) (element need : ℕ) → IsErrAnd r (λ (e : RatioFault). e ≡ Wide element need)
    → first_wide_from n (source_numbers n) ≡ Some (element, need) → Gathers n r
gathers-wide n (Ok trees) element need h wide = absurd h
gathers-wide n (Err e) element need h wide = subst (λ (x : RatioFault). Gathers n (Err x)) (sym h) wide
