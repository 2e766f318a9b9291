-- The walk of the first source is the walk of the network, and what is too wide in it is what the network answers.
use Rattle.std.proofs.Common.{◌≡◌, ℕ, List, [], ◌∷◌, Option, None, Some, Result, Ok, Err, ap, sym, ◌∙◌, subst}
use Rattle.std.specs.Prelude.{slice_get}
use Rattle.std.specs.Option.{option_or}
use Rattle.std.specs.Result.{IsErrAnd}
use Rattle.wdf_law.specs.Trees.{AdaptorTree}
use Rattle.wdf_law.specs.Network.{Network, source_numbers}
use Rattle.wdf_quant.specs.declared.port_ratio.PortRatio.{PortRatio}
use Rattle.wdf_quant.specs.declared.ratio_fault.RatioFault.{RatioFault}
use Rattle.wdf_quant.specs.declared.ratio_fault.RatioFault.TheVariants.{Wide, NoMemory}
use Rattle.wdf_quant.specs.PortBound.{NetworkNumbers, port_numbers, walk_between, walk_from, walk_by, walk, first_wide, first_wide_from, Encloses}
use Rattle.wdf_quant.specs.RatioTrees.{IsListOf}

walk_by-first : (n : Network) (is : List ℕ) (s : ℕ) (w : NetworkNumbers) → slice_get is 0 ≡ Some s → walk_by n is w ≡ walk_from n s w
walk_by-first n [] s w e = absurd (cc)
walk_by-first n (i ∷ is) s w e = let same : i ≡ s = cc in ap (λ (k : ℕ). walk_from n k w) same

pub walk-first : (n : Network) (s : ℕ) → slice_get (source_numbers n) 0 ≡ Some s → walk_from n s (port_numbers n) ≡ walk n
walk-first n s e = sym (walk_by-first n (source_numbers n) s (port_numbers n) e)

-- the program's trees are the network's, with its numbers
pub walk-between : (n : Network) (s : ℕ) (l r : AdaptorTree) (w : NetworkNumbers) → slice_get (source_numbers n) 0 ≡ Some s
    → l ≡ n.left → r ≡ n.right → w ≡ port_numbers n → walk_between l r s w ≡ walk n
walk-between n s l r w e left right numbers = (λ j. walk_between (left j) (right j) s (numbers j)) ∙ walk-first n s e

pub encloses-err : (n : Network) (r : Result (List PortRatio) RatioFault) (fault : RatioFault) → IsErrAnd r (λ (e : RatioFault). e ≡ fault)
    → first_wide_from n (source_numbers n) ≡ None → IsListOf (walk n) (Err fault) → Encloses n r
encloses-err n (Ok ratios) fault h narrow list = absurd h
encloses-err n (Err e) fault h narrow list = subst (λ (x : RatioFault). Encloses n (Err x)) (sym h) (answer fault list)
  where
    answer : (x : RatioFault) → IsListOf (walk n) (Err x) → Encloses n (Err x)
    answer (Wide element need) wide = ap (λ (o : Option (ℕ × ℕ)). option_or o (first_wide (walk n))) narrow ∙ wide
    answer NoMemory wide = tt
