use Rattle.std.proofs.Common.{◌≡◌, ap, sym, ◌∙◌, subst, refl, drop}
use Rattle.std.specs.Prelude.{slice_get, Some}
use Rattle.wdf_law.specs.Network.{source_numbers}
use Rattle.wdf_quant.specs.PortBound.{NetworkNumbers, with_ratios}
use Rattle.wdf_quant.specs.RatioTrees.{AreAtMost, tree_of, ratios_of, sums_of}
use Rattle.wdf_quant.proofs.GatherLemmas.{zeros-most, AreTrees, with-next, narrow-next, wide-here, gathers-wide}
use Rattle.wdf_quant.proofs.ratios.gathered.Goals as goal

pub sources-init : goal.sources-init
sources-init c =
    let made = c.in_ok-trees.ensures in
    record {
      left = made.left;
      right = made.right;
      sums = ap (with_ratios c.args.net.now (source_numbers c.args.net.now)) made.sums;
      left_most = subst (AreAtMost 0) (sym (ap (λ (w : NetworkNumbers). w.left) made.sums)) (zeros-most c.args.net.now.left);
      right_most = subst (AreAtMost 0) (sym (ap (λ (w : NetworkNumbers). w.right) made.sums)) (zeros-most c.args.net.now.right);
      narrow = refl;
    }

pub returns-in_err-fill-clause-answer : goal.returns-in_err-fill-clause-answer
returns-in_err-fill-clause-answer c =
    let same : AreTrees c.args.net.now c.unit_of-unit.result c.root_m-m.result (tree_of c.sources.trees.left) (tree_of c.sources.trees.right) =
    record { unit = c.unit_of-unit.ensures; root = c.root_m-m.ensures.value; left = c.sources.invariant.left; right = c.sources.invariant.right } in
    let at : slice_get (source_numbers c.args.net.now) c.sources.i ≡ Some c.in-Some.source = sym c.in-Some.ensures.number in
    gathers-wide c.args.net.now c.from_residual-in_err-fill.result c.in_err-fill.field-0.0.element c.in_err-fill.field-0.0.need c.from_residual-in_err-fill.ensures.1
    (wide-here c.args.net.now c.unit_of-unit.result c.root_m-m.result c.sources.i c.in-Some.source (tree_of c.sources.trees.left) (tree_of c.sources.trees.right)
    _ _ same at c.in_err-fill.ensures.filled c.sources.invariant.narrow)

pub sources-preserved : goal.sources-preserved
sources-preserved c =
    let filled = c.in_ok-fill.ensures in
    let gathered = c.gather.ensures in
    let same : AreTrees c.args.net.now c.unit_of-unit.result c.root_m-m.result (tree_of c.sources.trees.left) (tree_of c.sources.trees.right) =
    record { unit = c.unit_of-unit.ensures; root = c.root_m-m.ensures.value; left = c.sources.invariant.left; right = c.sources.invariant.right } in
    let at : slice_get (source_numbers c.args.net.now) c.sources.i ≡ Some c.in-Some.source = sym c.in-Some.ensures.number in
    let w = sums_of c.sources.trees in
    let v = sums_of c.gather.new.self in
    record {
      left = gathered.left ∙ filled.left ∙ c.sources.invariant.left;
      right = gathered.right ∙ filled.right ∙ c.sources.invariant.right;
      sums = with-next c.args.net.now c.unit_of-unit.result c.root_m-m.result c.sources.i c.in-Some.source (tree_of c.sources.trees.left) (tree_of c.sources.trees.right)
          (sums_of c.fill.new.self) (ratios_of c.fill.new.self) v _ same at filled.filled.0 gathered.left_sums gathered.right_sums
          (ap (with_ratios c.args.net.now (drop c.sources.i (source_numbers c.args.net.now))) filled.sums ∙ c.sources.invariant.sums);
      left_most = gathered.left_most;
      right_most = gathered.right_most;
      narrow = narrow-next c.args.net.now c.unit_of-unit.result c.root_m-m.result c.sources.i c.in-Some.source (tree_of c.sources.trees.left) (tree_of c.sources.trees.right)
          _ same at filled.filled.1 c.sources.invariant.narrow;
    }
