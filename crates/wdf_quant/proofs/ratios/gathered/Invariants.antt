use Rattle.std.proofs.Common.{◌≡◌, ◌*◌, ◌^◌, drop}
use Rattle.wdf_law.specs.Network.{source_numbers}
use Rattle.wdf_quant.specs.PortBound.{with_ratios, port_numbers, first_wide_from}
use Rattle.wdf_quant.specs.RatioTrees.{tree_of, sums_in, sums_of, AreAtMost}
use Rattle.wdf_quant.proofs.ratios.gathered.Given as goal

abbrev pub invariant-sources : goal.invariant-sources
invariant-sources l = record {
  left : tree_of l.trees.left ≡ l.net.left;
  right : tree_of l.trees.right ≡ l.net.right;
  sums : with_ratios l.net (drop l.i (source_numbers l.net)) (sums_of l.trees) ≡ port_numbers l.net;
  left_most : AreAtMost (l.i * 2 ^ 64) (sums_in l.trees.left);
  right_most : AreAtMost (l.i * 2 ^ 64) (sums_in l.trees.right);
  narrow : first_wide_from l.net (drop l.i (source_numbers l.net)) ≡ first_wide_from l.net (source_numbers l.net);
}
