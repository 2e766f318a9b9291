use Rattle.std.proofs.Common.{◌≡◌, ◌≤◌, ◌++◌, length}
use Rattle.std.specs.Prelude.{filter}
use Rattle.std.specs.List.{range_with_len}
use Rattle.wdf_law.specs.Trees.{adaptor_tree, elements_of}
use Rattle.wdf_law.specs.Network.{has_source}
use Rattle.wdf_law.proofs.elements.source_behind.Given as goal

-- the sources below i are counted, and there are not too many yet
abbrev pub invariant-loop-i : goal.invariant-loop-i
invariant-loop-i l = record {
  counted : l.before ≡ length (filter (has_source (elements_of (adaptor_tree l.left) ++ elements_of (adaptor_tree l.right))) (range_with_len 0 l.i));
  few : l.before ≤ l.skip;
}
