use Rattle.std.proofs.Common.{◌≡◌, ◌≤◌, ◌++◌, length}
use Rattle.std.specs.Prelude.{filter}
use Rattle.std.specs.List.{range_with_len}
use Rattle.wdf_law.specs.Trees.{adaptor_tree, elements_of}
use Rattle.wdf_law.specs.Network.{has_kind}
use Rattle.wdf_law.specs.Roles.{is_of}
use Rattle.wdf_law.proofs.elements.count.Given as goal

-- those below i are counted
abbrev pub invariant-loop-i : goal.invariant-loop-i
invariant-loop-i l = record {
  counted : l.count ≡ length (filter (has_kind (is_of l.role) (elements_of (adaptor_tree l.left) ++ elements_of (adaptor_tree l.right))) (range_with_len 0 l.i));
  few : l.count ≤ l.i;
}
