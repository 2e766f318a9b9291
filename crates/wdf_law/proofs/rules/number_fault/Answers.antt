-- What the walks with marks find is the first rule of the numbers that is broken.
use Rattle.std.proofs.Common.{◌++◌, sym, ◌∙◌, ap, ℕ, arith}
use Rattle.std.specs.Option.{option_map}
use Rattle.wdf_law.specs.declared.net_error.NetError.TheVariants.{MissingElement}
use Rattle.wdf_law.specs.Trees.{adaptor_tree}
use Rattle.wdf_law.specs.Network.{numbers_of}
use Rattle.wdf_law.proofs.NumberFaults.{number_fault-double, number_fault-unmarked, counted_leaves}
use Rattle.wdf_law.proofs.rules.number_fault.Goals as goal

pub returns-in-Some-double : goal.returns-in-Some-double
returns-in-Some-double c =
    let xs = numbers_of (adaptor_tree c.args.left.now) ++ numbers_of (adaptor_tree c.args.right.now) in
    record { fault = sym (number_fault-double xs c.in-Some-double.elem (sym c.large.ensures ∙ c.in_default.is) (sym c.double.ensures.first ∙ c.in-Some-double.is)); few = tt }

pub leaves-requires : goal.leaves-requires
leaves-requires c =
    counted_leaves (adaptor_tree c.args.left.now) (adaptor_tree c.args.right.now) (sym c.large.ensures ∙ c.in_default.is) (sym c.double.ensures.first ∙ c.in_default-double.is)

pub missing-requires : goal.missing-requires
missing-requires c =
    let all = counted_leaves (adaptor_tree c.args.left.now) (adaptor_tree c.args.right.now) (sym c.large.ensures ∙ c.in_default.is) (sym c.double.ensures.first ∙ c.in_default-double.is) in
    omega (arith, c.leaves.ensures)

pub returns-in-Some-missing : goal.returns-in-Some-missing
returns-in-Some-missing c =
    let missing = number_fault-unmarked (adaptor_tree c.args.left.now) (adaptor_tree c.args.right.now) c.leaves.result c.double.new.marks c.missing.result c.leaves.ensures
    (sym c.large.ensures ∙ c.in_default.is) (sym c.double.ensures.first ∙ c.in_default-double.is) (rw c.in_default-double.is at c.double.ensures.marks) c.missing.ensures in
    record { fault = sym (missing ∙ ap (option_map (λ (e : ℕ). MissingElement e)) c.in-Some-missing.is); few = tt }

pub returns-in-None : goal.returns-in-None
returns-in-None c =
    let missing = number_fault-unmarked (adaptor_tree c.args.left.now) (adaptor_tree c.args.right.now) c.leaves.result c.double.new.marks c.missing.result c.leaves.ensures
    (sym c.large.ensures ∙ c.in_default.is) (sym c.double.ensures.first ∙ c.in_default-double.is) (rw c.in_default-double.is at c.double.ensures.marks) c.missing.ensures in
    record {
      fault = sym (missing ∙ ap (option_map (λ (e : ℕ). MissingElement e)) c.in-None.is);
      few = counted_leaves (adaptor_tree c.args.left.now) (adaptor_tree c.args.right.now) (sym c.large.ensures ∙ c.in_default.is) (sym c.double.ensures.first ∙ c.in_default-double.is);
    }
