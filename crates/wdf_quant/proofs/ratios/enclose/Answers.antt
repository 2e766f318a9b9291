use Rattle.std.proofs.Common.{◌≡◌, sym, ◌∙◌, subst, Err, List}
use Rattle.std.specs.Prelude.{slice_get, Some}
use Rattle.wdf_law.specs.Network.{source_numbers}
use Rattle.wdf_quant.specs.declared.port_ratio.PortRatio.{PortRatio}
use Rattle.wdf_quant.specs.PortBound.{HasLeafNumbers}
use Rattle.wdf_quant.specs.RatioTrees.{tree_of, sums_of, IsListOf}
use Rattle.wdf_quant.proofs.EncloseLemmas.{walk-first, walk-between, encloses-err}
use Rattle.wdf_quant.proofs.LeafLemmas.{walk-leaf}
use Rattle.wdf_quant.proofs.ratios.enclose.Goals as goal

pub returns-in_err-list-clause-answer : goal.returns-in_err-list-clause-answer
returns-in_err-list-clause-answer c =
    let n = c.args.net.now in
    let trees = c.in_ok-trees.trees in
    let made = c.in_ok-trees.ensures in
    let first : slice_get (source_numbers n) 0 ≡ Some c.in-Some.first = sym c.in-Some.ensures.number in
    let same = walk-between n c.in-Some.first (tree_of trees.left) (tree_of trees.right) (sums_of trees) first made.left made.right made.answer.0 in
    encloses-err n c.from_residual-in_err-list.result c.in_err-list.field-0.0 c.from_residual-in_err-list.ensures.1 made.answer.1
    (subst (λ (ports : List PortRatio). IsListOf ports (Err c.in_err-list.field-0.0)) same c.in_err-list.ensures)

pub returns-clause-leaves : goal.returns-clause-leaves
returns-clause-leaves c =
    let n = c.args.net.now in
    let trees = c.in_ok-trees.trees in
    let made = c.in_ok-trees.ensures in
    let first : slice_get (source_numbers n) 0 ≡ Some c.in-Some.first = sym c.in-Some.ensures.number in
    let same = walk-between n c.in-Some.first (tree_of trees.left) (tree_of trees.right) (sums_of trees) first made.left made.right made.answer.0 in
    subst (HasLeafNumbers n) (walk-first n c.in-Some.first first ∙ sym (c.in_ok-list.ensures.0 ∙ same)) (walk-leaf n c.in-Some.first c.numbers.ensures)
