use Rattle.std.proofs.Common.{sym, subst}
use Rattle.wdf_sp.specs.Edges.{halves}
use Rattle.wdf_design.specs.Designs.{Designs}
use Rattle.wdf_design.specs.Stages.{GivesNetwork}
use Rattle.wdf_law.specs.declared.side.Side.TheVariants.{B}
use Rattle.wdf_design.proofs.StageLemmas.{handed_on, second_refused}
use Rattle.wdf_design.proofs.designing.design.Goals as goal

-- a ratio of branch B is out of range
pub returns-in_err-second-in-Lattice-2-clause-answer : goal.returns-in_err-second-in-Lattice-2-clause-answer
returns-in_err-second-in-Lattice-2-clause-answer c =
    let fault = c.in_err-second-in-Lattice-2.field-0.0 in
    let second = halves c.in_ok-second-in-Lattice.second in
    let same = handed_on c.from_residual-in_err-second-in-Lattice-2.result fault c.from_residual-in_err-second-in-Lattice-2.ensures.0 c.from_residual-in_err-second-in-Lattice-2.ensures.1 in
    let refused = subst (GivesNetwork c.rate-rate.result c.args.k B c.in-Lattice.b second) c.in_err-second-in-Lattice-2.was c.network-in-Lattice-2.ensures in
    subst (Designs c.args.netlist.now c.args.k) (sym same)
    (second_refused c.args.netlist.now c.rate-rate.result c.args.k c.form.result.now c.in-Lattice.a c.in-Lattice.b (halves c.in_ok-first-in-Lattice.first) second c.in_ok-first-in-Lattice-2.first fault c.form.ensures c.in-Lattice.is c.rate-rate.ensures.value
    c.in_ok-first-in-Lattice.ensures c.in_ok-second-in-Lattice.ensures c.in_ok-first-in-Lattice-2.ensures.0 refused)
