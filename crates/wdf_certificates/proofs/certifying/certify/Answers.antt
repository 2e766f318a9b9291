use Rattle.std.proofs.Common.{sym, subst, ◌∙◌}
use Rattle.std.specs.Prelude.{IfErr}
use Rattle.wdf_law.specs.declared.side.Side.TheVariants.{A, B}
use Rattle.wdf_certificates.specs.Certifying.{CertifyRefuses}
use Rattle.wdf_certificates.specs.CertStages.{GivesCert}
use Rattle.wdf_certificates.proofs.StageLemmas.{first_refused, handed_on, second_refused}
use Rattle.wdf_certificates.proofs.certifying.certify.Goals as goal

-- branch A has no certificate
pub returns-in_err-first-in-Lattice-Lattice-clause-refused : goal.returns-in_err-first-in-Lattice-Lattice-clause-refused
returns-in_err-first-in-Lattice-Lattice-clause-refused c =
    let form = c.args.netlist.now.form in
    let ns = c.args.networks.now in
    let at = c.in-Lattice-Lattice in
    let stop = c.in_err-first-in-Lattice-Lattice.field-0.0 in
    let same = handed_on c.from_residual-in_err-first-in-Lattice-Lattice.result stop c.from_residual-in_err-first-in-Lattice-Lattice.ensures.0 c.from_residual-in_err-first-in-Lattice-Lattice.ensures.1 in
    subst (λ r. IfErr r (CertifyRefuses form ns)) (sym same)
    (first_refused form ns at.a at.b at.m at.n stop c.requires (sym c.form.ensures ∙ at.is-0) at.is-1
    (subst (GivesCert A at.a at.m) c.in_err-first-in-Lattice-Lattice.was c.made-in-Lattice-Lattice.ensures))

-- branch B has none
pub returns-in_err-second-in-Lattice-Lattice-clause-refused : goal.returns-in_err-second-in-Lattice-Lattice-clause-refused
returns-in_err-second-in-Lattice-Lattice-clause-refused c =
    let form = c.args.netlist.now.form in
    let ns = c.args.networks.now in
    let at = c.in-Lattice-Lattice in
    let stop = c.in_err-second-in-Lattice-Lattice.field-0.0 in
    let same = handed_on c.from_residual-in_err-second-in-Lattice-Lattice.result stop c.from_residual-in_err-second-in-Lattice-Lattice.ensures.0 c.from_residual-in_err-second-in-Lattice-Lattice.ensures.1 in
    subst (λ r. IfErr r (CertifyRefuses form ns)) (sym same)
    (second_refused form ns at.a at.b at.m at.n stop c.requires (sym c.form.ensures ∙ at.is-0) at.is-1
    (c.in_ok-first-in-Lattice-Lattice.first, c.in_ok-first-in-Lattice-Lattice.ensures)
    (subst (GivesCert B at.b at.n) c.in_err-second-in-Lattice-Lattice.was c.made-in-Lattice-Lattice-2.ensures))
