use Rattle.std.proofs.Common.{◌+◌, false, Some, refl, arith}
use Rattle.wdf_netlist.specs.declared.draft.Draft.{Draft}
use Rattle.wdf_netlist.specs.Drafts.{IsSourceAlone}
use Rattle.wdf_netlist.proofs.DraftLemmas.{begun, first_more, keeps_branch, whole_branch}
use Rattle.wdf_netlist.proofs.draft.Draft.begin_second.Goals as goal

pub returns : goal.returns
returns c = λ before p r lattice alone.
    let d = c.args.self.now in
    let e : Draft = record { rate = d.rate; load = d.load; termination = d.termination; only_rates = false; begun = d.begun + 1; first = Some c.replace.result; own = c.replace.new.dest } in
    let own : IsSourceAlone e.own p = rw c.replace.ensures.after alone in
    let first = rw (← c.replace.ensures.value) at (first_more d before p r c.requires) in
    let whole = rw (← c.replace.ensures.value) at (whole_branch d r.keeps c.requires) in
    begun d e before p r refl refl refl refl refl own.parts own.names own.root first
    (keeps_branch d e p r.keeps own lattice refl whole refl refl (omega arith))
