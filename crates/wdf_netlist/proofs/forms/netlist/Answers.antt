use Rattle.std.proofs.Common.{Result, sym, subst, ◌∙◌}
use Rattle.wdf_netlist.specs.declared.net_fault.NetFault.{NetFault}
use Rattle.wdf_netlist.specs.Gathering.{GivesOrFails}
use Rattle.wdf_netlist.specs.Netlists.{NetlistValue}
use Rattle.wdf_netlist.proofs.GatheringLemmas.{lattice_is, whole_branches}
use Rattle.wdf_netlist.proofs.forms.netlist.Goals as goal

pub lattice-requires-clause-whole : goal.lattice-requires-clause-whole
lattice-requires-clause-whole c = λ second. whole_branches c.args.draft.now c.requires (sym c.is_some.ensures ∙ c.if-is_some.true) second

pub returns-then-is_some : goal.returns-then-is_some
returns-then-is_some c = λ ss r.
    let is = lattice_is c.args.draft.now ss r (sym c.is_some.ensures ∙ c.if-is_some.true) in
    subst (λ (said : Result NetlistValue NetFault). GivesOrFails c.lattice.result said) (sym is) c.lattice.ensures
