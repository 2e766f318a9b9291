use Rattle.std.proofs.Common.{refl}
use Rattle.std.specs.Prelude.{IsSome}
use Rattle.wdf_netlist.proofs.forms.lattice.Goals as goal

pub new-requires-clause-form : goal.new-requires-clause-form
new-requires-clause-form c =
    let some : IsSome c.args.first.now = rw c.in-Some-first.is refl in
    let whole = c.requires.whole some in
    record {
      termination = whole.0;
      first = c.in_ok-a.ensures.form whole.0 (rw c.in-Some-first.is at whole.1.0);
      second = c.in_ok-b.ensures.form whole.0 whole.1.1;
    }
