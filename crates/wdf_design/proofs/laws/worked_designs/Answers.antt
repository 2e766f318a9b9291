use Rattle.std.proofs.Common.{refl}
use Rattle.wdf_design.proofs.laws.worked_designs.Goals as goal

pub returns : goal.returns
returns c = record {
  divider_made = refl;
  opposed_made = refl;
  capacitor_made = refl;
  inductor_made = refl;
  rooted_made = refl;
  mixer_made = refl;
  chain_made = refl;
  usual_made = refl;
  lattice_made = refl;
  bridge_refused = refl;
  first_branch = refl;
  second_branch = refl;
  too_low = refl;
  too_high = refl;
  first_part = refl;
  left_tree = refl;
  first_ratio = refl;
  second_ratio = refl;
}
