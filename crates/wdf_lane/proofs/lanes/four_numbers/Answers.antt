use Rattle.std.proofs.Common.{SFits, w64, get_or, pos, of_z, [], ◌∷◌, refl, rules}
use Rattle.wdf_lane.proofs.LaneLemmas.{loaded, four_at-is, four_bits}
use Rattle.wdf_lane.proofs.lanes.four_numbers.Goals as goal

pub returns-clause-values : goal.returns-clause-values
returns-clause-values c =
    let xs = c.args.numbers.now in
    let fa : SFits w64 (get_or c.args.numbers.now 0 (pos 0)) = search rules in
    let fb : SFits w64 (get_or c.args.numbers.now 1 (pos 0)) = search rules in
    let fc : SFits w64 (get_or c.args.numbers.now 2 (pos 0)) = search rules in
    let fd : SFits w64 (get_or c.args.numbers.now 3 (pos 0)) = search rules in
    four_at-is xs (loaded xs c.requires fa fb fc fd)

pub returns-clause-four : goal.returns-clause-four
returns-clause-four c =
    let xs = c.args.numbers.now in
    four_bits (of_z w64 (get_or xs 0 (pos 0)) ∷ of_z w64 (get_or xs 1 (pos 0)) ∷ of_z w64 (get_or xs 2 (pos 0)) ∷ of_z w64 (get_or xs 3 (pos 0)) ∷ []) refl
