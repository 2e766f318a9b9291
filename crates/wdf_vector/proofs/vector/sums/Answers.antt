-- Each lane by the lemma on it.
use Rattle.std.proofs.Common.{rules, ◌≡◌, ◌+◌, ◌%◌, ◌∙◌, ◌^◌, length}
use Rattle.wdf_vector.specs.Lanes.{lane}
use Rattle.wdf_vector.proofs.LaneLemmas.{bits, both, numbers, sum-bits}
use Rattle.wdf_vector.proofs.vector.sums.Goals as goal

pub returns : goal.returns
returns g c i less =
    let n = g.row.N in
    let na : length c.args.a ≡ n = search rules in
    let nb : length c.args.b ≡ n = search rules in
    numbers n (both n (λ m k. (m + k) % 2 ^ 64) (bits n c.args.a na) (bits n c.args.b nb)) i less ∙ sum-bits (lane c.args.a i) (lane c.args.b i) (c.requires i less)
