use Rattle.std.proofs.Common.{◌≡◌, ◌∙◌, rules, w64}
use Rattle.std.specs.Int.{w128}
use Rattle.std.proofs.lemmas.Int.{to_z-of_z}
use mir.Val.{SFits}
use Rattle.wdf_soak.proofs.SummaryLemmas.{figures_told}
use Rattle.wdf_soak.proofs.summarising.push_figures.Goals as goal

pub returns : goal.returns
returns c =
    let f = c.args.figures.now in
    let fits_s : SFits w128 c.args.figures.now.sum = search rules in
    let fits_l : SFits w64 c.args.figures.now.least = search rules in
    let fits_g : SFits w64 c.args.figures.now.greatest = search rules in
    let sum = to_z-of_z w128 f.sum fits_s in
    let least = to_z-of_z w128 c.from.result (record { sfits = c.from.type_inv }) ∙ (c.from.ensures ∙ to_z-of_z w64 f.least fits_l) in
    let greatest = to_z-of_z w128 c.from-2.result (record { sfits = c.from-2.type_inv }) ∙ (c.from-2.ensures ∙ to_z-of_z w64 f.greatest fits_g) in
    figures_told f _ _ _ _ _ _ _ _ sum least greatest
    c.in_ok-push_signed.ensures c.in_ok-push_signed-2.ensures c.in_ok-push_signed-3.ensures c.in_ok-push.ensures.items
