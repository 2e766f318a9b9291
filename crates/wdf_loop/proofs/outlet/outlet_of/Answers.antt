use Rattle.std.proofs.Common.{◌≡◌, length, ap, ◌∙◌}
use Rattle.std.specs.Prelude.{filter}
use Rattle.std.specs.List.{range_with_len}
use Rattle.wdf_law.specs.Network.{elements, has_absorbing}
use Rattle.wdf_law.specs.OutputRule.{outlet_element}
use Rattle.wdf_loop.specs.Leaves.{flip_in}
use Rattle.wdf_loop.proofs.OutletLemmas.{is_outlet}
use Rattle.wdf_loop.proofs.outlet.outlet_of.Goals as goal

pub returns : goal.returns
returns c =
    let n = c.args.net.now in
    let number : c.outlet_element-number.result ≡ outlet_element c.args.net.now = c.outlet_element-number.ensures in
    is_outlet n (record { place = c.absorbing_before.result; flip = c.flip_at.result }) c.rules.ensures c.numbers.ensures
    (c.absorbing_before.ensures ∙ (λ i. length (filter (has_absorbing (elements n)) (range_with_len 0 (number i)))))
    (c.flip_at.ensures ∙ ap (flip_in n) number)
