use Rattle.std.proofs.Common.{◌≡◌, ◌+◌, ◌-◌, ◌*◌, ◌/◌, ◌<◌, ◌≤◌, length, take, sym, ap, ◌∙◌, arith, w64}
use Rattle.std.specs.Prelude.{ℤ, pos, ◌+ℤ◌, ◌-ℤ◌, ◌≤ℤ◌}
use Rattle.std.proofs.lemmas.Int.{to_z-of_z}
use Rattle.wdf_wav.specs.PcmStream.{samples_of}
use Rattle.wdf_soak.specs.declared.figures.Figures.{Figures}
use Rattle.wdf_soak.specs.Figures.{figures_of, figures_with}
use Rattle.wdf_soak.proofs.FigureLemmas.{figures_next, sum_high, sum_low}
use Rattle.wdf_soak.proofs.figures.figures_in.Goals as goal

pub loop-place-preserved : goal.loop-place-preserved
loop-place-preserved c =
    let place = c.loop-place.place in
    let zs = samples_of 16 c.args.bytes.now in
    let count = c.data_append.ensures.samples c.args.bytes.now in
    let test = c.loop-place-test.true in
    let inside : c.loop-place.place < length (samples_of 16 c.args.bytes.now) = omega arith in
    let value : c.with-found.result ≡ figures_with c.loop-place.found c.sample_at.result =
    c.with-found.ensures ∙ ap (figures_with c.loop-place.found) (to_z-of_z w64 c.sample_at.result (record { sfits = c.sample_at.type_inv })) in
    let next : figures_with c.loop-place.found c.sample_at.result ≡ figures_of (take (place + 1) zs) =
    (λ i. figures_with (c.loop-place.invariant.0 i) (c.sample_at.ensures.value i)) ∙ sym (figures_next zs place inside) in
    let sum : c.with-found.result.sum ≡ c.loop-place.found.sum +ℤ c.sample_at.result = ap (λ (f : Figures). f.sum) value in
    let low = sum_low place c.loop-place.found.sum c.sample_at.result c.with-found.result.sum sum c.loop-place.invariant.1 c.sample_at.ensures.range.low in
    let high = sum_high place c.loop-place.found.sum c.sample_at.result c.with-found.result.sum sum c.loop-place.invariant.2 c.sample_at.ensures.range.high in
    (value ∙ next, low, high)
