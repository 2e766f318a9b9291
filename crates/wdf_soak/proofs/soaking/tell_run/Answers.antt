use Rattle.std.proofs.Common.{◌≡◌, List, ℕ, Some, sym, ap, ◌∙◌}
use Rattle.wdf_law.specs.declared.side.Side.TheVariants.{Whole}
use Rattle.wdf_lattice.specs.declared.networks.Networks.{Networks}
use Rattle.wdf_lattice.specs.Sides.{network_at}
use Rattle.wdf_wav.specs.PcmStream.{samples_of}
use Rattle.wdf_frames.specs.RunStates.{limited_by, setting_of, totals_by}
use Rattle.wdf_made.specs.Wave.{made_data}
use Rattle.wdf_soak.specs.Figures.{figures_of, output_samples}
use Rattle.wdf_soak.specs.Summary.{summary_text}
use Rattle.wdf_soak.proofs.TellLemmas.{head_long, is_summary}
use Rattle.wdf_soak.proofs.soaking.tell_run.Goals as goal

pub data_in-requires : goal.data_in-requires
data_in-requires c = head_long (setting_of c.args.run.now) (made_data c.args.seed c.args.order c.args.frames) c.args.wave.now c.requires.written

pub returns : goal.returns
returns c =
    let run = c.args.run.now in
    let s = setting_of run in
    let n = c.whole-net.result.now in
    let totals = c.unwrap-totals.result in
    let whole : network_at s.networks Whole ≡ Some n = ap (λ (ns : Networks). network_at ns Whole) (sym c.networks.ensures) ∙ c.whole-net.ensures in
    let account : totals_by run Whole 0 ≡ Some totals = sym c.totals.ensures ∙ c.unwrap-totals.ensures in
    let figures : c.figures_in-figures.result ≡ figures_of (output_samples c.args.wave.now) =
    c.figures_in-figures.ensures ∙ ap (λ (bytes : List ℕ). figures_of (samples_of 16 bytes)) c.data_in.ensures in
    is_summary c.args.seed c.args.order c.args.frames s.networks c.args.certified s c.args.wave.now (limited_by run) (totals_by run) n totals _
    c.requires.set c.requires.found c.requires.written c.requires.told whole account
    (c.in_ok-text.ensures ∙ (λ i. summary_text c.args.seed c.args.order n c.args.certified c.args.frames (c.limited-clipped.ensures i) (figures i) totals))
