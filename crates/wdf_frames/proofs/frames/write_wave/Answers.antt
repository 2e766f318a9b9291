-- The pad byte ends the wave.
use Rattle.std.proofs.Common.{◌≡◌, ℕ, ◌≤◌, take, ap, ◌∙◌, subst, rules}
use Rattle.std.specs.Io.KnownBytes.{Appends}
use Rattle.wdf_io.specs.Moved.{AppendsPart}
use Rattle.wdf_lattice.specs.Runners.{totals_by}
use Rattle.wdf_wav.specs.Header.{pad_size}
use Rattle.wdf_frames.specs.Setting.{Setting, written_head}
use Rattle.wdf_frames.specs.RunFacts.{TellsRun}
use Rattle.wdf_frames.specs.WaveRuns.{WritesWave}
use Rattle.wdf_frames.specs.Stops.{FrameStops}
use Rattle.wdf_frames.specs.Progress.{round_setting}
use Rattle.wdf_frames.proofs.WaveLemmas.{pads, pad_byte, pad_of, pad_is, writes_wave, stops_at_pad, on_ok, if_err}
use Rattle.wdf_frames.proofs.frames.write_wave.Goals as goal

pub returns : goal.returns
returns g c =
    let s = round_setting c.args.round.now in
    let r = c.write_frames.new.round in
    let l = g.I.Source.left c.args.input.now in
    let k = g.I.Source.left c.write_frames.new.input in
    let x = g.O.Sink.written c.args.out.now in
    let y = g.O.Sink.written c.write_frames.new.out in
    let z = g.O.Sink.written c.put.new.out in
    let so = c.in_ok-write_frames.ensures.ok in
    let all = c.in_ok-write_frames.ensures.all in
    let size : c.pad.result ≡ pad_size (written_head s) = c.pad.ensures.value ∙ ap (λ (t : Setting). pad_size (written_head t)) c.in_ok-write_frames.ensures.set in
    let pad : take c.pad.result pad_byte ≡ pad_of s = pad_is c.pad.result c.pad.ensures.few ∙ ap pads size in
    record {
      told = on_ok c.put.result (Appends y z (take c.pad.result pad_byte)) ((wave : WritesWave s l k x z) × TellsRun s wave.body r.limited (totals_by r.runner)) c.put.ensures.ok
          (λ wrote. writes_wave s c.rules.ensures r l k x y z so all (subst (Appends y z) pad wrote));
      stopped = if_err c.put.result (AppendsPart y z (take c.pad.result pad_byte)) (FrameStops s l k x z) c.put.ensures.part c.put.ensures.stop
          (λ part. stops_at_pad s c.rules.ensures r l k x y z so all (subst (λ (n : ℕ). n ≤ 1) size c.pad.ensures.few) (subst (AppendsPart y z) pad part));
      same = c.in_ok-write_frames.ensures.set;
      read_later = search rules;
      write_later = search rules;
      read_fault = search rules;
      write_fault = search rules;
      frames_kept = search rules;
      made_kept = search rules;
    }
