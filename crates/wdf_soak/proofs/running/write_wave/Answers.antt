use Rattle.std.proofs.Common.{◌≡◌, List, ℕ, Some, sym, ◌∙◌, subst}
use Rattle.wdf_io.specs.SureSource.{sure_left}
use Rattle.wdf_frames.specs.declared.frame_stop.FrameStop.{FrameStop}
use Rattle.wdf_frames.specs.Stops.{FrameStops}
use Rattle.wdf_frames.specs.RunStates.{setting_of}
use Rattle.wdf_frames.specs.Written.{IsWritten}
use Rattle.wdf_made.specs.Wave.{made_data}
use Rattle.wdf_soak.specs.GrowingSink.{held_bytes}
use Rattle.wdf_soak.proofs.RunLemmas.{never_over, never_short, tells_all, writes_all}
use Rattle.wdf_soak.proofs.WaveLemmas.{made_whole}
use Rattle.wdf_soak.proofs.running.write_wave.Goals as goal

pub unreachable-requires-in-Err-Amplitude : goal.unreachable-requires-in-Err-Amplitude
unreachable-requires-in-Err-Amplitude c =
    let s = setting_of c.args.run.now in
    let body = made_data c.args.seed c.args.order c.args.frames in
    let laws = c.data_append.ensures in
    let whole = made_whole laws.read laws.one_read laws.coded laws.one_coded laws.bytes s c.args.seed c.args.order c.args.frames c.requires.ready.set in
    let left : sure_left c.new-input.result ≡ body = c.new-input.ensures ∙ c.in_ok-body.ensures in
    let stopped = subst (λ (stop : FrameStop).
    FrameStops s (Some (sure_left c.new-input.result)) (Some (sure_left c.write.new.input)) (Some (held_bytes c.in_ok-out.out)) (Some (held_bytes c.write.new.out)) stop)
    c.in-Err-Amplitude.field-0-is c.in-Err-Amplitude.ensures.stopped in
    never_over c.one_end.ensures s body _ whole left _ _ _ _ _ _ stopped

pub unreachable-requires-in-Err-Truncated : goal.unreachable-requires-in-Err-Truncated
unreachable-requires-in-Err-Truncated c =
    let s = setting_of c.args.run.now in
    let body = made_data c.args.seed c.args.order c.args.frames in
    let laws = c.data_append.ensures in
    let whole = made_whole laws.read laws.one_read laws.coded laws.one_coded laws.bytes s c.args.seed c.args.order c.args.frames c.requires.ready.set in
    let left : sure_left c.new-input.result ≡ body = c.new-input.ensures ∙ c.in_ok-body.ensures in
    let stopped = subst (λ (stop : FrameStop).
    FrameStops s (Some (sure_left c.new-input.result)) (Some (sure_left c.write.new.input)) (Some (held_bytes c.in_ok-out.out)) (Some (held_bytes c.write.new.out)) stop)
    c.in-Err-Truncated.field-0-is c.in-Err-Truncated.ensures.stopped in
    never_short c.one_end.ensures s body _ whole left _ _ _ _ stopped

pub returns-in-Ok-clause-wave : goal.returns-in-Ok-clause-wave
returns-in-Ok-clause-wave c =
    let s = setting_of c.args.run.now in
    let body = made_data c.args.seed c.args.order c.args.frames in
    let laws = c.data_append.ensures in
    let whole = made_whole laws.read laws.one_read laws.coded laws.one_coded laws.bytes s c.args.seed c.args.order c.args.frames c.requires.ready.set in
    let left : sure_left c.new-input.result ≡ body = c.new-input.ensures ∙ c.in_ok-body.ensures in
    subst (λ (wave : List ℕ). IsWritten s body wave) (sym c.into_bytes.ensures)
    (writes_all s body _ _ _ whole left c.in_ok-out.ensures _ c.in-Ok.ensures.told.0)

pub returns-in-Ok-clause-told : goal.returns-in-Ok-clause-told
returns-in-Ok-clause-told c =
    let s = setting_of c.args.run.now in
    let body = made_data c.args.seed c.args.order c.args.frames in
    let laws = c.data_append.ensures in
    let whole = made_whole laws.read laws.one_read laws.coded laws.one_coded laws.bytes s c.args.seed c.args.order c.args.frames c.requires.ready.set in
    let left : sure_left c.new-input.result ≡ body = c.new-input.ensures ∙ c.in_ok-body.ensures in
    tells_all s body _ whole left _ _ _ c.in-Ok.ensures.told.0 _ _ c.in-Ok.ensures.told.1
