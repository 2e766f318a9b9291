-- The frames before the first sample over amp are run.
use Rattle.std.proofs.Common.{◌≡◌, ℕ, ◌*◌, ◌/◌, ◌≤◌, List, ◌++◌, length, take, drop, sym, ap, ◌∙◌, subst, rules, length-take-le}
use Rattle.std.specs.Prelude.{ℤ, All, unsigned_abs}
use Rattle.std.proofs.Math.Nat.{mul-le-mul_right}
use Rattle.wdf_lattice.specs.Runners.{RunnerValue}
use Rattle.wdf_wav.specs.declared.head.Head.{Head}
use Rattle.wdf_frames.specs.Found.{IsFound}
use Rattle.wdf_frames.specs.Setting.{Setting, setting, read_size, write_size, samples_in}
use Rattle.wdf_frames.specs.Progress.{RunsSamples, RunsFrames, frames_before, round_setting}
use Rattle.wdf_frames.proofs.FrameLemmas.{length_samples, whole_small}
use Rattle.wdf_frames.proofs.RoundLemmas.{before_is, finds_over, runs_frames}
use Rattle.wdf_frames.proofs.round.Round.run.Goals as goal

pub run_whole-requires-clause-small : goal.run_whole-requires-clause-small
run_whole-requires-clause-small c =
    let old = c.args.self.now in
    let mid = c.load-small.new.self in
    let whole = c.whole_frames-whole.result in
    let amp : mid.runner.plan.amp ≡ old.runner.plan.amp = ap (λ (r : RunnerValue). r.plan.amp) c.load-small.ensures.runner in
    let channels : c.from-channels.result ≡ mid.head.channels = c.from-channels.ensures ∙ sym (ap (λ (h : Head). h.channels) c.load-small.ensures.head) in
    let inside : whole * mid.head.channels ≤ c.load-small.result = subst (λ (n : ℕ). whole * n ≤ c.load-small.result) channels c.whole_frames-whole.ensures.inside in
    subst (λ (a : ℕ). All (λ z. unsigned_abs z ≤ a) (take (whole * mid.head.channels) mid.samples.items)) (sym amp)
    (whole_small (λ z. unsigned_abs z ≤ old.runner.plan.amp) mid.samples.items (samples_in (round_setting old) c.args.frames.now) (c.args.count * old.head.channels) c.load-small.result
    (whole * mid.head.channels) c.load-small.ensures.read inside c.load-small.ensures.most c.load-small.ensures.small)

pub returns : goal.returns
returns c =
    let old = c.args.self.now in
    let mid = c.load-small.new.self in
    let new = c.run_whole.new.self in
    let s = round_setting old in
    let count = c.args.count in
    let frames = c.args.frames.now in
    let small = c.load-small.result in
    let r = c.found.result in
    let items : c.deref.result.now ≡ mid.samples.items = search rules in
    let set : round_setting mid ≡ s = λ i. setting (c.load-small.ensures.runner i).networks (c.load-small.ensures.runner i).plan (c.load-small.ensures.head i) in
    let channels : new.head.channels ≡ old.head.channels = ap (λ (t : Setting). t.head.channels) (c.run_whole.ensures.ran.set ∙ set) in
    let samples : take (count * c.from-channels.result) c.deref.result.now ≡ samples_in s frames
    = (λ i. take (count * c.from-channels.ensures i) (items i)) ∙ c.load-small.ensures.read in
    let found : IsFound old.head.channels small (samples_in s frames) r
    = subst (λ (n : ℕ). IsFound n small (samples_in s frames) r) channels (subst (λ (l : List ℤ). IsFound new.head.channels small l r) samples c.found.ensures) in
    let whole = c.whole_frames-whole.result in
    let same : frames_before count r ≡ whole
    = before_is old.head.channels small count (samples_in s frames) r c.rules.ensures.samples.some_channel (length_samples s c.rules.ensures.samples count frames c.requires.frames) c.load-small.ensures.most found
    ∙ sym (c.whole_frames-whole.ensures.value ∙ ap (λ (n : ℕ). small / n) c.from-channels.ensures) in
    let made = c.run_whole.new.made in
    let rest = drop (whole * c.write_size.result) c.args.made.now in
    let ran : RunsSamples s mid new (take (whole * s.head.channels) mid.samples.items) made whole
    = subst (λ (t : Setting). RunsSamples t mid new (take (whole * t.head.channels) mid.samples.items) made whole) set c.run_whole.ensures.ran in
    let size : c.write_size.result ≡ write_size s = c.write_size.ensures.value ∙ ap write_size set in
    let most : whole * c.write_size.result ≤ count * c.write_size.result = mul-le-mul_right c.write_size.result c.whole_frames-whole.ensures.most in
    let within : whole * c.write_size.result ≤ length c.args.made.now = subst (λ (n : ℕ). whole * c.write_size.result ≤ n) (ap (λ (n : ℕ). count * n) size ∙ sym c.requires.made) most in
    let room : length made ≡ whole * write_size s
    = c.run_whole.auto.made ∙ (length-take-le (whole * c.write_size.result) c.args.made.now within ∙ ap (λ (n : ℕ). whole * n) size) in
    record {
      found = finds_over s c.rules.ensures small count frames r c.requires.frames c.load-small.ensures.most c.load-small.ensures.small c.load-small.ensures.over found;
      set = c.run_whole.ensures.ran.set ∙ set;
      inside = subst (λ (n : ℕ). n ≤ count) (sym same) c.whole_frames-whole.ensures.most;
      run = subst (λ (n : ℕ). RunsFrames s old new (take (n * read_size s) frames) (take (n * write_size s) (made ++ rest)) n) (sym same)
          (runs_frames s c.rules.ensures old mid new count whole frames made rest mid.samples.items c.requires.frames c.whole_frames-whole.ensures.most
          c.load-small.ensures.runner c.load-small.ensures.head c.load-small.ensures.limited c.load-small.ensures.read room ran);
    }
