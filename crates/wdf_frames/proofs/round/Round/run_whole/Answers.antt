-- The buffers have room, and the round keeps its shape.
use Rattle.std.proofs.Common.{◌≡◌, ◌*◌, length, vec_len, sym, ◌∙◌, rules}
use Rattle.wdf_frames.proofs.RoundLemmas.{data_room, reshaped}
use Rattle.wdf_frames.proofs.round.Round.run_whole.Goals as goal

pub encode-limited-requires-clause-room : goal.encode-limited-requires-clause-room
encode-limited-requires-clause-room c =
    let is = c.args.self.now.shaped in
    let waves : length c.deref-2.result.now ≡ 4096 * c.args.self.now.runs = search rules in
    data_room c.args.count c.args.self.now.runs _ c.bits-bits.result c.args.self.now.head.bits (length c.args.made.now) c.deref-2.result.now
    c.requires.made (sym is.for_channels) (is.bits_are ∙ sym c.bits-bits.ensures.value) c.requires.few waves

pub invariant_of-self : goal.invariant_of-self
invariant_of-self c =
    let is = c.args.self.now.shaped in
    record {
      shaped = reshaped c.args.self.now.runner c.run_samples.new.runner c.args.self.now.plan c.args.self.now.head c.args.self.now.down c.args.self.now.runs c.args.self.now.limited c.encode-limited.result
          (vec_len c.args.self.now.samples) (vec_len c.args.self.now.waves) (vec_len c.args.self.now.samples) (vec_len c.run_samples.new.waves) c.args.count
          is c.run_samples.ensures.networks c.run_samples.ensures.plan c.run_samples.ensures.runs c.run_samples.ensures.done (search rules) (search rules) c.run_samples.ensures.kept;
    }
