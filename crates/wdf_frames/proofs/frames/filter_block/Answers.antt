-- What was read, and where it stopped.
use Rattle.std.proofs.Common.{ℕ, ◌*◌, take, ◌∙◌, subst}
use Rattle.std.proofs.lemmas.Result.{err_from_is_err_and}
use Rattle.wdf_frames.specs.Setting.{read_size}
use Rattle.wdf_frames.specs.Progress.{WriteStops, WritesFrames, round_setting}
use Rattle.wdf_frames.proofs.BlockLemmas.{reads_some, block_stops}
use Rattle.wdf_frames.proofs.frames.filter_block.Goals as goal

pub returns-in_err-write_front-clause-stopped : goal.returns-in_err-write_front-clause-stopped
returns-in_err-write_front-clause-stopped g c =
    let s = round_setting c.args.round.now in
    let old = c.args.round.now in
    let new = c.write_front.new.round in
    let held = c.in_ok-held.held in
    let buf = c.read_frames.new.frames in
    let l = g.I.Source.left c.args.input.now in
    let k = g.I.Source.left c.read_frames.new.input in
    let x = g.O.Sink.written c.args.out.now in
    let y = g.O.Sink.written c.write_front.new.out in
    let e = c.in_err-write_front.field-0.0 in
    let p = err_from_is_err_and c.from_residual-in_err-write_front.result c.from_residual-in_err-write_front.ensures.1 in
    let stops : WriteStops s old new held (take (held * read_size s) buf) x y e
    = subst (λ (n : ℕ). WriteStops s old new held (take (held * n) buf) x y e) c.read_size.ensures.value c.in_err-write_front.ensures.stopped in
    rw (p.1, p.2)
    (block_stops s old new c.args.count held (take (held * read_size s) buf) l k x y e
    (reads_some s c.args.count held buf l k (c.read_frames.auto.frames ∙ c.requires.frames) c.in_ok-held.ensures.most c.in_ok-held.ensures.bytes) stops)

pub returns-then-held-count-clause-stopped : goal.returns-then-held-count-clause-stopped
returns-then-held-count-clause-stopped g c =
    let s = round_setting c.args.round.now in
    let held = c.in_ok-held.held in
    let buf = c.read_frames.new.frames in
    let l = g.I.Source.left c.args.input.now in
    let k = g.I.Source.left c.read_frames.new.input in
    record {
      held = held;
      frames = take (held * read_size s) buf;
      reads = reads_some s c.args.count held buf l k (c.read_frames.auto.frames ∙ c.requires.frames) c.in_ok-held.ensures.most c.in_ok-held.ensures.bytes;
      short = c.if-held-count.true;
      end = c.in_ok-held.ensures.end c.if-held-count.true;
      wrote =
          subst (λ (n : ℕ). WritesFrames s c.args.round.now c.write_front.new.round held (take (held * n) buf) (g.O.Sink.written c.args.out.now) (g.O.Sink.written c.write_front.new.out))
          c.read_size.ensures.value c.in_ok-write_front.ensures.ok;
      place = c.done.ensures;
    }
