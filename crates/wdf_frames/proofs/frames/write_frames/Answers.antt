-- The header, then block after block.
use Rattle.std.proofs.Common.{◌<◌, ap, ◌∙◌, subst, arith, rules}
use Rattle.std.proofs.lemmas.Result.{err_from_is_err_and}
use Rattle.wdf_io.specs.Moved.{AppendsPart}
use Rattle.std.specs.Io.KnownBytes.{Appends}
use Rattle.std.specs.Prelude.{List, ℕ}
use Rattle.wdf_wav.specs.Header.{head_bytes_of}
use Rattle.wdf_wav.specs.declared.head.Head.{Head}
use Rattle.wdf_frames.specs.Progress.{round_setting}
use Rattle.wdf_frames.proofs.ProgressLemmas.{next_most, ran_none, ran_next}
use Rattle.wdf_frames.proofs.StopLemmas.{stops_at_header, next_stops}
use Rattle.wdf_frames.proofs.frames.write_frames.Goals as goal

pub returns-in_err-put-clause-stopped : goal.returns-in_err-put-clause-stopped
returns-in_err-put-clause-stopped g c =
    let s = round_setting c.args.round.now in
    let x = g.O.Sink.written c.args.out.now in
    let y = g.O.Sink.written c.put.new.out in
    let p = err_from_is_err_and c.from_residual.result c.from_residual.ensures.1 in
    let head = c.head_bytes.ensures ∙ ap head_bytes_of c.written_head.ensures.value in
    rw (p.1, p.2, c.in_err-put.ensures.stop)
    (stops_at_header s c.rules.ensures (g.I.Source.left c.args.input.now) x y (subst (λ (b : List ℕ). AppendsPart x y b) head c.in_err-put.ensures.part))

pub loop-round-init : goal.loop-round-init
loop-round-init g c =
    let s = round_setting c.args.round.now in
    let x = g.O.Sink.written c.args.out.now in
    let y = g.O.Sink.written c.put.new.out in
    let head = c.head_bytes.ensures ∙ ap head_bytes_of c.written_head.ensures.value in
    record {
      ran = ran_none s c.rules.ensures c.args.round.now (g.I.Source.left c.args.input.now) x y c.requires.begun (subst (λ (b : List ℕ). Appends x y b) head c.in_ok-put.ensures.ok);
      most = search rules;
      frames = search rules;
      made = search rules;
      read = search rules;
      write = search rules;
    }

pub loop-round-preserved : goal.loop-round-preserved
loop-round-preserved g c =
    let old = c.loop-round.round in
    let all = c.head-all.result.frames in
    let more : old.runner.done < all = search rules in
    let most = next_most old.runner.done all more in
    let block = c.in_ok-filter_next.ensures.ok in
    let done = block.wrote.run.ran.done in
    record {
      ran = ran_next (round_setting c.args.round.now) c.rules.ensures old c.filter_next.new.round all _ _ _ _ _ _ c.loop-round.invariant.ran block;
      most = omega arith;
      frames = search rules;
      made = search rules;
      read = search rules;
      write = search rules;
    }

pub returns-in_err-filter_next-clause-stopped : goal.returns-in_err-filter_next-clause-stopped
returns-in_err-filter_next-clause-stopped g c =
    let old = c.loop-round.round in
    let all = c.head-all.result.frames in
    let more : old.runner.done < all = search rules in
    let frames = ap (λ (h : Head). h.frames) c.head-all.ensures.value in
    let p = err_from_is_err_and c.from_residual-in_err-filter_next.result c.from_residual-in_err-filter_next.ensures.1 in
    rw (p.1, p.2)
    (next_stops (round_setting c.args.round.now) c.rules.ensures old c.filter_next.new.round all _ _ _ _ _ _ c.in_err-filter_next.field-0.0
    c.loop-round.invariant.ran more frames c.in_err-filter_next.ensures.stopped)
