-- The output failed before the first sample over amp.
use Rattle.std.proofs.Common.{◌≡◌, ℕ, ◌*◌, take, ap, ◌∙◌, subst}
use Rattle.std.proofs.lemmas.Result.{err_from_is_err_and}
use Rattle.wdf_io.specs.Moved.{AppendsPart}
use Rattle.wdf_frames.specs.Setting.{write_size}
use Rattle.wdf_frames.specs.Progress.{round_setting}
use Rattle.wdf_frames.proofs.BlockLemmas.{writes_part}
use Rattle.wdf_frames.proofs.frames.write_front.Goals as goal

pub returns-in_err-put-in-Some-clause-stopped : goal.returns-in_err-put-in-Some-clause-stopped
returns-in_err-put-in-Some-clause-stopped g c =
    let s = round_setting c.args.round.now in
    let o = c.in-Some.over in
    let x = g.O.Sink.written c.args.out.now in
    let y = g.O.Sink.written c.put-in-Some.new.out in
    let p = err_from_is_err_and c.from_residual.result c.from_residual.ensures.1 in
    let size : c.write_size-size.result ≡ write_size s = c.write_size-size.ensures.value ∙ ap write_size c.run-over.ensures.set in
    let made = c.run-over.new.made in
    rw (p.1, p.2, c.in_err-put-in-Some.ensures.stop)
    (writes_part s c.rules.ensures c.args.round.now c.run-over.new.self c.args.count c.args.frames.now (take (o.frame * write_size s) made) o x y
    c.requires.frames c.in-Some.ensures.inside c.in-Some.ensures.found c.in-Some.ensures.run
    (subst (λ (n : ℕ). AppendsPart x y (take (o.frame * n) made)) size c.in_err-put-in-Some.ensures.part))
