use Rattle.std.proofs.Common.{List, ℕ, refl, ap, ◌∙◌}
use Rattle.std.specs.Prelude.{◌++◌, codes, decimal}
use Rattle.wdf_report.specs.KindNames.{wave_name}
use Rattle.wdf_report.proofs.Appends.{begins, piece}
use Rattle.wdf_report.proofs.fault_lines.push_wave.Goals as goal

pub returns-clause-text : goal.returns-clause-text
returns-clause-text c =
    let old : List ℕ = c.args.line.now in
    let offset : List ℕ = codes "wave offset " ++ decimal c.args.at in
    let first = begins old (codes "wave offset ") c.push_number.ensures.text refl in
    let blank = piece old offset (codes " ") first c.push.ensures in
    piece old (offset ++ codes " ") (wave_name c.args.kind) blank (c.push-2.ensures ∙ ap (λ (name : List ℕ). c.push.new.self ++ name) c.wave_name.ensures.name)
