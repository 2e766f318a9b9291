use Rattle.std.proofs.Common.{◌≡◌, List, ℕ, ℤ, refl, ap, ◌∙◌}
use Rattle.std.specs.Prelude.{◌++◌, codes, decimal}
use Rattle.std.specs.Int.{w64}
use Rattle.std.proofs.lemmas.Int.{to_z-of_z}
use Rattle.std.specs.Fmt.{signed_decimal}
use Rattle.wdf_report.proofs.Appends.{begins, goes_on, piece}
use Rattle.wdf_report.proofs.fault_lines.push_amplitude.Goals as goal

pub returns-clause-text : goal.returns-clause-text
returns-clause-text c =
    let old : List ℕ = c.args.line.now in
    let frame : List ℕ = codes "amplitude frame " ++ decimal c.args.frame in
    let channel : List ℕ = frame ++ codes " channel " ++ decimal c.args.channel in
    let first = begins old (codes "amplitude frame ") c.push_number.ensures.text c.from.ensures in
    let second = goes_on old frame (codes " channel ") first c.push_number-2.ensures.text c.from-2.ensures in
    let label : c.push_number-2.new.line ++ codes " sample " ≡ old ++ (channel ++ codes " sample ") = piece old channel (codes " sample ") second refl in
    piece old (channel ++ codes " sample ") (signed_decimal c.args.sample) label
    (c.push_signed.ensures.text ∙ ap (λ (z : ℤ). c.push_number-2.new.line ++ codes " sample " ++ signed_decimal z) (to_z-of_z w64 c.args.sample c.ranges.sample))
