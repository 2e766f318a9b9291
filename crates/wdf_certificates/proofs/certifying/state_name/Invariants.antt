use Rattle.std.proofs.Common.{◌≡◌, drop}
use Rattle.std.specs.Prelude.{slice_get}
use Rattle.wdf_certificates.proofs.StateLemmas.{numbers_from}
use Rattle.wdf_certificates.proofs.certifying.state_name.Given as goal

abbrev pub invariant-loop-element : goal.invariant-loop-element
invariant-loop-element l =
    slice_get (numbers_from l.element-index (drop l.element-index l.elements)) l.left ≡ slice_get (numbers_from 0 l.elements) l.state
