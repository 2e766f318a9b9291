-- The answer of a call that hands on the stop of a stage.
use Rattle.std.proofs.Common.{◌≡◌, Result, Ok, Err}
use Rattle.std.proofs.lemmas.Bool.{false≢true}
use Rattle.std.specs.Prelude.{IsErr, IsErrAnd}

pub handed_on : {X E : Type 0} (r : Result X E) (stop : E) → IsErr r → IsErrAnd r (λ (s : E). s ≡ stop) → r ≡ Err stop
handed_on (Ok x) stop h g = absurd (false≢true h)
handed_on (Err s) stop h g = λ i. Err (g i)
