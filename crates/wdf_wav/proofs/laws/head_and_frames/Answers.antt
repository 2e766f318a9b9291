use Rattle.std.proofs.Common.{◌++◌, sym, ap, append-nil}
use Rattle.std.proofs.KnownBytes.{Consumes-trans}
use Rattle.wdf_wav.proofs.laws.head_and_frames.Goals as goal

pub returns : goal.returns
returns c = λ left middle left' head body first second size. record {
  bytes = first.bytes ++ body;
  stream = record { front = first.bytes; headed = first.headed; parts = ap (λ l. first.bytes ++ l) (sym (append-nil body)); size = size };
  input = Consumes-trans left middle left' first.bytes body first.input second;
}
