-- From what a run of a wave read to what its input says.
use Rattle.std.proofs.Common.{ℕ, ℤ, List, ◌++◌, Option, None, Some, ap, ◌∙◌, append_assoc, append-nil}
use Rattle.wdf_frames.specs.Setting.{Setting}
use Rattle.wdf_frames.specs.Ends.{EndsWhole, EndsOver, EndsShort}
use Rattle.wdf_frames.specs.Stops.{StopsOver, StopsShort}
use Rattle.wdf_frames.specs.WaveRuns.{WritesWave}

pub ends_whole : (s : Setting) (rest : List ℕ) (left' written written' : Option (List ℕ)) → WritesWave s (Some rest) left' written written' → EndsWhole s rest
ends_whole s rest None written written' h = absurd h.input
ends_whole s rest (Some more) written written' h = record { body = h.body; more = more; whole = h.input; size = h.size; within = h.within }

pub ends_over : (s : Setting) (rest : List ℕ) (left' written written' : Option (List ℕ)) (frame channel : ℕ) (sample : ℤ)
    → StopsOver s frame channel sample (Some rest) left' written written' → EndsOver s rest frame channel sample
ends_over s rest None written written' frame channel sample h = absurd h.input
ends_over s rest (Some more) written written' frame channel sample h = record {
  body = h.body;
  more = h.tail ++ more;
  count = h.count;
  whole = h.input ∙ append_assoc h.body h.tail more;
  size = h.size;
  few = h.few;
  over = h.over;
}

pub ends_short : (s : Setting) (rest : List ℕ) (left' written written' : Option (List ℕ)) (count : ℕ)
    → StopsShort s count (Some rest) left' written written' → EndsShort s rest count
ends_short s rest None written written' count h = absurd h.input
ends_short s rest (Some more) written written' count h = record {
  body = h.body;
  tail = h.tail;
  whole = h.input ∙ (ap (λ (l : List ℕ). h.body ++ h.tail ++ l) h.end ∙ append-nil (h.body ++ h.tail));
  size = h.size;
  few = h.few;
  part = h.part;
  within = h.within;
}
