-- The two lines that count the frames of a run, and the output samples that were limited, over all channels.
--
--   frames N
--   clipped N
use Rattle.std.specs.Prelude.{ℕ, List, [], ◌∷◌, ◌++◌, codes, decimal}
use Rattle.wdf_reporting.specs.ReportText.{lines_text}

abbrev pub count_text : (frames clipped : ℕ) → List ℕ
count_text frames clipped = lines_text ((codes "frames " ++ decimal frames) ∷ (codes "clipped " ++ decimal clipped) ∷ [])
