-- The summary of a run on a ladder and a wave that were made for it:
--
--   soak seed N order K
--   states N certified yes, or no
--   frames M
--   clipped C
--   sum S least A greatest B             of the output samples
--   channel 0 incident I absorbed A stored S
use Rattle.std.specs.Prelude.{ℕ, Bool, List, [], ◌∷◌, ◌++◌, codes, decimal}
use Rattle.std.specs.Fmt.{signed_decimal}
use Rattle.wdf_law.specs.declared.side.Side.TheVariants.{Whole}
use Rattle.wdf_law.specs.Network.{Network}
use Rattle.wdf_energy.specs.declared.totals.Totals.{Totals}
use Rattle.wdf_reporting.specs.CountLines.{count_text}
use Rattle.wdf_reporting.specs.LedgerLine.{ledger_text}
use Rattle.wdf_reporting.specs.ReportText.{states_line}
use Rattle.wdf_soak.specs.declared.figures.Figures.{Figures}

abbrev pub figures_line : Figures → List ℕ
figures_line f =
    codes "sum " ++ signed_decimal f.sum
    ++ codes " least " ++ signed_decimal f.least
    ++ codes " greatest " ++ signed_decimal f.greatest

abbrev pub summary_text : (seed order : ℕ) → Network → (certified : Bool) → (frames clipped : ℕ) → Figures → Totals → List ℕ
summary_text seed order n certified frames clipped figures totals =
    (codes "soak seed " ++ decimal seed ++ codes " order " ++ decimal order ++ 10 ∷ [])
    ++ (states_line n certified ++ 10 ∷ [])
    ++ count_text frames clipped
    ++ (figures_line figures ++ 10 ∷ [])
    ++ ledger_text Whole 0 totals
