-- The line that tells where the energy of a channel's run went, in a circuit of a side.
--
--   [branch X ]channel C incident I absorbed A stored S
use Rattle.std.specs.Prelude.{ℕ, List, [], ◌∷◌, ◌++◌, codes, decimal}
use Rattle.wdf_law.specs.declared.side.Side.{Side}
use Rattle.wdf_energy.specs.declared.totals.Totals.{Totals}
use Rattle.wdf_report.specs.FaultLine.{branch_text}

abbrev pub ledger_text : Side → (channel : ℕ) → Totals → List ℕ
ledger_text side channel t =
    branch_text side ++ codes "channel " ++ decimal channel
    ++ codes " incident " ++ decimal t.incident ++ codes " absorbed " ++ decimal t.absorbed ++ codes " stored " ++ decimal t.stored ++ 10 ∷ []
