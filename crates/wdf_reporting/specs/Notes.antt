-- The note of a run that was done: its report, the counts of frames and of limited samples, and a line of the ledger for
-- each channel of each circuit.
use Rattle.std.specs.Prelude.{ℕ, Bool, List, ◌++◌, flat_map}
use Rattle.std.specs.List.{range_with_len}
use Rattle.wdf_law.specs.declared.side.Side.{Side}
use Rattle.wdf_law.specs.declared.side.Side.TheVariants.{Whole, A, B}
use Rattle.wdf_netlist.specs.Netlists.{NetlistValue}
use Rattle.wdf_bounds.specs.Plans.{PlanOf}
use Rattle.wdf_lattice.specs.declared.networks.Networks.{Networks}
use Rattle.wdf_lattice.specs.declared.networks.Networks.TheVariants.{Ladder, Lattice}
use Rattle.wdf_energy.specs.declared.totals.Totals.{Totals}
use Rattle.wdf_reporting.specs.CountLines.{count_text}
use Rattle.wdf_reporting.specs.LedgerLine.{ledger_text}
use Rattle.wdf_reporting.specs.ReportText.{report_text}

-- the lines of a side, whose runs are numbered as its channels are
abbrev pub side_ledger : Side → (runs : ℕ) → (totals : ℕ → Totals) → List ℕ
side_ledger side runs totals = flat_map (λ (channel : ℕ). ledger_text side channel (totals channel)) (range_with_len 0 runs)

-- those of a ladder, or of branch A and then of branch B
abbrev pub ledger_texts : Networks → (runs : ℕ) → (totals : Side → ℕ → Totals) → List ℕ
ledger_texts (Ladder n) runs totals = side_ledger Whole runs (totals Whole)
ledger_texts (Lattice m n) runs totals = side_ledger A runs (totals A) ++ side_ledger B runs (totals B)

abbrev pub note_text : NetlistValue → Networks → PlanOf → (certified : Side → Bool) → (frames clipped runs : ℕ) → (totals : Side → ℕ → Totals) → List ℕ
note_text n ns plan certified frames clipped runs totals =
    report_text n ns plan certified ++ count_text frames clipped ++ ledger_texts ns runs totals
