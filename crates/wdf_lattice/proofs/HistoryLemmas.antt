-- Blocks from rest are cut from one run.
use Rattle.std.proofs.Common.{◌≡◌, ℕ, ◌+◌, ◌*◌, ◌<◌, List, [], ◌++◌, length, refl, sym, ap, ◌∙◌, arith}
use Rattle.std.specs.Prelude.{ℤ}
use Rattle.std.proofs.lemmas.List.{length-append}
use Rattle.wdf_law.specs.declared.side.Side.{Side}
use Rattle.wdf_law.specs.declared.side.Side.TheVariants.{Whole, A, B}
use Rattle.wdf_lattice.specs.declared.networks.Networks.{Networks}
use Rattle.wdf_lattice.specs.declared.networks.Networks.TheVariants.{Ladder, Lattice}
use Rattle.wdf_lattice.specs.Sides.{sources_driven}
use Rattle.wdf_lattice.specs.Waves.{frames_of}
use Rattle.wdf_lattice.specs.SolvedWaves.{States, all_at_rest, states_behind, waves_from, waves_for}
use Rattle.wdf_lattice.specs.SideAccounts.{Accounts, all_opened, accounts_behind}
use Rattle.wdf_lattice.specs.Runners.{AreAtRest, AreOpened, RunsOn, NotesOn}
use Rattle.wdf_lattice.specs.RunnerLaws.{LeadsTo, AreAccountsOf, GoesOnFromRest}
use Rattle.wdf_lattice.proofs.AccountLemmas.{accounts-append, accounts_agree}
use Rattle.wdf_lattice.proofs.WaveLemmas.{frames-append, waves-append, states-append}
use Rattle.wdf_lattice.proofs.CutLemmas.{frames_pieces}
use Rattle.wdf_lattice.proofs.RunOverLemmas.{states_agree, waves_agree}

no_frame : (ns : Networks) (runs : ℕ) → 0 < runs * sources_driven ns → frames_of ns runs [] ≡ []
no_frame ns runs some = frames_pieces ns runs (sources_driven ns) 0 [] some refl (omega arith)

begins : (ns : Networks) (guard runs : ℕ) (zs : States) → 0 < runs * sources_driven ns → AreAtRest ns runs zs → LeadsTo ns guard runs [] zs
begins ns guard runs zs some rest = record {
  whole = (0, omega arith);
  states_are = λ side run few.
      rest side run few ∙ (stays ns side run ∙ ap (λ (fs : List (List ℤ)). states_behind ns guard (all_at_rest ns) fs side run) (sym (no_frame ns runs some)));
}
  where
    stays : (ns : Networks) (side : Side) (run : ℕ) → all_at_rest ns side run ≡ states_behind ns guard (all_at_rest ns) [] side run
    stays (Ladder n) Whole run = refl
    stays (Ladder n) A run = refl
    stays (Ladder n) B run = refl
    stays (Lattice a b) Whole run = refl
    stays (Lattice a b) A run = refl
    stays (Lattice a b) B run = refl

go_on : (ns : Networks) (guard runs : ℕ) (samples more waves : List ℤ) (zs ys : States) → 0 < runs * sources_driven ns → LeadsTo ns guard runs samples zs
    → RunsOn ns guard runs zs ys more waves → waves_for ns guard runs (samples ++ more) ≡ waves_for ns guard runs samples ++ waves
go_on ns guard runs samples more waves zs ys some leads on =
    let rest = all_at_rest ns in
    let front = frames_of ns runs samples in
    let next = frames_of ns runs more in
    ap (waves_from ns guard runs rest) (frames-append ns runs leads.whole.0 samples more some leads.whole.1)
    ∙ (waves-append ns guard runs rest front next
    ∙ ap (λ (l : List ℤ). waves_from ns guard runs rest front ++ l)
    (sym (on.waves_are ∙ waves_agree ns guard runs (states_behind ns guard rest front) zs next leads.states_are)))

lead_on : (ns : Networks) (guard runs count : ℕ) (samples more waves : List ℤ) (zs ys : States) → 0 < runs * sources_driven ns → LeadsTo ns guard runs samples zs
    → length more ≡ count * (runs * sources_driven ns) → RunsOn ns guard runs zs ys more waves → LeadsTo ns guard runs (samples ++ more) ys
lead_on ns guard runs count samples more waves zs ys some leads long on =
    let rest = all_at_rest ns in
    let front = frames_of ns runs samples in
    let next = frames_of ns runs more in
    let size = runs * sources_driven ns in
    let before : length samples ≡ leads.whole.0 * size = leads.whole.1 in
    let joined : length (samples ++ more) ≡ length samples + length more = length-append samples more in
    record {
      whole = (leads.whole.0 + count, omega arith);
      states_are = λ side run few.
          on.states_are side run few
          ∙ (states_agree ns guard (states_behind ns guard rest front) zs next side run (leads.states_are side run few)
          ∙ (sym (states-append ns guard rest front next side run)
          ∙ ap (λ (fs : List (List ℤ)). states_behind ns guard rest fs side run) (sym (frames-append ns runs leads.whole.0 samples more some leads.whole.1))));
    }

open_up : (ns : Networks) (guard runs : ℕ) (accounts : Accounts) → 0 < runs * sources_driven ns → AreOpened ns runs accounts → AreAccountsOf ns guard runs [] accounts
open_up ns guard runs accounts some are side run few =
    are side run few
    ∙ (stays ns side run ∙ ap (λ (fs : List (List ℤ)). accounts_behind ns guard (all_at_rest ns) (all_opened ns) fs side run) (sym (no_frame ns runs some)))
  where
    stays : (ns : Networks) (side : Side) (run : ℕ) → all_opened ns side run ≡ accounts_behind ns guard (all_at_rest ns) (all_opened ns) [] side run
    stays (Ladder n) Whole run = refl
    stays (Ladder n) A run = refl
    stays (Ladder n) B run = refl
    stays (Lattice a b) Whole run = refl
    stays (Lattice a b) A run = refl
    stays (Lattice a b) B run = refl

note_on : (ns : Networks) (guard runs : ℕ) (samples more : List ℤ) (zs : States) (before behind : Accounts) → 0 < runs * sources_driven ns → LeadsTo ns guard runs samples zs
    → AreAccountsOf ns guard runs samples before → NotesOn ns guard runs zs before behind more → AreAccountsOf ns guard runs (samples ++ more) behind
note_on ns guard runs samples more zs before behind some leads are on side run few =
    let rest = all_at_rest ns in
    let none = all_opened ns in
    let front = frames_of ns runs samples in
    let next = frames_of ns runs more in
    on side run few
    ∙ (accounts_agree ns guard (states_behind ns guard rest front) zs (accounts_behind ns guard rest none front) before next side run (leads.states_are side run few) (are side run few)
    ∙ (sym (accounts-append ns guard rest none front next side run)
    ∙ ap (λ (fs : List (List ℤ)). accounts_behind ns guard rest none fs side run) (sym (frames-append ns runs leads.whole.0 samples more some leads.whole.1))))

pub goes_on_from_rest : (ns : Networks) → GoesOnFromRest ns
goes_on_from_rest ns = record {
  begins = begins ns;
  none = λ guard runs some. ap (waves_from ns guard runs (all_at_rest ns)) (no_frame ns runs some);
  waves = go_on ns;
  leads = lead_on ns;
  opens = open_up ns;
  notes = note_on ns;
}
