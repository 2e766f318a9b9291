-- A seed, an order and frames have one answer: each stage has one, and so have the wave, its counts and its ledger.
use Rattle.std.proofs.Common.{◌≡◌, ℕ, ◌<◌, ◌≤◌, Bool, true, false, List, ◌++◌, replicate, Option, Some, None, Result, Ok, Err, inl, inr, refl, sym, ap, ◌∙◌, subst}
use Rattle.std.specs.Prelude.{ℤ, ◌⊎◌}
use Rattle.std.proofs.lemmas.Bool.{cases_lt}
use Rattle.wdf_law.specs.declared.side.Side.{Side}
use Rattle.wdf_law.specs.declared.side.Side.TheVariants.{Whole}
use Rattle.wdf_law.specs.Network.{Network}
use Rattle.wdf_energy.specs.declared.totals.Totals.{Totals}
use Rattle.wdf_lattice.specs.declared.networks.Networks.{Networks}
use Rattle.wdf_lattice.specs.Sides.{network_at}
use Rattle.wdf_lattice.specs.Waves.{GivesWaves}
use Rattle.wdf_design.specs.declared.design_fault.DesignFault.{DesignFault}
use Rattle.wdf_design.specs.Designs.{IsDesigned}
use Rattle.wdf_cert.specs.Laws.{IsOneMaking}
use Rattle.wdf_wav.specs.Header.{head_bytes_of, pad_size}
use Rattle.wdf_frames.specs.Setting.{Setting, runs_of, samples_in, written_head}
use Rattle.wdf_frames.specs.Written.{CountsLimited, IsWritten, coded, limited_among}
use Rattle.wdf_frames.specs.RunFacts.{TellsRun}
use Rattle.wdf_stages.specs.declared.bound_stop.BoundStop.{BoundStop}
use Rattle.wdf_stages.specs.declared.bound_stop.BoundStop.TheVariants as bounds
use Rattle.wdf_stages.specs.declared.design_stop.DesignStop.{DesignStop}
use Rattle.wdf_stages.specs.declared.design_stop.DesignStop.TheVariants as designs
use Rattle.wdf_stages.specs.declared.plan_bounds.PlanBounds.{PlanBounds}
use Rattle.wdf_stages.specs.StageLaws.{HasOneBound, HasOneDesign}
use Rattle.wdf_reporting.specs.Findings.{IsFinding}
use Rattle.wdf_made.specs.Ladder.{made_netlist}
use Rattle.wdf_made.specs.Wave.{made_data}
use Rattle.wdf_soak.specs.declared.soak_stop.SoakStop.{SoakStop}
use Rattle.wdf_soak.specs.declared.soak_stop.SoakStop.TheVariants.{PortRange, Bound, NoMemory}
use Rattle.wdf_soak.specs.Figures.{figures_of, output_samples}
use Rattle.wdf_soak.specs.Summary.{summary_text}
use Rattle.wdf_soak.specs.Soaks.{IsSoaked, IsSummary, WordsRefuse, made_setting, usual_plan}
use Rattle.wdf_soak.specs.SoakLaws.{HasOneSoak}

no : false ≡ true → ⊥
no h = absurd (cc)

one_ok : (x y : Networks) → ◌≡◌ {A = Result Networks DesignFault} (Ok x) (Ok y) → x ≡ y
one_ok x y e = cc

one_some : {X : Type 0} (x y : X) → Some x ≡ Some y → x ≡ y
one_some x y e = cc

-- ---- what is told of a run

one_finding : IsOneMaking → (n : Network) (a b : Bool) → IsFinding n a → IsFinding n b → a ≡ b
one_finding one n true true h k = refl
one_finding one n true false h k = absurd ((one n).either h.0 k.0 k.1 h.1 h.2 k.2)
one_finding one n false true h k = absurd ((one n).either k.0 h.0 h.1 k.1 k.2 h.2)
one_finding one n false false h k = refl

-- samples give load waves by all runs on them, so that two lists of waves are those of one family of runs
one_list : (ns : Networks) (guard runs : ℕ) (samples waves others : List ℤ) → GivesWaves ns guard runs samples waves → GivesWaves ns guard runs samples others
    → waves ≡ others
one_list ns guard runs samples waves others h k = sym (h.each h.some.0 h.some.1) ∙ k.each h.some.0 h.some.1

one_wave : (s : Setting) (body wave other : List ℕ) → IsWritten s body wave → IsWritten s body other → wave ≡ other
one_wave s body wave other h k =
    let waves = one_list s.networks s.plan.guard (runs_of s) (samples_in s body) h.result.waves k.result.waves h.result.gives k.result.gives in
    let unpadded : h.unpadded ≡ k.unpadded =
    h.result.parts ∙ ap (λ (ws : List ℤ). head_bytes_of (written_head s) ++ coded s ws) waves ∙ sym k.result.parts in
    h.padded ∙ ap (λ (bytes : List ℕ). bytes ++ replicate (pad_size (written_head s)) 0) unpadded ∙ sym k.padded

one_count : (s : Setting) (body : List ℕ) (count other : ℕ) → CountsLimited s body count → CountsLimited s body other → count ≡ other
one_count s body count other h k =
    h.counted ∙ ap (limited_among s) (one_list s.networks s.plan.guard (runs_of s) (samples_in s body) h.waves k.waves h.gives k.gives) ∙ sym k.counted

one_totals : (s : Setting) (body : List ℕ) (n : Network) → network_at s.networks Whole ≡ Some n
    → (count other : ℕ) (f g : Side → ℕ → Option Totals) → TellsRun s body count f → TellsRun s body other g
    → (t u : Totals) → f Whole 0 ≡ Some t → g Whole 0 ≡ Some u → t ≡ u
one_totals s body n at count other f g h k t u has has' = by (cases_lt 0 (runs_of s))
  where
    by : (0 < runs_of s) ⊎ (runs_of s ≤ 0) → t ≡ u
    by (inl some) =
        let runs = h.counted.gives.some in
        let first = h.ledger.each Whole n at 0 some (runs.0 Whole 0) (runs.1.each Whole n at 0 some) in
        let second = k.ledger.each Whole n at 0 some (runs.0 Whole 0) (runs.1.each Whole n at 0 some) in
        one_some t u (sym has ∙ first ∙ sym second ∙ has')
    by (inr none) =
        let gone = h.ledger.no_run Whole 0 none in
        let here = has in
        absurd (cc)

one_text : IsOneMaking → (seed order frames : ℕ) (ns : Networks) (text other : List ℕ) → IsSummary seed order frames ns text → IsSummary seed order frames ns other
    → text ≡ other
one_text one seed order frames ns text other h k =
    let s = made_setting ns frames in
    let body = made_data seed order frames in
    let network : h.network ≡ k.network = one_some h.network k.network (sym h.whole ∙ k.whole) in
    let found : h.certified ≡ k.certified = one_finding one k.network h.certified k.certified (subst (λ (n : Network). IsFinding n h.certified) network h.found) k.found in
    let clipped : h.clipped ≡ k.clipped = one_count s body h.clipped k.clipped h.told.counted k.told.counted in
    let wave : h.wave ≡ k.wave = one_wave s body h.wave k.wave h.written k.written in
    let totals : h.totals ≡ k.totals = one_totals s body h.network h.whole h.clipped k.clipped h.ledger k.ledger h.told k.told h.totals k.totals h.account k.account in
    h.summary
    ∙ (λ i. summary_text seed order (network i) (found i) frames (clipped i) (figures_of (output_samples (wave i))) (totals i))
    ∙ sym k.summary

-- ---- why there is none

abbrev lift_design : Result Networks DesignStop → Result (List ℕ) SoakStop
lift_design (Ok ns) = Err NoMemory
lift_design (Err (designs.NotSeriesParallel side name core)) = Err NoMemory
lift_design (Err (designs.PortRange side name low)) = Err (PortRange side name low)
lift_design (Err designs.NoMemory) = Err NoMemory

abbrev lift_bound : Result PlanBounds BoundStop → Result (List ℕ) SoakStop
lift_bound (Ok b) = Err NoMemory
lift_bound (Err (bounds.Bound side name ratio need limit)) = Err (Bound side name ratio need limit)
lift_bound (Err bounds.NoMemory) = Err NoMemory

abbrev Fails : (seed order : ℕ) → (side : Side) (name : List ℕ) (ratio : Bool) (need limit : ℕ) → Networks → Type 0
Fails seed order side name ratio need limit ns = WordsRefuse (made_netlist seed order) ns (Bound side name ratio need limit)

one_designed : (seed order : ℕ) (ns others : Networks) → IsDesigned (made_netlist seed order) usual_plan.k ns → IsDesigned (made_netlist seed order) usual_plan.k others → ns ≡ others
one_designed seed order ns others h k = one_ok ns others (sym h ∙ k)

-- ---- the answer

pub one_soak : HasOneDesign → HasOneBound → IsOneMaking → HasOneSoak
one_soak design bound one seed order frames (Ok text) (Ok other) h k =
    let same : h.networks ≡ k.networks = one_designed seed order h.networks k.networks h.designed k.designed in
    ap Ok (one_text one seed order frames k.networks text other (subst (λ (ns : Networks). IsSummary seed order frames ns text) same h.summary) k.summary)
one_soak design bound one seed order frames (Ok text) (Err (PortRange side name low)) h k =
    let same = design (made_netlist seed order) usual_plan.k (Ok h.networks) (Err (designs.PortRange side name low)) h.designed k in absurd (cc)
one_soak design bound one seed order frames (Ok text) (Err (Bound side name ratio need limit)) h k =
    let same : k.1.0 ≡ h.networks = one_designed seed order k.1.0 h.networks k.1.1 h.designed in
    let fails : Fails seed order side name ratio need limit h.networks = subst (Fails seed order side name ratio need limit) same k.1.2 in
    let two = bound (made_netlist seed order).form h.networks usual_plan (Ok h.bounds) (Err (bounds.Bound side name ratio need limit)) h.bounded (k.0, fails) in
    absurd (cc)
one_soak design bound one seed order frames (Ok text) (Err NoMemory) h k = absurd (no k.0)
one_soak design bound one seed order frames (Err (PortRange side name low)) (Ok other) h k =
    let same = design (made_netlist seed order) usual_plan.k (Ok k.networks) (Err (designs.PortRange side name low)) k.designed h in absurd (cc)
one_soak design bound one seed order frames (Err (PortRange side name low)) (Err (PortRange side' name' low')) h k =
    ap lift_design (design (made_netlist seed order) usual_plan.k (Err (designs.PortRange side name low)) (Err (designs.PortRange side' name' low')) h k)
one_soak design bound one seed order frames (Err (PortRange side name low)) (Err (Bound side' name' ratio need limit)) h k =
    let same = design (made_netlist seed order) usual_plan.k (Ok k.1.0) (Err (designs.PortRange side name low)) k.1.1 h in absurd (cc)
one_soak design bound one seed order frames (Err (PortRange side name low)) (Err NoMemory) h k = absurd (no k.0)
one_soak design bound one seed order frames (Err (Bound side name ratio need limit)) (Ok other) h k =
    let same : h.1.0 ≡ k.networks = one_designed seed order h.1.0 k.networks h.1.1 k.designed in
    let fails : Fails seed order side name ratio need limit k.networks = subst (Fails seed order side name ratio need limit) same h.1.2 in
    let two = bound (made_netlist seed order).form k.networks usual_plan (Ok k.bounds) (Err (bounds.Bound side name ratio need limit)) k.bounded (h.0, fails) in
    absurd (cc)
one_soak design bound one seed order frames (Err (Bound side name ratio need limit)) (Err (PortRange side' name' low)) h k =
    let same = design (made_netlist seed order) usual_plan.k (Ok h.1.0) (Err (designs.PortRange side' name' low)) h.1.1 k in absurd (cc)
one_soak design bound one seed order frames (Err (Bound side name ratio need limit)) (Err (Bound side' name' ratio' need' limit')) h k =
    let same : h.1.0 ≡ k.1.0 = one_designed seed order h.1.0 k.1.0 h.1.1 k.1.1 in
    let fails : Fails seed order side name ratio need limit k.1.0 = subst (Fails seed order side name ratio need limit) same h.1.2 in
    ap lift_bound
    (bound (made_netlist seed order).form k.1.0 usual_plan (Err (bounds.Bound side name ratio need limit)) (Err (bounds.Bound side' name' ratio' need' limit')) (h.0, fails) (k.0, k.1.2))
one_soak design bound one seed order frames (Err (Bound side name ratio need limit)) (Err NoMemory) h k = absurd (no k.0)
one_soak design bound one seed order frames (Err NoMemory) y h k = absurd (no h.0)
