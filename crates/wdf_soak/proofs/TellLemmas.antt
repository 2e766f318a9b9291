-- What is told of a run on a made wave is its summary.
use Rattle.std.proofs.Common.{◌≡◌, ℕ, ◌<◌, ◌≤◌, Bool, true, false, if◌then◌else◌, List, length, replicate, Option, Some, refl, sym, ap, ◌∙◌, subst, arith, length-append}
use Rattle.std.specs.Prelude.{◌==◌, IsSome}
use Rattle.wdf_law.specs.declared.side.Side.{Side}
use Rattle.wdf_law.specs.declared.side.Side.TheVariants.{Whole}
use Rattle.wdf_law.specs.Network.{Network}
use Rattle.wdf_energy.specs.declared.totals.Totals.{Totals}
use Rattle.wdf_lattice.specs.declared.networks.Networks.{Networks}
use Rattle.wdf_lattice.specs.Sides.{network_at, run_count, sources_driven}
use Rattle.wdf_wav.specs.declared.head.Head.{Head}
use Rattle.wdf_wav.specs.Header.{head_bytes_of, pad_size}
use Rattle.wdf_frames.specs.Setting.{Setting, runs_of, written_head}
use Rattle.wdf_frames.specs.RunFacts.{TellsRun}
use Rattle.wdf_frames.specs.Written.{IsWritten, coded}
use Rattle.wdf_reporting.specs.Findings.{IsFinding}
use Rattle.wdf_made.specs.Wave.{made_data}
use Rattle.wdf_soak.specs.Figures.{figures_of, output_samples}
use Rattle.wdf_soak.specs.Summary.{summary_text}
use Rattle.wdf_soak.specs.Soaks.{HasFinding, IsSummary, made_setting}

-- ---- the header of a wave

header_long : (head : Head) → length (head_bytes_of head) ≡ 44
unfolding head_bytes_of
header_long head = refl

pub head_long : (s : Setting) (body wave : List ℕ) → IsWritten s body wave → 44 ≤ length wave
head_long s body wave h =
    let header = head_bytes_of (written_head s) in
    let samples = coded s h.result.waves in
    let pad : List ℕ = replicate (pad_size (written_head s)) 0 in
    omega (arith, ap length h.padded, ap length h.result.parts, length-append h.unpadded pad, length-append header samples, header_long (written_head s))

-- ---- the totals of its one run

one_run : (ns : Networks) → run_count ns 1 ≡ 1
one_run ns = by (sources_driven ns == 1)
  where
    by : (t : Bool) → ◌≡◌ {A = ℕ} (if t then 1 else 1) 1
    by true = refl
    by false = refl

the_totals : (ns : Networks) (frames : ℕ) (body : List ℕ) (clipped : ℕ) (ledger : Side → ℕ → Option Totals) (n : Network) → network_at ns Whole ≡ Some n
    → TellsRun (made_setting ns frames) body clipped ledger → (t : Totals) × (ledger Whole 0 ≡ Some t)
the_totals ns frames body clipped ledger n at told =
    let runs = told.counted.gives.some in
    let one = one_run ns in
    let some : 0 < runs_of (made_setting ns frames) = omega (arith, one) in
    (_, told.ledger.each Whole n at 0 some (runs.0 Whole 0) (runs.1.each Whole n at 0 some))

pub has_totals : (ns : Networks) (frames : ℕ) (body : List ℕ) (clipped : ℕ) (ledger : Side → ℕ → Option Totals) (certified : Bool) (s : Setting) (o : Option Totals)
    → s ≡ made_setting ns frames → HasFinding ns certified → TellsRun s body clipped ledger → o ≡ ledger Whole 0 → IsSome o
has_totals ns frames body clipped ledger certified s o set found told same =
    let has = the_totals ns frames body clipped ledger found.0 found.1 (subst (λ (x : Setting). TellsRun x body clipped ledger) set told) in
    subst IsSome (sym (same ∙ has.1)) refl

-- ---- the summary

one_some : (n m : Network) → Some n ≡ Some m → n ≡ m
one_some n m e = cc

pub is_summary : (seed order frames : ℕ) (ns : Networks) (certified : Bool) (s : Setting) (wave : List ℕ) (clipped : ℕ) (ledger : Side → ℕ → Option Totals)
    (n : Network) (totals : Totals) (text : List ℕ) → s ≡ made_setting ns frames → HasFinding ns certified → IsWritten s (made_data seed order frames) wave
    → TellsRun s (made_data seed order frames) clipped ledger → network_at ns Whole ≡ Some n → ledger Whole 0 ≡ Some totals
    → text ≡ summary_text seed order n certified frames clipped (figures_of (output_samples wave)) totals → IsSummary seed order frames ns text
is_summary seed order frames ns certified s wave clipped ledger n totals text set found written told whole account summary =
    record {
      network = n;
      whole = whole;
      certified = certified;
      found = subst (λ (m : Network). IsFinding m certified) (one_some found.0 n (sym found.1 ∙ whole)) found.2;
      wave = wave;
      written = subst (λ (x : Setting). IsWritten x (made_data seed order frames) wave) set written;
      clipped = clipped;
      ledger = ledger;
      told = subst (λ (x : Setting). TellsRun x (made_data seed order frames) clipped ledger) set told;
      totals = totals;
      account = account;
      summary = summary;
    }
