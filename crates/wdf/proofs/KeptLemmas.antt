-- What the laws of networks say of every run of a setting.
use Rattle.std.proofs.Common.{◌≡◌, ℕ, zero, suc, ◌*◌, ◌/◌, ◌<◌, ◌≤◌, ◌-◌, ◌^◌, Bool, true, List, [], ◌∷◌, length, map, take, drop, Some, inl, inr, sym, ap, ◌∙◌, subst, arith}
use Rattle.std.specs.Prelude.{ℤ, All, unsigned_abs, unwrap_or, if◌then◌else◌, ◌⊎◌}
use Rattle.std.proofs.Math.Nat.{mul-div_cancel}
use Rattle.std.proofs.lemmas.Bool.{cases_lt, eq-eqb, ne_eqb}
use Rattle.std.proofs.lemmas.List.{length-map}
use Rattle.std.proofs.lemmas.List.Elements.{All-cons, All-head, All-tail, All-nil, All-take, All-drop}
use Rattle.wdf_algebra.specs.Pieces.{pieces}
use Rattle.wdf_algebra.proofs.PieceLemmas.{length-pieces}
use Rattle.wdf_law.specs.declared.side.Side.{Side}
use Rattle.wdf_law.specs.declared.side.Side.TheVariants.{Whole, A, B}
use Rattle.wdf_law.specs.Network.{Network, source_numbers}
use Rattle.wdf_law.specs.OutputRule.{drive}
use Rattle.wdf_bounds.specs.Plans.{PlanOf}
use Rattle.wdf_bounds.specs.HeldWords.{AreInputs}
use Rattle.wdf_lattice.specs.declared.networks.Networks.{Networks}
use Rattle.wdf_lattice.specs.declared.networks.Networks.TheVariants.{Ladder, Lattice}
use Rattle.wdf_lattice.specs.Sides.{network_at, run_count, sources_driven}
use Rattle.wdf_lattice.specs.Waves.{frames_of, samples_for}
use Rattle.wdf_tree.proofs.PassLemmas.{entry_small}
use Rattle.wdf_wav.specs.Header.{IsFrameFormat, data_size}
use Rattle.wdf_wav.specs.Laws.{CountsSamples}
use Rattle.wdf_frames.specs.Setting.{Setting, AreWithin, runs_of, samples_in}
use Rattle.wdf_frames.specs.RunFacts.{inputs_on}
use Rattle.wdf.specs.Runs.{OfEach, KeepsEach, HoldsEach, KeepEnergy, KeepWords, KeepsRuns, ConductsEach, RulesOutEach, KeepKirchhoff, KeepCertified, NeverReturnsWithin}
use Rattle.wdf_law.specs.Run.{at_rest}
use Rattle.wdf_check.specs.Returning.{NeverReturns}
use Rattle.wdf_reporting.specs.Findings.{IsFinding, AreFindings}
use Rattle.wdf.proofs.KirchhoffLemmas.{in_run}

-- ---- a law of each network

pub of_ladder : (law : Network → Type 0) (ns : Networks) (n : Network) → ns ≡ Ladder n → law n → OfEach ns law
of_ladder law ns n same holds side m at = by side (subst (λ x. network_at x side ≡ Some m) same at)
  where
    by : (side : Side) → network_at (Ladder n) side ≡ Some m → law m
    by Whole e = subst law (ap (λ o. unwrap_or o n) e) holds
    by A e = absurd (cc)
    by B e = absurd (cc)

pub of_lattice : (law : Network → Type 0) (ns : Networks) (a b : Network) → ns ≡ Lattice a b → law a → law b → OfEach ns law
of_lattice law ns a b same first second side m at = by side (subst (λ x. network_at x side ≡ Some m) same at)
  where
    by : (side : Side) → network_at (Lattice a b) side ≡ Some m → law m
    by Whole e = absurd (cc)
    by A e = subst law (ap (λ o. unwrap_or o a) e) first
    by B e = subst law (ap (λ o. unwrap_or o b) e) second

-- ---- energy

keep_energy : (s : Setting) → KeepsEach s.networks → (body : List ℕ) → KeepEnergy s body
keep_energy s laws body side n at run small steps h = (laws side n at).every_frame_from_rest (inputs_on s body run n) steps h

-- ---- words

-- frames of small samples drive no source by more than the plan allows
frame_inputs : (n : Network) (plan : PlanOf) (sources run : ℕ) (frames : List (List ℤ)) → All (λ zs. All (λ (z : ℤ). unsigned_abs z ≤ plan.amp) zs) frames
    → AreInputs n plan (map (drive plan.guard n) (map (samples_for sources run) frames))
frame_inputs n plan sources run [] h = tt
frame_inputs n plan sources run (zs ∷ frames) h =
    let small = λ (z : ℤ). unsigned_abs z ≤ plan.amp in
    let first = All-take small sources (drop (run * sources) zs) (All-drop small (run * sources) zs (All-head (λ xs. All small xs) zs frames h)) in (
      (λ i source. entry_small plan.guard plan.amp i (source_numbers n) (samples_for sources run zs) first),
      frame_inputs n plan sources run frames (All-tail (λ xs. All small xs) zs frames h),
    )

pieces_small : (P : ℤ → Type 0) (count size : ℕ) (zs : List ℤ) → All P zs → All (λ xs. All P xs) (pieces count size zs)
pieces_small P zero size zs h = All-nil (λ xs. All P xs)
pieces_small P (suc count) size zs h =
    All-cons (λ xs. All P xs) (take size zs) (pieces count size (drop size zs)) (All-take P size zs h) (pieces_small P count size (drop size zs) (All-drop P size zs h))

-- the channels are the sources of all runs
channels_driven : (ns : Networks) (channels : ℕ) → 1 ≤ sources_driven ns → (1 < sources_driven ns → channels ≡ sources_driven ns)
    → run_count ns channels * sources_driven ns ≡ channels
channels_driven ns channels some several = by (cases_lt 1 (sources_driven ns))
  where
    by : (1 < sources_driven ns) ⊎ (sources_driven ns ≤ 1) → run_count ns channels * sources_driven ns ≡ channels
    by (inl more) =
        let other : sources_driven ns ≡ 1 → ⊥ = λ e. absurd (omega arith) in
        ap (λ (b : Bool). (if b then channels else 1) * sources_driven ns) (ne_eqb (sources_driven ns) 1 other) ∙ (omega arith ∙ sym (several more))
    by (inr few) =
        let one : sources_driven ns ≡ 1 = omega arith in
        ap (λ (b : Bool). (if b then channels else 1) * sources_driven ns) (eq-eqb (sources_driven ns) 1 one) ∙ (ap (λ (k : ℕ). channels * k) one ∙ omega arith)

frames_told : (frames channels size : ℕ) → frames * (channels * size) ≡ frames * channels * size
frames_told frames channels size = omega arith

-- a body of all frames has no more than those
few_frames : (s : Setting) (body : List ℕ) (run : ℕ) (n : Network) → CountsSamples s.head.bits → 0 < s.head.bits / 8 → 1 ≤ s.head.channels
    → runs_of s * sources_driven s.networks ≡ s.head.channels → length body ≡ data_size s.head → length (inputs_on s body run n) ≡ s.head.frames
few_frames s body run n counts byte some driven size =
    let bytes = s.head.bits / 8 in
    let all = samples_in s body in
    let samples : length all ≡ s.head.frames * s.head.channels
    = counts body ∙ (ap (λ (k : ℕ). k / bytes) (size ∙ frames_told s.head.frames s.head.channels bytes) ∙ mul-div_cancel (s.head.frames * s.head.channels) byte) in
    let count : length all / (runs_of s * sources_driven s.networks) ≡ s.head.frames
    = (λ i. samples i / driven i) ∙ mul-div_cancel s.head.frames some in
    length-map (map (samples_for (sources_driven s.networks) run) (frames_of s.networks (runs_of s) all)) (drive s.plan.guard n)
    ∙ (length-map (frames_of s.networks (runs_of s) all) (samples_for (sources_driven s.networks) run)
    ∙ (length-pieces (length all / (runs_of s * sources_driven s.networks)) (runs_of s * sources_driven s.networks) all ∙ count))

keep_words : (s : Setting) → HoldsEach s.networks s.plan → CountsSamples s.head.bits → 0 < s.head.bits / 8 → 1 ≤ s.head.channels
    → runs_of s * sources_driven s.networks ≡ s.head.channels → s.head.frames ≤ s.plan.frames
    → (body : List ℕ) → length body ≡ data_size s.head → AreWithin s body → KeepWords s body
keep_words s laws counts byte some driven few body size within side n at run small steps h =
    let holds = laws side n at in
    let all = samples_in s body in
    let size_of = runs_of s * sources_driven s.networks in
    let frames = few_frames s body run n counts byte some driven size in
    let inputs = frame_inputs n s.plan (sources_driven s.networks) run (frames_of s.networks (runs_of s) all)
    (pieces_small (λ (z : ℤ). unsigned_abs z ≤ s.plan.amp) (length all / size_of) size_of all within) in
    (holds.0, holds.1.run (inputs_on s body run n) steps (subst (λ (k : ℕ). k ≤ s.plan.frames) (sym frames) few) inputs h)

some_byte : (s : Setting) → IsFrameFormat s.head.channels s.head.bits → 0 < s.head.bits / 8
some_byte s format = let width = format.width in grind arith

-- ---- Kirchhoff's laws

keep_kirchhoff : (s : Setting) → ConductsEach s.networks → (body : List ℕ) → KeepKirchhoff s body
keep_kirchhoff s laws body side n at run small steps h = (laws side n at, in_run n (at_rest n) (inputs_on s body run n) steps h)

-- ---- certificates

never_within : (plan : PlanOf) (n : Network) → plan.k ≡ n.k → NeverReturns n → NeverReturnsWithin plan n
never_within plan n width never zs steps small back = never zs steps (subst (λ (k : ℕ). All (λ (z : ℤ). unsigned_abs z ≤ 2 ^ (60 - k)) zs) width small) back

keep_certified : (s : Setting) → HoldsEach s.networks s.plan → RulesOutEach s.networks → (certified : Side → Bool) → AreFindings s.networks certified → KeepCertified s certified
keep_certified s words rules certified found side n at told =
    let finding : IsFinding n true = subst (IsFinding n) told (found side n at) in
    never_within s.plan n (words side n at).0.width ((rules side n at).never finding.0 finding.1.certifies)

pub keeps_runs : (s : Setting) → KeepsEach s.networks → HoldsEach s.networks s.plan → ConductsEach s.networks → RulesOutEach s.networks → CountsSamples s.head.bits → IsFrameFormat s.head.channels s.head.bits
    → 1 ≤ sources_driven s.networks → (1 < sources_driven s.networks → s.head.channels ≡ sources_driven s.networks) → s.head.frames ≤ s.plan.frames → KeepsRuns s
keeps_runs s energy words conducts rules counts format some several few = record {
  kirchhoff = keep_kirchhoff s conducts;
  energy = keep_energy s energy;
  words = keep_words s words counts (some_byte s format) format.some_channel (channels_driven s.networks s.head.channels some several) few;
  certified = keep_certified s words rules;
}
