-- What holds of the runs of a wave that was filtered, besides what was written: of each run of each network, from rest,
-- on the samples that were read; and of the networks whose certificate the note tells.
use Rattle.std.specs.Prelude.{◌≡◌, ℕ, ◌≤◌, ℤ, unsigned_abs, Bool, true, List, length, Some, All}
use Rattle.wdf_law.specs.declared.side.Side.{Side}
use Rattle.wdf_law.specs.Network.{Network}
use Rattle.wdf_law.specs.Laws.{HasConductances, IsRunKept, KeepsEnergy}
use Rattle.wdf_law.specs.Run.{at_rest}
use Rattle.wdf_bounds.specs.Plans.{PlanOf}
use Rattle.wdf_bounds.specs.HeldWords.{AreFramesWithin, HoldsWords}
use Rattle.wdf_bounds.specs.WordBound.{Fits, word_limit}
use Rattle.wdf_check.specs.Certificate.{Certificate, Certifies}
use Rattle.wdf_check.specs.Returning.{Returns, NeverReturns}
use Rattle.wdf_lattice.specs.declared.networks.Networks.{Networks}
use Rattle.wdf_lattice.specs.Sides.{network_at}
use Rattle.wdf_wav.specs.Header.{data_size}
use Rattle.wdf_frames.specs.Setting.{Setting, AreWithin}
use Rattle.wdf_frames.specs.RunFacts.{OfEachRun}
use Rattle.wdf_reporting.specs.Findings.{AreFindings}
use Rattle.wdf.specs.Kirchhoff.{HoldsInRun}

-- the conductances of each network are positive and fit its multipliers, and with them Kirchhoff's laws hold in each frame
-- before each truncation
abbrev pub KeepKirchhoff : Setting → List ℕ → Type 0
KeepKirchhoff s body = OfEachRun s body (λ n es ss. HasConductances n × HoldsInRun n (at_rest n) es ss)

-- after each frame, what is stored and what was absorbed so far is at most what the sources sent in so far
abbrev pub KeepEnergy : Setting → List ℕ → Type 0
KeepEnergy s body = OfEachRun s body (λ n es ss. IsRunKept n 0 0 es ss)

-- the plan fits each network, and every word of every frame is within its port's bound
abbrev pub KeepWords : Setting → List ℕ → Type 0
KeepWords s body = OfEachRun s body (λ n es ss. Fits n s.plan × AreFramesWithin n s.plan ss)

-- no state within the words of the plan comes back, after any number of steps without input, but rest
abbrev pub NeverReturnsWithin : PlanOf → Network → Type 0
NeverReturnsWithin plan n = (zs : List ℤ) (steps : ℕ) → All (λ (z : ℤ). unsigned_abs z ≤ word_limit plan) zs → Returns n zs steps → zs ≡ at_rest n

-- none of those of a network that is told to be certified
abbrev pub KeepCertified : Setting → (certified : Side → Bool) → Type 0
KeepCertified s certified = (side : Side) (n : Network) → network_at s.networks side ≡ Some n → certified side ≡ true → NeverReturnsWithin s.plan n

-- ---- the laws of the networks that these follow from

abbrev pub OfEach : Networks → (Network → Type 0) → Type 0
OfEach ns law = (side : Side) (n : Network) → network_at ns side ≡ Some n → law n

abbrev pub KeepsEach : Networks → Type 0
KeepsEach ns = OfEach ns KeepsEnergy

abbrev pub HoldsEach : Networks → PlanOf → Type 0
HoldsEach ns plan = OfEach ns (λ n. Fits n plan × HoldsWords n plan)

abbrev pub ConductsEach : Networks → Type 0
ConductsEach ns = OfEach ns HasConductances

-- where a network has a certificate
pub record RulesOutReturns (n : Network) : Type 0 where
  pub never : (c : Certificate) → Certifies n c → NeverReturns n

abbrev pub RulesOutEach : Networks → Type 0
RulesOutEach ns = OfEach ns RulesOutReturns

-- so all this holds of every body that a run of this setting reads, and of all findings
pub record KeepsRuns (s : Setting) : Type 0 where
  pub kirchhoff : (body : List ℕ) → KeepKirchhoff s body
  pub energy : (body : List ℕ) → KeepEnergy s body
  pub words : (body : List ℕ) → length body ≡ data_size s.head → AreWithin s body → KeepWords s body
  pub certified : (certified : Side → Bool) → AreFindings s.networks certified → KeepCertified s certified
