-- An account that holds frames under a plan has room for one more and holds it then, and its totals fit.
use Rattle.std.proofs.Common.{◌≡◌, ℕ, ◌+◌, ◌*◌, ◌^◌, ◌<◌, ◌≤◌, List, length, map, refl, ap, sym, ◌∙◌, subst, arith}
use Rattle.std.specs.Prelude.{ℤ, pos}
use Rattle.std.specs.List.{sum_by}
use Rattle.std.proofs.Math.Nat.{mul-le-mul_left, mul-le-mul}
use Rattle.wdf_algebra.specs.Squares.{square}
use Rattle.wdf_law.specs.Network.{Network, IsNetwork, elements, has_absorbing, has_reactance, reactances, source_numbers, absorbing_numbers}
use Rattle.wdf_law.specs.Step.{Frame, IsStep, sent_in}
use Rattle.wdf_law.specs.Run.{states}
use Rattle.wdf_law.specs.Energy.{stored, incident}
use Rattle.wdf_law.specs.Ports.{conductance_at, source_conductance}
use Rattle.wdf_law.specs.PortLaws.{HasPorts}
use Rattle.wdf_law.specs.TreeRules.{HasNumbers}
use Rattle.wdf_law.specs.Laws.{KeepsEnergy}
use Rattle.wdf_quant.specs.PortBound.{HasWholeWalk}
use Rattle.wdf_quant.specs.Covering.{CoversSources}
use Rattle.wdf_bounds.specs.Plans.{PlanOf, greatest_input}
use Rattle.wdf_bounds.specs.WordBound.{Fits}
use Rattle.wdf_bounds.specs.HeldWords.{IsInput}
use Rattle.wdf_energy.specs.Totals.{squares_in}
use Rattle.wdf_energy.specs.Accounts.{AccountOf, HasRoom, FitTotals, opened, noted, parts_of, totals_of}
use Rattle.wdf_energy.specs.LedgerLaws.{weighed, held, HoldsFrames, FollowsFrames}
use Rattle.wdf_energy.proofs.NumberLemmas.{numbers-below}
use Rattle.wdf_energy.proofs.PartLemmas.{parts-share, weighed-map, weighed-more, sum-map, sum-none, map-agree, with_squares-agree}
use Rattle.wdf_energy.proofs.EnergyLemmas.{stored-share, incident-squares, input-squares}
use Rattle.wdf_energy.proofs.RunLemmas.{within}
use Rattle.wdf_energy.proofs.BoundLemmas.{most, number-most, squares-below, frames-most}

-- ---- one frame more

-- what is held after a frame is at most what was held before and came in
more-held : (n : Network) (sent e : ℕ → ℤ) (a : AccountOf) (s : Frame) → HasPorts n → KeepsEnergy n → IsStep n (states n (map sent (reactances n))) e s
    → held n (sent_in n s) (noted n (map e (source_numbers n)) (sent_in n s) a) ≤ held n sent a + incident n e
more-held n sent e a s ports energy step =
    let more = weighed-more n (sent_in n s) (absorbing_numbers n) a.squares in
    let taken = ports.absorbed_sum (states n (map sent (reactances n))) e s step in
    let kept = energy.step (map sent (reactances n)) e s step in
    omega arith

goes-on : (n : Network) (plan : PlanOf) (done : ℕ) (sent e : ℕ → ℤ) (a : AccountOf) (s : Frame) → HasPorts n → KeepsEnergy n → IsInput n plan e
    → IsStep n (states n (map sent (reactances n))) e s → HoldsFrames n plan done sent a
    → HoldsFrames n plan (done + 1) (sent_in n s) (noted n (map e (source_numbers n)) (sent_in n s) a)
goes-on n plan done sent e a s ports energy input step h =
    let js = source_numbers n in
    let c = source_conductance n in
    let m = greatest_input plan * greatest_input plan in
    let more = more-held n sent e a s ports energy step in
    let listed : sum_by square (map e js) ≡ squares_in n e = sum-map square e js in
    let few : squares_in n e ≤ m * length js = input-squares n plan e input in
    let weights : incident n e ≤ c * squares_in n e = incident-squares n e ports in
    let limit : incident n e ≤ c * m = ports.incident_most e (greatest_input plan) input in
    let sum : c * (a.incident + sum_by square (map e js)) ≡ c * a.incident + c * squares_in n e = ap (λ (t : ℕ). c * (a.incident + t)) listed ∙ omega arith in
    let before = h.incident in
    let kept = h.kept in
    let reached = h.reached in
    record {
      state = refl;
      incident = omega arith;
      kept = omega arith;
      reached = omega arith;
    }

-- ---- room

begins : (n : Network) (plan : PlanOf) → KeepsEnergy n → HoldsFrames n plan 0 (λ (j : ℕ). pos 0) (opened n)
begins n plan energy =
    let none : weighed n (absorbing_numbers n) (map (λ (j : ℕ). 0) (absorbing_numbers n)) ≡ 0
    = weighed-map n (λ (j : ℕ). 0) (absorbing_numbers n) ∙ sum-none (conductance_at n) (absorbing_numbers n) in
    let rest = energy.rest in
    record { state = refl; incident = omega arith; kept = omega arith; reached = omega arith }

-- so many frames are at most the plan's
few-frames : (done m n l x : ℕ) → done < n → x ≤ (done + 1) * m * l → x ≤ n * m * l
few-frames done m n l x below h =
    let few : done + 1 ≤ n = omega arith in
    let times : m * l * (done + 1) ≤ m * l * n = mul-le-mul_left (m * l) few in
    omega arith

few-energy : (done m n c x : ℕ) → done < n → x ≤ c * ((done + 1) * m) → x ≤ c * (n * m)
few-energy done m n c x below h =
    let few : done + 1 ≤ n = omega arith in
    let times : c * m * (done + 1) ≤ c * m * n = mul-le-mul_left (c * m) few in
    omega arith

-- 8 times 2^120 is below 2^124
eight : (x l i : ℕ) → x ≤ 2 ^ 120 → l ≤ 8 → i ≤ x * l → i < 2 ^ 124
eight x l i few sources h = let both : x * l ≤ 2 ^ 120 * 8 = mul-le-mul few sources in omega arith

room : (n : Network) (plan : PlanOf) (done : ℕ) (sent e : ℕ → ℤ) (a : AccountOf) (s : Frame) → IsNetwork n → HasPorts n → KeepsEnergy n → CoversSources n → HasWholeWalk n → Fits n plan
    → done < plan.frames → IsInput n plan e → IsStep n (states n (map sent (reactances n))) e s → HoldsFrames n plan done sent a
    → HasRoom (noted n (map e (source_numbers n)) (sent_in n s) a)
room n plan done sent e a s rules ports energy covers whole fits below input step h =
    let m = greatest_input plan * greatest_input plan in
    let b = noted n (map e (source_numbers n)) (sent_in n s) a in
    let next = goes-on n plan done sent e a s ports energy input step h in
    let numbers : (j : ℕ) → _ = λ j. number-most n plan j fits whole in
    let frames = frames-most n (most plan) ports.some_source covers numbers rules.some_source in
    let energy_most = few-energy done m plan.frames (source_conductance n) (held n (sent_in n s) b) below next.reached in
    record {
      incident = eight (most plan) (length (source_numbers n)) b.incident frames rules.few_sources
          (few-frames done m plan.frames (length (source_numbers n)) b.incident below next.incident);
      squares = squares-below n (most plan) (sent_in n s) (absorbing_numbers n) a.squares ports.some_source covers numbers
          (numbers-below has_absorbing (elements n)) (omega arith);
    }

-- ---- totals

totals-within : (n : Network) (plan : PlanOf) (done : ℕ) (sent : ℕ → ℤ) (a : AccountOf) → HasPorts n → HasNumbers n → CoversSources n → HoldsFrames n plan done sent a
    → (totals_of n a).absorbed + (totals_of n a).stored ≤ (totals_of n a).incident
totals-within n plan done sent a ports numbers covers h =
    let js = absorbing_numbers n in
    let zs = map sent (reactances n) in
    let taken = parts-share n js a.squares covers (numbers-below has_absorbing (elements n)) in
    let left = subst (λ (ys : List ℤ). source_conductance n * parts_of n (reactances n) (map square ys) ≤ stored n zs) (sym h.state) (stored-share n sent ports numbers covers) in
    within (source_conductance n) (totals_of n a).absorbed (totals_of n a).stored a.incident (weighed n js a.squares) (stored n zs) (held n sent a) ports.some_source
    taken left (omega arith) h.kept

fits-totals : (n : Network) (plan : PlanOf) (done : ℕ) (sent : ℕ → ℤ) (a : AccountOf) → IsNetwork n → HasPorts n → HasNumbers n → CoversSources n → HasWholeWalk n → Fits n plan
    → done ≤ plan.frames → HoldsFrames n plan done sent a → FitTotals (totals_of n a)
fits-totals n plan done sent a rules ports numbers covers whole fits few h =
    let m = greatest_input plan * greatest_input plan in
    let l = length (source_numbers n) in
    let all : (j : ℕ) → _ = λ j. number-most n plan j fits whole in
    let frames = frames-most n (most plan) ports.some_source covers all rules.some_source in
    let times : m * l * done ≤ m * l * plan.frames = mul-le-mul_left (m * l) few in
    let before = h.incident in
    let below : a.incident < 2 ^ 124 = eight (most plan) l a.incident frames rules.few_sources (omega arith) in
    let within_incident = totals-within n plan done sent a ports numbers covers h in
    record { absorbed = omega arith; stored = omega arith }

-- ---- waves that agree

noted-alike : (n : Network) (es : List ℤ) (sent other : ℕ → ℤ) (a : AccountOf) → ((j : ℕ) → j < length (elements n) → sent j ≡ other j)
    → noted n es sent a ≡ noted n es other a
noted-alike n es sent other a same = λ i. record {
  incident = a.incident + sum_by square es;
  squares = with_squares-agree (λ (j : ℕ). j < length (elements n)) sent other (absorbing_numbers n) a.squares (numbers-below has_absorbing (elements n)) same i;
  state = map-agree (λ (j : ℕ). j < length (elements n)) sent other (reactances n) (numbers-below has_reactance (elements n)) same i;
}

held-alike : (n : Network) (plan : PlanOf) (done : ℕ) (sent other : ℕ → ℤ) (a : AccountOf) → ((j : ℕ) → j < length (elements n) → sent j ≡ other j)
    → HoldsFrames n plan done sent a → HoldsFrames n plan done other a
held-alike n plan done sent other a same h =
    let e = map-agree (λ (j : ℕ). j < length (elements n)) sent other (reactances n) (numbers-below has_reactance (elements n)) same in
    let taken = weighed n (absorbing_numbers n) a.squares in
    record {
      state = h.state ∙ e;
      incident = h.incident;
      kept = subst (λ (zs : List ℤ). stored n zs + taken ≤ source_conductance n * a.incident) e h.kept;
      reached = subst (λ (zs : List ℤ). stored n zs + taken ≤ source_conductance n * (done * (greatest_input plan * greatest_input plan))) e h.reached;
    }

pub follows-frames : (n : Network) (plan : PlanOf) → IsNetwork n → HasPorts n → HasNumbers n → KeepsEnergy n → CoversSources n → HasWholeWalk n → Fits n plan → FollowsFrames n plan
follows-frames n plan rules ports numbers energy covers whole fits = record {
  begins = begins n plan energy;
  room = λ done sent e a s below input step h. room n plan done sent e a s rules ports energy covers whole fits below input step h;
  goes_on = λ done sent e a s input step h. goes-on n plan done sent e a s ports energy input step h;
  fits = λ done sent a few h. fits-totals n plan done sent a rules ports numbers covers whole fits few h;
  totals = λ done sent a h. totals-within n plan done sent a ports numbers covers h;
  noted_alike = λ es sent other a same. noted-alike n es sent other a same;
  held_alike = λ done sent other a same h. held-alike n plan done sent other a same h;
}
