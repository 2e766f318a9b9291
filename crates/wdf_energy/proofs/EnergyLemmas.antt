-- The energies of the law as sums over elements: what is stored, what comes in.
use Rattle.std.proofs.Common.{◌≡◌, ℕ, ◌*◌, ◌≤◌, true, List, [], ◌∷◌, length, map, ap, sym, ◌∙◌, arith}
use Rattle.std.specs.Prelude.{All, ℤ}
use Rattle.std.specs.List.{sum_by}
use Rattle.std.proofs.Math.Nat.{mul-le-mul}
use Rattle.std.proofs.lemmas.List.Sums.{sum_by-le}
use Rattle.std.proofs.lemmas.List.Elements.{All-nil, All-cons, All-head, All-tail}
use Rattle.wdf_algebra.specs.Squares.{square}
use Rattle.wdf_law.specs.Network.{Network, elements, has_source, has_reactance, reactances, source_numbers}
use Rattle.wdf_law.specs.Run.{states}
use Rattle.wdf_law.specs.Energy.{stored, incident}
use Rattle.wdf_law.specs.Ports.{conductance_at, source_conductance}
use Rattle.wdf_law.specs.PortLaws.{HasPorts}
use Rattle.wdf_law.specs.TreeRules.{HasNumbers}
use Rattle.wdf_quant.specs.Covering.{CoversSources}
use Rattle.wdf_bounds.specs.Plans.{PlanOf, greatest_input}
use Rattle.wdf_bounds.specs.HeldWords.{IsInput}
use Rattle.wdf_energy.specs.Totals.{parts, squares_in}
use Rattle.wdf_energy.specs.Accounts.{parts_of}
use Rattle.wdf_energy.specs.LedgerLaws.{weighed}
use Rattle.wdf_energy.proofs.NumberLemmas.{numbers-below, numbers-pass}
use Rattle.wdf_energy.proofs.PartLemmas.{parts-share, parts_of-map, weighed-map, map-map, map-agree, sum-agree, sum-product}

-- ---- stored

-- the state of each reactance, from the list of all
state-squares : (n : Network) (x : ℕ → ℤ) → HasNumbers n
    → sum_by (λ (j : ℕ). conductance_at n j * square (states n (map x (reactances n)) j)) (reactances n)
    ≡ sum_by (λ (j : ℕ). conductance_at n j * square (x j)) (reactances n)
state-squares n x numbers =
    sum-agree (λ (j : ℕ). has_reactance (elements n) j ≡ true)
    (λ (j : ℕ). conductance_at n j * square (states n (map x (reactances n)) j))
    (λ (j : ℕ). conductance_at n j * square (x j))
    (reactances n) (numbers-pass has_reactance (elements n))
    (λ j here i. conductance_at n j * square (numbers.listed x j here i))

pub state-parts : (n : Network) (x : ℕ → ℤ) → HasNumbers n
    → parts_of n (reactances n) (map square (map x (reactances n))) ≡ parts n (λ (j : ℕ). square (states n (map x (reactances n)) j)) (reactances n)
state-parts n x numbers =
    let js = reactances n in
    ap (parts_of n js) (map-map square x js)
    ∙ (ap (parts_of n js) (map-agree (λ (j : ℕ). has_reactance (elements n) j ≡ true) (λ (j : ℕ). square (x j)) (λ (j : ℕ). square (states n (map x js) j)) js
    (numbers-pass has_reactance (elements n)) (λ j here. sym (ap square (numbers.listed x j here))))
    ∙ parts_of-map n (λ (j : ℕ). square (states n (map x js) j)) js)

pub stored-share : (n : Network) (x : ℕ → ℤ) → HasPorts n → HasNumbers n → CoversSources n
    → source_conductance n * parts_of n (reactances n) (map square (map x (reactances n))) ≤ stored n (map x (reactances n))
stored-share n x ports numbers covers =
    let js = reactances n in
    let share = parts-share n js (map square (map x js)) covers (numbers-below has_reactance (elements n)) in
    let listed : weighed n js (map square (map x js)) ≡ sum_by (λ (j : ℕ). conductance_at n j * square (x j)) js
    = ap (weighed n js) (map-map square x js) ∙ weighed-map n (λ (j : ℕ). square (x j)) js in
    let energy = ports.stored_sum (map x js) ∙ state-squares n x numbers in
    omega arith

-- ---- incident

pub incident-squares : (n : Network) (e : ℕ → ℤ) → HasPorts n → incident n e ≤ source_conductance n * squares_in n e
incident-squares n e ports =
    let sum = ports.incident_sum e in
    let most = sum-product (conductance_at n) (λ (j : ℕ). square (e j)) (source_numbers n) in
    omega arith

pub input-squares : (n : Network) (plan : PlanOf) (e : ℕ → ℤ) → IsInput n plan e
    → squares_in n e ≤ greatest_input plan * greatest_input plan * length (source_numbers n)
input-squares n plan e input =
    let m = greatest_input plan * greatest_input plan in
    let most = sum_by-le (λ (j : ℕ). square (e j)) m (source_numbers n) (each (source_numbers n) (numbers-pass has_source (elements n))) in
    omega arith
  where
    each : (js : List ℕ) → All (λ (j : ℕ). has_source (elements n) j ≡ true) js → All (λ (j : ℕ). square (e j) ≤ greatest_input plan * greatest_input plan) js
    each [] h = All-nil (λ (j : ℕ). square (e j) ≤ greatest_input plan * greatest_input plan)
    each (j ∷ js) h =
        let here = input j (All-head (λ (i : ℕ). has_source (elements n) i ≡ true) j js h) in
        All-cons (λ (i : ℕ). square (e i) ≤ greatest_input plan * greatest_input plan) j js (mul-le-mul here here)
        (each js (All-tail (λ (i : ℕ). has_source (elements n) i ≡ true) j js h))
