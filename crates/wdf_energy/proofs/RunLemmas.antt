-- The account of a whole run, and its totals against the run's energies.
use Rattle.std.proofs.Common.{◌≡◌, ℕ, ◌+◌, ◌*◌, ◌<◌, ◌≤◌, List, [], ◌∷◌, map, refl, ap, sym, ◌∙◌, subst, arith}
use Rattle.std.specs.Prelude.{ℤ, pos}
use Rattle.std.specs.List.{sum_by}
use Rattle.std.proofs.Math.Nat.{le_of_mul-le-mul_left}
use Rattle.wdf_algebra.specs.Squares.{square}
use Rattle.wdf_law.specs.Network.{Network, elements, has_absorbing, reactances, source_numbers, absorbing_numbers}
use Rattle.wdf_law.specs.Step.{Frame, sent_in, after}
use Rattle.wdf_law.specs.Run.{states, at_rest, at_end, IsRun}
use Rattle.wdf_law.specs.Energy.{stored, all_incident, all_absorbed}
use Rattle.wdf_law.specs.Ports.{conductance_at, source_conductance}
use Rattle.wdf_law.specs.PortLaws.{HasPorts}
use Rattle.wdf_law.specs.TreeRules.{HasNumbers}
use Rattle.wdf_law.specs.Laws.{KeepsEnergy}
use Rattle.wdf_quant.specs.Covering.{CoversSources}
use Rattle.wdf_bounds.specs.HeldWords.{squares_sent}
use Rattle.wdf_energy.specs.Totals.{parts, squares_in, all_squares_in, run_totals}
use Rattle.wdf_energy.specs.Accounts.{AccountOf, opened, noted, all_noted, parts_of, totals_of}
use Rattle.wdf_energy.specs.LedgerLaws.{TellsRuns}
use Rattle.wdf_energy.proofs.NumberLemmas.{numbers-below}
use Rattle.wdf_energy.proofs.PartLemmas.{parts-share, parts_of-map, weighed-map, sum-map, sum-none, sum-plus, with_squares-map}
use Rattle.wdf_energy.proofs.EnergyLemmas.{state-parts, stored-share, incident-squares}

-- ---- the account

-- of an account whose sums are f, after more frames
abbrev account : Network → ℕ → (ℕ → ℕ) → List ℤ → AccountOf
account n i f zs = record { incident = i; squares = map f (absorbing_numbers n); state = zs }

one-noted : (n : Network) (i : ℕ) (f : ℕ → ℕ) (zs : List ℤ) (e : ℕ → ℤ) (s : Frame)
    → noted n (map e (source_numbers n)) (sent_in n s) (account n i f zs) ≡ account n (i + squares_in n e) (λ (j : ℕ). f j + square (sent_in n s j)) (after n s)
one-noted n i f zs e s = λ k. record {
  incident = i + sum-map square e (source_numbers n) k;
  squares = with_squares-map (sent_in n s) f (absorbing_numbers n) k;
  state = after n s;
}

same-account : (n : Network) (i j : ℕ) (f g : ℕ → ℕ) (zs : List ℤ) → i ≡ j → ((k : ℕ) → f k ≡ g k) → account n i f zs ≡ account n j g zs
same-account n i j f g zs e h = λ k. record { incident = e k; squares = map (λ (l : ℕ). h l k) (absorbing_numbers n); state = zs }

run-noted : (n : Network) (i : ℕ) (f : ℕ → ℕ) (zs : List ℤ) (es : List (ℕ → ℤ)) (ss : List Frame) → IsRun n zs es ss
    → all_noted n es ss (account n i f zs) ≡ account n (i + all_squares_in n es) (λ (j : ℕ). f j + squares_sent n j ss) (at_end n zs ss)
run-noted n i f zs [] [] run = same-account n i (i + 0) f (λ (j : ℕ). f j + 0) zs (omega arith) (λ k. omega arith)
run-noted n i f zs [] (s ∷ ss) run = absurd run
run-noted n i f zs (e ∷ es) [] run = absurd run
run-noted n i f zs (e ∷ es) (s ∷ ss) run =
    ap (all_noted n es ss) (one-noted n i f zs e s)
    ∙ (run-noted n (i + squares_in n e) (λ (j : ℕ). f j + square (sent_in n s j)) (after n s) es ss run.1
    ∙ same-account n (i + squares_in n e + all_squares_in n es) (i + (squares_in n e + all_squares_in n es))
    (λ (j : ℕ). f j + square (sent_in n s j) + squares_sent n j ss) (λ (j : ℕ). f j + (square (sent_in n s j) + squares_sent n j ss)) (at_end n (after n s) ss)
    (omega arith) (λ k. omega arith))

-- ---- the states at the end

-- the waves that the elements were sent last, x where there is no frame
abbrev last_sent : Network → (ℕ → ℤ) → List Frame → ℕ → ℤ
last_sent n x [] = x
last_sent n x (s ∷ ss) = last_sent n (sent_in n s) ss

end-states : (n : Network) (x : ℕ → ℤ) (ss : List Frame) → at_end n (map x (reactances n)) ss ≡ map (last_sent n x ss) (reactances n)
end-states n x [] = refl
end-states n x (s ∷ ss) = end-states n (sent_in n s) ss

-- ---- totals

account-totals : (n : Network) (es : List (ℕ → ℤ)) (ss : List Frame) → HasNumbers n → IsRun n (at_rest n) es ss
    → totals_of n (all_noted n es ss (opened n)) ≡ run_totals n es ss
account-totals n es ss numbers run =
    ap (totals_of n) (run-noted n 0 (λ (j : ℕ). 0) (at_rest n) es ss run)
    ∙ (λ k. record { incident = none (all_squares_in n es) k; absorbed = taken k; stored = left k })
  where
    none : (m : ℕ) → 0 + m ≡ m
    none m = omega arith

    taken : parts_of n (absorbing_numbers n) (map (λ (j : ℕ). 0 + squares_sent n j ss) (absorbing_numbers n))
        ≡ parts n (λ (j : ℕ). squares_sent n j ss) (absorbing_numbers n)
    taken = parts_of-map n (λ (j : ℕ). 0 + squares_sent n j ss) (absorbing_numbers n)
        ∙ (λ k. parts n (λ (j : ℕ). none (squares_sent n j ss) k) (absorbing_numbers n))

    left : parts_of n (reactances n) (map square (at_end n (at_rest n) ss))
        ≡ parts n (λ (j : ℕ). square (states n (at_end n (at_rest n) ss) j)) (reactances n)
    left =
        let x = last_sent n (λ (j : ℕ). pos 0) ss in
        let end = end-states n (λ (j : ℕ). pos 0) ss in
        ap (λ (zs : List ℤ). parts_of n (reactances n) (map square zs)) end
        ∙ (state-parts n x numbers
        ∙ sym (ap (λ (zs : List ℤ). parts n (λ (j : ℕ). square (states n zs j)) (reactances n)) end))

-- ---- energies

-- what all frames took up, by elements
all-taken-up : (n : Network) (zs : List ℤ) (es : List (ℕ → ℤ)) (ss : List Frame) → HasPorts n → IsRun n zs es ss
    → all_absorbed n ss ≡ sum_by (λ (j : ℕ). conductance_at n j * squares_sent n j ss) (absorbing_numbers n)
all-taken-up n zs [] [] ports run = sym (sum-none (conductance_at n) (absorbing_numbers n))
all-taken-up n zs [] (s ∷ ss) ports run = absurd run
all-taken-up n zs (e ∷ es) [] ports run = absurd run
all-taken-up n zs (e ∷ es) (s ∷ ss) ports run =
    let js = absorbing_numbers n in
    let here = ports.absorbed_sum (states n zs) e s run.0 in
    let rest = all-taken-up n (after n s) es ss ports run.1 in
    (λ k. here k + rest k)
    ∙ (sym (sum-plus (λ (j : ℕ). conductance_at n j * square (sent_in n s j)) (λ (j : ℕ). conductance_at n j * squares_sent n j ss) js)
    ∙ (λ k. sum_by (λ (j : ℕ). spread (conductance_at n j) (square (sent_in n s j)) (squares_sent n j ss) k) js))
  where
    spread : (g a b : ℕ) → g * a + g * b ≡ g * (a + b)
    spread g a b = omega arith

absorbed-share : (n : Network) (es : List (ℕ → ℤ)) (ss : List Frame) → HasPorts n → CoversSources n → IsRun n (at_rest n) es ss
    → source_conductance n * (run_totals n es ss).absorbed ≤ all_absorbed n ss
absorbed-share n es ss ports covers run =
    let js = absorbing_numbers n in
    let f : ℕ → ℕ = λ j. squares_sent n j ss in
    let share = parts-share n js (map f js) covers (numbers-below has_absorbing (elements n)) in
    let parts_are = parts_of-map n f js in
    let energies = weighed-map n f js in
    let all = all-taken-up n (at_rest n) es ss ports run in
    let times : source_conductance n * parts n f js ≡ source_conductance n * parts_of n js (map f js) = ap (λ (t : ℕ). source_conductance n * t) (sym parts_are) in
    omega arith

rest-share : (n : Network) (es : List (ℕ → ℤ)) (ss : List Frame) → HasPorts n → HasNumbers n → CoversSources n
    → source_conductance n * (run_totals n es ss).stored ≤ stored n (at_end n (at_rest n) ss)
rest-share n es ss ports numbers covers =
    let x = last_sent n (λ (j : ℕ). pos 0) ss in
    subst (λ (zs : List ℤ). source_conductance n * parts n (λ (j : ℕ). square (states n zs j)) (reactances n) ≤ stored n zs)
    (sym (end-states n (λ (j : ℕ). pos 0) ss))
    (subst (λ (t : ℕ). source_conductance n * t ≤ stored n (map x (reactances n))) (state-parts n x numbers) (stored-share n x ports numbers covers))

all-incident-squares : (n : Network) (es : List (ℕ → ℤ)) → HasPorts n → all_incident n es ≤ source_conductance n * all_squares_in n es
all-incident-squares n [] ports = omega arith
all-incident-squares n (e ∷ es) ports =
    let here = incident-squares n e ports in
    let rest = all-incident-squares n es ports in
    omega arith

-- the sum of two parts is at most a third, where c times each is at most an energy
pub within : (c a b i x y z : ℕ) → 0 < c → c * a ≤ x → c * b ≤ y → x + y ≤ z → z ≤ c * i → a + b ≤ i
within c a b i x y z some first second kept whole =
    let times : c * (a + b) ≤ c * i = omega arith in
    le_of_mul-le-mul_left times some

pub tells-runs : (n : Network) → HasPorts n → HasNumbers n → KeepsEnergy n → CoversSources n → TellsRuns n
tells-runs n ports numbers energy covers = record {
  totals = λ es ss run. account-totals n es ss numbers run;
  absorbed = λ es ss run. absorbed-share n es ss ports covers run;
  stored = λ es ss run. rest-share n es ss ports numbers covers;
  kept = λ es ss run.
      let kept = energy.run es ss run in
      within (source_conductance n) (run_totals n es ss).absorbed (run_totals n es ss).stored (run_totals n es ss).incident
      (all_absorbed n ss) (stored n (at_end n (at_rest n) ss)) (all_incident n es) ports.some_source
      (absorbed-share n es ss ports covers run) (rest-share n es ss ports numbers covers) (omega arith) (all-incident-squares n es ports);
}
