-- A state that returns loses nothing in its first step, and no resistor and no source sees it.
use Rattle.std.proofs.Common.{◌≡◌, ℕ, zero, suc, ◌+◌, ◌*◌, ◌<◌, ◌≤◌, List, [], ◌∷◌, ◌++◌, length, replicate, get_or, refl, sym, ap, ◌∙◌, subst, arith}
use Rattle.std.specs.Prelude.{All}
use Rattle.std.specs.List.{range_with_len, sum_by}
use Rattle.std.proofs.lemmas.List.{length-map, replicate_more}
use Rattle.std.proofs.lemmas.List.Sums.{sum_by-cons}
use Rattle.std.proofs.lemmas.List.Elements.{All-nil, All-cons, All-filter}
use Rattle.std.proofs.lemmas.List.FromFn.{length-range_with_len, get_or-range_with_len}
use lib.IntN.{ℤ, pos, negsuc}
use Rattle.wdf_algebra.specs.Squares.{square}
use Rattle.wdf_law.specs.Network.{Network, elements, reactances, absorbing_numbers, has_absorbing}
use Rattle.wdf_law.specs.Step.{Frame, IsStep, sent_in, after}
use Rattle.wdf_law.specs.Run.{states, IsRun, at_end}
use Rattle.wdf_law.specs.Energy.{stored, incident, absorbed, all_incident}
use Rattle.wdf_law.specs.Ports.{conductance_at}
use Rattle.wdf_law.specs.PortLaws.{HasPorts}
use Rattle.wdf_law.specs.Laws.{KeepsEnergy, IsLossless}
use Rattle.wdf_check.specs.Returning.{silent, Returns}

-- ---- no input

silent-incident : (n : Network) → HasPorts n → incident n silent ≡ 0
silent-incident n ports =
    let most = ports.incident_most silent 0 (λ i h. omega arith) in
    omega arith

all-silent : (n : Network) → HasPorts n → (j : ℕ) → all_incident n (replicate j silent) ≡ 0
all-silent n ports zero = refl
all-silent n ports (suc j) =
    let first = silent-incident n ports in
    let rest = all-silent n ports j in
    omega arith

-- ---- the first step of a state that returns

-- what is known of the first step: nothing is truncated away, and what was absorbed is 0
pub record IsSilent (n : Network) (zs : List ℤ) (s : Frame) : Type 0 where
  pub step : IsStep n (states n zs) silent s
  pub exact : IsLossless n s
  pub none : absorbed n s ≡ 0
  pub back : (j : ℕ) × Returns n (after n s) j

run-append : (n : Network) (zs : List ℤ) (es : List (ℕ → ℤ)) (ss : List Frame) (e : ℕ → ℤ) (s : Frame)
    → IsRun n zs es ss → IsStep n (states n (at_end n zs ss)) e s → IsRun n zs (es ++ e ∷ []) (ss ++ s ∷ [])
run-append n zs [] [] e s run step = (step, tt)
run-append n zs [] (t ∷ ss) e s run step = absurd run
run-append n zs (d ∷ es) [] e s run step = absurd run
run-append n zs (d ∷ es) (t ∷ ss) e s run step = (run.0, run-append n (after n t) es ss e s run.1 step)

at_end-append : (n : Network) (zs : List ℤ) (ss : List Frame) (s : Frame) → at_end n zs (ss ++ s ∷ []) ≡ after n s
at_end-append n zs [] s = refl
at_end-append n zs (t ∷ ss) s = at_end-append n (after n t) ss s

pub first-silent : (n : Network) → HasPorts n → KeepsEnergy n → (zs : List ℤ) (j : ℕ) → Returns n zs j → (s : Frame) × IsSilent n zs s
first-silent n ports energy zs j r = by j r.steps r.some r.run r.back
  where
    by : (j : ℕ) (steps : List Frame) → 1 ≤ j → IsRun n zs (replicate j silent) steps → at_end n zs steps ≡ zs → (s : Frame) × IsSilent n zs s
    by zero steps some run back = absurd (omega arith)
    by (suc j) [] some run back = absurd run
    by (suc j) (s ∷ ss) some run back =
        let none = silent-incident n ports in
        let quiet = all-silent n ports j in
        let step = energy.step zs silent s run.0 in
        let rest = energy.whole (after n s) (replicate j silent) ss run.1 in
        let ends : stored n (at_end n (after n s) ss) ≡ stored n zs = ap (stored n) back in
        let nothing : absorbed n s ≡ 0 = omega arith in
        let equal : stored n (after n s) + absorbed n s ≡ stored n zs + incident n silent = omega arith in
        let last : IsStep n (states n (at_end n (after n s) ss)) silent s = subst (λ (xs : List ℤ). IsStep n (states n xs) silent s) (sym back) run.0 in
        let next : j + 1 ≡ suc j = omega arith in
        let more : replicate j silent ++ silent ∷ [] ≡ replicate (suc j) silent = replicate_more j silent ∙ ap (λ (k : ℕ). replicate k silent) next in (
          s,
          record {
            step = run.0;
            exact = energy.only_lossless zs silent s run.0 equal;
            none = nothing;
            back = (
              suc j,
              record {
                some = omega arith;
                steps = ss ++ s ∷ [];
                run = subst (λ (es : List (ℕ → ℤ)). IsRun n (after n s) es (ss ++ s ∷ [])) more (run-append n (after n s) (replicate j silent) ss silent s run.1 last);
                back = at_end-append n (after n s) ss s;
              },
            );
          },
        )

-- a state that returns has an entry for each reactance
pub returns-length : (n : Network) (zs : List ℤ) (j : ℕ) → Returns n zs j → length zs ≡ length (reactances n)
returns-length n zs j r = by j r.steps r.some r.run r.back
  where
    long : (zs : List ℤ) (ss : List Frame) → length zs ≡ length (reactances n) → length (at_end n zs ss) ≡ length (reactances n)
    long zs [] h = h
    long zs (s ∷ ss) h = long (after n s) ss (length-map (reactances n) (sent_in n s))

    by : (j : ℕ) (steps : List Frame) → 1 ≤ j → IsRun n zs (replicate j silent) steps → at_end n zs steps ≡ zs → length zs ≡ length (reactances n)
    by zero steps some run back = absurd (omega arith)
    by (suc j) [] some run back = absurd run
    by (suc j) (s ∷ ss) some run back = ap length (sym back) ∙ long (after n s) ss (length-map (reactances n) (sent_in n s))

-- ---- what is not absorbed was not sent

none-of-sum : (f : ℕ → ℕ) (xs : List ℕ) → sum_by f xs ≡ 0 → All (λ (i : ℕ). f i ≡ 0) xs
none-of-sum f [] h = All-nil (λ (i : ℕ). f i ≡ 0)
none-of-sum f (x ∷ xs) h =
    let parts : sum_by f (x ∷ xs) ≡ f x + sum_by f xs = sum_by-cons f x xs in
    All-cons (λ (i : ℕ). f i ≡ 0) x xs (omega arith) (none-of-sum f xs (omega arith))

square-zero : (z : ℤ) → square z ≡ 0 → z ≡ pos 0
square-zero (pos zero) e = refl
square-zero (pos (suc n)) e = absurd (omega arith)
square-zero (negsuc n) e = absurd (omega arith)

-- the numbers of a filter of a range are below its end
pub numbers-below : (n : Network) → All (λ (i : ℕ). i < length (elements n)) (absorbing_numbers n)
numbers-below n =
    All-filter (has_absorbing (elements n)) (λ (i : ℕ). i < length (elements n)) (range_with_len 0 (length (elements n)))
    (λ k d h.
    let long = length-range_with_len 0 (length (elements n)) in
    let at = get_or-range_with_len 0 (length (elements n)) k d (omega arith) in
    omega arith)

pub unseen : (n : Network) → HasPorts n → (x : ℕ → ℤ) (s : Frame) → IsStep n x silent s → absorbed n s ≡ 0 → All (λ (i : ℕ). sent_in n s i ≡ pos 0) (absorbing_numbers n)
unseen n ports x s step none k d h =
    let zeros = none-of-sum (λ (i : ℕ). conductance_at n i * square (sent_in n s i)) (absorbing_numbers n) (sym (ports.absorbed_sum x silent s step) ∙ none) in
    let product = zeros k d h in
    let below = numbers-below n k d h in
    square-zero (sent_in n s (get_or (absorbing_numbers n) k d))
    (by (conductance_at n (get_or (absorbing_numbers n) k d)) (square (sent_in n s (get_or (absorbing_numbers n) k d))) (ports.positive (get_or (absorbing_numbers n) k d) below) product)
  where
    by : (g q : ℕ) → 0 < g → g * q ≡ 0 → q ≡ 0
    by g zero some e = refl
    by g (suc q) some e = absurd (omega arith)
