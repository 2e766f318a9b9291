-- The words of a frame whose energy is at most what a plan allows are within the bounds of their ports.
use Rattle.std.proofs.Common.{◌≡◌, ℕ, suc, ◌+◌, ◌*◌, ◌^◌, ◌==◌, ◌<◌, ◌≤◌, Bool, true, false, if◌then◌else◌, List, [], ◌∷◌, length, refl, ap, unsigned_abs, arith}
use Rattle.std.specs.Prelude.{All, IsTrue, nat_le, ◌&&◌, ◌||◌}
use Rattle.std.proofs.Math.Nat.{mul-le-mul_left}
use Rattle.std.proofs.lemmas.Bool.{le-leb, leb-true}
use Rattle.std.proofs.lemmas.List.Elements.{All-nil, All-cons, All-head, All-tail}
use lib.IntN.{ℤ}
use Rattle.wdf_algebra.specs.Squares.{square}
use Rattle.wdf_law.specs.declared.kind.Kind.{Kind}
use Rattle.wdf_law.specs.Trees.{AdaptorTree, leaf, series, parallel, LeafElement}
use Rattle.wdf_law.specs.Network.{Network, unit_of, elements, has_element, has_kind, has_absorbing}
use Rattle.wdf_law.specs.Conductance.{conductance, series_first, series_second, parallel_first, parallel_second, left_factor, right_factor}
use Rattle.wdf_law.specs.Step.{Waves, ends, forks, Frame, IsStep, sent_in, after}
use Rattle.wdf_law.specs.Run.{states, at_rest, IsRun}
use Rattle.wdf_law.specs.Energy.{stored, incident, all_incident, taken, all_taken}
use Rattle.wdf_law.specs.Ports.{conductance_at, source_conductance}
use Rattle.wdf_law.specs.PortLaws.{HasPorts}
use Rattle.wdf_law.specs.TreeRules.{HasNumbers}
use Rattle.wdf_law.specs.Laws.{AreBounded, IsFrameBounded, KeepsEnergy, BoundsEveryWave}
use Rattle.wdf_quant.specs.declared.port_ratio.PortRatio.{PortRatio}
use Rattle.wdf_quant.specs.PortBound.{PortNumbers, end, fork, own, port_numbers, number_at, walk, EachPort, HasWholeWalk}
use Rattle.wdf_quant.specs.Covering.{Covers, own-covers, CoversSources}
use Rattle.wdf_bounds.specs.Plans.{PlanOf, greatest_input}
use Rattle.wdf_bounds.specs.WordBound.{bound, word_limit, Fits}
use Rattle.wdf_bounds.specs.HeldWords.{AreWithin, IsFrameWithin, AreLimited, IsFrameLimited, IsInput, AreInputs, IsReached, AreFramesWithin, squares_sent, HoldsWords}
use Rattle.wdf_bounds.proofs.BoundNumbers.{sum_within, wave_within, value_within}

-- the most energy of a word, c being the sum of the sources' conductances
abbrev most_energy : PlanOf → ℕ → ℕ
most_energy plan c = plan.frames * (greatest_input plan * greatest_input plan * c)

-- a wave or a value whose energy is at most so much
wave : (plan : PlanOf) (c d p g : ℕ) (z : ℤ) → 0 < c → d ≤ most_energy plan c → 2 ^ 40 * c ≤ p * g → g * square z ≤ d → unsigned_abs z ≤ bound plan p
wave plan c d p g z some most covers h = let energy : g * square z ≤ most_energy plan c = omega arith in wave_within plan c p g (unsigned_abs z) some covers energy

value : (plan : PlanOf) (q c d p g : ℕ) (z : ℤ) → 0 < c → d ≤ most_energy plan c → 2 ^ 40 * c ≤ p * g → g * square z ≤ q * q * d → unsigned_abs z ≤ q * bound plan p
value plan q c d p g z some most covers h =
    let more : q * q * d ≤ q * q * most_energy plan c = mul-le-mul_left (q * q) most in
    let energy : g * square z ≤ q * q * most_energy plan c = omega arith in
    value_within plan q c p g (unsigned_abs z) some covers energy

tree-within : (plan : PlanOf) (q c d f : ℕ) (t : AdaptorTree) (w : Waves) (v : PortNumbers) → 0 < c → d ≤ most_energy plan c
    → Covers q (2 ^ 40 * c) f t v → AreBounded q d f t w → AreWithin q plan w v
tree-within plan q c d f (leaf i k flip) (ends u e) (end p) some most covers h =
    let g = conductance q f (leaf i k flip) in
    (wave plan c d p g u some most covers h.0, wave plan c d p g e some most covers h.1)
tree-within plan q c d f (leaf i k flip) (ends u e) (fork p l' r') some most covers h = absurd covers
tree-within plan q c d f (leaf i k flip) (forks u e b1 b2 b wl wr) v some most covers h = absurd h
tree-within plan q c d f (series m l r) (ends u e) v some most covers h = absurd h
tree-within plan q c d f (series m l r) (forks u e b1 b2 b wl wr) (end p) some most covers h = absurd covers
tree-within plan q c d f (series m l r) (forks u e b1 b2 b wl wr) (fork p vl vr) some most covers h =
    let g = conductance q f (series m l r) in (
      wave plan c d p g u some most covers.0 h.0,
      wave plan c d p g e some most covers.0 h.1,
      value plan q c d (own vl) (conductance q (series_first q f m r) l) b1 some most (own-covers q (2 ^ 40 * c) (series_first q f m r) l vl covers.1) h.2,
      value plan q c d (own vr) (conductance q (series_second q f m l) r) b2 some most (own-covers q (2 ^ 40 * c) (series_second q f m l) r vr covers.2) h.3,
      value plan q c d p g b some most covers.0 h.4,
      tree-within plan q c d (series_first q f m r) l wl vl some most covers.1 h.5,
      tree-within plan q c d (series_second q f m l) r wr vr some most covers.2 h.6,
    )
tree-within plan q c d f (parallel m l r) (ends u e) v some most covers h = absurd h
tree-within plan q c d f (parallel m l r) (forks u e b1 b2 b wl wr) (end p) some most covers h = absurd covers
tree-within plan q c d f (parallel m l r) (forks u e b1 b2 b wl wr) (fork p vl vr) some most covers h =
    let g = conductance q f (parallel m l r) in (
      wave plan c d p g u some most covers.0 h.0,
      wave plan c d p g e some most covers.0 h.1,
      value plan q c d (own vl) (conductance q (parallel_first q f m r) l) b1 some most (own-covers q (2 ^ 40 * c) (parallel_first q f m r) l vl covers.1) h.2,
      value plan q c d (own vr) (conductance q (parallel_second q f m l) r) b2 some most (own-covers q (2 ^ 40 * c) (parallel_second q f m l) r vr covers.2) h.3,
      value plan q c d p g b some most covers.0 h.4,
      tree-within plan q c d (parallel_first q f m r) l wl vl some most covers.1 h.5,
      tree-within plan q c d (parallel_second q f m l) r wr vr some most covers.2 h.6,
    )

frame-within : (n : Network) (plan : PlanOf) (d : ℕ) (s : Frame) → 0 < source_conductance n → d ≤ most_energy plan (source_conductance n)
    → CoversSources n → IsFrameBounded n d s → IsFrameWithin n plan s
frame-within n plan d s some most covers h =
    let q = unit_of n in
    let c = source_conductance n in
    let v = port_numbers n in
    record {
      first = value plan q c d (own v.left) (conductance q (left_factor n) n.left) s.b1 some most (own-covers q (2 ^ 40 * c) (left_factor n) n.left v.left covers.ports.left) h.first;
      second = value plan q c d (own v.right) (conductance q (right_factor n) n.right) s.b2 some most (own-covers q (2 ^ 40 * c) (right_factor n) n.right v.right covers.ports.right) h.second;
      left = tree-within plan q c d (left_factor n) n.left s.left v.left some most covers.ports.left h.left;
      right = tree-within plan q c d (right_factor n) n.right s.right v.right some most covers.ports.right h.right;
    }

-- ---- within the limit

tree-limited : (plan : PlanOf) (q : ℕ) (w : Waves) (v : PortNumbers) → EachPort (λ (p : ℕ). nat_le (bound plan p) (word_limit plan)) v → AreWithin q plan w v
    → AreLimited (word_limit plan) w
tree-limited plan q (ends u d) (end p) few h = let most : bound plan p ≤ word_limit plan = leb-true (bound plan p) (word_limit plan) few in (omega arith, omega arith)
tree-limited plan q (ends u d) (fork p l r) few h = absurd h
tree-limited plan q (forks u d b1 b2 b wl wr) (end p) few h = absurd h
tree-limited plan q (forks u d b1 b2 b wl wr) (fork p l r) few h =
    let most : bound plan p ≤ word_limit plan = leb-true (bound plan p) (word_limit plan) few.0 in
    (omega (arith, h.0), omega (arith, h.1), tree-limited plan q wl l few.1 h.5, tree-limited plan q wr r few.2 h.6)

-- a list's bounds as tests
all-tests : (plan : PlanOf) (xs : List PortRatio) → All (λ (x : PortRatio). bound plan x.ratio ≤ word_limit plan) xs
    → All (λ (x : PortRatio). IsTrue (nat_le (bound plan x.ratio) (word_limit plan))) xs
all-tests plan [] h = All-nil (λ (y : PortRatio). IsTrue (nat_le (bound plan y.ratio) (word_limit plan)))
all-tests plan (x ∷ xs) h =
    All-cons (λ (y : PortRatio). IsTrue (nat_le (bound plan y.ratio) (word_limit plan))) x xs (le-leb (bound plan x.ratio) (word_limit plan) (All-head (λ (y : PortRatio). bound plan y.ratio ≤ word_limit plan) x xs h))
    (all-tests plan xs (All-tail (λ (y : PortRatio). bound plan y.ratio ≤ word_limit plan) x xs h))

frame-limited : (n : Network) (plan : PlanOf) (s : Frame) → Fits n plan → HasWholeWalk n → IsFrameWithin n plan s → IsFrameLimited (word_limit plan) s
frame-limited n plan s fits whole h =
    let few = whole (λ (p : ℕ). nat_le (bound plan p) (word_limit plan)) (all-tests plan (walk n) fits.bounds) in
    record {
      left = tree-limited plan (unit_of n) s.left (port_numbers n).left few.0 h.left;
      right = tree-limited plan (unit_of n) s.right (port_numbers n).right few.1 h.right;
    }

-- ---- energy

-- what so many frames and one more send in
more-energy : (n e g done st inc : ℕ) → done < n → st ≤ done * (e * e) * g → inc ≤ g * (e * e) → (st + inc ≤ n * (e * e * g)) × (st + inc ≤ (done + 1) * (e * e) * g)
more-energy n e g done st inc below before here =
    let few : done + 1 ≤ n = omega arith in
    let most : e * e * g * (done + 1) ≤ e * e * g * n = mul-le-mul_left (e * e * g) few in
    (omega arith, omega arith)

step-energy : (n : Network) (plan : PlanOf) (done : ℕ) (zs : List ℤ) (e : ℕ → ℤ) → HasPorts n → done < plan.frames → IsReached n plan done zs → IsInput n plan e
    → (stored n zs + incident n e ≤ most_energy plan (source_conductance n))
    × (stored n zs + incident n e ≤ (done + 1) * (greatest_input plan * greatest_input plan) * source_conductance n)
step-energy n plan done zs e ports below reached input =
    more-energy plan.frames (greatest_input plan) (source_conductance n) done (stored n zs) (incident n e) below reached (ports.incident_most e (greatest_input plan) input)

step-within : (n : Network) (plan : PlanOf) (done : ℕ) (zs : List ℤ) (e : ℕ → ℤ) (s : Frame) → HasPorts n → BoundsEveryWave n → CoversSources n
    → done < plan.frames → IsReached n plan done zs → IsInput n plan e → IsStep n (states n zs) e s → IsFrameWithin n plan s
step-within n plan done zs e s ports waves covers below reached input step =
    frame-within n plan (stored n zs + incident n e) s ports.some_source (step-energy n plan done zs e ports below reached input).0 covers (waves.step zs e s step)

step-kept : (n : Network) (plan : PlanOf) (done : ℕ) (zs : List ℤ) (e : ℕ → ℤ) (s : Frame) → HasPorts n → KeepsEnergy n
    → done < plan.frames → IsReached n plan done zs → IsInput n plan e → IsStep n (states n zs) e s → IsReached n plan (done + 1) (after n s)
step-kept n plan done zs e s ports energy below reached input step =
    let most = (step-energy n plan done zs e ports below reached input).1 in
    let kept = energy.step zs e s step in
    omega arith

-- ---- runs

more-below : (done k n : ℕ) → done + suc k ≤ n → done < n
more-below done k n few = grind arith

more-few : (done k n : ℕ) → done + suc k ≤ n → done + 1 + k ≤ n
more-few done k n few = grind arith

run-within : (n : Network) (plan : PlanOf) (done : ℕ) (zs : List ℤ) (es : List (ℕ → ℤ)) (ss : List Frame) → HasPorts n → KeepsEnergy n → BoundsEveryWave n → CoversSources n
    → done + length es ≤ plan.frames → IsReached n plan done zs → AreInputs n plan es → IsRun n zs es ss → AreFramesWithin n plan ss
run-within n plan done zs [] [] ports energy waves covers few reached inputs run = tt
run-within n plan done zs [] (s ∷ ss) ports energy waves covers few reached inputs run = absurd run
run-within n plan done zs (e ∷ es) [] ports energy waves covers few reached inputs run = absurd run
run-within n plan done zs (e ∷ es) (s ∷ ss) ports energy waves covers few reached inputs run =
    let below : done < plan.frames = more-below done (length es) plan.frames few in (
      step-within n plan done zs e s ports waves covers below reached inputs.0 run.0,
      run-within n plan (done + 1) (after n s) es ss ports energy waves covers (more-few done (length es) plan.frames few)
          (step-kept n plan done zs e s ports energy below reached inputs.0 run.0) inputs.1 run.1,
    )

-- ---- sums

-- an element that takes up energy is an element
some-element : (is : Kind → Bool) (xs : List LeafElement) (j : ℕ) → has_kind is xs j ≡ true → has_element xs j ≡ true
some-element is [] j h = absurd (cc)
some-element is (x ∷ xs) j h = by (x.number == j) (is x.kind) h (some-element is xs j)
  where
    by : (a b : Bool) → ((a && b) || has_kind is xs j) ≡ true → (has_kind is xs j ≡ true → has_element xs j ≡ true) → (a || has_element xs j) ≡ true
    by true b e rest = refl
    by false b e rest = rest e

-- g times the sum of the squares is what was taken up
taken-squares : (n : Network) (j : ℕ) (ss : List Frame) → has_absorbing (elements n) j ≡ true → all_taken n j ss ≡ conductance_at n j * squares_sent n j ss
taken-squares n j [] here = omega arith
taken-squares n j (s ∷ ss) here =
    let g = conductance_at n j in
    let one : taken n j s ≡ g * square (sent_in n s j) = ap (λ (b : Bool). if b then g * square (sent_in n s j) else 0) here in
    let others = taken-squares n j ss here in
    sums g (taken n j s) (all_taken n j ss) (square (sent_in n s j)) (squares_sent n j ss) one others
  where
    sums : (g a b x y : ℕ) → a ≡ g * x → b ≡ g * y → a + b ≡ g * (x + y)
    sums g a b x y first second = omega arith

-- what a run sends in
all-sent : (n : Network) (plan : PlanOf) (es : List (ℕ → ℤ)) → HasPorts n → AreInputs n plan es
    → all_incident n es ≤ length es * (greatest_input plan * greatest_input plan * source_conductance n)
all-sent n plan [] ports inputs = omega arith
all-sent n plan (e ∷ es) ports inputs =
    one-more (greatest_input plan) (source_conductance n) (length es) (incident n e) (all_incident n es) (ports.incident_most e (greatest_input plan) inputs.0) (all-sent n plan es ports inputs.1)
  where
    one-more : (m g k a b : ℕ) → a ≤ g * (m * m) → b ≤ k * (m * m * g) → a + b ≤ suc k * (m * m * g)
    one-more m g k a b first second =
        let e : suc k ≡ k + 1 = grind arith in
        let times : suc k * (m * m * g) ≡ (k + 1) * (m * m * g) = ap (λ (x : ℕ). x * (m * m * g)) e in
        omega arith

squares-within : (n : Network) (plan : PlanOf) (j : ℕ) (es : List (ℕ → ℤ)) (ss : List Frame) → HasPorts n → HasNumbers n → BoundsEveryWave n → CoversSources n
    → has_absorbing (elements n) j ≡ true → length es ≤ plan.frames → AreInputs n plan es → IsRun n (at_rest n) es ss
    → squares_sent n j ss ≤ bound plan (number_at n j) * bound plan (number_at n j)
squares-within n plan j es ss ports numbers waves covers here few inputs run =
    let x = greatest_input plan * greatest_input plan * source_conductance n in
    let sent : all_incident n es ≤ length es * x = all-sent n plan es ports inputs in
    let most : x * length es ≤ x * plan.frames = mul-le-mul_left x few in
    let taken_most : all_taken n j ss ≤ all_incident n es = waves.sums j es ss run in
    let same : all_taken n j ss ≡ conductance_at n j * squares_sent n j ss = taken-squares n j ss here in
    let energy : conductance_at n j * squares_sent n j ss ≤ plan.frames * x = omega arith in
    sum_within plan (source_conductance n) (number_at n j) (conductance_at n j) (squares_sent n j ss) ports.some_source
    (covers.leaves j (numbers.below j (some-element _ (elements n) j here))) energy

-- ---- the law

nothing : (x g st : ℕ) → st ≡ 0 → st ≤ 0 * x * g
nothing x g st e = omega arith

from_none : (k n : ℕ) → k ≤ n → 0 + k ≤ n
from_none k n h = omega arith

pub holds-words : (n : Network) (plan : PlanOf) → HasPorts n → HasNumbers n → KeepsEnergy n → BoundsEveryWave n → CoversSources n → HasWholeWalk n → Fits n plan → HoldsWords n plan
holds-words n plan ports numbers energy waves covers whole fits = record {
  within = λ done zs e s below reached input step. step-within n plan done zs e s ports waves covers below reached input step;
  step = λ done zs e s below reached input step. frame-limited n plan s fits whole (step-within n plan done zs e s ports waves covers below reached input step);
  kept = λ done zs e s below reached input step. step-kept n plan done zs e s ports energy below reached input step;
  rest = nothing (greatest_input plan * greatest_input plan) (source_conductance n) (stored n (at_rest n)) energy.rest;
  run = λ es ss few inputs run. run-within n plan 0 (at_rest n) es ss ports energy waves covers (from_none (length es) plan.frames few)
      (nothing (greatest_input plan * greatest_input plan) (source_conductance n) (stored n (at_rest n)) energy.rest) inputs run;
  squares = λ j es ss here few inputs run. squares-within n plan j es ss ports numbers waves covers here few inputs run;
}
