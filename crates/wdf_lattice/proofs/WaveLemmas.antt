-- The load waves of frames grow at their end, and are those of every family of runs.
use Rattle.std.proofs.Common.{◌≡◌, ℕ, ℤ, ◌+◌, ◌*◌, ◌/◌, ◌<◌, ◌-ℤ◌, List, ◌++◌, length, map, refl, sym, ap, ap₂, ◌∙◌}
use Rattle.std.proofs.Math.Nat.{mul-add-div_right, mul-div_cancel}
use Rattle.std.proofs.lemmas.List.{map-append, length-map, length-append}
use Rattle.wdf_algebra.specs.Pieces.{pieces}
use Rattle.wdf_algebra.proofs.PieceLemmas.{pieces-append}
use Rattle.wdf_law.specs.declared.side.Side.{Side}
use Rattle.wdf_law.specs.declared.side.Side.TheVariants.{Whole, A, B}
use Rattle.wdf_law.specs.Network.{Network}
use Rattle.wdf_law.specs.Step.{Frame}
use Rattle.wdf_law.specs.Run.{at_end}
use Rattle.wdf_law.specs.OutputRule.{drive}
use Rattle.wdf_law.specs.RunOutputs.{inputs}
use Rattle.wdf_law.specs.Solved.{solved_run}
use Rattle.wdf_lattice.specs.declared.networks.Networks.{Networks}
use Rattle.wdf_lattice.specs.declared.networks.Networks.TheVariants.{Ladder, Lattice}
use Rattle.wdf_lattice.specs.Sides.{sources_driven}
use Rattle.wdf_lattice.specs.Waves.{frames_of, samples_for, inputs_for, wave_in, wave_at, waves_of}
use Rattle.wdf_lattice.specs.SolvedWaves.{States, solved_family, states_behind, waves_from}
use Rattle.wdf_lattice.proofs.FrameLemmas.{interleaved-append, interleaved-same}
use Rattle.wdf_lattice.proofs.RunLemmas.{run-append, end-append, length-run, wave_in-front, wave_in-behind}

pub inputs-append : (ns : Networks) (guard run : ℕ) (n : Network) (xs ys : List (List ℤ))
    → inputs_for ns guard run n (xs ++ ys) ≡ inputs_for ns guard run n xs ++ inputs_for ns guard run n ys
inputs-append ns guard run n xs ys =
    let pick = samples_for (sources_driven ns) run in
    ap (inputs guard n) (map-append pick xs ys) ∙ map-append (drive guard n) (map pick xs) (map pick ys)

length-inputs : (ns : Networks) (guard run : ℕ) (n : Network) (xs : List (List ℤ)) → length (inputs_for ns guard run n xs) ≡ length xs
length-inputs ns guard run n xs =
    let pick = samples_for (sources_driven ns) run in
    length-map (map pick xs) (drive guard n) ∙ length-map xs pick

-- ---- one network

-- the steps of one run on these frames
abbrev steps : (ns : Networks) (guard run : ℕ) (n : Network) (zs : List ℤ) (xs : List (List ℤ)) → List Frame
steps ns guard run n zs xs = solved_run n zs (inputs_for ns guard run n xs)

steps-append : (ns : Networks) (guard run : ℕ) (n : Network) (zs : List ℤ) (xs ys : List (List ℤ))
    → steps ns guard run n zs (xs ++ ys) ≡ steps ns guard run n zs xs ++ steps ns guard run n (at_end n zs (steps ns guard run n zs xs)) ys
steps-append ns guard run n zs xs ys =
    ap (solved_run n zs) (inputs-append ns guard run n xs ys)
    ∙ run-append n zs (inputs_for ns guard run n xs) (inputs_for ns guard run n ys)

length-steps : (ns : Networks) (guard run : ℕ) (n : Network) (zs : List ℤ) (xs : List (List ℤ)) → length (steps ns guard run n zs xs) ≡ length xs
length-steps ns guard run n zs xs = length-run n zs (inputs_for ns guard run n xs) ∙ length-inputs ns guard run n xs

steps-front : (ns : Networks) (guard run : ℕ) (n : Network) (zs : List ℤ) (xs ys : List (List ℤ)) (frame : ℕ) → frame < length xs
    → wave_in n (steps ns guard run n zs (xs ++ ys)) frame ≡ wave_in n (steps ns guard run n zs xs) frame
steps-front ns guard run n zs xs ys frame inside =
    let first = steps ns guard run n zs xs in
    ap (λ (ss : List Frame). wave_in n ss frame) (steps-append ns guard run n zs xs ys)
    ∙ wave_in-front n first (steps ns guard run n (at_end n zs first) ys) frame (rw length-steps inside)

steps-behind : (ns : Networks) (guard run : ℕ) (n : Network) (zs : List ℤ) (xs ys : List (List ℤ)) (frame : ℕ)
    → wave_in n (steps ns guard run n zs (xs ++ ys)) (length xs + frame)
    ≡ wave_in n (steps ns guard run n (at_end n zs (steps ns guard run n zs xs)) ys) frame
steps-behind ns guard run n zs xs ys frame =
    let first = steps ns guard run n zs xs in
    let more = steps ns guard run n (at_end n zs first) ys in
    ap (λ (ss : List Frame). wave_in n ss (length xs + frame)) (steps-append ns guard run n zs xs ys)
    ∙ ap (λ (k : ℕ). wave_in n (first ++ more) (k + frame)) (sym (length-steps ns guard run n zs xs))
    ∙ wave_in-behind n first more frame

end_steps : (ns : Networks) (guard run : ℕ) (n : Network) (zs : List ℤ) (xs ys : List (List ℤ))
    → at_end n zs (steps ns guard run n zs (xs ++ ys))
    ≡ at_end n (at_end n zs (steps ns guard run n zs xs)) (steps ns guard run n (at_end n zs (steps ns guard run n zs xs)) ys)
end_steps ns guard run n zs xs ys =
    ap (λ (es : List (ℕ → ℤ)). at_end n zs (solved_run n zs es)) (inputs-append ns guard run n xs ys)
    ∙ end-append n zs (inputs_for ns guard run n xs) (inputs_for ns guard run n ys)

-- ---- all networks

wave-front : (ns : Networks) (guard : ℕ) (zs : States) (xs ys : List (List ℤ)) (frame run : ℕ) → frame < length xs
    → wave_at ns (solved_family ns guard zs (xs ++ ys)) frame run ≡ wave_at ns (solved_family ns guard zs xs) frame run
wave-front (Ladder n) guard zs xs ys frame run inside = steps-front (Ladder n) guard run n (zs Whole run) xs ys frame inside
wave-front (Lattice a b) guard zs xs ys frame run inside =
    ap₂ (λ (v w : ℤ). v -ℤ w) (steps-front (Lattice a b) guard run b (zs B run) xs ys frame inside)
    (steps-front (Lattice a b) guard run a (zs A run) xs ys frame inside)

wave-behind : (ns : Networks) (guard : ℕ) (zs : States) (xs ys : List (List ℤ)) (frame run : ℕ)
    → wave_at ns (solved_family ns guard zs (xs ++ ys)) (length xs + frame) run
    ≡ wave_at ns (solved_family ns guard (states_behind ns guard zs xs) ys) frame run
wave-behind (Ladder n) guard zs xs ys frame run = steps-behind (Ladder n) guard run n (zs Whole run) xs ys frame
wave-behind (Lattice a b) guard zs xs ys frame run =
    ap₂ (λ (v w : ℤ). v -ℤ w) (steps-behind (Lattice a b) guard run b (zs B run) xs ys frame)
    (steps-behind (Lattice a b) guard run a (zs A run) xs ys frame)

pub waves-append : (ns : Networks) (guard runs : ℕ) (zs : States) (xs ys : List (List ℤ))
    → waves_from ns guard runs zs (xs ++ ys) ≡ waves_from ns guard runs zs xs ++ waves_from ns guard runs (states_behind ns guard zs xs) ys
waves-append ns guard runs zs xs ys =
    let both = wave_at ns (solved_family ns guard zs (xs ++ ys)) in
    let late = λ (f : ℕ). both (length xs + f) in
    ap (λ (k : ℕ). waves_of ns k runs (solved_family ns guard zs (xs ++ ys))) (length-append xs ys)
    ∙ interleaved-append (length xs) (length ys) runs both
    ∙ ap₂ (λ (v w : List ℤ). v ++ w)
    (interleaved-same (length xs) runs both (wave_at ns (solved_family ns guard zs xs)) (λ f r below few. wave-front ns guard zs xs ys f r below))
    (interleaved-same (length ys) runs late (wave_at ns (solved_family ns guard (states_behind ns guard zs xs) ys)) (λ f r below few. wave-behind ns guard zs xs ys f r))

pub states-append : (ns : Networks) (guard : ℕ) (zs : States) (xs ys : List (List ℤ)) (side : Side) (run : ℕ)
    → states_behind ns guard zs (xs ++ ys) side run ≡ states_behind ns guard (states_behind ns guard zs xs) ys side run
states-append (Ladder n) guard zs xs ys Whole run = end_steps (Ladder n) guard run n (zs Whole run) xs ys
states-append (Ladder n) guard zs xs ys A run = refl
states-append (Ladder n) guard zs xs ys B run = refl
states-append (Lattice a b) guard zs xs ys Whole run = refl
states-append (Lattice a b) guard zs xs ys A run = end_steps (Lattice a b) guard run a (zs A run) xs ys
states-append (Lattice a b) guard zs xs ys B run = end_steps (Lattice a b) guard run b (zs B run) xs ys

-- whole frames in front are frames of their own
pub frames-append : (ns : Networks) (runs count : ℕ) (xs ys : List ℤ) → 0 < runs * sources_driven ns → length xs ≡ count * (runs * sources_driven ns)
    → frames_of ns runs (xs ++ ys) ≡ frames_of ns runs xs ++ frames_of ns runs ys
frames-append ns runs count xs ys some whole =
    let size = runs * sources_driven ns in
    let joined : length (xs ++ ys) ≡ count * size + length ys = length-append xs ys ∙ ap (λ (k : ℕ). k + length ys) whole in
    let split : length (xs ++ ys) / size ≡ count + length ys / size = ap (λ (k : ℕ). k / size) joined ∙ mul-add-div_right some count (length ys) in
    let alone : length xs / size ≡ count = ap (λ (k : ℕ). k / size) whole ∙ mul-div_cancel count some in
    ap (λ (k : ℕ). pieces k size (xs ++ ys)) split
    ∙ pieces-append count (length ys / size) size xs ys whole
    ∙ ap (λ (k : ℕ). pieces k size xs ++ pieces (length ys / size) size ys) (sym alone)
