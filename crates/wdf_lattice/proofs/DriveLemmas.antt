-- What the samples of a block send into a run, frame by frame.
use Rattle.std.proofs.Common.{◌≡◌, ℕ, ◌+◌, ◌-◌, ◌*◌, ◌<◌, ◌≤◌, List, [], length, take, drop, map, ap, ◌∙◌, arith}
use Rattle.std.specs.Prelude.{ℤ, pos}
use Rattle.std.proofs.Math.Nat.{mul-le-mul_right}
use Rattle.std.proofs.lemmas.List.{drop-drop, drop-take, get_or-map, length-map, take-take}
use Rattle.std.proofs.lemmas.List.FromFn.{fill_by_all}
use Rattle.wdf_algebra.specs.Pieces.{pieces}
use Rattle.wdf_algebra.proofs.PieceLemmas.{get_or-pieces, length-pieces}
use Rattle.wdf_law.specs.Network.{Network}
use Rattle.wdf_law.specs.OutputRule.{drive}
use Rattle.wdf_law.specs.RunOutputs.{inputs}
use Rattle.wdf_loop.specs.RunFrames.{samples_of}
use Rattle.wdf_lattice.specs.Waves.{samples_for}
use Rattle.wdf_lattice.proofs.SequenceLemmas.{driven_from}

-- a run's samples of a frame are those at their place in the block
pub run_samples : (runs sources run frame : ℕ) (input : List ℤ) → run < runs
    → samples_for sources run (take (runs * sources) (drop (frame * (runs * sources)) input)) ≡ samples_of runs sources run frame input
run_samples runs sources run frame input few =
    let most : (run + 1) * sources ≤ runs * sources = mul-le-mul_right sources (omega arith) in
    let split : runs * sources ≡ run * sources + (runs * sources - run * sources) = omega (arith, most) in
    let whole = drop (frame * (runs * sources)) input in
    let place : frame * (runs * sources) + run * sources ≡ (frame * runs + run) * sources = grind arith in
    ap (take sources)
    (ap (λ (k : ℕ). drop (run * sources) (take k whole)) split ∙ drop-take (run * sources) (runs * sources - run * sources) whole)
    ∙ (take-take sources (runs * sources - run * sources) (drop (run * sources) whole) (omega (arith, most))
    ∙ ap (take sources) (drop-drop (run * sources) (frame * (runs * sources)) input ∙ ap (λ (k : ℕ). drop k input) place))

-- so the frames of a block drive it by its samples
pub drives_are : (n : Network) (guard runs sources run count : ℕ) (input : List ℤ) → run < runs
    → inputs guard n (map (samples_for sources run) (pieces count (runs * sources) input)) ≡ driven_from n guard (λ (f : ℕ). samples_of runs sources run f input) 0 count
drives_are n guard runs sources run count input few =
    let frames = pieces count (runs * sources) input in
    let pick = samples_for sources run in
    let long : length frames ≡ count = length-pieces count (runs * sources) input in
    let picked : length (map pick frames) ≡ count = length-map frames pick ∙ long in
    fill_by_all (λ (f : ℕ). drive guard n (samples_of runs sources run f input)) (inputs guard n (map pick frames)) count (λ (i : ℕ). pos 0)
    (length-map (map pick frames) (drive guard n) ∙ picked)
    (λ f below.
    get_or-map (drive guard n) (map pick frames) f [] (λ (i : ℕ). pos 0) (omega (arith, picked, below))
    ∙ ap (drive guard n)
    (get_or-map pick frames f [] [] (omega (arith, long, below))
    ∙ (ap pick (get_or-pieces count (runs * sources) f input [] below) ∙ run_samples runs sources run f input few)))
