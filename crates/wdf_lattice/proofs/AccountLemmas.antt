-- The accounts of runs grow with their frames.
use Rattle.std.proofs.Common.{◌≡◌, ℕ, List, [], ◌∷◌, ◌++◌, map, refl, sym, ap, ◌∙◌}
use Rattle.std.specs.Prelude.{ℤ}
use Rattle.wdf_law.specs.declared.side.Side.{Side}
use Rattle.wdf_law.specs.declared.side.Side.TheVariants.{Whole, A, B}
use Rattle.wdf_law.specs.Network.{Network, source_numbers}
use Rattle.wdf_law.specs.Step.{sent_in, after}
use Rattle.wdf_law.specs.Run.{states, at_end}
use Rattle.wdf_law.specs.Solved.{solved, solved_run}
use Rattle.wdf_energy.specs.Accounts.{AccountOf, noted, all_noted}
use Rattle.wdf_lattice.specs.declared.networks.Networks.{Networks}
use Rattle.wdf_lattice.specs.declared.networks.Networks.TheVariants.{Ladder, Lattice}
use Rattle.wdf_lattice.specs.Waves.{inputs_for}
use Rattle.wdf_lattice.specs.SolvedWaves.{States, of_side, states_behind}
use Rattle.wdf_lattice.specs.SideAccounts.{Accounts, account_with, accounts_behind}
use Rattle.wdf_lattice.specs.Runners.{NoteOver, RunOver}
use Rattle.wdf_lattice.proofs.WaveLemmas.{inputs-append}

noted-append : (n : Network) (zs : List ℤ) (es fs : List (ℕ → ℤ)) (a : AccountOf)
    → all_noted n (es ++ fs) (solved_run n zs (es ++ fs)) a
    ≡ all_noted n fs (solved_run n (at_end n zs (solved_run n zs es)) fs) (all_noted n es (solved_run n zs es) a)
noted-append n zs [] fs a = refl
noted-append n zs (e ∷ es) fs a =
    let s = solved n (states n zs) e in
    noted-append n (after n s) es fs (noted n (map e (source_numbers n)) (sent_in n s) a)

run-noted : (ns : Networks) (guard run : ℕ) (n : Network) (zs : List ℤ) (xs ys : List (List ℤ)) (a : AccountOf)
    → all_noted n (inputs_for ns guard run n (xs ++ ys)) (solved_run n zs (inputs_for ns guard run n (xs ++ ys))) a
    ≡ all_noted n (inputs_for ns guard run n ys) (solved_run n (at_end n zs (solved_run n zs (inputs_for ns guard run n xs))) (inputs_for ns guard run n ys))
    (all_noted n (inputs_for ns guard run n xs) (solved_run n zs (inputs_for ns guard run n xs)) a)
run-noted ns guard run n zs xs ys a =
    ap (λ (es : List (ℕ → ℤ)). all_noted n es (solved_run n zs es) a) (inputs-append ns guard run n xs ys)
    ∙ noted-append n zs (inputs_for ns guard run n xs) (inputs_for ns guard run n ys) a

pub accounts-append : (ns : Networks) (guard : ℕ) (zs : States) (before : Accounts) (xs ys : List (List ℤ)) (side : Side) (run : ℕ)
    → accounts_behind ns guard zs before (xs ++ ys) side run
    ≡ accounts_behind ns guard (states_behind ns guard zs xs) (accounts_behind ns guard zs before xs) ys side run
accounts-append (Ladder n) guard zs before xs ys Whole run = run-noted (Ladder n) guard run n (zs Whole run) xs ys (before Whole run)
accounts-append (Ladder n) guard zs before xs ys A run = refl
accounts-append (Ladder n) guard zs before xs ys B run = refl
accounts-append (Lattice a b) guard zs before xs ys Whole run = refl
accounts-append (Lattice a b) guard zs before xs ys A run = run-noted (Lattice a b) guard run a (zs A run) xs ys (before A run)
accounts-append (Lattice a b) guard zs before xs ys B run = run-noted (Lattice a b) guard run b (zs B run) xs ys (before B run)

-- states and accounts that agree give the same
pub accounts_agree : (ns : Networks) (guard : ℕ) (zs ys : States) (before other : Accounts) (frames : List (List ℤ)) (side : Side) (run : ℕ)
    → ys side run ≡ zs side run → other side run ≡ before side run
    → accounts_behind ns guard ys other frames side run ≡ accounts_behind ns guard zs before frames side run
accounts_agree ns guard zs ys before other frames side run same alike = λ i.
    account_with ns side (λ (n : Network). all_noted n (inputs_for ns guard run n frames)
    (of_side ns side (λ (m : Network). solved_run m (same i) (inputs_for ns guard run m frames))) (alike i))

-- they take the frames of one list, and then those of the next
pub note_more : (ns : Networks) (guard runs : ℕ) (zs ys : States) (before now behind : Accounts) (xs fs : List (List ℤ)) (ws : List ℤ)
    → RunOver ns guard runs zs ys xs ws → NoteOver ns guard runs zs before now xs → NoteOver ns guard runs ys now behind fs → NoteOver ns guard runs zs before behind (xs ++ fs)
note_more ns guard runs zs ys before now behind xs fs ws over front next side run few =
    next side run few
    ∙ (accounts_agree ns guard (states_behind ns guard zs xs) ys (accounts_behind ns guard zs before xs) now fs side run (over.states_are side run few) (front side run few)
    ∙ sym (accounts-append ns guard zs before xs fs side run))
