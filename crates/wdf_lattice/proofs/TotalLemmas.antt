-- The accounts of samples tell the totals of every reference run on them.
use Rattle.std.proofs.Common.{◌≡◌, ℕ, ◌<◌, Bool, true, false, nat_lt, if◌then◌else◌, List, Option, Some, None, refl, sym, ap, ◌∙◌, subst}
use Rattle.std.specs.Prelude.{ℤ, option_map}
use Rattle.std.proofs.lemmas.Bool.{lt-ltb, le-ltb}
use Rattle.wdf_law.specs.declared.side.Side.{Side}
use Rattle.wdf_law.specs.declared.side.Side.TheVariants.{Whole, A, B}
use Rattle.wdf_law.specs.Network.{Network}
use Rattle.wdf_law.specs.Step.{Frame}
use Rattle.wdf_law.specs.Run.{IsRun, at_rest}
use Rattle.wdf_law.specs.Laws.{HasOneStep}
use Rattle.wdf_law.specs.Solved.{solved_run}
use Rattle.wdf_energy.specs.declared.totals.Totals.{Totals}
use Rattle.wdf_energy.specs.Totals.{run_totals}
use Rattle.wdf_energy.specs.Accounts.{AccountOf, all_noted, opened, totals_of}
use Rattle.wdf_energy.specs.LedgerLaws.{TellsRuns}
use Rattle.wdf_lattice.specs.declared.networks.Networks.{Networks}
use Rattle.wdf_lattice.specs.declared.networks.Networks.TheVariants.{Ladder, Lattice}
use Rattle.wdf_lattice.specs.Sides.{network_at}
use Rattle.wdf_lattice.specs.Waves.{frames_of, inputs_for}
use Rattle.wdf_lattice.specs.SideAccounts.{Accounts}
use Rattle.wdf_lattice.specs.RunnerLaws.{AreAccountsOf}
use Rattle.wdf_lattice.specs.TotalLaws.{TellsTotals}

-- what is told of each network
record Tells (n : Network) : Type 0 where
  one : HasOneStep n
  runs : TellsRuns n

abbrev AllTell : Networks → Type 0
AllTell (Ladder n) = Tells n
AllTell (Lattice a b) = Tells a × Tells b

-- the account of the solved run has the totals of any
solved_totals : (n : Network) (es : List (ℕ → ℤ)) (steps : List Frame) → Tells n → IsRun n (at_rest n) es steps
    → totals_of n (all_noted n es (solved_run n (at_rest n) es) (opened n)) ≡ run_totals n es steps
solved_totals n es steps told run =
    ap (λ (ss : List Frame). totals_of n (all_noted n es ss (opened n))) (sym (told.one.only_run (at_rest n) es steps run)) ∙ told.runs.totals es steps run

-- whatever name the network has
side_totals : (ns : Networks) (n m : Network) (guard run : ℕ) (frames : List (List ℤ)) (a : AccountOf) (steps : List Frame) → Tells n → Some n ≡ Some m
    → a ≡ all_noted n (inputs_for ns guard run n frames) (solved_run n (at_rest n) (inputs_for ns guard run n frames)) (opened n)
    → IsRun m (at_rest m) (inputs_for ns guard run m frames) steps → Some (totals_of n a) ≡ Some (run_totals m (inputs_for ns guard run m frames) steps)
side_totals ns n m guard run frames a steps told there is steps_are =
    let same : n ≡ m = cc in
    let here : IsRun n (at_rest n) (inputs_for ns guard run n frames) steps
    = subst (λ (k : Network). IsRun k (at_rest k) (inputs_for ns guard run k frames) steps) (sym same) steps_are in
    ap (λ (t : Totals). Some t) (ap (totals_of n) is ∙ solved_totals n (inputs_for ns guard run n frames) steps told here)
    ∙ ap (λ (k : Network). Some (run_totals k (inputs_for ns guard run k frames) steps)) same

-- where there is such a run
run_told : (ns : Networks) → AllTell ns → (guard runs : ℕ) (samples : List ℤ) (accounts : Accounts) → AreAccountsOf ns guard runs samples accounts
    → (side : Side) (n : Network) → network_at ns side ≡ Some n → (run : ℕ) → run < runs
    → (steps : List Frame) → IsRun n (at_rest n) (inputs_for ns guard run n (frames_of ns runs samples)) steps
    → option_map (λ (m : Network). totals_of m (accounts side run)) (network_at ns side) ≡ Some (run_totals n (inputs_for ns guard run n (frames_of ns runs samples)) steps)
run_told (Ladder n) told guard runs samples accounts are Whole m there run few steps steps_are =
    side_totals (Ladder n) n m guard run (frames_of (Ladder n) runs samples) (accounts Whole run) steps told there (are Whole run few) steps_are
run_told (Ladder n) told guard runs samples accounts are A m there run few steps steps_are = absurd (cc)
run_told (Ladder n) told guard runs samples accounts are B m there run few steps steps_are = absurd (cc)
run_told (Lattice a b) told guard runs samples accounts are Whole m there run few steps steps_are = absurd (cc)
run_told (Lattice a b) told guard runs samples accounts are A m there run few steps steps_are =
    side_totals (Lattice a b) a m guard run (frames_of (Lattice a b) runs samples) (accounts A run) steps told.0 there (are A run few) steps_are
run_told (Lattice a b) told guard runs samples accounts are B m there run few steps steps_are =
    side_totals (Lattice a b) b m guard run (frames_of (Lattice a b) runs samples) (accounts B run) steps told.1 there (are B run few) steps_are

-- nothing where the form has no such side
none_either : (b : Bool) (x : Option Totals) → x ≡ None → (if b then x else None) ≡ None
none_either b x none = by b
  where
    by : (c : Bool) → (if c then x else None) ≡ None
    by true = none
    by false = refl

tells : (ns : Networks) → AllTell ns → TellsTotals ns
tells ns told guard runs samples accounts are = record {
  each = λ side n there run few steps steps_are.
      ap (λ (b : Bool). if b then option_map (λ (m : Network). totals_of m (accounts side run)) (network_at ns side) else None) (lt-ltb run runs few)
      ∙ run_told ns told guard runs samples accounts are side n there run few steps steps_are;
  no_side = λ side run none. none_either (nat_lt run runs) (option_map (λ (m : Network). totals_of m (accounts side run)) (network_at ns side))
      (ap (option_map (λ (m : Network). totals_of m (accounts side run))) none);
  no_run = λ side run few.
      ap (λ (b : Bool). if b then option_map (λ (m : Network). totals_of m (accounts side run)) (network_at ns side) else None) (le-ltb run runs few);
}

pub tells_ladder : (n : Network) → HasOneStep n → TellsRuns n → TellsTotals (Ladder n)
tells_ladder n one runs = tells (Ladder n) (record { one = one; runs = runs })

pub tells_lattice : (a b : Network) → HasOneStep a → HasOneStep b → TellsRuns a → TellsRuns b → TellsTotals (Lattice a b)
tells_lattice a b one_a one_b runs_a runs_b = tells (Lattice a b) (record { one = one_a; runs = runs_a }, record { one = one_b; runs = runs_b })
