-- The reference run: step after step, each from the state that the one before left.
use Rattle.std.specs.Prelude.{ℕ, ℤ, pos, ◌==◌, if◌then◌else◌, List, [], ◌∷◌, map}
use Rattle.wdf_law.specs.Network.{Network, reactances, source_numbers}
use Rattle.wdf_law.specs.Step.{Frame, IsStep, after}

-- what a list of values by the list of its keys has at a key, 0 where it has none
abbrev pub entry : List ℕ → List ℤ → ℕ → ℤ
entry [] zs i = pos 0
entry (k ∷ ks) [] i = pos 0
entry (k ∷ ks) (z ∷ zs) i = if k == i then z else entry ks zs i

-- the states by the element's number, from their list in netlist order
abbrev pub states : Network → List ℤ → ℕ → ℤ
states n zs = entry (reactances n) zs

-- the sources' values by the element's number, from their list in netlist order: the first is that of source 0
abbrev pub source_values : Network → List ℤ → ℕ → ℤ
source_values n es = entry (source_numbers n) es

-- at rest every state is 0
abbrev pub at_rest : Network → List ℤ
at_rest n = map (λ (i : ℕ). pos 0) (reactances n)

-- a run from the states zs: one frame for each input, which gives each source its value
abbrev pub IsRun : Network → List ℤ → List (ℕ → ℤ) → List Frame → Type 0
IsRun n zs [] [] = Unit {0}
IsRun n zs [] (s ∷ ss) = ⊥
IsRun n zs (e ∷ es) [] = ⊥
IsRun n zs (e ∷ es) (s ∷ ss) = IsStep n (states n zs) e s × IsRun n (after n s) es ss

-- the states at the end of a run from the states zs
abbrev pub at_end : Network → List ℤ → List Frame → List ℤ
at_end n zs [] = zs
at_end n zs (s ∷ ss) = at_end n (after n s) ss
