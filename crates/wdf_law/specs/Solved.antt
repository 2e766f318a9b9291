-- The step and the run of a network, solved: the up waves from the leaves to the root, and then the waves down.
use Rattle.std.specs.Prelude.{ℕ, ◌-◌, ℤ, pos, neg_ℤ, Bool, List, [], ◌∷◌}
use Rattle.wdf_algebra.specs.JunctionValues.{series_value, series_part, parallel_value, parallel_part, root_value}
use Rattle.wdf_algebra.specs.Truncation.{trunc}
use Rattle.wdf_law.specs.declared.kind.Kind.{Kind}
use Rattle.wdf_law.specs.declared.kind.Kind.TheVariants.{Res, Cap, Ind, Src}
use Rattle.wdf_law.specs.Trees.{AdaptorTree, leaf, series, parallel}
use Rattle.wdf_law.specs.Network.{Network, unit_of}
use Rattle.wdf_law.specs.Elements.{signed}
use Rattle.wdf_law.specs.Step.{Waves, ends, forks, Frame, after}
use Rattle.wdf_law.specs.Run.{states}

-- what an element reflects
abbrev pub reflected : Kind → Bool → ℤ → ℤ → ℤ
reflected Res flip x e = pos 0
reflected Src flip x e = signed flip e
reflected Cap flip x e = x
reflected Ind flip x e = neg_ℤ x

-- the up wave of a tree
abbrev pub ups : ℕ → (ℕ → ℤ) → (ℕ → ℤ) → AdaptorTree → ℤ
ups q x e (leaf i k flip) = reflected k flip (x i) (e i)
ups q x e (series m l r) = trunc (series_value q (ups q x e l) (ups q x e r)) q
ups q x e (parallel m l r) = trunc (parallel_value m (q - m) (ups q x e l) (ups q x e r)) q

-- its waves where it is sent d
abbrev pub waves : ℕ → (ℕ → ℤ) → (ℕ → ℤ) → AdaptorTree → ℤ → Waves
waves q x e (leaf i k flip) d = ends (reflected k flip (x i) (e i)) d
waves q x e (series m l r) d =
    let u1 = ups q x e l in
    let u2 = ups q x e r in
    let b1 = series_part q m u1 u2 d u1 in
    let b2 = series_part q (q - m) u1 u2 d u2 in
    forks (trunc (series_value q u1 u2) q) d b1 b2 (series_value q u1 u2) (waves q x e l (trunc b1 q)) (waves q x e r (trunc b2 q))
waves q x e (parallel m l r) d =
    let u1 = ups q x e l in
    let u2 = ups q x e r in
    let b1 = parallel_part q m (q - m) u1 u2 d u1 in
    let b2 = parallel_part q m (q - m) u1 u2 d u2 in
    forks (trunc (parallel_value m (q - m) u1 u2) q) d b1 b2 (parallel_value m (q - m) u1 u2) (waves q x e l (trunc b1 q)) (waves q x e r (trunc b2 q))

-- the whole step
abbrev pub solved : Network → (ℕ → ℤ) → (ℕ → ℤ) → Frame
solved n x e =
    let q = unit_of n in
    let u1 = ups q x e n.left in
    let u2 = ups q x e n.right in
    let b1 = root_value q n.m (q - n.m) u1 u2 u1 in
    let b2 = root_value q n.m (q - n.m) u1 u2 u2 in
    record { b1 = b1; b2 = b2; left = waves q x e n.left (trunc b1 q); right = waves q x e n.right (trunc b2 q) }

-- the steps of a run from the states zs
abbrev pub solved_run : Network → List ℤ → List (ℕ → ℤ) → List Frame
solved_run n zs [] = []
solved_run n zs (e ∷ es) =
    let s = solved n (states n zs) e in
    s ∷ solved_run n (after n s) es
