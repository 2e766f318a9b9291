-- From every state and for every input there is one step, the solved one.
use Rattle.std.proofs.Common.{◌≡◌, ℕ, ◌-◌, ◌<◌, refl, List, [], ◌∷◌, ap, sym, ◌∙◌, subst}
use lib.IntN.{ℤ}
use Rattle.wdf_algebra.specs.JunctionValues.{series_value, series_part, parallel_value, parallel_part, root_value}
use Rattle.wdf_algebra.specs.Truncation.{trunc}
use Rattle.wdf_law.specs.Trees.{AdaptorTree, leaf, series, parallel}
use Rattle.wdf_law.specs.Network.{Network, IsNetwork, unit_of}
use Rattle.wdf_law.specs.Conductance.{conductance, series_first, series_second, parallel_first, parallel_second, left_factor, right_factor}
use Rattle.wdf_law.specs.Junction.{IsParallel, IsSeries, IsRoot, Truncates}
use Rattle.wdf_law.specs.Step.{Waves, ends, forks, up_wave, down_wave, Follows, Frame, IsStep, after}
use Rattle.wdf_law.specs.Run.{states, IsRun, at_rest}
use Rattle.wdf_law.specs.RunOutputs.{inputs, outputs}
use Rattle.wdf_law.specs.Solved.{ups, waves, solved, solved_run}
use Rattle.wdf_law.specs.Laws.{HasOneStep, HasOneOutput}
use Rattle.wdf_law.specs.TreeRules.{IsSound, HasSoundTrees}
use Rattle.wdf_law.proofs.ConductanceLemmas.{sound_trees, conductance-pos, series_first-pos, series_second-pos, parallel_first-pos, parallel_second-pos, left_factor-pos, right_factor-pos, series_law, parallel_law, root_law, whole_of}
use Rattle.wdf_law.proofs.ElementLemmas.{reflects, reflected-meets}
use Rattle.wdf_law.proofs.StateLemmas.{states-after}
use Rattle.wdf_law.proofs.JunctionLemmas.{parallel_solved, parallel_alone, series_solved, series_alone, root_solved, root_alone_first, root_alone_second}

pub up_wave-waves : (q : ℕ) (x e : ℕ → ℤ) (t : AdaptorTree) (d : ℤ) → up_wave (waves q x e t d) ≡ ups q x e t
up_wave-waves q x e (leaf i k flip) d = refl
up_wave-waves q x e (series m l r) d = refl
up_wave-waves q x e (parallel m l r) d = refl

pub down_wave-waves : (q : ℕ) (x e : ℕ → ℤ) (t : AdaptorTree) (d : ℤ) → down_wave (waves q x e t d) ≡ d
down_wave-waves q x e (leaf i k flip) d = refl
down_wave-waves q x e (series m l r) d = refl
down_wave-waves q x e (parallel m l r) d = refl

-- what holds of the solved up waves of two trees holds of those of their waves
of_ups : (P : ℤ → ℤ → Type 0) (q : ℕ) (x e : ℕ → ℤ) (l r : AdaptorTree) (d1 d2 : ℤ) → P (ups q x e l) (ups q x e r)
    → P (up_wave (waves q x e l d1)) (up_wave (waves q x e r d2))
of_ups P q x e l r d1 d2 h =
    subst (λ (v : ℤ). P v (up_wave (waves q x e r d2))) (sym (up_wave-waves q x e l d1)) (subst (P (ups q x e l)) (sym (up_wave-waves q x e r d2)) h)

-- the solved values are truncated as they leave their junction
truncates : (q : ℕ) (x e : ℕ → ℤ) (l r : AdaptorTree) (b1 b2 b : ℤ)
    → Truncates q (trunc b q) (down_wave (waves q x e l (trunc b1 q))) (down_wave (waves q x e r (trunc b2 q))) b1 b2 b
truncates q x e l r b1 b2 b = record { first = down_wave-waves q x e l (trunc b1 q); second = down_wave-waves q x e r (trunc b2 q); up = refl }

-- the solved waves meet every law
pub follows : (q f : ℕ) (x e : ℕ → ℤ) (t : AdaptorTree) (d : ℤ) → 0 < q → 0 < f → IsSound q t → Follows q x e f t (waves q x e t d)
follows q f x e (leaf i k flip) d unit some s = reflected-meets k flip (x i) (e i) d
follows q f x e (series m l r) d unit some s =
    let u1 = ups q x e l in
    let u2 = ups q x e r in
    let b1 = series_part q m u1 u2 d u1 in
    let b2 = series_part q (q - m) u1 u2 d u2 in
    let g1 = conductance q (series_first q f m r) l in
    let g2 = conductance q (series_second q f m l) r in
    let first = series_first-pos q f m r unit some s.1 s.3 in
    let second = series_second-pos q f m l unit some s.0 s.2 in (
      of_ups (λ (v1 v2 : ℤ). IsSeries q g1 g2 (conductance q f (series m l r)) v1 v2 d b1 b2 (series_value q u1 u2)) q x e l r (trunc b1 q) (trunc b2 q)
          (series_solved q m (q - m) _ _ _ u1 u2 d (conductance-pos q (series_first q f m r) l unit first s.2) (whole_of q m s.1) (series_law q f m l r s.1)),
      truncates q x e l r b1 b2 (series_value q u1 u2),
      follows q (series_first q f m r) x e l (trunc b1 q) unit first s.2,
      follows q (series_second q f m l) x e r (trunc b2 q) unit second s.3,
    )
follows q f x e (parallel m l r) d unit some s =
    let u1 = ups q x e l in
    let u2 = ups q x e r in
    let b1 = parallel_part q m (q - m) u1 u2 d u1 in
    let b2 = parallel_part q m (q - m) u1 u2 d u2 in
    let g1 = conductance q (parallel_first q f m r) l in
    let g2 = conductance q (parallel_second q f m l) r in
    let first = parallel_first-pos q f m r unit some s.0 s.3 in
    let second = parallel_second-pos q f m l unit some s.1 s.2 in (
      of_ups (λ (v1 v2 : ℤ). IsParallel q g1 g2 (conductance q f (parallel m l r)) v1 v2 d b1 b2 (parallel_value m (q - m) u1 u2)) q x e l r (trunc b1 q) (trunc b2 q)
          (parallel_solved q m (q - m) _ _ _ u1 u2 d (whole_of q m s.1) (parallel_law q f m l r s.1)),
      truncates q x e l r b1 b2 (parallel_value m (q - m) u1 u2),
      follows q (parallel_first q f m r) x e l (trunc b1 q) unit first s.2,
      follows q (parallel_second q f m l) x e r (trunc b2 q) unit second s.3,
    )

-- what a junction's waves are where its parts' are the solved ones and its values are p1, p2 and p
only_forks : (q : ℕ) (x e : ℕ → ℤ) (l r : AdaptorTree) (u d b1 b2 b p1 p2 p : ℤ) (wl wr : Waves)
    → wl ≡ waves q x e l (down_wave wl) → wr ≡ waves q x e r (down_wave wr) → Truncates q u (down_wave wl) (down_wave wr) b1 b2 b → b1 ≡ p1 → b2 ≡ p2 → b ≡ p
    → forks u d b1 b2 b wl wr ≡ forks (trunc p q) d p1 p2 p (waves q x e l (trunc p1 q)) (waves q x e r (trunc p2 q))
only_forks q x e l r u d b1 b2 b p1 p2 p wl wr left right cut e1 e2 e0 =
    let own : u ≡ trunc p q = cut.up ∙ ap (λ (v : ℤ). trunc v q) e0 in
    let below1 : wl ≡ waves q x e l (trunc p1 q) = left ∙ ap (waves q x e l) (cut.first ∙ ap (λ (v : ℤ). trunc v q) e1) in
    let below2 : wr ≡ waves q x e r (trunc p2 q) = right ∙ ap (waves q x e r) (cut.second ∙ ap (λ (v : ℤ). trunc v q) e2) in
    λ i. forks (own i) d (e1 i) (e2 i) (e0 i) (below1 i) (below2 i)

-- the up wave of solved waves
up_is : (q : ℕ) (x e : ℕ → ℤ) (t : AdaptorTree) (w : Waves) → w ≡ waves q x e t (down_wave w) → up_wave w ≡ ups q x e t
up_is q x e t w h = ap up_wave h ∙ up_wave-waves q x e t (down_wave w)

-- waves that meet every law are the solved ones
pub alone : (q f : ℕ) (x e : ℕ → ℤ) (t : AdaptorTree) (w : Waves) → 0 < q → 0 < f → IsSound q t → Follows q x e f t w → w ≡ waves q x e t (down_wave w)
alone q f x e (leaf i k flip) (ends u d) unit some s h = ap (λ (v : ℤ). ends v d) (reflects k flip (x i) (e i) u d h)
alone q f x e (leaf i k flip) (forks u d b1 b2 b wl wr) unit some s h = absurd h
alone q f x e (series m l r) (ends u d) unit some s h = absurd h
alone q f x e (series m l r) (forks u d b1 b2 b wl wr) unit some s h =
    let first = series_first-pos q f m r unit some s.1 s.3 in
    let second = series_second-pos q f m l unit some s.0 s.2 in
    let left = alone q (series_first q f m r) x e l wl unit first s.2 h.2 in
    let right = alone q (series_second q f m l) x e r wr unit second s.3 h.3 in
    let u1 = up_is q x e l wl left in
    let u2 = up_is q x e r wr right in
    let is = series_alone q m (q - m) (conductance q (series_first q f m r) l) (conductance q (series_second q f m l) r) (conductance q f (series m l r))
    (up_wave wl) (up_wave wr) d b1 b2 b unit (conductance-pos q (series_first q f m r) l unit first s.2) (conductance-pos q (series_second q f m l) r unit second s.3)
    (whole_of q m s.1) (series_law q f m l r s.1) h.0 in
    only_forks q x e l r u d b1 b2 b (series_part q m (ups q x e l) (ups q x e r) d (ups q x e l)) (series_part q (q - m) (ups q x e l) (ups q x e r) d (ups q x e r))
    (series_value q (ups q x e l) (ups q x e r)) wl wr left right h.1 (is.first ∙ (λ i. series_part q m (u1 i) (u2 i) d (u1 i)))
    (is.second ∙ (λ i. series_part q (q - m) (u1 i) (u2 i) d (u2 i))) (is.own ∙ (λ i. series_value q (u1 i) (u2 i)))
alone q f x e (parallel m l r) (ends u d) unit some s h = absurd h
alone q f x e (parallel m l r) (forks u d b1 b2 b wl wr) unit some s h =
    let first = parallel_first-pos q f m r unit some s.0 s.3 in
    let second = parallel_second-pos q f m l unit some s.1 s.2 in
    let left = alone q (parallel_first q f m r) x e l wl unit first s.2 h.2 in
    let right = alone q (parallel_second q f m l) x e r wr unit second s.3 h.3 in
    let u1 = up_is q x e l wl left in
    let u2 = up_is q x e r wr right in
    let is = parallel_alone q m (q - m) (conductance q (parallel_first q f m r) l) (conductance q (parallel_second q f m l) r) (conductance q f (parallel m l r))
    (up_wave wl) (up_wave wr) d b1 b2 b (conductance-pos q f (parallel m l r) unit some s) (whole_of q m s.1) (parallel_law q f m l r s.1) h.0 in
    only_forks q x e l r u d b1 b2 b (parallel_part q m (q - m) (ups q x e l) (ups q x e r) d (ups q x e l)) (parallel_part q m (q - m) (ups q x e l) (ups q x e r) d (ups q x e r))
    (parallel_value m (q - m) (ups q x e l) (ups q x e r)) wl wr left right h.1 (is.first ∙ (λ i. parallel_part q m (q - m) (u1 i) (u2 i) d (u1 i)))
    (is.second ∙ (λ i. parallel_part q m (q - m) (u1 i) (u2 i) d (u2 i))) (is.own ∙ (λ i. parallel_value m (q - m) (u1 i) (u2 i)))

-- ---- a network

pub solved-steps : (n : Network) → HasSoundTrees n → (x e : ℕ → ℤ) → IsStep n x e (solved n x e)
solved-steps n s x e =
    let q = unit_of n in
    let u1 = ups q x e n.left in
    let u2 = ups q x e n.right in
    let b1 = root_value q n.m (q - n.m) u1 u2 u1 in
    let b2 = root_value q n.m (q - n.m) u1 u2 u2 in
    let g1 = conductance q (left_factor n) n.left in
    let g2 = conductance q (right_factor n) n.right in
    record {
      root = of_ups (λ (v1 v2 : ℤ). IsRoot q g1 g2 v1 v2 b1 b2) q x e n.left n.right (trunc b1 q) (trunc b2 q)
          (root_solved q n.m (q - n.m) g1 g2 u1 u2 (whole_of q n.m s.few) (root_law q n.m n.left n.right s.few));
      to_left = down_wave-waves q x e n.left (trunc b1 q);
      to_right = down_wave-waves q x e n.right (trunc b2 q);
      left = follows q (left_factor n) x e n.left (trunc b1 q) s.unit (left_factor-pos n s) s.left;
      right = follows q (right_factor n) x e n.right (trunc b2 q) s.unit (right_factor-pos n s) s.right;
    }

pub step-alone : (n : Network) → HasSoundTrees n → (x e : ℕ → ℤ) (f : Frame) → IsStep n x e f → f ≡ solved n x e
step-alone n s x e f step =
    let q = unit_of n in
    let g1 = conductance q (left_factor n) n.left in
    let g2 = conductance q (right_factor n) n.right in
    let left = alone q (left_factor n) x e n.left f.left s.unit (left_factor-pos n s) s.left step.left in
    let right = alone q (right_factor n) x e n.right f.right s.unit (right_factor-pos n s) s.right step.right in
    let u1 : up_wave f.left ≡ ups q x e n.left = ap up_wave left ∙ up_wave-waves q x e n.left (down_wave f.left) in
    let u2 : up_wave f.right ≡ ups q x e n.right = ap up_wave right ∙ up_wave-waves q x e n.right (down_wave f.right) in
    let some = conductance-pos q (left_factor n) n.left s.unit (left_factor-pos n s) s.left in
    let e1 : f.b1 ≡ root_value q n.m (q - n.m) (ups q x e n.left) (ups q x e n.right) (ups q x e n.left) =
    root_alone_first q n.m (q - n.m) g1 g2 (up_wave f.left) (up_wave f.right) f.b1 f.b2 some (whole_of q n.m s.few) (root_law q n.m n.left n.right s.few) step.root
    ∙ (λ i. root_value q n.m (q - n.m) (u1 i) (u2 i) (u1 i)) in
    let e2 : f.b2 ≡ root_value q n.m (q - n.m) (ups q x e n.left) (ups q x e n.right) (ups q x e n.right) =
    root_alone_second q n.m (q - n.m) g1 g2 (up_wave f.left) (up_wave f.right) f.b1 f.b2 some (whole_of q n.m s.few) (root_law q n.m n.left n.right s.few) step.root
    ∙ (λ i. root_value q n.m (q - n.m) (u1 i) (u2 i) (u2 i)) in
    let below1 = left ∙ ap (waves q x e n.left) (step.to_left ∙ ap (λ (v : ℤ). trunc v q) e1) in
    let below2 = right ∙ ap (waves q x e n.right) (step.to_right ∙ ap (λ (v : ℤ). trunc v q) e2) in
    λ i. record { b1 = e1 i; b2 = e2 i; left = below1 i; right = below2 i }

solved-runs : (n : Network) → HasSoundTrees n → (zs : List ℤ) (es : List (ℕ → ℤ)) → IsRun n zs es (solved_run n zs es)
solved-runs n s zs [] = tt
solved-runs n s zs (e ∷ es) = (solved-steps n s (states n zs) e, solved-runs n s (after n (solved n (states n zs) e)) es)

run-alone : (n : Network) → HasSoundTrees n → (zs : List ℤ) (es : List (ℕ → ℤ)) (ss : List Frame) → IsRun n zs es ss → ss ≡ solved_run n zs es
run-alone n s zs [] [] run = refl
run-alone n s zs [] (f ∷ ss) run = absurd run
run-alone n s zs (e ∷ es) [] run = absurd run
run-alone n s zs (e ∷ es) (f ∷ ss) run =
    let first = step-alone n s (states n zs) e f run.0 in
    let later : ss ≡ solved_run n (after n f) es = run-alone n s (after n f) es ss run.1 in
    (λ i. f ∷ later i) ∙ ap (λ (g : Frame). g ∷ solved_run n (after n g) es) first

pub has_one_step : (n : Network) → IsNetwork n → HasOneStep n
has_one_step n rules =
    let s = sound_trees n rules in
    record {
      some = λ zs e. (solved n (states n zs) e, solved-steps n s (states n zs) e);
      only = λ zs e f t h k. step-alone n s (states n zs) e f h ∙ sym (step-alone n s (states n zs) e t k);
      values = λ zs e. solved-steps n s (states n zs) e;
      run = solved-runs n s;
      only_run = run-alone n s;
      left_behind = λ f i h. states-after n f rules i h;
    }

pub has_one_output : (n : Network) → IsNetwork n → HasOneOutput n
has_one_output n rules =
    let s = sound_trees n rules in
    record {
      some = λ guard down_shift bits samples. record {
        run = (solved_run n (at_rest n) (inputs guard n samples), solved-runs n s (at_rest n) (inputs guard n samples));
        each = λ steps run. ap (outputs down_shift bits n) (run-alone n s (at_rest n) (inputs guard n samples) steps run);
      };
      only = λ guard down_shift bits samples values gives. sym (gives.each _ (solved-runs n s (at_rest n) (inputs guard n samples)));
    }
