-- The values with which a step begins.
use Rattle.std.proofs.Common.{◌≡◌, ℕ, Bool, true, if◌then◌else◌, length, refl, ap, ◌∙◌}
use Rattle.std.specs.Prelude.{ℤ}
use Rattle.wdf_law.specs.Trees.{AdaptorTree, leaf, series, parallel}
use Rattle.wdf_law.specs.Network.{unit_of, elements, has_leaf}
use Rattle.wdf_law.specs.TreeRules.{AreDisjoint, HasDistinctLeaves, HasNumbers}
use Rattle.wdf_law.specs.Solved.{reflected}
use Rattle.wdf_sched.specs.Operations.{Slots}
use Rattle.wdf_sched.specs.Meaning.{Reflects}
use Rattle.wdf_sched.specs.Carrying.{HasValues}
use Rattle.wdf_sched.specs.Schedules.{ScheduleValue, IsSchedule}
use Rattle.wdf_sched.proofs.LeafLemmas.{in_first, in_second, own_leaf}
use Rattle.wdf_sched.proofs.RunLemmas.{run-holds, run-agrees}

-- only the values at a tree's leaves count
reflects-same : (x e : ℕ → ℤ) (v w : Slots) (t : AdaptorTree) → ((i : ℕ) → has_leaf t i ≡ true → w i ≡ v i) → Reflects x e v t → Reflects x e w t
reflects-same x e v w (leaf i k flip) same h = same i (own_leaf i) ∙ h
reflects-same x e v w (series m l r) same h = (
  reflects-same x e v w l (λ i some. same i (in_first l r i some)) h.0,
  reflects-same x e v w r (λ i some. same i (in_second l r i some)) h.1,
)
reflects-same x e v w (parallel m l r) same h = (
  reflects-same x e v w l (λ i some. same i (in_first l r i some)) h.0,
  reflects-same x e v w r (λ i some. same i (in_second l r i some)) h.1,
)

-- what the leaf i reflects
abbrev pub leaf_value : (ℕ → ℤ) → (ℕ → ℤ) → AdaptorTree → Slots
leaf_value x e (leaf j k flip) i = reflected k flip (x j) (e j)
leaf_value x e (series m l r) i = if has_leaf l i then leaf_value x e l i else leaf_value x e r i
leaf_value x e (parallel m l r) i = if has_leaf l i then leaf_value x e l i else leaf_value x e r i

-- of two trees whose leaves are apart
two_trees : (x e : ℕ → ℤ) (l r : AdaptorTree) → AreDisjoint l r → Reflects x e (leaf_value x e l) l → Reflects x e (leaf_value x e r) r
    → Reflects x e (λ i. if has_leaf l i then leaf_value x e l i else leaf_value x e r i) l
    × Reflects x e (λ i. if has_leaf l i then leaf_value x e l i else leaf_value x e r i) r
two_trees x e l r apart h k = (
  reflects-same x e (leaf_value x e l) (λ i. if has_leaf l i then leaf_value x e l i else leaf_value x e r i) l
      (λ i some. ap (λ (b : Bool). if b then leaf_value x e l i else leaf_value x e r i) some) h,
  reflects-same x e (leaf_value x e r) (λ i. if has_leaf l i then leaf_value x e l i else leaf_value x e r i) r
      (λ i some. ap (λ (b : Bool). if b then leaf_value x e l i else leaf_value x e r i) (apart i some)) k,
)

leaf_value-reflects : (x e : ℕ → ℤ) (t : AdaptorTree) → HasDistinctLeaves t → Reflects x e (leaf_value x e t) t
leaf_value-reflects x e (leaf i k flip) apart = refl
leaf_value-reflects x e (series m l r) apart = two_trees x e l r apart.0 (leaf_value-reflects x e l apart.1) (leaf_value-reflects x e r apart.2)
leaf_value-reflects x e (parallel m l r) apart = two_trees x e l r apart.0 (leaf_value-reflects x e l apart.1) (leaf_value-reflects x e r apart.2)

pub has_values : (s : ScheduleValue) → IsSchedule s → HasNumbers s.net → HasValues s
has_values s rules numbers =
    let n = s.net in
    record {
      starts = λ x e. (
        λ i. if has_leaf n.left i then leaf_value x e n.left i else leaf_value x e n.right i,
        two_trees x e n.left n.right numbers.disjoint (leaf_value-reflects x e n.left numbers.left) (leaf_value-reflects x e n.right numbers.right),
      );
      some = λ v. run-holds (unit_of n) s.ops (length (elements n)) s.slot_count v rules.order;
      kept = λ x e v w same h. (
        reflects-same x e v w n.left (λ i some. same i (numbers.below i (in_first n.left n.right i some))) h.0,
        reflects-same x e v w n.right (λ i some. same i (numbers.below i (in_second n.left n.right i some))) h.1,
      );
      only = λ v w same h k. run-agrees (unit_of n) s.ops (length (elements n)) s.slot_count v w rules.order same h k;
    }
