-- One frame put together: the walk from the states before and the samples' inputs is the step, all its words are small, and
-- the stored energy stays within what the sources can have sent in.
use Rattle.std.proofs.Common.{◌≡◌, ℕ, ◌+◌, ◌<◌, ◌≤◌, Bool, true, false, ◌&&◌, ◌||◌, ◌==◌, List, [], ◌∷◌, length, refl, ap, sym, ◌∙◌, subst, arith}
use Rattle.std.specs.Prelude.{ℤ, unsigned_abs, All}
use Rattle.wdf_law.specs.declared.kind.Kind.{Kind}
use Rattle.wdf_law.specs.Trees.{LeafElement}
use Rattle.wdf_law.specs.Network.{Network, elements, has_element, has_kind, has_reactance, has_source, source_numbers, reactances, is_source}
use Rattle.wdf_law.specs.TreeRules.{HasNumbers}
use Rattle.wdf_law.specs.Laws.{HasOneStep}
use Rattle.wdf_law.specs.Step.{Frame, sent_in, after}
use Rattle.wdf_law.specs.Solved.{solved}
use Rattle.wdf_law.specs.Run.{states}
use Rattle.wdf_law.specs.OutputRule.{drive}
use Rattle.wdf_bounds.specs.Plans.{PlanOf, greatest_input}
use Rattle.wdf_bounds.specs.WordBound.{word_limit}
use Rattle.wdf_bounds.specs.HeldWords.{HoldsWords, IsFrameLimited, IsReached}
use Rattle.wdf_tree.specs.Numbers.{fed}
use Rattle.wdf_tree.specs.Passes.{IsPass}
use Rattle.wdf_tree.specs.Places.{at_place, gathered}
use Rattle.wdf_tree.specs.Walks.{placed_frame}
use Rattle.wdf_tree.proofs.AgreementLemmas.{solved_alike}
use Rattle.wdf_tree.proofs.FedLemmas.{fed_entry}
use Rattle.wdf_tree.proofs.PassLemmas.{entry_small, sent_in_small, passing_below, map_same}
use Rattle.wdf_tree.proofs.PlaceLemmas.{placed_sent}

-- an element of a kind is an element
pub kind_element : (is : Kind → Bool) (xs : List LeafElement) (i : ℕ) → has_kind is xs i ≡ true → has_element xs i ≡ true
kind_element is [] i h = h
kind_element is (x ∷ xs) i h = by (x.number == i) (is x.kind) (kind_element is xs i) h
  where
    by : (a b : Bool) → (has_kind is xs i ≡ true → has_element xs i ≡ true) → ((a && b) || has_kind is xs i) ≡ true → (a || has_element xs i) ≡ true
    by true b rest h = refl
    by false b rest h = rest h

-- each source has its own sample's value
fed_drives : (n : Network) (guard : ℕ) (zs xs : List ℤ) (i : ℕ) → HasNumbers n → length (elements n) ≤ length xs → length zs ≡ length (source_numbers n)
    → has_source (elements n) i ≡ true → at_place (fed guard (source_numbers n) zs xs) i ≡ drive guard n zs i
fed_drives n guard zs xs i numbers long each h =
    let small : i < length (elements n) = numbers.below i (kind_element is_source (elements n) i h) in
    fed_entry (has_source (elements n)) 0 (length (elements n)) guard zs xs i h (omega arith) (omega arith) (omega arith) each

-- so the walk has the waves of the step
pub walk_solves : (n : Network) (guard : ℕ) (zs before xs inputs : List ℤ) → HasNumbers n → length (elements n) ≤ length xs → length zs ≡ length (source_numbers n)
    → inputs ≡ fed guard (source_numbers n) zs xs → solved n (at_place before) (at_place inputs) ≡ solved n (states n (gathered n before)) (drive guard n zs)
walk_solves n guard zs before xs inputs numbers long each written =
    solved_alike n (at_place before) (at_place inputs) (states n (gathered n before)) (drive guard n zs)
    (λ i h. sym (numbers.listed (at_place before) i h))
    (λ i h. ap (λ (us : List ℤ). at_place us i) written ∙ fed_drives n guard zs xs i numbers long each h)

-- no input is larger than the plan's greatest
input_small : (n : Network) (plan : PlanOf) (zs : List ℤ) (i : ℕ) → All (λ (z : ℤ). unsigned_abs z ≤ plan.amp) zs → unsigned_abs (drive plan.guard n zs i) ≤ greatest_input plan
input_small n plan zs i h = entry_small plan.guard plan.amp i (source_numbers n) zs h

-- the step's words are within the limit
pub step_limited : (n : Network) (plan : PlanOf) (done : ℕ) (zs before : List ℤ) → HasOneStep n → HoldsWords n plan → done < plan.frames
    → All (λ (z : ℤ). unsigned_abs z ≤ plan.amp) zs → IsReached n plan done (gathered n before)
    → IsFrameLimited (word_limit plan) (solved n (states n (gathered n before)) (drive plan.guard n zs))
step_limited n plan done zs before one holds frames amplitude energy =
    let s = solved n (states n (gathered n before)) (drive plan.guard n zs) in
    holds.step done (gathered n before) (drive plan.guard n zs) s frames energy (λ i h. input_small n plan zs i amplitude) (one.values (gathered n before) (drive plan.guard n zs))

-- and the down waves behind it are the step's
pub pass_of : (n : Network) (plan : PlanOf) (done : ℕ) (zs before behind : List ℤ) (x e : ℕ → ℤ) → HasNumbers n → HasOneStep n → HoldsWords n plan
    → done < plan.frames → All (λ (z : ℤ). unsigned_abs z ≤ plan.amp) zs
    → IsReached n plan done (gathered n before) → length (elements n) ≤ length before
    → solved n x e ≡ solved n (states n (gathered n before)) (drive plan.guard n zs) → behind ≡ placed_frame n (solved n x e) before
    → IsPass n plan done zs before behind
pass_of n plan done zs before behind x e numbers one holds frames amplitude energy long solves written =
    let s = solved n (states n (gathered n before)) (drive plan.guard n zs) in
    let step = one.values (gathered n before) (drive plan.guard n zs) in
    let limited = step_limited n plan done zs before one holds frames amplitude energy in
    let downs : (i : ℕ) → i < length (elements n) → at_place behind i ≡ sent_in n s i =
    λ i h. ap (λ (us : List ℤ). at_place us i) written
    ∙ (placed_sent n x e before i numbers.disjoint numbers.left numbers.right (omega arith) (numbers.every i h) ∙ ap (λ (t : Frame). sent_in n t i) solves) in
    let states_after : gathered n behind ≡ after n s =
    map_same (at_place behind) (sent_in n s) (length (elements n)) (reactances n) (passing_below (has_reactance (elements n)) 0 (length (elements n)) (length (elements n)) (omega arith)) downs in
    let kept = holds.kept done (gathered n before) (drive plan.guard n zs) s frames energy (λ i h. input_small n plan zs i amplitude) step in
    record {
      frame = s;
      step = step;
      downs = downs;
      small = λ i. sent_in_small (word_limit plan) n s i limited;
      energy = subst (λ (ys : List ℤ). IsReached n plan (done + 1) ys) (sym states_after) kept;
    }
