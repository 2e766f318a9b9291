-- One frame more of a run, as values of a schedule's slots.
use Rattle.std.proofs.Common.{◌≡◌, ℕ, zero, suc, ◌+◌, ◌-◌, ◌*◌, ◌<◌, ◌≤◌, ◌^◌, Bool, true, false, cond, List, [], ◌∷◌, length, map, refl, ap, sym, ◌∙◌, subst, arith}
use Rattle.std.specs.Prelude.{ℤ, pos, filter}
use Rattle.std.specs.List.{range_with_len}
use Rattle.std.proofs.lemmas.Nat.{pow-add}
use Rattle.std.proofs.Math.Nat.{zero-div}
use Rattle.wdf_algebra.proofs.Polynomials.{con, ring, var, ◌⊕◌, ◌⊖◌, ◌⊗◌}
use Rattle.wdf_algebra.specs.JunctionValues.{parallel_value, root_value, series_part}
use Rattle.wdf_algebra.specs.Truncation.{trunc}
use Rattle.wdf_law.specs.Laws.{HasOneStep}
use Rattle.wdf_law.specs.Network.{Network, elements, has_reactance, is_reactance, unit_of}
use Rattle.wdf_law.specs.Run.{source_values, states}
use Rattle.wdf_law.specs.Step.{Waves, after, ends, forks, sent_in}
use Rattle.wdf_law.specs.TreeRules.{HasNumbers}
use Rattle.wdf_law.proofs.NumberLemmas.{kind_among}
use Rattle.wdf_bounds.specs.HeldWords.{AreLimited, HoldsWords, IsInput, IsReached}
use Rattle.wdf_bounds.specs.Plans.{PlanOf}
use Rattle.wdf_bounds.specs.WordBound.{word_limit}
use Rattle.wdf_sched.specs.Carrying.{HasValues}
use Rattle.wdf_sched.specs.Meaning.{HasWavesWithin, slot_at}
use Rattle.wdf_sched.specs.declared.op.Op.{Op}
use Rattle.wdf_sched.specs.declared.op.Op.TheVariants.{DownParallel, DownSeries, Root, UpParallel, UpSeries}
use Rattle.wdf_sched.specs.Operations.{AreWithin, HoldAll, Holds, IsAtMost, IsWithin, Slots, parallel_rest}
use Rattle.wdf_sched.specs.Schedules.{IsSchedule, ScheduleValue}
use Rattle.wdf_loop.specs.NextFrames.{IsNext, Stands, next_slots, slots_from, state_in}

-- two functions that agree where a test passes give the numbers that pass it the same
pub map-filter : (p : ℕ → Bool) (f g : ℕ → ℤ) (xs : List ℕ) → ((i : ℕ) → p i ≡ true → f i ≡ g i) → map f (filter p xs) ≡ map g (filter p xs)
map-filter p f g [] same = refl
map-filter p f g (x ∷ xs) same = by (map-filter p f g xs same) (p x) refl
  where
    by : map f (filter p xs) ≡ map g (filter p xs) → (b : Bool) → p x ≡ b → map f (cond b (x ∷ filter p xs) (filter p xs)) ≡ map g (cond b (x ∷ filter p xs) (filter p xs))
    by rest true e = λ i. same x e i ∷ rest i
    by rest false e = rest

-- a reactance is an element
pub reactance_below : (n : Network) (i : ℕ) → HasNumbers n → has_reactance (elements n) i ≡ true → i < length (elements n)
reactance_below n i numbers h = numbers.below i (kind_among is_reactance (elements n) i h)

-- the same bound on waves, as two crates have it
limited_within : (limit : ℕ) (w : Waves) → AreLimited limit w → HasWavesWithin limit w
limited_within limit (ends u d) h = h
limited_within limit (forks u d b1 b2 b l r) h = (h.0, h.1, limited_within limit l h.2, limited_within limit r h.3)

-- the words of a plan that fits
pub plan_words : (k : ℕ) → k ≤ 60 → 2 ^ k * 2 ^ (60 - k) ≤ 2 ^ 60
plan_words k few =
    let at : k + (60 - k) ≡ 60 = omega arith in
    let both : 2 ^ 60 ≡ 2 ^ k * 2 ^ (60 - k) = sym (ap (λ (m : ℕ). 2 ^ m) at) ∙ pow-add 2 k (60 - k) in
    omega arith

pub next : (s : ScheduleValue) (plan : PlanOf) (done : ℕ) (zs : List ℤ) (before : Slots) → IsSchedule s → (values : HasValues s) → HasNumbers s.net → HasOneStep s.net → HoldsWords s.net plan
    → done < plan.frames → IsInput s.net plan (source_values s.net zs) → Stands s plan done before → IsNext s plan done zs before (next_slots s values zs before)
next s plan done zs before rules values numbers one words frames input stands =
    let begun = values.starts (states s.net (state_in s before)) (source_values s.net zs) in
    let carried = values.some begun.0 in
    let starts = values.kept (states s.net (state_in s before)) (source_values s.net zs) begun.0 (next_slots s values zs before) carried.0 begun.1 in
    let made = one.some (state_in s before) (source_values s.net zs) in
    let limited = words.step done (state_in s before) (source_values s.net zs) made.0 frames stands.reached input made.1 in
    let within = rules.computes.fits (word_limit plan) (state_in s before) (source_values s.net zs) (next_slots s values zs before) made.0 made.1 starts carried.1
    (limited_within (word_limit plan) made.0.left limited.left) (limited_within (word_limit plan) made.0.right limited.right) in
    let sent = rules.computes.sends (state_in s before) (source_values s.net zs) (next_slots s values zs before) made.0 made.1 starts carried.1 in
    let left : state_in s (next_slots s values zs before) ≡ after s.net made.0 =
    map-filter (has_reactance (elements s.net)) (λ (i : ℕ). next_slots s values zs before (slot_at s.down_slots i)) (sent_in s.net made.0) (range_with_len 0 (length (elements s.net)))
    (λ i h. sent i (reactance_below s.net i numbers h)) in
    let reached = words.kept done (state_in s before) (source_values s.net zs) made.0 frames stands.reached input made.1 in
    record {
      frame = made.0;
      step = made.1;
      sent = sent;
      follows = record {
        small = stands.within;
        states = λ i h. numbers.listed (λ (k : ℕ). before (slot_at s.down_slots k)) i h;
        starts = starts;
        holds = carried.1;
        within = within;
      };
      stands = record {
        holds = carried.1;
        within = within;
        reached = subst (IsReached s.net plan (done + 1)) (sym left) reached;
      };
    }

-- and so frame after frame
pub stands_at : (s : ScheduleValue) (plan : PlanOf) (done : ℕ) (zs : ℕ → List ℤ) (before : Slots) → IsSchedule s → (values : HasValues s) → HasNumbers s.net → HasOneStep s.net → HoldsWords s.net plan
    → Stands s plan done before → (f : ℕ) → done + f ≤ plan.frames → ((i : ℕ) → i < f → IsInput s.net plan (source_values s.net (zs i)))
    → Stands s plan (done + f) (slots_from s values zs before f)
stands_at s plan done zs before rules values numbers one words stands zero frames input = let at : done + 0 ≡ done = omega arith in rw at stands
stands_at s plan done zs before rules values numbers one words stands (suc f) frames input =
    let so_far = stands_at s plan done zs before rules values numbers one words stands f (omega arith) (λ i h. input i (omega arith)) in
    let made = next s plan (done + f) (zs f) (slots_from s values zs before f) rules values numbers one words (omega arith) (input f (omega arith)) so_far in
    let at : done + suc f ≡ done + f + 1 = omega arith in
    rw at made.stands

pub next_at : (s : ScheduleValue) (plan : PlanOf) (done : ℕ) (zs : ℕ → List ℤ) (before : Slots) → IsSchedule s → (values : HasValues s) → HasNumbers s.net → HasOneStep s.net → HoldsWords s.net plan
    → Stands s plan done before → (count : ℕ) → done + count ≤ plan.frames → ((i : ℕ) → i < count → IsInput s.net plan (source_values s.net (zs i)))
    → (f : ℕ) → f < count → IsNext s plan (done + f) (zs f) (slots_from s values zs before f) (slots_from s values zs before (f + 1))
next_at s plan done zs before rules values numbers one words stands count frames input f h =
    let so_far = stands_at s plan done zs before rules values numbers one words stands f (omega arith) (λ i less. input i (omega arith)) in
    let made = next s plan (done + f) (zs f) (slots_from s values zs before f) rules values numbers one words (omega arith) (input f h) so_far in
    let at : suc f ≡ f + 1 = omega arith in
    subst (λ (k : ℕ). IsNext s plan (done + f) (zs f) (slots_from s values zs before f) (slots_from s values zs before k)) at made

-- ---- at rest all values are 0

abbrev pub silence : Slots
silence i = pos 0

none-trunc : (q : ℕ) (z : ℤ) → z ≡ pos 0 → trunc z q ≡ pos 0
none-trunc q z e = ap (λ (a : ℤ). trunc a q) e ∙ ap pos (zero-div q)

silent-shares : (m n : ℕ) → parallel_value m n (pos 0) (pos 0) ≡ pos 0
silent-shares m n = ring (pos m ∷ pos n ∷ []) (var 0 ⊗ con (pos 0) ⊕ var 1 ⊗ con (pos 0)) (con (pos 0)) refl

silent-root : (q m n : ℕ) → root_value q m n (pos 0) (pos 0) (pos 0) ≡ pos 0
silent-root q m n = ring (pos q ∷ pos m ∷ pos n ∷ []) (con (pos 2) ⊗ (var 1 ⊗ con (pos 0) ⊕ var 2 ⊗ con (pos 0)) ⊖ var 0 ⊗ con (pos 0)) (con (pos 0)) refl

silent-series : (q m : ℕ) → series_part q m (pos 0) (pos 0) (pos 0) (pos 0) ≡ pos 0
silent-series q m = ring (pos q ∷ pos m ∷ []) (var 0 ⊗ con (pos 0) ⊕ var 1 ⊗ (con (pos 0) ⊖ (con (pos 0) ⊕ con (pos 0)))) (con (pos 0)) refl

silent-rest : (q : ℕ) → parallel_rest q (pos 0) (pos 0) (pos 0) ≡ pos 0
silent-rest q = ring (pos q ∷ []) (var 0 ⊗ con (pos 0) ⊕ con (pos 0) ⊖ var 0 ⊗ con (pos 0)) (con (pos 0)) refl

silent-op : (q : ℕ) (op : Op) → Holds q silence op
silent-op q (UpSeries a b out) = refl
silent-op q (UpParallel a b m raw out) = (sym (silent-shares m (q - m)), sym (none-trunc q (pos 0) refl))
silent-op q (Root a b m x y) = (
  sym (none-trunc q (root_value q m (q - m) (pos 0) (pos 0) (pos 0)) (silent-root q m (q - m))),
  sym (none-trunc q (root_value q m (q - m) (pos 0) (pos 0) (pos 0)) (silent-root q m (q - m))),
)
silent-op q (DownSeries a b d m x y) = (
  sym (none-trunc q (series_part q m (pos 0) (pos 0) (pos 0) (pos 0)) (silent-series q m)),
  sym (none-trunc q (series_part q (q - m) (pos 0) (pos 0) (pos 0) (pos 0)) (silent-series q (q - m))),
)
silent-op q (DownParallel a b d raw x y) = (
  sym (none-trunc q (parallel_rest q (pos 0) (pos 0) (pos 0)) (silent-rest q)),
  sym (none-trunc q (parallel_rest q (pos 0) (pos 0) (pos 0)) (silent-rest q)),
)

silent-ops : (q : ℕ) (ops : List Op) → HoldAll q silence ops
silent-ops q [] = tt
silent-ops q (op ∷ ops) = (silent-op q op, silent-ops q ops)

none-within : (limit : ℕ) → IsAtMost limit (pos 0)
none-within limit = omega arith

silent-within : (q limit : ℕ) (op : Op) → IsWithin q limit silence op
silent-within q limit (UpSeries a b out) = (none-within limit, none-within limit, none-within limit)
silent-within q limit (UpParallel a b m raw out) = (none-within limit, none-within limit, none-within (q * limit), none-within limit)
silent-within q limit (Root a b m x y) = (none-within limit, none-within limit, none-within limit, none-within limit)
silent-within q limit (DownSeries a b d m x y) = (none-within limit, none-within limit, none-within limit, none-within limit, none-within limit)
silent-within q limit (DownParallel a b d raw x y) = (none-within limit, none-within limit, none-within limit, none-within (q * limit), none-within limit, none-within limit)

silent-small : (q limit : ℕ) (ops : List Op) → AreWithin q limit silence ops
silent-small q limit [] = tt
silent-small q limit (op ∷ ops) = (silent-within q limit op, silent-small q limit ops)

pub at-rest : (s : ScheduleValue) (plan : PlanOf) → HoldsWords s.net plan → Stands s plan 0 silence
at-rest s plan words = record {
  holds = silent-ops (unit_of s.net) s.ops;
  within = silent-small (unit_of s.net) (word_limit plan) s.ops;
  reached = words.rest;
}
