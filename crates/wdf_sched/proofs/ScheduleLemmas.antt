-- What is made of a network is a schedule of it.
use Rattle.std.proofs.Common.{◌≡◌, ℕ, ◌<◌, length, refl, ap, sym, ◌∙◌, subst, arith}
use Rattle.std.proofs.lemmas.List.FromFn.{get_or-map-range_with_len, length-map-range_with_len}
use Rattle.wdf_law.specs.Network.{Network, IsNetwork, unit_of, elements}
use Rattle.wdf_law.specs.TreeRules.{HasNumbers, HasSoundTrees}
use Rattle.wdf_law.specs.Laws.{HasOneStep}
use Rattle.wdf_law.specs.Step.{Frame, sent_in}
use Rattle.wdf_law.specs.Run.{states}
use Rattle.wdf_law.specs.Solved.{solved}
use Rattle.wdf_sched.specs.Meaning.{HasWavesWithin, slot_at, Computes}
use Rattle.wdf_sched.specs.Compiled.{all_slots, down_slot, ops_of, down_slots_of, IsMade}
use Rattle.wdf_sched.proofs.JunctionLemmas.{all-joined}
use Rattle.wdf_sched.proofs.LeafLemmas.{is_below, in_first, in_second}
use Rattle.wdf_sched.proofs.OrderLemmas.{all-order, down_slot-below, slots-few}
use Rattle.wdf_sched.proofs.PartLemmas.{all-parts}
use Rattle.wdf_sched.proofs.ShareLemmas.{all-shares}
use Rattle.wdf_sched.proofs.SizeLemmas.{all-within}
use Rattle.wdf_sched.proofs.WaveLemmas.{all-sent}

-- an element's down slot in the list is its own
slot_at-down_slots : (n : Network) (i : ℕ) → i < length (elements n)
    → slot_at (down_slots_of n) i ≡ down_slot n.left n.right (length (elements n)) i
slot_at-down_slots n i h = get_or-map-range_with_len (down_slot n.left n.right (length (elements n))) 0 (length (elements n)) i i 0 h (omega arith)

computes : (n : Network) → HasNumbers n → HasSoundTrees n → HasOneStep n → Computes n (ops_of n) (down_slots_of n)
computes n numbers sound one = record {
  sends = λ zs e v s step starts holds i h.
      ap v (slot_at-down_slots n i h)
      ∙ (all-sent (unit_of n) (states n zs) e v n.m n.left n.right (length (elements n)) i sound.unit holds starts.0 starts.1 (numbers.every i h)
      ∙ ap (λ (f : Frame). sent_in n f i) (one.only zs e (solved n (states n zs) e) s (one.values zs e) step));
  fits = λ limit zs e v s step starts holds left right.
      let same : s ≡ solved n (states n zs) e = one.only zs e s (solved n (states n zs) e) step (one.values zs e) in
      all-within (unit_of n) limit (states n zs) e v n.m n.left n.right (length (elements n)) sound.unit sound.left sound.right holds starts.0 starts.1
      (subst (λ (f : Frame). HasWavesWithin limit f.left) same left) (subst (λ (f : Frame). HasWavesWithin limit f.right) same right);
}

pub is_made : (n : Network) → IsNetwork n → HasNumbers n → HasSoundTrees n → HasOneStep n → IsMade n
is_made n rules numbers sound one =
    let count = length (elements n) in
    let most = rules.most in
    let left = is_below count n.left (λ i h. numbers.below i (in_first n.left n.right i h)) in
    let each : length (down_slots_of n) ≡ count = length-map-range_with_len (down_slot n.left n.right count) 0 count in
    let right = is_below count n.right (λ i h. numbers.below i (in_second n.left n.right i h)) in
    record {
      left_below = is_below 128 n.left (λ i h. let below = numbers.below i (in_first n.left n.right i h) in omega arith);
      right_below = is_below 128 n.right (λ i h. let below = numbers.below i (in_second n.left n.right i h) in omega arith);
      room = slots-few n.left n.right count refl most;
      schedule = record {
        order = all-order n.m n.left n.right count left right;
        joined = all-joined (down_slots_of n) n.m n.left n.right count numbers.disjoint numbers.left numbers.right
            (λ i h. let below = numbers.below i h in (subst (λ (c : ℕ). i < c) (sym each) below, sym (slot_at-down_slots n i below)));
        parts = all-parts n.m n.left n.right count;
        few = slots-few n.left n.right count refl most;
        multipliers = all-shares (unit_of n) n.m n.left n.right count sound.some sound.few sound.left sound.right;
        each = each;
        in_range = λ i h. subst (λ (j : ℕ). j < all_slots n.left n.right count) (sym (slot_at-down_slots n i h)) (down_slot-below n.left n.right count i);
        computes = computes n numbers sound one;
      };
    }
