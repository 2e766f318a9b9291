-- The parts of stages that are elements.
use Rattle.std.proofs.Common.{◌≡◌, ℕ, ◌+◌, ◌<◌, ◌≤◌, Bool, true, false, cond, List, [], ◌∷◌, ◌++◌, length, get_or, map, refl, ap, sym, ◌∙◌, subst, arith}
use Rattle.std.specs.Prelude.{filter}
use Rattle.std.specs.List.{range_with_len}
use mathlib.Core.Logic.{◌⊎◌, inl, inr}
use Rattle.std.proofs.lemmas.Bool.{cases_lt}
use Rattle.std.proofs.lemmas.List.{append-nil, get_or-map, get_or_default, get_or_append_left, get_or_at, length-append, length-map, map-append}
use Rattle.std.proofs.lemmas.List.Elements.{All-filter, All-get_or}
use Rattle.std.proofs.lemmas.List.FromFn.{filter_of_map_range_with_len_more}
use Rattle.wdf_law.specs.Network.{Network, absorbing_numbers, elements, has_absorbing}
use Rattle.wdf_sched.specs.Meaning.{slot_at}
use Rattle.wdf_sched.specs.Schedules.{ScheduleValue}
use Rattle.wdf_loop.specs.declared.chain.Chain.{Chain}
use Rattle.wdf_loop.specs.declared.feed.Feed.{Feed}
use Rattle.wdf_loop.specs.declared.mark.Mark.{Mark}
use Rattle.wdf_loop.specs.declared.part.Part.{Part}
use Rattle.wdf_loop.specs.declared.share.Share.{Share}
use Rattle.wdf_loop.specs.Advances.{root_of}
use Rattle.wdf_loop.specs.Layouts.{IsLayout, mark_at}
use Rattle.wdf_loop.specs.Parts.{AreParts, HasParts, IsPart, absorbing_at, part_at, sent_slot}
use Rattle.wdf_loop.proofs.AdvanceLemmas.{last_root}
use Rattle.wdf_loop.proofs.SourceLemmas.{all_from}

-- some stage sends an element the wave of its down slot
pub part_shown : (s : ScheduleValue) (shares : List Share) (marks : List Mark) (chains : List Chain) (feeds : List Feed) (i slot : ℕ) → IsLayout s shares marks chains feeds → i < length (elements s.net)
    → slot ≡ slot_at s.down_slots i → (j : ℕ) × ((j < length marks) × (((mark_at marks j).down ≡ slot) ⊎ ((mark_at marks j).onward ≡ slot)))
part_shown s shares marks chains feeds i slot lay small is =
    let place = lay.parts i small in
    subst (λ (k : ℕ). (j : ℕ) × ((j < length marks) × (((mark_at marks j).down ≡ k) ⊎ ((mark_at marks j).onward ≡ k)))) (sym is)
    (place.0, (omega (arith, place.1.0, lay.marks_count), place.1.1))

pub is_part : (s : ScheduleValue) (shares : List Share) (marks : List Mark) (chains : List Chain) (feeds : List Feed) (p : Part) (i slot : ℕ) → IsLayout s shares marks chains feeds → p.stage < length marks
    → sent_slot p (mark_at marks p.stage) ≡ slot → slot ≡ slot_at s.down_slots i → IsPart s (root_of shares) marks p i
is_part s shares marks chains feeds p i slot lay inside sent is =
    let last = last_root s shares marks chains feeds lay in record { inside = omega (arith, inside, lay.marks_count, last); slot = sent ∙ is }

-- one part more
pub parts_none : (s : ScheduleValue) (root : ℕ) (marks : List Mark) → AreParts s root marks 0 (λ i. i) []
parts_none s root marks = record { count_is = refl; each = λ i h. absurd (omega (arith, h)) }

pub parts_more : (s : ScheduleValue) (root : ℕ) (marks : List Mark) (count : ℕ) (parts next : List Part) (p : Part) → AreParts s root marks count (λ i. i) parts → IsPart s root marks p count
    → next ≡ parts ++ p ∷ [] → AreParts s root marks (count + 1) (λ i. i) next
parts_more s root marks count parts next p so_far now is = subst (AreParts s root marks (count + 1) (λ i. i)) (sym is) (record {
  count_is = length-append parts (p ∷ []) ∙ (λ t. so_far.count_is t + 1);
  each = λ i small. each i small (cases_lt i count);
})
  where
    each : (i : ℕ) → i < count + 1 → (i < count) ⊎ (count ≤ i) → IsPart s root marks (part_at (parts ++ p ∷ []) i) i
    each i small (inl low) =
        let at : part_at (parts ++ p ∷ []) i ≡ part_at parts i = get_or_append_left parts (p ∷ []) (record { stage = 0; beside = false }) i (omega (arith, low, so_far.count_is)) in
        subst (λ (q : Part). IsPart s root marks q i) (sym at) (so_far.each i low)
    each i small (inr high) =
        let own : i ≡ count = omega (arith, small, high) in
        let at : part_at (parts ++ p ∷ []) i ≡ p = get_or_at parts p [] (record { stage = 0; beside = false }) i (omega (arith, own, so_far.count_is)) in
        subst (λ (q : Part). IsPart s root marks q i) (sym at) (subst (IsPart s root marks p) (sym own) now)

-- ---- those of the elements that pass a test

pub filter_more : (has : ℕ → Bool) (n : ℕ) → filter has (range_with_len 0 (n + 1)) ≡ filter has (range_with_len 0 n) ++ cond (has n) (n ∷ []) []
filter_more has n =
    sym (ap (filter has) (map_id (range_with_len 0 (n + 1)))) ∙ (filter_of_map_range_with_len_more has (λ (i : ℕ). i) 0 n n (omega arith) ∙ ap (λ (ks : List ℕ). filter has ks ++ cond (has n) (n ∷ []) []) (map_id (range_with_len 0 n)))
  where
    map_id : (ks : List ℕ) → map (λ (i : ℕ). i) ks ≡ ks
    map_id [] = refl
    map_id (k ∷ ks) = ap (λ (l : List ℕ). k ∷ l) (map_id ks)

counted_more : (has : ℕ → Bool) (n : ℕ) → length (filter has (range_with_len 0 (n + 1))) ≡ length (filter has (range_with_len 0 n)) + length (cond (has n) (n ∷ []) [])
counted_more has n = ap length (filter_more has n) ∙ length-append (filter has (range_with_len 0 n)) (cond (has n) (n ∷ []) [])

pub counted_one : (has : ℕ → Bool) (n : ℕ) → has n ≡ true → length (filter has (range_with_len 0 (n + 1))) ≡ length (filter has (range_with_len 0 n)) + 1
counted_one has n here = counted_more has n ∙ ap (λ (b : Bool). length (filter has (range_with_len 0 n)) + length (cond b (n ∷ []) [])) here

pub counted_other : (has : ℕ → Bool) (n : ℕ) → has n ≡ false → length (filter has (range_with_len 0 (n + 1))) ≡ length (filter has (range_with_len 0 n))
counted_other has n here =
    let none : length (filter has (range_with_len 0 n)) + 0 ≡ length (filter has (range_with_len 0 n)) = omega arith in
    counted_more has n ∙ (ap (λ (b : Bool). length (filter has (range_with_len 0 n)) + length (cond b (n ∷ []) [])) here ∙ none)

pub passing_more : (at : ℕ → Part) (has : ℕ → Bool) (n : ℕ) (parts next : List Part) → parts ≡ map at (filter has (range_with_len 0 n)) → has n ≡ true → next ≡ parts ++ at n ∷ []
    → next ≡ map at (filter has (range_with_len 0 (n + 1)))
passing_more at has n parts next before here is =
    is
    ∙ ((λ t. before t ++ at n ∷ [])
    ∙ sym (ap (map at) (filter_more has n ∙ ap (λ (b : Bool). filter has (range_with_len 0 n) ++ cond b (n ∷ []) []) here)
    ∙ map-append at (filter has (range_with_len 0 n)) (n ∷ [])))

pub read_part : (every parts next : List Part) (number : ℕ) (d : Part) → number < length every → next ≡ parts ++ get_or every number d ∷ [] → next ≡ parts ++ part_at every number ∷ []
read_part every parts next number d inside is = is ∙ ap (λ (p : Part). parts ++ p ∷ []) (get_or_default every number d (record { stage = 0; beside = false }) inside)

pub passing_same : (at : ℕ → Part) (has : ℕ → Bool) (n : ℕ) (parts : List Part) → parts ≡ map at (filter has (range_with_len 0 n)) → has n ≡ false
    → parts ≡ map at (filter has (range_with_len 0 (n + 1)))
passing_same at has n parts before here =
    before
    ∙ ap (map at) (sym (filter_more has n ∙ (ap (λ (b : Bool). filter has (range_with_len 0 n) ++ cond b (n ∷ []) []) here ∙ append-nil (filter has (range_with_len 0 n)))))

pub absorbing_below : (n : Network) (i : ℕ) → i < length (absorbing_numbers n) → absorbing_at n i < length (elements n)
absorbing_below n i small =
    let inside = All-get_or (λ (k : ℕ). (0 ≤ k) × (k < 0 + length (elements n))) (absorbing_numbers n) i 0 small
    (All-filter (has_absorbing (elements n)) (λ (k : ℕ). (0 ≤ k) × (k < 0 + length (elements n))) (range_with_len 0 (length (elements n))) (all_from 0 (length (elements n)))) in
    omega (arith, inside.1)

pub has_parts : (s : ScheduleValue) (root : ℕ) (marks : List Mark) (every absorbing : List Part) → AreParts s root marks (length (elements s.net)) (λ i. i) every
    → absorbing ≡ map (part_at every) (absorbing_numbers s.net) → HasParts s root marks every absorbing
has_parts s root marks every absorbing all is = record {
  all = all;
  absorb = subst (AreParts s root marks (length (absorbing_numbers s.net)) (absorbing_at s.net)) (sym is) (record {
    count_is = length-map (absorbing_numbers s.net) (part_at every);
    each = λ i small.
        subst (λ (p : Part). IsPart s root marks p (absorbing_at s.net i)) (sym (get_or-map (part_at every) (absorbing_numbers s.net) i 0 (record { stage = 0; beside = false }) small))
        (all.each (absorbing_at s.net i) (absorbing_below s.net i small));
  });
}
