-- A row of stages, its chains and its feeds are a layout.
use Rattle.std.proofs.Common.{◌≡◌, ℕ, zero, suc, ◌+◌, ◌-◌, ◌<◌, ◌≤◌, Bool, true, false, not, ◌==◌, List, length, refl, ap, sym, ◌∙◌, subst, arith}
use Rattle.std.specs.Prelude.{ℤ}
use mathlib.Core.Logic.{◌⊎◌, inl, inr}
use Rattle.std.proofs.lemmas.Bool.{cases_lt, cases_eq, cases_Bool, eqb-true, eq-eqb, ne_eqb, and_parts, and_from, not-true, not_from_false}
use Rattle.wdf_law.specs.Network.{IsNetwork, elements, source_numbers}
use Rattle.wdf_sched.specs.Meaning.{slot_at}
use Rattle.wdf_sched.specs.Schedules.{ScheduleValue}
use Rattle.wdf_loop.specs.declared.chain.Chain.{Chain}
use Rattle.wdf_loop.specs.declared.feed.Feed.{Feed}
use Rattle.wdf_loop.specs.declared.mark.Mark.{Mark}
use Rattle.wdf_loop.specs.declared.share.Share.{Share}
use Rattle.wdf_loop.specs.Chains.{IsEnd, IsHook, AreChainsBefore}
use Rattle.wdf_loop.specs.Feeds.{IsFeedOf, AreFeeds, source_at}
use Rattle.wdf_loop.specs.Layouts.{share_at, mark_at, chain_at, feed_at, fed_by, is_beside, is_under, IsElement, IsRowOfChains, IsLinked, HasChain, IsLayout}
use Rattle.wdf_loop.specs.Leaves.{sign_in, flip_in}
use Rattle.wdf_loop.specs.Marked.{IsListed, IsBehind, IsPartOf, IsMarked}
use Rattle.wdf_loop.specs.Rows.{IsRow}
use Rattle.wdf_loop.proofs.ElementLemmas.{Matches, matches_each, element, no_sign}
use Rattle.wdf_loop.proofs.SourceLemmas.{sources_apart}

abbrev count_of : ScheduleValue → ℕ
count_of s = length (elements s.net)

-- ---- links

-- the stage before is the tree below a stage that has no element there
behind_link : (s : ScheduleValue) (root : ℕ) (marks : List Mark) → IsMarked s root marks → (j k : ℕ) → j + 1 ≡ k → k ≤ root
    → count_of s ≤ (mark_at marks k).below → ((mark_at marks j).out ≡ (mark_at marks k).below) × ((mark_at marks j).sent ≡ (mark_at marks k).onward)
behind_link s root marks m j k next most high = by (m.below k most)
  where
    by : (IsListed s (mark_at marks k).below (mark_at marks k).onward × IsListed s (mark_at marks k).up (mark_at marks k).down) ⊎ IsBehind s marks k
        → ((mark_at marks j).out ≡ (mark_at marks k).below) × ((mark_at marks j).sent ≡ (mark_at marks k).onward)
    by (inl h) = absurd (omega (arith, h.0.0, high))
    by (inr h) =
        let same : h.before ≡ j = omega (arith, h.next, next) in
        (ap (λ (i : ℕ). (mark_at marks i).out) (sym same) ∙ h.out, ap (λ (i : ℕ). (mark_at marks i).sent) (sym same) ∙ h.sent)

-- an element below has its own facts
has_leaf_below : (s : ScheduleValue) (root : ℕ) (marks : List Mark) → IsMarked s root marks → (k : ℕ) → k ≤ root
    → (mark_at marks k).below < count_of s → IsListed s (mark_at marks k).below (mark_at marks k).onward
has_leaf_below s root marks m k most low = by (m.below k most)
  where
    by : (IsListed s (mark_at marks k).below (mark_at marks k).onward × IsListed s (mark_at marks k).up (mark_at marks k).down) ⊎ IsBehind s marks k
        → IsListed s (mark_at marks k).below (mark_at marks k).onward
    by (inl h) = h.0
    by (inr h) = absurd (omega (arith, h.tree, low))

-- ---- where a chain hangs

-- the chain that ends behind the stage e hangs beside the stage to
record Hangs (s : ScheduleValue) (root : ℕ) (marks : List Mark) (c : Chain) (e : ℕ) : Type 0 where
  end : e + 1 ≡ c.end
  before : e < root
  after : c.end ≤ c.to
  within : c.to ≤ root
  up : (mark_at marks c.to).up ≡ (mark_at marks e).out
  down : (mark_at marks c.to).down ≡ (mark_at marks e).sent

hangs : (s : ScheduleValue) (root : ℕ) (marks : List Mark) → IsMarked s root marks → (c : Chain) (e : ℕ) → e + 1 ≡ c.end → e < root
    → IsHook marks (mark_at marks e).out c.to → (mark_at marks c.end).below < count_of s → Hangs s root marks c e
hangs s root marks m c e end before hook begins = by (m.taken e before)
  where
    beside : (j : ℕ) → j ≤ root → e < j → (mark_at marks j).up ≡ (mark_at marks e).out → (mark_at marks j).down ≡ (mark_at marks e).sent
        → ((mark_at marks c.to).up ≡ (mark_at marks e).out) ⊎ ((k : ℕ) → k < length marks → (mark_at marks k).up ≡ (mark_at marks e).out → ⊥)
        → Hangs s root marks c e
    beside j most later up down (inl found) =
        let inside : c.to ≤ root = omega (arith, hook.within, m.count) in
        let same : c.to ≡ j = m.once_up c.to j inside most (found ∙ sym up) in
        record {
          end = end;
          before = before;
          after = omega (arith, same, later, end);
          within = inside;
          up = found;
          down = ap (λ (i : ℕ). (mark_at marks i).down) same ∙ down;
        }
    beside j most later up down (inr none) = absurd (none j (omega (arith, most, m.count)) up)

    below : (j : ℕ) → j ≤ root → (mark_at marks j).below ≡ (mark_at marks e).out
        → (IsListed s (mark_at marks j).below (mark_at marks j).onward × IsListed s (mark_at marks j).up (mark_at marks j).down) ⊎ IsBehind s marks j → ⊥
    below j most same (inl h) = let high = m.trees e before in omega (arith, high, same, h.0.0)
    below j most same (inr h) =
        let one : h.before ≡ e = m.once_out h.before e (omega (arith, h.next, most)) before (h.out ∙ same) in
        let at : c.end ≡ j = omega (arith, end, one, h.next) in
        let low : (mark_at marks j).below < count_of s = subst (λ (i : ℕ). (mark_at marks i).below < count_of s) at begins in
        omega (arith, low, h.tree)

    part : (j : ℕ) → j ≤ root → e < j
        → (((mark_at marks j).up ≡ (mark_at marks e).out) × ((mark_at marks j).down ≡ (mark_at marks e).sent)) ⊎ ((mark_at marks j).below ≡ (mark_at marks e).out)
        → Hangs s root marks c e
    part j most later (inl h) = beside j most later h.0 h.1 hook.beside
    part j most later (inr h) = absurd (below j most h (m.below j most))

    by : (j : ℕ) × ((j ≤ root) × IsPartOf marks e j) → Hangs s root marks c e
    by (j, (most, h)) = part j most h.later h.part

module _ (s : ScheduleValue) (root : ℕ) (marks : List Mark) (chains : List Chain) (m : IsMarked s root marks)
    (c : AreChainsBefore s.net marks (length marks) chains) where
  -- its last stage, and where it hangs
  hung : (i : ℕ) → i + 1 < length chains → Hangs s root marks (chain_at chains i) ((chain_at chains i).end - 1)
  hung i more =
      let own = c.each i (omega (arith, more)) in
      let next = c.next i more in
      let then_begins = c.begins (i + 1) more in
      let end : (chain_at chains i).end - 1 + 1 ≡ (chain_at chains i).end = omega (arith, next.1) in
      hangs s root marks m (chain_at chains i) ((chain_at chains i).end - 1) end (omega (arith, end, next.0, then_begins.0, m.count))
      (own.to ((chain_at chains i).end - 1) end) (subst (λ (j : ℕ). (mark_at marks j).below < count_of s) next.0 then_begins.1)

  -- the last one ends at the root
  last : (i : ℕ) → i + 1 ≡ length chains → ((chain_at chains i).first ≤ (chain_at chains i).end) × ((chain_at chains i).end ≡ root)
  last i e =
      let own = c.each i (omega (arith, e)) in
      (own.end.least, by own.end own.end.stop)
    where
      by : IsEnd (count_of s) marks (chain_at chains i).first (chain_at chains i).end
          → (((chain_at chains i).first < (chain_at chains i).end) × ((mark_at marks (chain_at chains i).end).below < count_of s))
          ⊎ (((chain_at chains i).end + 1 ≡ length marks) × ((chain_at chains i).first < (chain_at chains i).end → count_of s ≤ (mark_at marks (chain_at chains i).end).below))
          → (chain_at chains i).end ≡ root
      by end (inl h) = let high = c.behind i e (chain_at chains i).end h.0 end.within in absurd (omega (arith, high, h.1))
      by end (inr h) = omega (arith, h.0, m.count)

  inner : (i : ℕ) → i < length chains → (j : ℕ) → (chain_at chains i).first ≤ j → j + 1 < (chain_at chains i).end
      → ((mark_at marks j).out ≡ (mark_at marks (j + 1)).below) × ((mark_at marks j).sent ≡ (mark_at marks (j + 1)).onward)
  inner i small j low high =
      let own = c.each i small in
      behind_link s root marks m j (j + 1) refl (omega (arith, high, own.end.within, m.count)) (own.end.inner (j + 1) (omega (arith, low)) high)

  linked : (i : ℕ) → i + 1 < length chains
      → IsLinked marks (chain_at chains i) (mark_at marks (chain_at chains i).to).up (mark_at marks (chain_at chains i).to).down
  linked i more =
      let h = hung i more in record {
        inner = inner i (omega (arith, more));
        top = λ j low e.
            let same : j ≡ (chain_at chains i).end - 1 = omega (arith, e) in
            (ap (λ (k : ℕ). (mark_at marks k).out) same ∙ sym h.up, ap (λ (k : ℕ). (mark_at marks k).sent) same ∙ sym h.down);
      }

  linked_last : (i : ℕ) → i + 1 ≡ length chains → IsLinked marks (chain_at chains i) (mark_at marks root).below (mark_at marks root).onward
  linked_last i e =
      let end = last i e in record {
        inner = inner i (omega (arith, e));
        top = λ j low at.
            behind_link s root marks m j root (at ∙ end.1) (omega arith) (c.behind i e root (omega (arith, low, at, end.1)) (omega (arith, m.count)));
      }

  -- each begins behind those before
  rising : (i k : ℕ) → i < k → k < length chains → (chain_at chains i).end ≤ (chain_at chains k).first
  rising i zero less small = absurd (omega (arith, less))
  rising i (suc k) less small =
      let one : suc k ≡ k + 1 = omega arith in
      let next = c.next k (omega (arith, small)) in
      let at : (chain_at chains (suc k)).first ≡ (chain_at chains k).end = ap (λ (j : ℕ). (chain_at chains j).first) one ∙ next.0 in
      by at next.1 (cases_lt i k) (λ before. rising i k before (omega (arith, small)))
    where
      by : (chain_at chains (suc k)).first ≡ (chain_at chains k).end → (chain_at chains k).first < (chain_at chains k).end → (i < k) ⊎ (k ≤ i)
          → (i < k → (chain_at chains i).end ≤ (chain_at chains k).first) → (chain_at chains i).end ≤ (chain_at chains (suc k)).first
      by at some (inl before) rest = let low = rest before in omega (arith, low, at, some)
      by at some (inr from) rest =
          let same : k ≡ i = omega (arith, from, less) in
          let end : (chain_at chains k).end ≡ (chain_at chains i).end = ap (λ (j : ℕ). (chain_at chains j).end) same in
          omega (arith, at, end)

  apart : (i k : ℕ) → i < k → k + 1 < length chains → (chain_at chains i).to ≡ (chain_at chains k).to → ⊥
  apart i k less more same =
      let one = hung i (omega (arith, less, more)) in
      let two = hung k more in
      let up : (mark_at marks ((chain_at chains i).end - 1)).out ≡ (mark_at marks ((chain_at chains k).end - 1)).out =
      sym one.up ∙ (ap (λ (j : ℕ). (mark_at marks j).up) same ∙ two.up) in
      let last_stage = m.once_out ((chain_at chains i).end - 1) ((chain_at chains k).end - 1) one.before two.before up in
      let low = rising i k less (omega (arith, more)) in
      let some = c.next k more in
      omega (arith, last_stage, low, some.1, one.end, two.end)

  row : IsRowOfChains root chains
  row =
      let start = c.from (omega (arith, m.count)) in record {
        some = start.0;
        from = start.1;
        next = λ i more. let next = c.next i more in next.0;
        filled = λ i more. let next = c.next i more in next.1;
        to = λ i more. let h = hung i more in (h.after, h.within);
        last = last;
        apart = apart;
      }

  -- ---- the chain of a stage

  chain_of : (e : ℕ) (i : ℕ) → i < length chains → e < (chain_at chains i).end
      → (k : ℕ) × ((k < length chains) × ((chain_at chains k).first ≤ e) × (e < (chain_at chains k).end))
  chain_of e zero small before = let start = c.from (omega (arith, m.count)) in (zero, (small, omega (arith, start.1), before))
  chain_of e (suc i) small before =
      let one : suc i ≡ i + 1 = omega arith in
      let next = c.next i (omega (arith, small)) in
      let at : (chain_at chains (suc i)).first ≡ (chain_at chains i).end = ap (λ (j : ℕ). (chain_at chains j).first) one ∙ next.0 in
      by at (cases_lt e (chain_at chains (suc i)).first) (λ low. chain_of e i (omega (arith, small)) low)
    where
      by : (chain_at chains (suc i)).first ≡ (chain_at chains i).end → (e < (chain_at chains (suc i)).first) ⊎ ((chain_at chains (suc i)).first ≤ e)
          → (e < (chain_at chains i).end → (k : ℕ) × ((k < length chains) × ((chain_at chains k).first ≤ e) × (e < (chain_at chains k).end)))
          → (k : ℕ) × ((k < length chains) × ((chain_at chains k).first ≤ e) × (e < (chain_at chains k).end))
      by at (inl low) rest = rest (omega (arith, low, at))
      by at (inr high) rest = (suc i, (small, high, before))

  -- a tree beside a stage is that of a chain
  hooked : (j e i : ℕ) → j ≤ root → e < root → (mark_at marks e).out ≡ (mark_at marks j).up → i < length chains → (chain_at chains i).first ≤ e
      → e < (chain_at chains i).end → (i + 1 < length chains) × ((chain_at chains i).to ≡ j)
  hooked j e i most inside up small low high = by (cases_lt (e + 1) (chain_at chains i).end) (cases_lt (i + 1) (length chains))
    where
      by : (e + 1 < (chain_at chains i).end) ⊎ ((chain_at chains i).end ≤ e + 1) → (i + 1 < length chains) ⊎ (length chains ≤ i + 1)
          → (i + 1 < length chains) × ((chain_at chains i).to ≡ j)
      by (inl more) either =
          let own = c.each i small in
          let link = inner i small e low more in
          absurd (m.apart j (e + 1) most (omega (arith, more, own.end.within, m.count)) (sym up ∙ link.0))
      by (inr end) (inl more) =
          let h = hung i more in
          let same : (chain_at chains i).end - 1 ≡ e = omega (arith, high, end) in
          (more, m.once_up (chain_at chains i).to j h.within most (h.up ∙ (ap (λ (k : ℕ). (mark_at marks k).out) same ∙ up)))
      by (inr end) (inr none) =
          let is_last : i + 1 ≡ length chains = omega (arith, none, small) in
          let links = linked_last i is_last in
          let link = links.top e low (omega (arith, high, end)) in
          absurd (m.apart j root most (omega arith) (sym up ∙ link.0))

  has_chain : (j : ℕ) (sign : ℤ) → IsNetwork s.net → j ≤ root → sign ≡ sign_in s.net (mark_at marks j).up → count_of s ≤ (mark_at marks j).up → HasChain chains j sign
  has_chain j sign net most own high =
      let tree = m.owned j most high in
      let start = c.from (omega (arith, m.count)) in
      let one : length chains - 1 + 1 ≡ length chains = omega (arith, start.0) in
      let end = last (length chains - 1) one in
      let chain = chain_of tree.0 (length chains - 1) (omega (arith, start.0)) (omega (arith, end.1, tree.1.0)) in
      let hook = hooked j tree.0 chain.0 most tree.1.0 tree.1.1 chain.1.0 chain.1.1 chain.1.2 in
      record { chain = chain.0; more = hook.0; here = hook.1; still = own ∙ no_sign s.net (mark_at marks j).up net high }

-- ---- feeds

same_test : (t : Bool) (a b : ℕ) → (t ≡ true → a ≡ b) → (a ≡ b → t ≡ true) → t ≡ (a == b)
same_test t a b there back = by (cases_eq a b)
  where
    other : (t : Bool) → (t ≡ true → ⊥) → t ≡ false
    other true h = absurd (h refl)
    other false h = refl

    by : (a ≡ b) ⊎ (a ≡ b → ⊥) → t ≡ (a == b)
    by (inl e) = back e ∙ sym (eq-eqb a b e)
    by (inr ne) = other t (λ h. ne (there h)) ∙ sym (ne_eqb a b ne)

module _ (s : ScheduleValue) (root : ℕ) (marks : List Mark) (feeds : List Feed) (m : IsMarked s root marks)
    (f : AreFeeds s.net marks (length (source_numbers s.net)) feeds) where
  fed_beside : (j : ℕ) → j ≤ root → Matches (is_beside j) (mark_at marks j).up (flip_in s.net (mark_at marks j).up) feeds (source_numbers s.net)
  fed_beside j most =
      matches_each (is_beside j) (mark_at marks j).up (flip_in s.net (mark_at marks j).up) feeds (source_numbers s.net) f.count
      (λ i small. (
        same_test (is_beside j (feed_at feeds i)) (source_at s.net i) (mark_at marks j).up (there i small) (back i small),
        λ is. let own = f.each i small in own.flip ∙ ap (flip_in s.net) (there i small is),
      ))
    where
      there : (i : ℕ) → i < length (source_numbers s.net) → is_beside j (feed_at feeds i) ≡ true → source_at s.net i ≡ (mark_at marks j).up
      there i small is =
          let own = f.each i small in
          let both = and_parts (feed_at feeds i).beside ((feed_at feeds i).stage == j) is in
          let at : (feed_at feeds i).stage ≡ j = eqb-true (feed_at feeds i).stage j both.1 in
          sym (own.beside both.0) ∙ ap (λ (k : ℕ). (mark_at marks k).up) at

      back : (i : ℕ) → i < length (source_numbers s.net) → source_at s.net i ≡ (mark_at marks j).up → is_beside j (feed_at feeds i) ≡ true
      back i small e = let own = f.each i small in by own (cases_Bool (feed_at feeds i).beside)
        where
          by : IsFeedOf marks (source_at s.net i) (flip_in s.net (source_at s.net i)) (feed_at feeds i)
              → ((feed_at feeds i).beside ≡ true) ⊎ ((feed_at feeds i).beside ≡ false) → is_beside j (feed_at feeds i) ≡ true
          by own (inl here) =
              let at = m.once_up (feed_at feeds i).stage j (omega (arith, own.within, m.count)) most (own.beside here ∙ e) in
              and_from (feed_at feeds i).beside ((feed_at feeds i).stage == j) here (eq-eqb (feed_at feeds i).stage j at)
          by own (inr gone) = absurd (m.apart j (feed_at feeds i).stage most (omega (arith, own.within, m.count)) (sym e ∙ sym (own.under gone)))

  fed_under : (j : ℕ) → j ≤ root → Matches (is_under j) (mark_at marks j).below (flip_in s.net (mark_at marks j).below) feeds (source_numbers s.net)
  fed_under j most =
      matches_each (is_under j) (mark_at marks j).below (flip_in s.net (mark_at marks j).below) feeds (source_numbers s.net) f.count
      (λ i small. (
        same_test (is_under j (feed_at feeds i)) (source_at s.net i) (mark_at marks j).below (there i small) (back i small),
        λ is. let own = f.each i small in own.flip ∙ ap (flip_in s.net) (there i small is),
      ))
    where
      there : (i : ℕ) → i < length (source_numbers s.net) → is_under j (feed_at feeds i) ≡ true → source_at s.net i ≡ (mark_at marks j).below
      there i small is =
          let own = f.each i small in
          let both = and_parts (not (feed_at feeds i).beside) ((feed_at feeds i).stage == j) is in
          let at : (feed_at feeds i).stage ≡ j = eqb-true (feed_at feeds i).stage j both.1 in
          sym (own.under (not-true (feed_at feeds i).beside both.0)) ∙ ap (λ (k : ℕ). (mark_at marks k).below) at

      back : (i : ℕ) → i < length (source_numbers s.net) → source_at s.net i ≡ (mark_at marks j).below → is_under j (feed_at feeds i) ≡ true
      back i small e = let own = f.each i small in by own (cases_Bool (feed_at feeds i).beside)
        where
          by : IsFeedOf marks (source_at s.net i) (flip_in s.net (source_at s.net i)) (feed_at feeds i)
              → ((feed_at feeds i).beside ≡ true) ⊎ ((feed_at feeds i).beside ≡ false) → is_under j (feed_at feeds i) ≡ true
          by own (inl here) = absurd (m.apart (feed_at feeds i).stage j (omega (arith, own.within, m.count)) most (own.beside here ∙ e))
          by own (inr gone) =
              let at = m.once_below (feed_at feeds i).stage j (omega (arith, own.within, m.count)) most (own.under gone ∙ e) in
              and_from (not (feed_at feeds i).beside) ((feed_at feeds i).stage == j) (not_from_false (feed_at feeds i).beside gone) (eq-eqb (feed_at feeds i).stage j at)

  places : (i k : ℕ) → i < k → k < length feeds → (feed_at feeds i).stage ≡ (feed_at feeds k).stage → (feed_at feeds i).beside ≡ (feed_at feeds k).beside → ⊥
  places i k less small stage side =
      let one = f.each i (omega (arith, less, small, f.count)) in
      let two = f.each k (omega (arith, small, f.count)) in
      sources_apart s.net i k less (omega (arith, small, f.count)) (by one two (cases_Bool (feed_at feeds i).beside))
    where
      by : IsFeedOf marks (source_at s.net i) (flip_in s.net (source_at s.net i)) (feed_at feeds i)
          → IsFeedOf marks (source_at s.net k) (flip_in s.net (source_at s.net k)) (feed_at feeds k)
          → ((feed_at feeds i).beside ≡ true) ⊎ ((feed_at feeds i).beside ≡ false) → source_at s.net i ≡ source_at s.net k
      by one two (inl here) = sym (one.beside here) ∙ (ap (λ (j : ℕ). (mark_at marks j).up) stage ∙ two.beside (sym side ∙ here))
      by one two (inr gone) = sym (one.under gone) ∙ (ap (λ (j : ℕ). (mark_at marks j).below) stage ∙ two.under (sym side ∙ gone))

-- ---- all of it

pub is_layout : (s : ScheduleValue) (shares : List Share) (marks : List Mark) (chains : List Chain) (feeds : List Feed) → IsNetwork s.net → IsRow s shares marks
    → AreChainsBefore s.net marks (length marks) chains → AreFeeds s.net marks (length (source_numbers s.net)) feeds → IsLayout s shares marks chains feeds
is_layout s shares marks chains feeds net r c f =
    let m = r.marked in record {
      root = r.root;
      few = m.few;
      shares_count = r.shares_count;
      marks_count = m.count;
      junctions = r.junctions;
      turn = r.turn;
      plain = r.plain;
      small = r.small;
      row = row s r.root marks chains m c;
      hung = linked s r.root marks chains m c;
      last = linked_last s r.root marks chains m c;
      trees = λ i more.
          let h = hung s r.root marks chains m c i more in
          let high = m.trees ((chain_at chains i).end - 1) h.before in
          omega (arith, h.up, high);
      bottoms = λ i small.
          let own = c.each i small in
          let begins = c.begins i small in
          let most : (chain_at chains i).first ≤ r.root = omega (arith, begins.0, m.count) in
          element s (mark_at marks (chain_at chains i).first).below (mark_at marks (chain_at chains i).first).onward (chain_at chains i).sign
          (is_under (chain_at chains i).first) feeds net (has_leaf_below s r.root marks m (chain_at chains i).first most begins.1) own.sign
          (fed_under s r.root marks feeds m f (chain_at chains i).first most);
      beside = λ j most. either j most (m.beside j most);
      parts = λ i small. let place = m.every i small in (place.0, (place.1.0, sent i place.0 place.1.0 small place.1.1));
      feeds_count = f.count;
      stages = λ i small. let own = f.each i (omega (arith, small, f.count)) in omega (arith, own.within, m.count);
      places = places s r.root marks feeds m f;
      shown = r.shown;
    }
  where
    down : (i j : ℕ) → j ≤ r.root → i < count_of s → (mark_at marks j).up ≡ i → IsListed s (mark_at marks j).up (mark_at marks j).down ⊎ (count_of s ≤ (mark_at marks j).up)
        → (mark_at marks j).down ≡ slot_at s.down_slots i
    down i j most small is (inl h) = h.1 ∙ ap (slot_at s.down_slots) is
    down i j most small is (inr h) = absurd (omega (arith, small, is, h))

    sent : (i j : ℕ) → j ≤ r.root → i < count_of s → ((mark_at marks j).up ≡ i) ⊎ ((mark_at marks j).below ≡ i)
        → ((mark_at marks j).down ≡ slot_at s.down_slots i) ⊎ ((mark_at marks j).onward ≡ slot_at s.down_slots i)
    sent i j most small (inl is) = inl (down i j most small is (r.marked.beside j most))
    sent i j most small (inr is) =
        let own = has_leaf_below s r.root marks r.marked j most (omega (arith, small, is)) in inr (own.1 ∙ ap (slot_at s.down_slots) is)

    either : (j : ℕ) → j ≤ r.root → IsListed s (mark_at marks j).up (mark_at marks j).down ⊎ (count_of s ≤ (mark_at marks j).up)
        → IsElement s (mark_at marks j).up (mark_at marks j).down (share_at shares j).sign (fed_by (is_beside j) feeds)
        ⊎ HasChain chains j (share_at shares j).sign
    either j most (inl h) =
        inl (element s (mark_at marks j).up (mark_at marks j).down (share_at shares j).sign (is_beside j) feeds net h (r.signs j most)
        (fed_beside s r.root marks feeds r.marked f j most))
    either j most (inr h) = inr (has_chain s r.root marks chains r.marked c j (share_at shares j).sign net most (r.signs j most) h)
