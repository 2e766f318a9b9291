-- The way up a chain among all chains, and to the part beside the stage where it hangs.
use Rattle.std.proofs.Common.{◌≡◌, ℕ, ◌+◌, ◌<◌, ◌≤◌, List, length, refl, ap, sym, ◌∙◌, subst, arith}
use Rattle.std.specs.Prelude.{ℤ, ◌+ℤ◌, ◌*ℤ◌, slice_set, unsigned_abs}
use Rattle.std.proofs.lemmas.Bool.{cases_lt}
use mathlib.Core.Logic.{◌⊎◌, inl, inr}
use Rattle.wdf_loop.specs.declared.cell.Cell.{Cell}
use Rattle.wdf_loop.specs.declared.chain.Chain.{Chain}
use Rattle.wdf_loop.specs.declared.share.Share.{Share}
use Rattle.wdf_loop.specs.Cells.{IsWord, bottom, fed_with}
use Rattle.wdf_loop.specs.Frames.{AllRun, Begins, HasRaw, HasUps, HaveRisen, HaveRisenTo, IsFed, IsRun, IsUp, RunValues, end_of, first_of, to_of}
use Rattle.wdf_loop.specs.Layouts.{IsRowOfChains, chain_at, share_at}
use Rattle.wdf_loop.specs.RunCells.{AllCanBegin, cell_in, wave_in}
use Rattle.wdf_loop.specs.Runs.{AllCanAscend, CanAscend, CanClimb, HasRisen, HaveAscended, KeepsOthers, Values, cell_at, row_at}
use Rattle.wdf_loop.proofs.LineLemmas.{all-fed, chain-fed, end-root, first-end}
use Rattle.wdf_loop.proofs.PassLemmas.{row_here, row_other}
use Rattle.wdf_loop.proofs.Sizes.{rest-size}

-- ---- one chain: its bottom, and then its stages

pub begin_can : (count q : ℕ) (shares : List Share) (first end : ℕ) (sign : ℤ) (cells : List (List Cell)) → 0 < q → unsigned_abs sign ≤ 1
    → AllCanAscend count q shares first end sign cells → AllCanBegin q count (row_at cells first)
begin_can count q shares first end sign cells some few all c h =
    let can = (all c h).2 in
    let height = (all c h).1 in record {
      under = rest-size q sign (cell_at cells first c).onward (cell_at cells first c).under (height first) some few can.state can.word can.below;
      onward = can.state;
    }

pub ascend_climb : (q : ℕ) (shares : List Share) (first end : ℕ) (sign : ℤ) (cells : List (List Cell)) (waves : List ℤ) (c : ℕ)
    → wave_in waves c ≡ bottom sign (cell_at cells first c) → (v : ℕ → Values) (height : ℕ → ℤ) → CanAscend q shares first end sign v height cells c
    → CanClimb q shares first end v height cells waves c
ascend_climb q shares first end sign cells waves c begun v height can = record {
  climb = can.climb;
  up = can.up;
  states = can.states;
  wave = begun ∙ can.below;
}

-- ---- the chain t of a row

pub can-ascend : (q root : ℕ) (shares : List Share) (chains : List Chain) (t : ℕ) (r : RunValues) (before cells : List (List Cell)) (c : ℕ) → IsRowOfChains root chains → t < length chains
    → IsRun q root shares chains r → Begins q root shares chains r before c → IsUp root shares chains (first_of chains t) t r before cells c
    → CanAscend q shares (first_of chains t) (end_of chains t) (chain_at chains t).sign r.stage (r.height t) cells c
can-ascend q root shares chains t r before cells c row h run begins up =
    let top = end-root root chains row t h in
    let order = first-end root chains row t h in
    let low : first_of chains t ≤ root = omega arith in record {
      climb = run.climbs t h;
      up = λ j least most.
          let inside : j ≤ root = omega arith in
          let fed = up.fed j inside (chain-fed root chains row t j most) in
          let down = (up.states j inside).down in
          (λ i. (share_at shares j).sign *ℤ down i +ℤ fed i) ∙ begins.up j inside;
      states = λ j least most. let inside : j ≤ root = omega arith in subst (IsWord q) (sym (up.states j inside).down) (begins.down j inside);
      below = (λ i. (chain_at chains t).sign *ℤ (up.states (first_of chains t) low).onward i +ℤ (up.states (first_of chains t) low).under i) ∙ begins.bottoms t h;
      state = subst (IsWord q) (sym (up.states (first_of chains t) low).onward) (begins.onward (first_of chains t) low);
      word = run.bottoms t h;
    }

pub rise_can : (count q root : ℕ) (shares : List Share) (chains : List Chain) (t : ℕ) (before cells : List (List Cell)) → IsRowOfChains root chains → t < length chains
    → AllRun count q root shares chains before → HaveRisenTo count q root shares chains t before cells
    → AllCanAscend count q shares (first_of chains t) (end_of chains t) (chain_at chains t).sign cells
rise_can count q root shares chains t before cells row h all so_far c small =
    let one = all c small in
    (one.0.stage, one.0.height t, can-ascend q root shares chains t one.0 before cells c row h one.1 one.2 (so_far c small one.0 one.1 one.2))

-- what no way up changes of a cell
record KeepsAll (c d : Cell) : Type 0 where
  fed : d.fed ≡ c.fed
  under : d.under ≡ c.under
  down : d.down ≡ c.down
  onward : d.onward ≡ c.onward

-- behind the chain
pub ascended-up : (root : ℕ) (shares : List Share) (chains : List Chain) (first end t : ℕ) (r : RunValues) (before cells after : List (List Cell)) (c : ℕ) → IsUp root shares chains first t r before cells c
    → ((j : ℕ) → first ≤ j → j < end → HasRisen (share_at shares j) (r.stage j) (cell_at cells j c) (cell_at after j c)) → KeepsOthers first end cells after
    → IsUp root shares chains end t r before after c
ascended-up root shares chains first end t r before cells after c up risen others = record {
  ups = λ j h. ups j h (cases_lt j first);
  raws = λ j h. raws j h (cases_lt j first);
  states = λ j h. let k = kept j (cases_lt j first) (cases_lt j end) in let s = up.states j h in record { under = k.under ∙ s.under; down = k.down ∙ s.down; onward = k.onward ∙ s.onward };
  fed = λ j h f. (kept j (cases_lt j first) (cases_lt j end)).fed ∙ up.fed j h f;
}
  where
    same : (j : ℕ) → (j < first) ⊎ (end ≤ j) → cell_at after j c ≡ cell_at cells j c
    same j h = ap (λ (row : List Cell). cell_in row c) (others j h)

    ups : (j : ℕ) → j < end → (j < first) ⊎ (first ≤ j) → HasUps (r.stage j) (cell_at after j c)
    ups j h (inl less) = subst (HasUps (r.stage j)) (sym (same j (inl less))) (up.ups j less)
    ups j h (inr more) = let s = risen j more h in record { up = s.up; below = s.below }

    raws : (j : ℕ) → j < end → (j < first) ⊎ (first ≤ j) → HasRaw (share_at shares j) (r.stage j) (cell_at after j c)
    raws j h (inl less) = subst (HasRaw (share_at shares j) (r.stage j)) (sym (same j (inl less))) (up.raws j less)
    raws j h (inr more) = (risen j more h).raw

    as_before : (j : ℕ) → cell_at after j c ≡ cell_at cells j c → KeepsAll (cell_at cells j c) (cell_at after j c)
    as_before j e = record {
      fed = ap (λ (x : Cell). x.fed) e;
      under = ap (λ (x : Cell). x.under) e;
      down = ap (λ (x : Cell). x.down) e;
      onward = ap (λ (x : Cell). x.onward) e;
    }

    kept : (j : ℕ) → (j < first) ⊎ (first ≤ j) → (j < end) ⊎ (end ≤ j) → KeepsAll (cell_at cells j c) (cell_at after j c)
    kept j (inl less) side = as_before j (same j (inl less))
    kept j (inr more) (inr over) = as_before j (same j (inr over))
    kept j (inr more) (inl less) = let s = risen j more less in record { fed = s.fed; under = s.under; down = s.down; onward = s.onward }

-- and where it hangs: only what the part beside that stage is fed changes
record KeepsWaves (c d : Cell) : Type 0 where
  up : d.up ≡ c.up
  below : d.below ≡ c.below
  raw : d.raw ≡ c.raw
  under : d.under ≡ c.under
  down : d.down ≡ c.down
  onward : d.onward ≡ c.onward

stays : (c d : Cell) → d ≡ c → KeepsWaves c d
stays c d e = record {
  up = ap (λ (x : Cell). x.up) e;
  below = ap (λ (x : Cell). x.below) e;
  raw = ap (λ (x : Cell). x.raw) e;
  under = ap (λ (x : Cell). x.under) e;
  down = ap (λ (x : Cell). x.down) e;
  onward = ap (λ (x : Cell). x.onward) e;
}

fed-here : (cells : List (List Cell)) (to : ℕ) (row : List Cell) (w : ℤ) (c : ℕ) → to < length cells → cell_in row c ≡ fed_with w (cell_at cells to c)
    → cell_at (slice_set cells to row) to c ≡ fed_with w (cell_at cells to c)
fed-here cells to row w c inside given = ap (λ (x : List Cell). cell_in x c) (row_here cells to row inside) ∙ given

fed-other : (cells : List (List Cell)) (to : ℕ) (row : List Cell) (c j : ℕ) → (j < to) ⊎ (to < j) → cell_at (slice_set cells to row) j c ≡ cell_at cells j c
fed-other cells to row c j h = ap (λ (x : List Cell). cell_in x c) (row_other cells to row j h)

-- either a place is another, or it is this
other_or_here : (j to : ℕ) → ((j < to) ⊎ (to < j)) ⊎ (to ≡ j)
other_or_here j to = by (cases_lt j to) (cases_lt to j)
  where
    by : (j < to) ⊎ (to ≤ j) → (to < j) ⊎ (j ≤ to) → ((j < to) ⊎ (to < j)) ⊎ (to ≡ j)
    by (inl less) b = inl (inl less)
    by (inr least) (inl more) = inl (inr more)
    by (inr least) (inr most) = inr (omega arith)

fed-keeps : (cells : List (List Cell)) (to : ℕ) (row : List Cell) (w : ℤ) (c : ℕ) → to < length cells → cell_in row c ≡ fed_with w (cell_at cells to c)
    → (j : ℕ) → KeepsWaves (cell_at cells j c) (cell_at (slice_set cells to row) j c)
fed-keeps cells to row w c inside given j = by (other_or_here j to)
  where
    by : ((j < to) ⊎ (to < j)) ⊎ (to ≡ j) → KeepsWaves (cell_at cells j c) (cell_at (slice_set cells to row) j c)
    by (inl h) = stays (cell_at cells j c) (cell_at (slice_set cells to row) j c) (fed-other cells to row c j h)
    by (inr at) =
        let e = fed-here cells to row w c inside given in
        subst (λ (k : ℕ). KeepsWaves (cell_at cells k c) (cell_at (slice_set cells to row) k c)) at
        (record {
          up = ap (λ (x : Cell). x.up) e;
          below = ap (λ (x : Cell). x.below) e;
          raw = ap (λ (x : Cell). x.raw) e;
          under = ap (λ (x : Cell). x.under) e;
          down = ap (λ (x : Cell). x.down) e;
          onward = ap (λ (x : Cell). x.onward) e;
        })

-- a stage that the chains from t + 1 on do not feed is not fed by those from t on, where the chain t hangs elsewhere
fed-before : (chains : List Chain) (t j : ℕ) → (j < to_of chains t) ⊎ (to_of chains t < j) → IsFed chains (t + 1) j → IsFed chains t j
fed-before chains t j apart f i low more e = by (cases_lt t i)
  where
    apart_from : (k : ℕ) → t ≡ k → (j < to_of chains k) ⊎ (to_of chains k < j)
    apart_from k at = subst (λ (m : ℕ). (j < to_of chains m) ⊎ (to_of chains m < j)) at apart

    differ : (j < to_of chains i) ⊎ (to_of chains i < j) → ⊥
    differ (inl h) = omega arith
    differ (inr h) = omega arith

    by : (t < i) ⊎ (i ≤ t) → ⊥
    by (inl less) = f i (omega arith) more e
    by (inr most) = differ (apart_from i (omega arith))

pub delivered-up : (root : ℕ) (shares : List Share) (chains : List Chain) (upto t : ℕ) (r : RunValues) (before cells : List (List Cell)) (row : List Cell) (w : ℤ) (c : ℕ)
    → to_of chains t < length cells → IsUp root shares chains upto t r before cells c → cell_in row c ≡ fed_with w (cell_at cells (to_of chains t) c) → w ≡ (r.stage (to_of chains t)).fed
    → IsUp root shares chains upto (t + 1) r before (slice_set cells (to_of chains t) row) c
delivered-up root shares chains upto t r before cells row w c inside up given wave = record {
  ups = λ j h. let k = kept j in let s = up.ups j h in record { up = k.up ∙ s.up; below = k.below ∙ s.below };
  raws = λ j h p. (kept j).raw ∙ up.raws j h p;
  states = λ j h. let k = kept j in let s = up.states j h in record { under = k.under ∙ s.under; down = k.down ∙ s.down; onward = k.onward ∙ s.onward };
  fed = λ j h f. fed j h f (other_or_here j (to_of chains t));
}
  where
    kept : (j : ℕ) → KeepsWaves (cell_at cells j c) (cell_at (slice_set cells (to_of chains t) row) j c)
    kept = fed-keeps cells (to_of chains t) row w c inside given

    fed : (j : ℕ) → j ≤ root → IsFed chains (t + 1) j → ((j < to_of chains t) ⊎ (to_of chains t < j)) ⊎ (to_of chains t ≡ j)
        → (cell_at (slice_set cells (to_of chains t) row) j c).fed ≡ (r.stage j).fed
    fed j h f (inl apart) = ap (λ (x : Cell). x.fed) (fed-other cells (to_of chains t) row c j apart) ∙ up.fed j h (fed-before chains t j apart f)
    fed j h f (inr at) =
        subst (λ (k : ℕ). (cell_at (slice_set cells (to_of chains t) row) k c).fed ≡ (r.stage k).fed) at
        (ap (λ (x : Cell). x.fed) (fed-here cells (to_of chains t) row w c inside given) ∙ wave)

-- ---- all runs

pub rise_more : (count q root : ℕ) (shares : List Share) (chains : List Chain) (t : ℕ) (before cells after : List (List Cell)) (waves : List ℤ) (row : List Cell) → IsRowOfChains root chains
    → t + 1 < length chains → length after ≡ root + 1 → HaveRisenTo count q root shares chains t before cells
    → HaveAscended count q shares (first_of chains t) (end_of chains t) (chain_at chains t).sign cells after waves → KeepsOthers (first_of chains t) (end_of chains t) cells after
    → ((c : ℕ) → c < count → cell_in row c ≡ fed_with (wave_in waves c) (cell_at after (to_of chains t) c))
    → HaveRisenTo count q root shares chains (t + 1) before (slice_set after (to_of chains t) row)
rise_more count q root shares chains t before cells after waves row line h long so_far ascended others given c small r run begins =
    let up = so_far c small r run begins in
    let risen = ascended c small r.stage (r.height t) (can-ascend q root shares chains t r before cells c line (omega arith) run begins up) in
    let mid = ascended-up root shares chains (first_of chains t) (end_of chains t) t r before cells after c up risen.0 others in
    let hung = (line.to t h).1 in
    subst (λ (upto : ℕ). IsUp root shares chains upto (t + 1) r before (slice_set after (to_of chains t) row) c) (sym (line.next t h))
    (delivered-up root shares chains (end_of chains t) t r before after row (wave_in waves c) c (omega arith) mid (given c small) (risen.1 ∙ run.delivered t h))

pub rise_last : (count q root : ℕ) (shares : List Share) (chains : List Chain) (t : ℕ) (before cells after : List (List Cell)) (waves : List ℤ) → IsRowOfChains root chains
    → t + 1 ≡ length chains → HaveRisenTo count q root shares chains t before cells
    → HaveAscended count q shares (first_of chains t) (end_of chains t) (chain_at chains t).sign cells after waves → KeepsOthers (first_of chains t) (end_of chains t) cells after
    → HaveRisen count q root shares chains before after waves
rise_last count q root shares chains t before cells after waves line h so_far ascended others c small r run begins =
    let up = so_far c small r run begins in
    let risen = ascended c small r.stage (r.height t) (can-ascend q root shares chains t r before cells c line (omega arith) run begins up) in
    let mid = ascended-up root shares chains (first_of chains t) (end_of chains t) t r before cells after c up risen.0 others in
    let top : end_of chains t ≡ root = (line.last t h).1 in
    record {
      ups = λ j less. mid.ups j (omega arith);
      raws = λ j less. mid.raws j (omega arith);
      states = mid.states;
      fed = λ j less. mid.fed j less (all-fed chains t j h);
      wave = risen.1 ∙ run.arrives t h;
    }

-- before any chain
pub risen_none : (count q root : ℕ) (shares : List Share) (chains : List Chain) (cells : List (List Cell)) → IsRowOfChains root chains → HaveRisenTo count q root shares chains 0 cells cells
risen_none count q root shares chains cells line c small r run begins =
    let from : first_of chains 0 ≡ 0 = line.from in
    record {
      ups = λ j h. absurd (omega arith);
      raws = λ j h. absurd (omega arith);
      states = λ j h. record { under = refl; down = refl; onward = refl };
      fed = begins.fed;
    }
