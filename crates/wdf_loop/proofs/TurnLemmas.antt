-- The root between the way up and the way down, and a whole frame.
use Rattle.std.proofs.Common.{◌≡◌, ℕ, ◌<◌, ◌≤◌, List, length, ap, sym, ◌∙◌, subst, arith}
use Rattle.std.specs.Prelude.{ℤ, ◌+ℤ◌, ◌*ℤ◌, slice_set}
use Rattle.std.proofs.lemmas.Bool.{cases_lt}
use mathlib.Core.Logic.{◌⊎◌, inl, inr}
use Rattle.wdf_algebra.specs.JunctionValues.{root_value}
use Rattle.wdf_algebra.specs.Truncation.{trunc}
use Rattle.wdf_loop.specs.declared.cell.Cell.{Cell}
use Rattle.wdf_loop.specs.declared.chain.Chain.{Chain}
use Rattle.wdf_loop.specs.declared.share.Share.{Share}
use Rattle.wdf_loop.specs.Cells.{IsWord, reflects}
use Rattle.wdf_loop.specs.Frames.{AllHaveTurned, AllRun, AreDone, Begins, HasRaw, HasTurned, HasUps, HaveFallenTo, HaveRisen, IsRisen, IsRun, KeepsFed, RunValues}
use Rattle.wdf_loop.specs.Layouts.{share_at}
use Rattle.wdf_loop.specs.RunCells.{AllCanRise, InEach, Turns, cell_in, wave_in}
use Rattle.wdf_loop.specs.Runs.{IsShare, cell_at, row_at}
use Rattle.wdf_loop.proofs.PassLemmas.{row_here, row_other}
use Rattle.wdf_loop.proofs.Sizes.{rest-size}

root-reflects : (q root : ℕ) (shares : List Share) (chains : List Chain) (r : RunValues) (before cells : List (List Cell)) (waves : List ℤ) (c : ℕ) → Begins q root shares chains r before c
    → IsRisen root shares r before cells waves c → reflects (share_at shares root) (cell_at cells root c) ≡ (r.stage root).up
root-reflects q root shares chains r before cells waves c begins risen =
    let here : root ≤ root = omega arith in
    (λ i. (share_at shares root).sign *ℤ (risen.states root here).down i +ℤ risen.fed root here i) ∙ begins.up root here

pub turn_can : (count q root : ℕ) (shares : List Share) (chains : List Chain) (before cells : List (List Cell)) (waves : List ℤ) → 0 < q → IsShare q (share_at shares root)
    → AllRun count q root shares chains before → HaveRisen count q root shares chains before cells waves → AllCanRise q count (share_at shares root) waves (row_at cells root)
turn_can count q root shares chains before cells waves some share all risen c small =
    let one = all c small in
    let done = risen c small one.0 one.1 one.2 in
    let here : root ≤ root = omega arith in
    let up = root-reflects q root shares chains one.0 before cells waves c one.2 done in
    let state : IsWord q (cell_at cells root c).down = subst (IsWord q) (sym (done.states root here).down) (one.2.down root here) in
    record {
      sign = share.sign;
      fed = rest-size q (share_at shares root).sign (cell_at cells root c).down (cell_at cells root c).fed (one.0.stage root).up some share.sign state one.1.root_up up;
      down = state;
      up = subst (IsWord q) (sym up) one.1.root_up;
      below = subst (IsWord q) (sym done.wave) one.1.root_below;
    }

pub has-turned : (q root : ℕ) (shares : List Share) (chains : List Chain) (r : RunValues) (before cells : List (List Cell)) (waves waves' : List ℤ) (row : List Cell) (c : ℕ) → root < length cells
    → IsRun q root shares chains r → Begins q root shares chains r before c → IsRisen root shares r before cells waves c
    → Turns q (share_at shares root) (wave_in waves c) (cell_at cells root c) (cell_in row c) (wave_in waves' c) → HasTurned root shares r (slice_set cells root row) waves' c
has-turned q root shares chains r before cells waves waves' row c inside run begins risen t = record {
  ups = λ j h. ups j h (cases_lt j root);
  raws = λ j h. subst (HasRaw (share_at shares j) (r.stage j)) (sym (other j h)) (risen.raws j h);
  downs = record { down = ap (λ (x : Cell). x.down) here ∙ down; onward = ap (λ (x : Cell). x.onward) here ∙ onward };
  wave = t.wave ∙ onward;
}
  where
    other : (j : ℕ) → j < root → cell_at (slice_set cells root row) j c ≡ cell_at cells j c
    other j h = ap (λ (x : List Cell). cell_in x c) (row_other cells root row j (inl h))

    here : cell_at (slice_set cells root row) root c ≡ cell_in row c
    here = ap (λ (x : List Cell). cell_in x c) (row_here cells root row inside)

    own : reflects (share_at shares root) (cell_at cells root c) ≡ (r.stage root).up
    own = root-reflects q root shares chains r before cells waves c begins risen

    down : (cell_in row c).down ≡ (r.stage root).down
    down = ap (λ (x : Cell). x.down) t.cell ∙ ((λ i. trunc (root_value q (share_at shares root).m (share_at shares root).n (own i) (risen.wave i) (own i)) q) ∙ sym run.turns.down)

    onward : (cell_in row c).onward ≡ (r.stage root).onward
    onward = ap (λ (x : Cell). x.onward) t.cell ∙ ((λ i. trunc (root_value q (share_at shares root).m (share_at shares root).n (own i) (risen.wave i) (risen.wave i)) q) ∙ sym run.turns.onward)

    ups : (j : ℕ) → j ≤ root → (j < root) ⊎ (root ≤ j) → HasUps (r.stage j) (cell_at (slice_set cells root row) j c)
    ups j h (inl less) = subst (HasUps (r.stage j)) (sym (other j less)) (risen.ups j less)
    ups j h (inr more) =
        let at : root ≡ j = omega arith in
        subst (λ (k : ℕ). HasUps (r.stage k) (cell_at (slice_set cells root row) k c)) at (record {
          up = ap (λ (x : Cell). x.up) here ∙ (ap (λ (x : Cell). x.up) t.cell ∙ own);
          below = ap (λ (x : Cell). x.below) here ∙ (ap (λ (x : Cell). x.below) t.cell ∙ risen.wave);
        })

-- the turn leaves what the parts are fed
turned-keeps : (q root : ℕ) (shares : List Share) (cells : List (List Cell)) (w z : ℤ) (row : List Cell) (c : ℕ) → root < length cells
    → Turns q (share_at shares root) w (cell_at cells root c) (cell_in row c) z → (j : ℕ) → j ≤ root → KeepsFed (cell_at cells j c) (cell_at (slice_set cells root row) j c)
turned-keeps q root shares cells w z row c inside t j h = by (cases_lt j root)
  where
    here : cell_at (slice_set cells root row) root c ≡ cell_in row c
    here = ap (λ (x : List Cell). cell_in x c) (row_here cells root row inside)

    by : (j < root) ⊎ (root ≤ j) → KeepsFed (cell_at cells j c) (cell_at (slice_set cells root row) j c)
    by (inl less) =
        let e : cell_at (slice_set cells root row) j c ≡ cell_at cells j c = ap (λ (x : List Cell). cell_in x c) (row_other cells root row j (inl less)) in
        record { fed = ap (λ (x : Cell). x.fed) e; under = ap (λ (x : Cell). x.under) e }
    by (inr more) =
        let at : root ≡ j = omega arith in
        subst (λ (k : ℕ). KeepsFed (cell_at cells k c) (cell_at (slice_set cells root row) k c)) at (record {
          fed = ap (λ (x : Cell). x.fed) here ∙ ap (λ (x : Cell). x.fed) t.cell;
          under = ap (λ (x : Cell). x.under) here ∙ ap (λ (x : Cell). x.under) t.cell;
        })

pub all_turned : (count q root : ℕ) (shares : List Share) (chains : List Chain) (before cells : List (List Cell)) (waves waves' : List ℤ) (row : List Cell) → root < length cells
    → AllRun count q root shares chains before → HaveRisen count q root shares chains before cells waves
    → InEach count (Turns q (share_at shares root)) waves (row_at cells root) row waves'
    → AllHaveTurned count q root shares chains (slice_set cells root row) waves'
all_turned count q root shares chains before cells waves waves' row inside all risen turned c small =
    let one = all c small in
    (one.0, one.1, has-turned q root shares chains one.0 before cells waves waves' row c inside one.1 one.2 (risen c small one.0 one.1 one.2) (turned c small))

pub all_done : (count q root : ℕ) (shares : List Share) (chains : List Chain) (before cells after : List (List Cell)) (waves waves' : List ℤ) (row : List Cell) → root < length cells
    → HaveRisen count q root shares chains before cells waves → InEach count (Turns q (share_at shares root)) waves (row_at cells root) row waves'
    → HaveFallenTo count q root shares chains 0 (slice_set cells root row) waves' after → AreDone count q root shares chains before after
all_done count q root shares chains before cells after waves waves' row inside risen turned fallen c small r run begins =
    let up = risen c small r run begins in
    let down = fallen c small r run (has-turned q root shares chains r before cells waves waves' row c inside run begins up (turned c small)) in
    let kept = turned-keeps q root shares cells (wave_in waves c) (wave_in waves' c) row c inside (turned c small) in
    record {
      ups = down.ups;
      raws = down.raws;
      downs = λ j h. down.downs j (omega arith) h;
      fed = λ j h. (down.kept j h).fed ∙ ((kept j h).fed ∙ up.fed j h);
      under = λ j h. (down.kept j h).under ∙ ((kept j h).under ∙ (up.states j h).under);
    }
