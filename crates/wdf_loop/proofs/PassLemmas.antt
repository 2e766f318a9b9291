-- One stage more of a chain, on the way up and on the way down.
use Rattle.std.proofs.Common.{◌≡◌, ℕ, ◌+◌, ◌<◌, ◌≤◌, List, [], length, true, ap, sym, ◌∙◌, subst, arith}
use Rattle.std.specs.Prelude.{ℤ, slice_set}
use Rattle.std.proofs.lemmas.List.{get_or-set_same, get_or-set_other}
use Rattle.std.proofs.lemmas.Bool.{cases_lt}
use mathlib.Core.Logic.{◌⊎◌, inl, inr}
use Rattle.wdf_loop.specs.declared.cell.Cell.{Cell}
use Rattle.wdf_loop.specs.declared.share.Share.{Share}
use Rattle.wdf_loop.specs.Cells.{CanFall, CanRise, reflects}
use Rattle.wdf_loop.specs.Layouts.{share_at}
use Rattle.wdf_loop.specs.RunCells.{AllCanFall, AllCanRise, Falls, InEach, Rises, cell_in, wave_in}
use Rattle.wdf_loop.specs.Runs.{AllCanClimb, AllCanDescend, HasFallen, HasRisen, HaveClimbed, HaveDescended, IsShare, cell_at, row_at}
use Rattle.wdf_loop.proofs.CellLemmas.{can-fall, can-rise, fallen-shows, risen-shows}

-- ---- the rows

pub row_here : (cells : List (List Cell)) (j : ℕ) (row : List Cell) → j < length cells → row_at (slice_set cells j row) j ≡ row
row_here cells j row h = get_or-set_same cells j row [] h

pub row_other : (cells : List (List Cell)) (j : ℕ) (row : List Cell) (i : ℕ) → (i < j) ⊎ (j < i) → row_at (slice_set cells j row) i ≡ row_at cells i
row_other cells j row i (inl h) = get_or-set_other cells j i row [] (λ e. absurd (omega arith))
row_other cells j row i (inr h) = get_or-set_other cells j i row [] (λ e. absurd (omega arith))

-- what holds of the cells of the run c in all stages before j, and in j by its new row, holds in one stage more
stage_more : (P : ℕ → Cell → Type 0) (first j c : ℕ) (cells : List (List Cell)) (row : List Cell) → j < length cells
    → ((i : ℕ) → first ≤ i → i < j → P i (cell_at cells i c)) → P j (cell_in row c)
    → (i : ℕ) → first ≤ i → i < j + 1 → P i (cell_at (slice_set cells j row) i c)
stage_more P first j c cells row inside so_far now i low h = by (cases_lt i j)
  where
    by : (i < j) ⊎ (j ≤ i) → P i (cell_at (slice_set cells j row) i c)
    by (inl less) = subst (λ (r : List Cell). P i (cell_in r c)) (sym (row_other cells j row i (inl less))) (so_far i low less)
    by (inr more) =
        let at : j ≡ i = omega arith in
        subst (λ (k : ℕ). P k (cell_at (slice_set cells j row) k c)) at (subst (λ (r : List Cell). P j (cell_in r c)) (sym (row_here cells j row inside)) now)

-- the same downwards, j being the first of them
stage_less : (P : ℕ → Cell → Type 0) (j end c : ℕ) (cells : List (List Cell)) (row : List Cell) → j < length cells
    → ((i : ℕ) → j + 1 ≤ i → i < end → P i (cell_at cells i c)) → P j (cell_in row c)
    → (i : ℕ) → j ≤ i → i < end → P i (cell_at (slice_set cells j row) i c)
stage_less P j end c cells row inside so_far now i low h = by (cases_lt j i)
  where
    by : (j < i) ⊎ (i ≤ j) → P i (cell_at (slice_set cells j row) i c)
    by (inl more) = subst (λ (r : List Cell). P i (cell_in r c)) (sym (row_other cells j row i (inr more))) (so_far i (omega arith) h)
    by (inr less) =
        let at : j ≡ i = omega arith in
        subst (λ (k : ℕ). P k (cell_at (slice_set cells j row) k c)) at (subst (λ (r : List Cell). P j (cell_in r c)) (sym (row_here cells j row inside)) now)

-- the stages outside stay
pub others_more : (first j : ℕ) (before cells : List (List Cell)) (row : List Cell) → first ≤ j → ((i : ℕ) → (i < first) ⊎ (j ≤ i) → row_at cells i ≡ row_at before i)
    → (i : ℕ) → (i < first) ⊎ (j + 1 ≤ i) → row_at (slice_set cells j row) i ≡ row_at before i
others_more first j before cells row low same i (inl h) = row_other cells j row i (inl (omega arith)) ∙ same i (inl h)
others_more first j before cells row low same i (inr h) = row_other cells j row i (inr (omega arith)) ∙ same i (inr (omega arith))

pub others_less : (j next end : ℕ) (before cells : List (List Cell)) (row : List Cell) → next ≡ j + 1 → j < end → ((i : ℕ) → (i < next) ⊎ (end ≤ i) → row_at cells i ≡ row_at before i)
    → (i : ℕ) → (i < j) ⊎ (end ≤ i) → row_at (slice_set cells j row) i ≡ row_at before i
others_less j next end before cells row e high same i (inl h) = row_other cells j row i (inl h) ∙ same i (inl (omega arith))
others_less j next end before cells row e high same i (inr h) = row_other cells j row i (inr (omega arith)) ∙ same i (inr h)

-- ---- up

pub climb_can : (count q : ℕ) (shares : List Share) (first end j : ℕ) (before cells : List (List Cell)) (held waves : List ℤ) → 0 < q → IsShare q (share_at shares j)
    → first ≤ j → j < end → AllCanClimb count q shares first end before held → HaveClimbed count q shares first end j before held cells waves → row_at cells j ≡ row_at before j
    → AllCanRise q count (share_at shares j) waves (row_at cells j)
climb_can count q shares first end j before cells held waves some share low high all so_far same c h =
    let one = all c h in
    let can = one.2 in
    let v = one.0 in
    let wave = (so_far c h one.0 one.1 can).1 ∙ can.climb.below j low high in
    subst (λ (r : List Cell). CanRise q (share_at shares j) (wave_in waves c) (cell_in r c)) (sym same)
    (can-rise q (share_at shares j) (v j) (wave_in waves c) (cell_at before j c) some share (can.climb.junctions j low high) wave (can.up j low high) (can.states j low high))

pub climb_more : (count q : ℕ) (shares : List Share) (first end j : ℕ) (before cells : List (List Cell)) (held waves : List ℤ) (row : List Cell) (waves' : List ℤ)
    → first ≤ j → j < end → j < length cells → HaveClimbed count q shares first end j before held cells waves → row_at cells j ≡ row_at before j
    → InEach count (Rises q (share_at shares j)) waves (row_at cells j) row waves'
    → HaveClimbed count q shares first end (j + 1) before held (slice_set cells j row) waves'
climb_more count q shares first end j before cells held waves row waves' low high inside so_far same each c h v height can =
    let now = so_far c h v height can in
    let here : cell_at cells j c ≡ cell_at before j c = ap (λ (r : List Cell). cell_in r c) same in
    let up : reflects (share_at shares j) (cell_at cells j c) ≡ (v j).up = ap (reflects (share_at shares j)) here ∙ can.up j low high in
    let shown = risen-shows q (share_at shares j) (v j) (wave_in waves c) (cell_at cells j c) (cell_in row c) (wave_in waves' c) (can.climb.junctions j low high)
    (now.1 ∙ can.climb.below j low high) up (each c h) in (
      stage_more (λ (i : ℕ) (d : Cell). HasRisen (share_at shares i) (v i) (cell_at before i c) d) first j c cells row inside now.0
          (subst (λ (b : Cell). HasRisen (share_at shares j) (v j) b (cell_in row c)) here shown.0),
      shown.1 ∙ sym (can.climb.out j low high),
    )

-- ---- down

pub descend_can : (count q : ℕ) (shares : List Share) (first end j : ℕ) (before cells : List (List Cell)) (held waves : List ℤ) → IsShare q (share_at shares j)
    → first ≤ j → j < end → AllCanDescend count q shares first end before held → HaveDescended count q shares first end (j + 1) before held cells waves → row_at cells j ≡ row_at before j
    → AllCanFall q count (share_at shares j) waves (row_at cells j)
descend_can count q shares first end j before cells held waves share low high all so_far same c h =
    let one = all c h in
    let can = one.2 in
    let v = one.0 in
    let wave = (so_far c h one.0 one.1 can).1 ∙ can.descent.sent j low high in
    subst (λ (r : List Cell). CanFall q (share_at shares j) (wave_in waves c) (cell_in r c)) (sym same)
    (can-fall q (share_at shares j) (v j) (wave_in waves c) (cell_at before j c) share (can.descent.junctions j low high) (can.up j low high) (can.below j low high) (can.raw j low high) wave)

pub descend_more : (count q : ℕ) (shares : List Share) (first end j : ℕ) (before cells : List (List Cell)) (held waves : List ℤ) (row : List Cell) (waves' : List ℤ)
    → first ≤ j → j < end → j < length cells → HaveDescended count q shares first end (j + 1) before held cells waves → row_at cells j ≡ row_at before j
    → InEach count (Falls q (share_at shares j)) waves (row_at cells j) row waves'
    → HaveDescended count q shares first end j before held (slice_set cells j row) waves'
descend_more count q shares first end j before cells held waves row waves' low high inside so_far same each c h v depth can =
    let now = so_far c h v depth can in
    let here : cell_at cells j c ≡ cell_at before j c = ap (λ (r : List Cell). cell_in r c) same in
    let raw : (share_at shares j).parallel ≡ true → (cell_at cells j c).raw ≡ (v j).raw = λ e. ap (λ (x : Cell). x.raw) here ∙ can.raw j low high e in
    let shown = fallen-shows q (share_at shares j) (v j) (wave_in waves c) (cell_at cells j c) (cell_in row c) (wave_in waves' c) (can.descent.junctions j low high)
    (ap (λ (x : Cell). x.up) here ∙ can.up j low high) (ap (λ (x : Cell). x.below) here ∙ can.below j low high) raw (now.1 ∙ can.descent.sent j low high) (each c h) in (
      stage_less (λ (i : ℕ) (d : Cell). HasFallen (v i) (cell_at before i c) d) j end c cells row inside now.0
          (subst (λ (b : Cell). HasFallen (v j) b (cell_in row c)) here shown.0),
      shown.1 ∙ sym (can.descent.onward j low high),
    )
