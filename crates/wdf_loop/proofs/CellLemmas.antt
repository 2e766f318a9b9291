-- What the passes leave in the cells of a stage, and that they can.
use Rattle.std.proofs.Common.{◌≡◌, ℕ, ◌<◌, ◌≤◌, ◌^◌, Bool, true, false, if◌then◌else◌, refl, ap, sym, ◌∙◌, subst}
use Rattle.std.specs.Prelude.{ℤ, ◌+ℤ◌, unsigned_abs}
use Rattle.wdf_algebra.specs.JunctionValues.{series_part, parallel_value}
use Rattle.wdf_algebra.specs.Truncation.{trunc}
use Rattle.wdf_sched.specs.Operations.{parallel_rest}
use Rattle.wdf_loop.specs.declared.cell.Cell.{Cell}
use Rattle.wdf_loop.specs.declared.share.Share.{Share}
use Rattle.wdf_loop.specs.Cells.{CanFall, CanRise, IsWord, fallen_parallel, fallen_series, reflects, risen_parallel, risen_series}
use Rattle.wdf_loop.specs.RunCells.{Falls, Rises}
use Rattle.wdf_loop.specs.Runs.{HasFallen, HasRisen, IsJunction, IsShare, Values}
use mathlib.Core.Bool.{true≢false}
use Rattle.wdf_loop.proofs.Sizes.{rest-size, shares-size}

pub risen-shows : (q : ℕ) (s : Share) (v : Values) (w : ℤ) (c d : Cell) (z : ℤ) → IsJunction q s v → w ≡ v.below → reflects s c ≡ v.up → Rises q s w c d z
    → HasRisen s v c d × (z ≡ v.out)
risen-shows q s v w c d z law below up r = by s.parallel refl
  where
    by : (b : Bool) → s.parallel ≡ b → HasRisen s v c d × (z ≡ v.out)
    by true e =
        let cell : d ≡ risen_parallel s w c = r.cell ∙ ap (λ (b : Bool). if b then risen_parallel s w c else risen_series s w c) e in
        let raw : d.raw ≡ v.raw = ap (λ (x : Cell). x.raw) cell ∙ ((λ i. parallel_value s.m s.n (up i) (below i)) ∙ sym (law.parallel e).raw) in (
          record {
            fed = ap (λ (x : Cell). x.fed) cell;
            under = ap (λ (x : Cell). x.under) cell;
            down = ap (λ (x : Cell). x.down) cell;
            onward = ap (λ (x : Cell). x.onward) cell;
            up = ap (λ (x : Cell). x.up) cell ∙ up;
            below = ap (λ (x : Cell). x.below) cell ∙ below;
            raw = λ _. raw;
          },
          r.wave ∙ (ap (λ (b : Bool). if b then trunc d.raw q else d.up +ℤ d.below) e ∙ (ap (λ (x : ℤ). trunc x q) raw ∙ sym (law.parallel e).rises)),
        )
    by false e =
        let cell : d ≡ risen_series s w c = r.cell ∙ ap (λ (b : Bool). if b then risen_parallel s w c else risen_series s w c) e in
        let own : d.up ≡ v.up = ap (λ (x : Cell). x.up) cell ∙ up in
        let other : d.below ≡ v.below = ap (λ (x : Cell). x.below) cell ∙ below in (
          record {
            fed = ap (λ (x : Cell). x.fed) cell;
            under = ap (λ (x : Cell). x.under) cell;
            down = ap (λ (x : Cell). x.down) cell;
            onward = ap (λ (x : Cell). x.onward) cell;
            up = own;
            below = other;
            raw = λ t. absurd (true≢false (sym t ∙ e));
          },
          r.wave ∙ (ap (λ (b : Bool). if b then trunc d.raw q else d.up +ℤ d.below) e ∙ ((λ i. own i +ℤ other i) ∙ sym (law.series e).rises)),
        )

pub fallen-shows : (q : ℕ) (s : Share) (v : Values) (w : ℤ) (c d : Cell) (z : ℤ) → IsJunction q s v → c.up ≡ v.up → c.below ≡ v.below → (s.parallel ≡ true → c.raw ≡ v.raw) → w ≡ v.sent
    → Falls q s w c d z → HasFallen v c d × (z ≡ v.onward)
fallen-shows q s v w c d z law up below raw sent r = by s.parallel refl
  where
    by : (b : Bool) → s.parallel ≡ b → HasFallen v c d × (z ≡ v.onward)
    by true e =
        let cell : d ≡ fallen_parallel q w c = r.cell ∙ ap (λ (b : Bool). if b then fallen_parallel q w c else fallen_series q s w c) e in
        let own = raw e in
        let onward : d.onward ≡ v.onward = ap (λ (x : Cell). x.onward) cell ∙ ((λ i. trunc (parallel_rest q (own i) (sent i) (below i)) q) ∙ sym (law.parallel e).onward) in (
          record {
            fed = ap (λ (x : Cell). x.fed) cell;
            under = ap (λ (x : Cell). x.under) cell;
            up = ap (λ (x : Cell). x.up) cell;
            below = ap (λ (x : Cell). x.below) cell;
            raw = ap (λ (x : Cell). x.raw) cell;
            down = ap (λ (x : Cell). x.down) cell ∙ ((λ i. trunc (parallel_rest q (own i) (sent i) (up i)) q) ∙ sym (law.parallel e).down);
            onward = onward;
          },
          r.wave ∙ onward,
        )
    by false e =
        let cell : d ≡ fallen_series q s w c = r.cell ∙ ap (λ (b : Bool). if b then fallen_parallel q w c else fallen_series q s w c) e in
        let onward : d.onward ≡ v.onward = ap (λ (x : Cell). x.onward) cell ∙ ((λ i. trunc (series_part q s.n (up i) (below i) (sent i) (below i)) q) ∙ sym (law.series e).onward) in (
          record {
            fed = ap (λ (x : Cell). x.fed) cell;
            under = ap (λ (x : Cell). x.under) cell;
            up = ap (λ (x : Cell). x.up) cell;
            below = ap (λ (x : Cell). x.below) cell;
            raw = ap (λ (x : Cell). x.raw) cell;
            down = ap (λ (x : Cell). x.down) cell ∙ ((λ i. trunc (series_part q s.m (up i) (below i) (sent i) (up i)) q) ∙ sym (law.series e).down);
            onward = onward;
          },
          r.wave ∙ onward,
        )

-- ---- sizes

pub can-rise : (q : ℕ) (s : Share) (v : Values) (w : ℤ) (c : Cell) → 0 < q → IsShare q s → IsJunction q s v → w ≡ v.below → reflects s c ≡ v.up → IsWord q c.down → CanRise q s w c
can-rise q s v w c some share law below up state = record {
  sign = share.sign;
  fed = rest-size q s.sign c.down c.fed v.up some share.sign state law.up up;
  down = state;
  up = subst (IsWord q) (sym up) law.up;
  below = subst (IsWord q) (sym below) law.below;
}

pub can-fall : (q : ℕ) (s : Share) (v : Values) (w : ℤ) (c : Cell) → IsShare q s → IsJunction q s v → c.up ≡ v.up → c.below ≡ v.below → (s.parallel ≡ true → c.raw ≡ v.raw) → w ≡ v.sent
    → CanFall q s w c
can-fall q s v w c share law up below raw sent = record {
  words = record {
    up = subst (IsWord q) (sym up) law.up;
    below = subst (IsWord q) (sym below) law.below;
    sent = subst (IsWord q) (sym sent) law.sent;
  };
  raw = λ e. subst (λ (z : ℤ). unsigned_abs z ≤ 2 ^ 61) (sym (raw e ∙ (law.parallel e).raw)) (shares-size q s.m s.n v.up v.below share.whole law.up law.below);
}
