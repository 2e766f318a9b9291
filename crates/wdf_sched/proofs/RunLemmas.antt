-- Operations in order, carried out: in the end the slots hold what each of them writes.
use Rattle.std.proofs.Common.{◌≡◌, ℕ, ◌+◌, ◌-◌, ◌<◌, ◌≤◌, Bool, if◌then◌else◌, List, [], ◌∷◌, refl, ap, sym, ◌∙◌, subst, arith}
use Rattle.std.specs.Prelude.{ℤ, ◌+ℤ◌}
use Rattle.std.proofs.lemmas.Bool.{eq-eqb, ne_eqb, cases_lt}
use mathlib.Core.Logic.{◌⊎◌, inl, inr}
use Rattle.wdf_algebra.specs.JunctionValues.{series_part, parallel_value, root_value}
use Rattle.wdf_algebra.specs.Truncation.{trunc}
use Rattle.wdf_sched.specs.declared.op.Op.{Op}
use Rattle.wdf_sched.specs.declared.op.Op.TheVariants.{UpSeries, UpParallel, Root, DownSeries, DownParallel}
use Rattle.wdf_sched.specs.Operations.{Slots, Holds, HoldAll, ReadsBelow, WritesFrom, written_by, InOrder, parallel_rest}
use Rattle.wdf_sched.specs.Carrying.{put, after_op, after_ops, AgreeBelow}

-- ---- what one operation writes

put-here : (j : ℕ) (z : ℤ) (v : Slots) → put j z v j ≡ z
put-here j z v = ap (λ (b : Bool). if b then z else v j) (eq-eqb j j refl)

put-other : (j : ℕ) (z : ℤ) (v : Slots) (i : ℕ) → i < j → put j z v i ≡ v i
put-other j z v i h = ap (λ (b : Bool). if b then z else v i) (ne_eqb j i (λ e. absurd (omega arith)))

-- two writes, the second above the first
put-two : (j k : ℕ) (z1 z2 : ℤ) (v : Slots) → j < k → put k z2 (put j z1 v) j ≡ z1
put-two j k z1 z2 v h = put-other k z2 (put j z1 v) j h ∙ put-here j z1 v

put-two-other : (j k : ℕ) (z1 z2 : ℤ) (v : Slots) (i : ℕ) → j < k → i < j → put k z2 (put j z1 v) i ≡ v i
put-two-other j k z1 z2 v i h below = put-other k z2 (put j z1 v) i (omega arith) ∙ put-other j z1 v i below

-- the slots below those that it writes stay
op-keeps : (q next : ℕ) (v : Slots) (op : Op) → WritesFrom next op → AgreeBelow next v (after_op q op v)
op-keeps q next v (UpSeries a b out) w i h = put-other out _ v i (omega arith)
op-keeps q next v (UpParallel a b m raw out) w i h = put-two-other raw out _ _ v i (omega (arith, w.0, w.1)) (omega (arith, w.0))
op-keeps q next v (Root a b m x y) w i h = put-two-other x y _ _ v i (omega (arith, w.0, w.1)) (omega (arith, w.0))
op-keeps q next v (DownSeries a b d m x y) w i h = put-two-other x y _ _ v i (omega (arith, w.0, w.1)) (omega (arith, w.0))
op-keeps q next v (DownParallel a b d raw x y) w i h = put-two-other x y _ _ v i (omega (arith, w.0, w.1)) (omega (arith, w.0))

-- and those that it writes hold what it means
op-holds : (q next : ℕ) (v : Slots) (op : Op) → ReadsBelow next op → WritesFrom next op → Holds q (after_op q op v) op
op-holds q next v (UpSeries a b out) r w =
    let keeps = op-keeps q next v (UpSeries a b out) w in
    put-here out _ v ∙ (λ i. sym (keeps a r.0) i +ℤ sym (keeps b r.1) i)
op-holds q next v (UpParallel a b m raw out) r w =
    let keeps = op-keeps q next v (UpParallel a b m raw out) w in
    let z = parallel_value m (q - m) (v a) (v b) in
    let own = put-two raw out z (trunc z q) v (omega (arith, w.0, w.1)) in (
      own ∙ (λ i. parallel_value m (q - m) (sym (keeps a r.0) i) (sym (keeps b r.1) i)),
      put-here out (trunc z q) (put raw z v) ∙ sym (ap (λ (y : ℤ). trunc y q) own),
    )
op-holds q next v (Root a b m x y) r w =
    let keeps = op-keeps q next v (Root a b m x y) w in
    let ka = sym (keeps a r.0) in
    let kb = sym (keeps b r.1) in (
      put-two x y _ _ v (omega (arith, w.0, w.1)) ∙ (λ i. trunc (root_value q m (q - m) (ka i) (kb i) (ka i)) q),
      put-here y _ (put x (trunc (root_value q m (q - m) (v a) (v b) (v a)) q) v) ∙ (λ i. trunc (root_value q m (q - m) (ka i) (kb i) (kb i)) q),
    )
op-holds q next v (DownSeries a b d m x y) r w =
    let keeps = op-keeps q next v (DownSeries a b d m x y) w in
    let ka = sym (keeps a r.0) in
    let kb = sym (keeps b r.1) in
    let kd = sym (keeps d r.2) in (
      put-two x y _ _ v (omega (arith, w.0, w.1)) ∙ (λ i. trunc (series_part q m (ka i) (kb i) (kd i) (ka i)) q),
      put-here y _ (put x (trunc (series_part q m (v a) (v b) (v d) (v a)) q) v) ∙ (λ i. trunc (series_part q (q - m) (ka i) (kb i) (kd i) (kb i)) q),
    )
op-holds q next v (DownParallel a b d raw x y) r w =
    let keeps = op-keeps q next v (DownParallel a b d raw x y) w in
    let ka = sym (keeps a r.0) in
    let kb = sym (keeps b r.1) in
    let kd = sym (keeps d r.2) in
    let kr = sym (keeps raw r.3) in (
      put-two x y _ _ v (omega (arith, w.0, w.1)) ∙ (λ i. trunc (parallel_rest q (kr i) (kd i) (ka i)) q),
      put-here y _ (put x (trunc (parallel_rest q (v raw) (v d) (v a)) q) v) ∙ (λ i. trunc (parallel_rest q (kr i) (kd i) (kb i)) q),
    )

-- ---- values that agree

-- one slot more
one_more : (next out : ℕ) (v w : Slots) → out ≡ next → AgreeBelow next v w → w out ≡ v out → AgreeBelow (next + 1) v w
one_more next out v w own same h i below = by (cases_lt i next)
  where
    by : (i < next) ⊎ (next ≤ i) → w i ≡ v i
    by (inl less) = same i less
    by (inr more) = let at : out ≡ i = omega arith in subst (λ (j : ℕ). w j ≡ v j) at h

two_more : (next j k : ℕ) (v w : Slots) → (j ≡ next) × (k ≡ next + 1) → AgreeBelow next v w → w j ≡ v j → w k ≡ v k → AgreeBelow (next + 2) v w
two_more next j k v w own same h1 h2 i below = one_more (next + 1) k v w own.1 (one_more next j v w own.0 same h1) h2 i (omega arith)

-- where two agree below what an operation writes, and it holds in both, they agree on what it writes
op-agrees : (q next : ℕ) (v w : Slots) (op : Op) → ReadsBelow next op → WritesFrom next op → AgreeBelow next v w → Holds q v op → Holds q w op
    → AgreeBelow (next + written_by op) v w
op-agrees q next v w (UpSeries a b out) r own same h k =
    let sa = same a r.0 in
    let sb = same b r.1 in
    one_more next out v w own same (k ∙ ((λ i. sa i +ℤ sb i) ∙ sym h))
op-agrees q next v w (UpParallel a b m raw out) r own same h k =
    let sa = same a r.0 in
    let sb = same b r.1 in
    let sr : w raw ≡ v raw = k.0 ∙ ((λ i. parallel_value m (q - m) (sa i) (sb i)) ∙ sym h.0) in
    two_more next raw out v w own same sr (k.1 ∙ ((λ i. trunc (sr i) q) ∙ sym h.1))
op-agrees q next v w (Root a b m x y) r own same h k =
    let sa = same a r.0 in
    let sb = same b r.1 in
    two_more next x y v w own same (k.0 ∙ ((λ i. trunc (root_value q m (q - m) (sa i) (sb i) (sa i)) q) ∙ sym h.0))
    (k.1 ∙ ((λ i. trunc (root_value q m (q - m) (sa i) (sb i) (sb i)) q) ∙ sym h.1))
op-agrees q next v w (DownSeries a b d m x y) r own same h k =
    let sa = same a r.0 in
    let sb = same b r.1 in
    let sd = same d r.2 in
    two_more next x y v w own same (k.0 ∙ ((λ i. trunc (series_part q m (sa i) (sb i) (sd i) (sa i)) q) ∙ sym h.0))
    (k.1 ∙ ((λ i. trunc (series_part q (q - m) (sa i) (sb i) (sd i) (sb i)) q) ∙ sym h.1))
op-agrees q next v w (DownParallel a b d raw x y) r own same h k =
    let sa = same a r.0 in
    let sb = same b r.1 in
    let sd = same d r.2 in
    let sr = same raw r.3 in
    two_more next x y v w own same (k.0 ∙ ((λ i. trunc (parallel_rest q (sr i) (sd i) (sa i)) q) ∙ sym h.0))
    (k.1 ∙ ((λ i. trunc (parallel_rest q (sr i) (sd i) (sb i)) q) ∙ sym h.1))

-- what holds in one holds in the other, where they agree on all that is read and written
op-moves : (q next : ℕ) (v w : Slots) (op : Op) → ReadsBelow next op → WritesFrom next op → AgreeBelow (next + written_by op) v w → Holds q v op → Holds q w op
op-moves q next v w (UpSeries a b out) r own same h =
    let sa = sym (same a (omega (arith, r.0))) in
    let sb = sym (same b (omega (arith, r.1))) in
    same out (omega arith) ∙ (h ∙ (λ i. sa i +ℤ sb i))
op-moves q next v w (UpParallel a b m raw out) r own same h =
    let sa = sym (same a (omega (arith, r.0))) in
    let sb = sym (same b (omega (arith, r.1))) in
    let sr = same raw (omega (arith, own.0)) in (
      sr ∙ (h.0 ∙ (λ i. parallel_value m (q - m) (sa i) (sb i))),
      same out (omega (arith, own.1)) ∙ (h.1 ∙ (λ i. trunc (sym sr i) q)),
    )
op-moves q next v w (Root a b m x y) r own same h =
    let sa = sym (same a (omega (arith, r.0))) in
    let sb = sym (same b (omega (arith, r.1))) in (
      same x (omega (arith, own.0)) ∙ (h.0 ∙ (λ i. trunc (root_value q m (q - m) (sa i) (sb i) (sa i)) q)),
      same y (omega (arith, own.1)) ∙ (h.1 ∙ (λ i. trunc (root_value q m (q - m) (sa i) (sb i) (sb i)) q)),
    )
op-moves q next v w (DownSeries a b d m x y) r own same h =
    let sa = sym (same a (omega (arith, r.0))) in
    let sb = sym (same b (omega (arith, r.1))) in
    let sd = sym (same d (omega (arith, r.2))) in (
      same x (omega (arith, own.0)) ∙ (h.0 ∙ (λ i. trunc (series_part q m (sa i) (sb i) (sd i) (sa i)) q)),
      same y (omega (arith, own.1)) ∙ (h.1 ∙ (λ i. trunc (series_part q (q - m) (sa i) (sb i) (sd i) (sb i)) q)),
    )
op-moves q next v w (DownParallel a b d raw x y) r own same h =
    let sa = sym (same a (omega (arith, r.0))) in
    let sb = sym (same b (omega (arith, r.1))) in
    let sd = sym (same d (omega (arith, r.2))) in
    let sr = sym (same raw (omega (arith, r.3))) in (
      same x (omega (arith, own.0)) ∙ (h.0 ∙ (λ i. trunc (parallel_rest q (sr i) (sd i) (sa i)) q)),
      same y (omega (arith, own.1)) ∙ (h.1 ∙ (λ i. trunc (parallel_rest q (sr i) (sd i) (sb i)) q)),
    )

-- ---- a list of operations

pub run-holds : (q : ℕ) (ops : List Op) (next end : ℕ) (v : Slots) → InOrder next ops end
    → AgreeBelow next v (after_ops q ops v) × HoldAll q (after_ops q ops v) ops
run-holds q [] next end v o = (λ i h. refl, tt)
run-holds q (op ∷ ops) next end v o =
    let rest = run-holds q ops (next + written_by op) end (after_op q op v) o.2 in (
      λ i h. rest.0 i (omega arith) ∙ op-keeps q next v op o.1 i h,
      (op-moves q next (after_op q op v) (after_ops q ops (after_op q op v)) op o.0 o.1 rest.0 (op-holds q next v op o.0 o.1), rest.1),
    )

pub run-agrees : (q : ℕ) (ops : List Op) (next end : ℕ) (v w : Slots) → InOrder next ops end → AgreeBelow next v w → HoldAll q v ops → HoldAll q w ops → AgreeBelow end v w
run-agrees q [] next end v w o same h k = subst (λ (n : ℕ). AgreeBelow n v w) o same
run-agrees q (op ∷ ops) next end v w o same h k =
    run-agrees q ops (next + written_by op) end v w o.2 (op-agrees q next v w op o.0 o.1 same h.0 k.0) h.1 k.1
