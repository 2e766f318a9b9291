-- The operations of a schedule by their places, and the stages that are made of them.
use Rattle.std.proofs.Common.{◌≡◌, ℕ, zero, suc, ◌+◌, ◌-◌, ◌/◌, ◌<◌, ◌≤◌, List, [], ◌∷◌, ◌++◌, length, get_or, map, refl, ap, sym, ◌∙◌, subst, arith, length-append}
use Rattle.std.specs.Prelude.{reverse, true, false}
use mathlib.Core.Logic.{◌⊎◌, inl, inr}
use Rattle.std.proofs.lemmas.Bool.{cases_lt}
use Rattle.std.proofs.lemmas.List.{get_or_append_left, get_or-append-add, get_or_at, get_or-map, get_or-reverse, length-map, length-reverse}
use Rattle.std.proofs.lemmas.List.FromFn.{fill_by_all}
use Rattle.wdf_sched.specs.declared.op.Op.{Op}
use Rattle.wdf_sched.specs.declared.op.Op.TheVariants.{UpSeries, UpParallel, Root, DownSeries, DownParallel}
use Rattle.wdf_sched.specs.Operations.{Each, InOrder, WritesFrom, written_by}
use Rattle.wdf_sched.specs.Junctions.{Junction, series, parallel, up_op, down_op}
use Rattle.wdf_loop.specs.declared.stage.Stage.{Stage}
use Rattle.wdf_loop.specs.Stages.{ends, IsPair, stage_by, op_at, stage_at, stages_of}
use Rattle.wdf_loop.proofs.JoinLemmas.{junction_at}

-- ---- by place

pub each_at : (P : Op → Type 0) (ops : List Op) (i : ℕ) → Each P ops → i < length ops → P (op_at ops i)
each_at P [] i h small = absurd (omega arith)
each_at P (op ∷ ops) zero h small = h.0
each_at P (op ∷ ops) (suc i) h small = each_at P ops i h.1 (omega (arith, small))

-- the operations of some junctions and a root between
abbrev pub around : List Junction → Op → List Op
around js root = map up_op js ++ root ∷ reverse (map down_op js)

pub around-length : (js : List Junction) (root : Op) → length (around js root) ≡ length js + length js + 1
around-length js root =
    let whole : length (around js root) ≡ length (map up_op js) + (suc (length (reverse (map down_op js)))) = length-append (map up_op js) (root ∷ reverse (map down_op js)) in
    let up : length (map up_op js) ≡ length js = length-map js up_op in
    let down : length (reverse (map down_op js)) ≡ length js = length-reverse (map down_op js) ∙ length-map js down_op in
    omega (arith, whole, up, down)

pub up_at : (js : List Junction) (root : Op) (i : ℕ) → i < length js → op_at (around js root) i ≡ up_op (junction_at js i)
up_at js root i small =
    let long : length (map up_op js) ≡ length js = length-map js up_op in
    get_or_append_left (map up_op js) (root ∷ reverse (map down_op js)) (UpSeries 0 0 0) i (omega (arith, long, small))
    ∙ get_or-map up_op js i (series 0 0 0 0 0 0 0) (UpSeries 0 0 0) small

pub root_at : (js : List Junction) (root : Op) → op_at (around js root) (length js) ≡ root
root_at js root = get_or_at (map up_op js) root (reverse (map down_op js)) (UpSeries 0 0 0) (length js) (length-map js up_op)

-- the junction i has the operations i and length js + 1 + k, where i + 1 + k is the count of the junctions
pub down_at : (js : List Junction) (root : Op) (i k : ℕ) → i + 1 + k ≡ length js → op_at (around js root) (length js + suc k) ≡ down_op (junction_at js i)
down_at js root i k e =
    let up : length (map up_op js) ≡ length js = length-map js up_op in
    let down : length (map down_op js) ≡ length js = length-map js down_op in
    let turn : length (map down_op js) - 1 - k ≡ i = omega (arith, down, e) in
    let at : length js + suc k ≡ length (map up_op js) + suc k = omega (arith, up) in
    ap (op_at (around js root)) at
    ∙ (get_or-append-add (map up_op js) (root ∷ reverse (map down_op js)) (suc k) (UpSeries 0 0 0)
    ∙ (get_or-reverse (map down_op js) k (UpSeries 0 0 0) (omega (arith, down, e))
    ∙ (ap (λ (j : ℕ). get_or (map down_op js) j (UpSeries 0 0 0)) turn
    ∙ get_or-map down_op js i (series 0 0 0 0 0 0 0) (UpSeries 0 0 0) (omega (arith, e)))))

-- the same as the code counts it
pub mirror_at : (js : List Junction) (root : Op) (i : ℕ) → i < length js
    → op_at (around js root) (length (around js root) - 1 - i) ≡ down_op (junction_at js i)
mirror_at js root i small =
    let long = around-length js root in
    let at : length (around js root) - 1 - i ≡ length js + suc (length js - 1 - i) = omega (arith, long, small) in
    ap (op_at (around js root)) at ∙ down_at js root i (length js - 1 - i) (omega (arith, small))

-- ---- the stages

-- the root as a junction with both trees, below nothing
abbrev pub root_junction : (m a b x y : ℕ) → Junction
root_junction m a b x y = series m a b 0 0 x y

abbrev pub stage_of : Junction → Stage
stage_of (series m a b out d x y) = record { parallel = false; m = m; first = ends a x; second = ends b y; own = ends out d; raw = out }
stage_of (parallel m a b raw out d x y) = record { parallel = true; m = m; first = ends a x; second = ends b y; own = ends out d; raw = raw }

stage_by-junction : (j : Junction) → stage_by (up_op j) (down_op j) ≡ stage_of j
stage_by-junction (series m a b out d x y) = refl
stage_by-junction (parallel m a b raw out d x y) = refl

is_pair : (j : Junction) → IsPair (up_op j) (down_op j)
is_pair (series m a b out d x y) = tt
is_pair (parallel m a b raw out d x y) = tt

pub pair_at : (js : List Junction) (m a b x y i : ℕ) → i ≤ length js
    → IsPair (op_at (around js (Root a b m x y)) i) (op_at (around js (Root a b m x y)) (length (around js (Root a b m x y)) - 1 - i))
pair_at js m a b x y i small = by (cases_lt i (length js))
  where
    by : (i < length js) ⊎ (length js ≤ i) → IsPair (op_at (around js (Root a b m x y)) i) (op_at (around js (Root a b m x y)) (length (around js (Root a b m x y)) - 1 - i))
    by (inl h) =
        subst (λ (o : Op). IsPair o (op_at (around js (Root a b m x y)) (length (around js (Root a b m x y)) - 1 - i))) (sym (up_at js (Root a b m x y) i h))
        (subst (λ (o : Op). IsPair (up_op (junction_at js i)) o) (sym (mirror_at js (Root a b m x y) i h)) (is_pair (junction_at js i)))
    by (inr h) =
        let same : i ≡ length js = omega (arith, h, small) in
        subst (λ (o : Op). IsPair o (op_at (around js (Root a b m x y)) (length (around js (Root a b m x y)) - 1 - i))) (sym (ap (op_at (around js (Root a b m x y))) same ∙ root_at js (Root a b m x y))) tt

pub stage_at-around : (js : List Junction) (m a b x y i : ℕ) → i ≤ length js
    → stage_of (junction_at (js ++ root_junction m a b x y ∷ []) i) ≡ stage_at (around js (Root a b m x y)) i
stage_at-around js m a b x y i small = by (cases_lt i (length js))
  where
    by : (i < length js) ⊎ (length js ≤ i) → stage_of (junction_at (js ++ root_junction m a b x y ∷ []) i) ≡ stage_at (around js (Root a b m x y)) i
    by (inl h) =
        ap stage_of (get_or_append_left js (root_junction m a b x y ∷ []) (series 0 0 0 0 0 0 0) i h)
        ∙ (sym (stage_by-junction (junction_at js i))
        ∙ (λ t. stage_by (sym (up_at js (Root a b m x y) i h) t) (sym (mirror_at js (Root a b m x y) i h) t)))
    by (inr h) =
        let same : i ≡ length js = omega (arith, h, small) in
        ap (λ (k : ℕ). stage_of (junction_at (js ++ root_junction m a b x y ∷ []) k)) same
        ∙ (ap stage_of (get_or_at js (root_junction m a b x y) [] (series 0 0 0 0 0 0 0) (length js) refl)
        ∙ ap (λ (o : Op). stage_by o (op_at (around js (Root a b m x y)) (length (around js (Root a b m x y)) - 1 - i))) (sym (ap (op_at (around js (Root a b m x y))) same ∙ root_at js (Root a b m x y))))

pub stages-around : (js : List Junction) (m a b x y : ℕ)
    → stages_of (around js (Root a b m x y)) ≡ map stage_of (js ++ root_junction m a b x y ∷ [])
stages-around js m a b x y =
    let ks = js ++ root_junction m a b x y ∷ [] in
    let ops = around js (Root a b m x y) in
    let long : length ops ≡ length js + length js + 1 = around-length js (Root a b m x y) in
    let count : length ks ≡ length js + 1 = length-append js (root_junction m a b x y ∷ []) in
    let half : length ks ≡ length ops / 2 + 1 = omega (arith, long, count) in
    sym (fill_by_all (stage_at ops) (map stage_of ks) (length ops / 2 + 1) (stage_of (series 0 0 0 0 0 0 0)) (length-map ks stage_of ∙ half)
    (λ k h. get_or-map stage_of ks k (series 0 0 0 0 0 0 0) (stage_of (series 0 0 0 0 0 0 0)) (omega (arith, h, half))
    ∙ stage_at-around js m a b x y k (omega (arith, h, half, count))))

-- ---- what is written

abbrev pub Writes : Op → ℕ → Type 0
Writes (UpSeries a b out) i = out ≡ i
Writes (UpParallel a b m raw out) i = (raw ≡ i) ⊎ (out ≡ i)
Writes (Root a b m x y) i = (x ≡ i) ⊎ (y ≡ i)
Writes (DownSeries a b d m x y) i = (x ≡ i) ⊎ (y ≡ i)
Writes (DownParallel a b d raw x y) i = (x ≡ i) ⊎ (y ≡ i)

-- each slot of the range is written
first_or_second : (x y next i : ℕ) → x ≡ next → y ≡ next + 1 → next ≤ i → i < next + 2 → (x ≡ i) ⊎ (y ≡ i)
first_or_second x y next i e f low high = by (cases_lt next i)
  where
    by : (next < i) ⊎ (i ≤ next) → (x ≡ i) ⊎ (y ≡ i)
    by (inl h) = inr (omega (arith, f, low, high, h))
    by (inr h) = inl (omega (arith, e, low, high, h))

writes : (op : Op) (next i : ℕ) → WritesFrom next op → next ≤ i → i < next + written_by op → Writes op i
writes (UpSeries a b out) next i w low high = omega (arith, w, low, high)
writes (UpParallel a b m raw out) next i w low high = first_or_second raw out next i w.0 w.1 low high
writes (Root a b m x y) next i w low high = first_or_second x y next i w.0 w.1 low high
writes (DownSeries a b d m x y) next i w low high = first_or_second x y next i w.0 w.1 low high
writes (DownParallel a b d raw x y) next i w low high = first_or_second x y next i w.0 w.1 low high

pub written : (ops : List Op) (next end i : ℕ) → InOrder next ops end → next ≤ i → i < end → (k : ℕ) × ((k < length ops) × Writes (op_at ops k) i)
written [] next end i h low high = absurd (omega (arith, h, low, high))
written (op ∷ ops) next end i h low high = by (cases_lt i (next + written_by op)) (λ above. written ops (next + written_by op) end i h.2 above high)
  where
    by : (i < next + written_by op) ⊎ (next + written_by op ≤ i)
        → (next + written_by op ≤ i → (k : ℕ) × ((k < length ops) × Writes (op_at ops k) i))
        → (k : ℕ) × ((k < length (op ∷ ops)) × Writes (op_at (op ∷ ops) k) i)
    by (inl here) rest = (zero, (omega arith, writes op next i h.1 low here))
    by (inr above) rest = let more = rest above in (suc more.0, (omega (arith, more.1.0), more.1.1))

-- and none below it
above : (op : Op) (next i : ℕ) → WritesFrom next op → Writes op i → next ≤ i
above (UpSeries a b out) next i w h = omega (arith, w, h)
above (UpParallel a b m raw out) next i w (inl h) = omega (arith, w.0, h)
above (UpParallel a b m raw out) next i w (inr h) = omega (arith, w.1, h)
above (Root a b m x y) next i w (inl h) = omega (arith, w.0, h)
above (Root a b m x y) next i w (inr h) = omega (arith, w.1, h)
above (DownSeries a b d m x y) next i w (inl h) = omega (arith, w.0, h)
above (DownSeries a b d m x y) next i w (inr h) = omega (arith, w.1, h)
above (DownParallel a b d raw x y) next i w (inl h) = omega (arith, w.0, h)
above (DownParallel a b d raw x y) next i w (inr h) = omega (arith, w.1, h)

pub written_above : (ops : List Op) (next end k i : ℕ) → InOrder next ops end → k < length ops → Writes (op_at ops k) i → next ≤ i
written_above [] next end k i h small w = absurd (omega arith)
written_above (op ∷ ops) next end zero i h small w = above op next i h.1 w
written_above (op ∷ ops) next end (suc k) i h small w =
    let rest = written_above ops (next + written_by op) end k i h.2 (omega (arith, small)) w in
    omega (arith, rest)

-- and none twice
beneath : (op : Op) (next i : ℕ) → WritesFrom next op → Writes op i → i < next + written_by op
beneath (UpSeries a b out) next i w h = omega (arith, w, h)
beneath (UpParallel a b m raw out) next i w (inl h) = omega (arith, w.0, h)
beneath (UpParallel a b m raw out) next i w (inr h) = omega (arith, w.1, h)
beneath (Root a b m x y) next i w (inl h) = omega (arith, w.0, h)
beneath (Root a b m x y) next i w (inr h) = omega (arith, w.1, h)
beneath (DownSeries a b d m x y) next i w (inl h) = omega (arith, w.0, h)
beneath (DownSeries a b d m x y) next i w (inr h) = omega (arith, w.1, h)
beneath (DownParallel a b d raw x y) next i w (inl h) = omega (arith, w.0, h)
beneath (DownParallel a b d raw x y) next i w (inr h) = omega (arith, w.1, h)

pub written_once : (ops : List Op) (next end k l i : ℕ) → InOrder next ops end → k < l → l < length ops → Writes (op_at ops k) i → Writes (op_at ops l) i → ⊥
written_once [] next end k l i h less small w v = omega (arith, small)
written_once (op ∷ ops) next end k zero i h less small w v = omega (arith, less)
written_once (op ∷ ops) next end zero (suc l) i h less small w v =
    let low = beneath op next i h.1 w in
    let high = written_above ops (next + written_by op) end l i h.2 (omega (arith, small)) v in
    omega (arith, low, high)
written_once (op ∷ ops) next end (suc k) (suc l) i h less small w v =
    written_once ops (next + written_by op) end k l i h.2 (omega (arith, less)) (omega (arith, small)) w v
