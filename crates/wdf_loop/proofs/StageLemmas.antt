-- What a schedule's operations say of its stages, whichever part hangs beside.
use Rattle.std.proofs.Common.{◌≡◌, ℕ, ◌-◌, ◌<◌, Bool, true, false, cond, List, ap, ◌∙◌, arith}
use Rattle.std.specs.Prelude.{ℤ, pos, ◌+ℤ◌, ◌-ℤ◌, ◌*ℤ◌, nat_lt}
use borrow.Author.Differences.{ints}
use Rattle.wdf_algebra.specs.Truncation.{trunc}
use Rattle.wdf_sched.specs.declared.op.Op.{Op}
use Rattle.wdf_sched.specs.declared.op.Op.TheVariants.{UpSeries, UpParallel, Root, DownSeries, DownParallel}
use Rattle.wdf_sched.specs.Operations.{Slots, HoldAll, Holds, AreWithin, IsWithin}
use Rattle.wdf_sched.specs.Junctions.{Junction, series, parallel, up_op, down_op}
use Rattle.wdf_loop.specs.declared.mark.Mark.{Mark}
use Rattle.wdf_loop.specs.declared.share.Share.{Share}
use Rattle.wdf_loop.specs.Layouts.{IsJunctionStage, IsRootStage, IsSmallStage}
use Rattle.wdf_loop.specs.Stages.{mark_of, share_of}
use Rattle.wdf_loop.proofs.OpLemmas.{stage_of, root_junction}

exchanged : (a b : ℤ) → a +ℤ b ≡ b +ℤ a
exchanged a b = omega (arith, ints)

not_true : false ≡ true → ⊥
not_true e = cc

not_false : true ≡ false → ⊥
not_false e = cc

-- the operations of a junction hold where all do, and their values are within the limit where all are
pub record HasOps (q : ℕ) (ops : List Op) (up down : Op) : Type 0 where
  pub holds : (g : Slots) → HoldAll q g ops → Holds q g up × Holds q g down
  pub within : (limit : ℕ) (g : Slots) → AreWithin q limit g ops → IsWithin q limit g up × IsWithin q limit g down

series_stage : (q : ℕ) (ops : List Op) (count : ℕ) (sign : ℤ) (m a b out d x y : ℕ) → m < q → HasOps q ops (UpSeries a b out) (DownSeries a b d m x y)
    → IsJunctionStage q ops (share_of q count sign (stage_of (series m a b out d x y))) (mark_of count (stage_of (series m a b out d x y)))
series_stage q ops count sign m a b out d x y small has = by (nat_lt b count)
  where
    by : (c : Bool) → IsJunctionStage q ops
        (cond {A = Share} c (record { m = q - m; n = m; parallel = false; sign = sign }) (record { m = m; n = q - m; parallel = false; sign = sign }))
        (cond {A = Mark} c (record { up = b; down = y; below = a; onward = x; raw = out; out = out; sent = d })
        (record { up = a; down = x; below = b; onward = y; raw = out; out = out; sent = d }))
    by true = (
      λ _. record {
        whole = omega (arith, small);
        rises = λ g h. let own = has.holds g h in own.0 ∙ exchanged (g a) (g b);
        down = λ g h. let own = has.holds g h in
            own.1.1 ∙ ap (λ (z : ℤ). trunc (pos q *ℤ g b +ℤ pos (q - m) *ℤ (g d -ℤ z)) q) (exchanged (g a) (g b));
        onward = λ g h. let own = has.holds g h in
            own.1.0 ∙ ap (λ (z : ℤ). trunc (pos q *ℤ g a +ℤ pos m *ℤ (g d -ℤ z)) q) (exchanged (g a) (g b));
        sent = λ limit g h. let own = has.within limit g h in own.1.2;
      },
      λ e. absurd (not_true e),
    )
    by false = (
      λ _. record {
        whole = omega (arith, small);
        rises = λ g h. let own = has.holds g h in own.0;
        down = λ g h. let own = has.holds g h in own.1.0;
        onward = λ g h. let own = has.holds g h in own.1.1;
        sent = λ limit g h. let own = has.within limit g h in own.1.2;
      },
      λ e. absurd (not_true e),
    )

parallel_stage : (q : ℕ) (ops : List Op) (count : ℕ) (sign : ℤ) (m a b raw out d x y : ℕ) → m < q
    → HasOps q ops (UpParallel a b m raw out) (DownParallel a b d raw x y)
    → IsJunctionStage q ops (share_of q count sign (stage_of (parallel m a b raw out d x y))) (mark_of count (stage_of (parallel m a b raw out d x y)))
parallel_stage q ops count sign m a b raw out d x y small has = by (nat_lt b count)
  where
    by : (c : Bool) → IsJunctionStage q ops
        (cond {A = Share} c (record { m = q - m; n = m; parallel = true; sign = sign }) (record { m = m; n = q - m; parallel = true; sign = sign }))
        (cond {A = Mark} c (record { up = b; down = y; below = a; onward = x; raw = raw; out = out; sent = d })
        (record { up = a; down = x; below = b; onward = y; raw = raw; out = out; sent = d }))
    by true = (
      λ e. absurd (not_false e),
      λ _. record {
        whole = omega (arith, small);
        raw = λ g h. let own = has.holds g h in own.0.0 ∙ exchanged (pos m *ℤ g a) (pos (q - m) *ℤ g b);
        rises = λ g h. let own = has.holds g h in own.0.1;
        down = λ g h. let own = has.holds g h in own.1.1;
        onward = λ g h. let own = has.holds g h in own.1.0;
        sent = λ limit g h. let own = has.within limit g h in (own.1.2, own.1.3);
      },
    )
    by false = (
      λ e. absurd (not_false e),
      λ _. record {
        whole = omega (arith, small);
        raw = λ g h. let own = has.holds g h in own.0.0;
        rises = λ g h. let own = has.holds g h in own.0.1;
        down = λ g h. let own = has.holds g h in own.1.0;
        onward = λ g h. let own = has.holds g h in own.1.1;
        sent = λ limit g h. let own = has.within limit g h in (own.1.2, own.1.3);
      },
    )

-- the multiplier of a junction
abbrev pub multiplier : Junction → ℕ
multiplier (series m a b out d x y) = m
multiplier (parallel m a b raw out d x y) = m

pub junction_stage : (q : ℕ) (ops : List Op) (count : ℕ) (sign : ℤ) (k : Junction) → multiplier k < q → HasOps q ops (up_op k) (down_op k)
    → IsJunctionStage q ops (share_of q count sign (stage_of k)) (mark_of count (stage_of k))
junction_stage q ops count sign (series m a b out d x y) small has = series_stage q ops count sign m a b out d x y small has
junction_stage q ops count sign (parallel m a b raw out d x y) small has = parallel_stage q ops count sign m a b raw out d x y small has

pub root_stage : (q : ℕ) (ops : List Op) (count : ℕ) (sign : ℤ) (m a b x y : ℕ) → m < q → ((g : Slots) → HoldAll q g ops → Holds q g (Root a b m x y))
    → IsRootStage q ops (share_of q count sign (stage_of (root_junction m a b x y))) (mark_of count (stage_of (root_junction m a b x y)))
root_stage q ops count sign m a b x y small holds = by (nat_lt b count)
  where
    by : (c : Bool) → IsRootStage q ops
        (cond {A = Share} c (record { m = q - m; n = m; parallel = false; sign = sign }) (record { m = m; n = q - m; parallel = false; sign = sign }))
        (cond {A = Mark} c (record { up = b; down = y; below = a; onward = x; raw = 0; out = 0; sent = 0 })
        (record { up = a; down = x; below = b; onward = y; raw = 0; out = 0; sent = 0 }))
    by true = record {
      whole = omega (arith, small);
      down = λ g h. let own = holds g h in
          own.1 ∙ ap (λ (z : ℤ). trunc (pos 2 *ℤ z -ℤ pos q *ℤ g b) q) (exchanged (pos m *ℤ g a) (pos (q - m) *ℤ g b));
      onward = λ g h. let own = holds g h in
          own.0 ∙ ap (λ (z : ℤ). trunc (pos 2 *ℤ z -ℤ pos q *ℤ g a) q) (exchanged (pos m *ℤ g a) (pos (q - m) *ℤ g b));
    }
    by false = record {
      whole = omega (arith, small);
      down = λ g h. let own = holds g h in own.0;
      onward = λ g h. let own = holds g h in own.1;
    }

-- ---- sizes

series_small : (q : ℕ) (ops : List Op) (count m a b out d x y : ℕ) → HasOps q ops (UpSeries a b out) (DownSeries a b d m x y)
    → IsSmallStage q ops (mark_of count (stage_of (series m a b out d x y)))
series_small q ops count m a b out d x y has = by (nat_lt b count)
  where
    by : (c : Bool) → IsSmallStage q ops (cond {A = Mark} c (record { up = b; down = y; below = a; onward = x; raw = out; out = out; sent = d })
        (record { up = a; down = x; below = b; onward = y; raw = out; out = out; sent = d }))
    by true = record { waves = λ limit g h. let own = has.within limit g h in (own.1.1, own.1.0, own.1.4, own.1.3) }
    by false = record { waves = λ limit g h. let own = has.within limit g h in (own.1.0, own.1.1, own.1.3, own.1.4) }

parallel_small : (q : ℕ) (ops : List Op) (count m a b raw out d x y : ℕ) → HasOps q ops (UpParallel a b m raw out) (DownParallel a b d raw x y)
    → IsSmallStage q ops (mark_of count (stage_of (parallel m a b raw out d x y)))
parallel_small q ops count m a b raw out d x y has = by (nat_lt b count)
  where
    by : (c : Bool) → IsSmallStage q ops (cond {A = Mark} c (record { up = b; down = y; below = a; onward = x; raw = raw; out = out; sent = d })
        (record { up = a; down = x; below = b; onward = y; raw = raw; out = out; sent = d }))
    by true = record { waves = λ limit g h. let own = has.within limit g h in (own.1.1, own.1.0, own.1.5, own.1.4) }
    by false = record { waves = λ limit g h. let own = has.within limit g h in (own.1.0, own.1.1, own.1.4, own.1.5) }

pub junction_small : (q : ℕ) (ops : List Op) (count : ℕ) (k : Junction) → HasOps q ops (up_op k) (down_op k) → IsSmallStage q ops (mark_of count (stage_of k))
junction_small q ops count (series m a b out d x y) has = series_small q ops count m a b out d x y has
junction_small q ops count (parallel m a b raw out d x y) has = parallel_small q ops count m a b raw out d x y has

pub root_small : (q : ℕ) (ops : List Op) (count m a b x y : ℕ) → ((limit : ℕ) (g : Slots) → AreWithin q limit g ops → IsWithin q limit g (Root a b m x y))
    → IsSmallStage q ops (mark_of count (stage_of (root_junction m a b x y)))
root_small q ops count m a b x y within = by (nat_lt b count)
  where
    by : (c : Bool) → IsSmallStage q ops (cond {A = Mark} c (record { up = b; down = y; below = a; onward = x; raw = 0; out = 0; sent = 0 })
        (record { up = a; down = x; below = b; onward = y; raw = 0; out = 0; sent = 0 }))
    by true = record { waves = λ limit g h. let own = within limit g h in (own.1, own.0, own.3, own.2) }
    by false = record { waves = λ limit g h. let own = within limit g h in (own.0, own.1, own.2, own.3) }
