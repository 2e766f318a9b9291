-- The stages of a schedule's operations as the code makes them. Nothing that is promised rests on this file: it stands between
-- the code and the proof that they lie as Layouts says.
use Rattle.std.specs.Prelude.{ℕ, ◌-◌, ◌+◌, ◌/◌, ℤ, Bool, true, false, if◌then◌else◌, nat_lt, List, length, map, slice_index_or}
use Rattle.std.specs.List.{range_with_len}
use Rattle.wdf_sched.specs.declared.op.Op.{Op}
use Rattle.wdf_sched.specs.declared.op.Op.TheVariants.{UpSeries, UpParallel, Root, DownSeries, DownParallel}
use Rattle.wdf_loop.specs.declared.ends.Ends.{Ends}
use Rattle.wdf_loop.specs.declared.mark.Mark.{Mark}
use Rattle.wdf_loop.specs.declared.share.Share.{Share}
use Rattle.wdf_loop.specs.declared.stage.Stage.{Stage}

abbrev pub ends : ℕ → ℕ → Ends
ends up down = record { up = up; down = down }

-- the two operations of a junction, or the root
abbrev pub IsPair : Op → Op → Type 0
IsPair (UpSeries _ _ _) (DownSeries _ _ _ _ _ _) = Unit {0}
IsPair (UpParallel _ _ _ _ _) (DownParallel _ _ _ _ _ _) = Unit {0}
IsPair (Root _ _ _ _ _) _ = Unit {0}
IsPair _ _ = ⊥

abbrev pub stage_by : Op → Op → Stage
stage_by (UpSeries a b out) (DownSeries _ _ d m x y) =
    record { parallel = false; m = m; first = ends a x; second = ends b y; own = ends out d; raw = out }
stage_by (UpParallel a b m raw out) (DownParallel _ _ d _ x y) =
    record { parallel = true; m = m; first = ends a x; second = ends b y; own = ends out d; raw = raw }
stage_by (Root a b m x y) _ = record { parallel = false; m = m; first = ends a x; second = ends b y; own = ends 0 0; raw = 0 }
stage_by _ _ = record { parallel = false; m = 0; first = ends 0 0; second = ends 0 0; own = ends 0 0; raw = 0 }

-- the operation at a place, and the stages, the root's behind the others
abbrev pub op_at : List Op → ℕ → Op
op_at ops i = slice_index_or ops i (UpSeries 0 0 0)

abbrev pub stage_at : List Op → ℕ → Stage
stage_at ops i = stage_by (op_at ops i) (op_at ops (length ops - 1 - i))

abbrev pub stages_of : List Op → List Stage
stages_of ops = map (stage_at ops) (range_with_len 0 (length ops / 2 + 1))

-- ---- which part hangs beside

abbrev pub is_swapped : ℕ → Stage → Bool
is_swapped count s = nat_lt s.second.up count

abbrev pub mark_by : Stage → Ends → Ends → Mark
mark_by s beside below = record {
  up = beside.up;
  down = beside.down;
  below = below.up;
  onward = below.down;
  raw = s.raw;
  out = s.own.up;
  sent = s.own.down;
}

abbrev pub mark_of : ℕ → Stage → Mark
mark_of count s = if is_swapped count s then mark_by s s.second s.first else mark_by s s.first s.second

abbrev pub share_by : Stage → ℤ → ℕ → ℕ → Share
share_by s sign m n = record { m = m; n = n; parallel = s.parallel; sign = sign }

abbrev pub share_of : ℕ → ℕ → ℤ → Stage → Share
share_of q count sign s = if is_swapped count s then share_by s sign (q - s.m) s.m else share_by s sign s.m (q - s.m)
