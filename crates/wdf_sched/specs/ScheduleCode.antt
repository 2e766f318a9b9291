-- A schedule as a tuple of numbers and lists that gives it back, which the model of its type wants.
use Rattle.std.specs.Prelude.{◌≡◌, ℕ, zero, suc, List, refl}
use Rattle.std.specs.Coded.{Coded, code_by, coded×, coded_ℕ, coded_list}
use Rattle.wdf_law.specs.Network.{Network}
use Rattle.wdf_law.specs.NetworkCode.{network_code}
use Rattle.wdf_sched.specs.declared.op.Op.{Op}
use Rattle.wdf_sched.specs.declared.op.Op.TheVariants.{UpSeries, UpParallel, Root, DownSeries, DownParallel}
use Rattle.wdf_sched.specs.Schedules.{ScheduleValue}

-- a tag, and up to six numbers
abbrev pub OpParts : Type 0
OpParts = ℕ × (ℕ × (ℕ × (ℕ × (ℕ × (ℕ × ℕ)))))

abbrev pub op_parts : Op → OpParts
op_parts (UpSeries a b out) = (0, (a, (b, (out, (0, (0, 0))))))
op_parts (UpParallel a b m raw out) = (1, (a, (b, (m, (raw, (out, 0))))))
op_parts (Root a b m x y) = (2, (a, (b, (m, (x, (y, 0))))))
op_parts (DownSeries a b d m x y) = (3, (a, (b, (d, (m, (x, y))))))
op_parts (DownParallel a b d raw x y) = (4, (a, (b, (d, (raw, (x, y))))))

abbrev pub op_by : ℕ → ℕ → ℕ → ℕ → ℕ → ℕ → ℕ → Op
op_by zero a b c d e f = UpSeries a b c
op_by (suc zero) a b c d e f = UpParallel a b c d e
op_by (suc (suc zero)) a b c d e f = Root a b c d e
op_by (suc (suc (suc zero))) a b c d e f = DownSeries a b c d e f
op_by (suc (suc (suc (suc tag)))) a b c d e f = DownParallel a b c d e f

abbrev pub op_from : OpParts → Op
op_from p = op_by p.0 p.1.0 p.1.1.0 p.1.1.1.0 p.1.1.1.1.0 p.1.1.1.1.1.0 p.1.1.1.1.1.1

pub op_from-op_parts : (op : Op) → op_from (op_parts op) ≡ op
op_from-op_parts (UpSeries a b out) = refl
op_from-op_parts (UpParallel a b m raw out) = refl
op_from-op_parts (Root a b m x y) = refl
op_from-op_parts (DownSeries a b d m x y) = refl
op_from-op_parts (DownParallel a b d raw x y) = refl

abbrev pub op_code : Coded Op
op_code = code_by OpParts (coded× coded_ℕ (coded× coded_ℕ (coded× coded_ℕ (coded× coded_ℕ (coded× coded_ℕ (coded× coded_ℕ coded_ℕ)))))) op_parts op_from op_from-op_parts

abbrev pub ScheduleParts : Type 0
ScheduleParts = Network × (List Op × (List ℕ × ℕ))

abbrev pub parts_of : ScheduleValue → ScheduleParts
parts_of s = (s.net, (s.ops, (s.down_slots, s.slot_count)))

abbrev pub schedule_from : ScheduleParts → ScheduleValue
schedule_from p = record { net = p.0; ops = p.1.0; down_slots = p.1.1.0; slot_count = p.1.1.1 }

abbrev pub schedule_code : Coded ScheduleValue
schedule_code = code_by ScheduleParts (coded× network_code (coded× (coded_list op_code) (coded× (coded_list coded_ℕ) coded_ℕ))) parts_of schedule_from (λ _. refl)
