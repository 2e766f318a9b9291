use Rattle.std.proofs.Common.{rules, ◌≡◌, ℕ, ◌+◌, ◌*◌, ◌<◌, ◌≤◌, length, sym, subst, arith}
use Rattle.wdf_loop.proofs.PlaceLemmas.{ahead, frame_more, inside, whole}
use Rattle.wdf_loop.proofs.samples.scale_frames.Goals as goal

pub overflow_mul-at : goal.overflow_mul-at
overflow_mul-at g c =
    let before = ahead c.loop-f.f c.args.count c.args.all c.loop-f-test.true in
    let few = c.requires.few in
    record { fits = omega (arith, before, few) }

pub overflow_add-at : goal.overflow_add-at
overflow_add-at g c =
    let before = ahead c.loop-f.f c.args.count c.args.all c.loop-f-test.true in
    let few = c.requires.few in
    let within = c.requires.within in
    record { fits = omega (arith, before, few, within) }

pub scale_frame-requires : goal.scale_frame-requires
scale_frame-requires g c =
    let h : c.loop-f.f < c.args.count = c.loop-f-test.true in
    let runs : g.row.C ≤ 8 = c.requires.runs in
    let one : g.row.C * 8 < 9223372036854775808 = omega arith in
    let each = c.requires.each in
    let rows = ahead c.loop-f.f c.args.count c.args.sources h in
    let long = c.loop-f.invariant.long in
    let room = c.requires.room in (
      one,
      (
        runs,
        (
          c.requires.guard,
          (
            c.requires.amplitude,
            (
              λ i c' small few.
                  subst (λ (n : ℕ). (c.loop-f.f * c.args.all + c.args.first) * c.args.sources + i + c' * c.args.sources < n) (sym each)
                  (inside c.loop-f.f c.args.count c.args.all c.args.first g.row.C c.args.sources i c' h c.requires.within small few),
              (
                subst (λ (n : ℕ). (c.loop-f.f * c.args.all + c.args.first) * c.args.sources + c.args.sources ≤ n) (sym each)
                    (whole c.loop-f.f c.args.count c.args.all c.args.first g.row.C c.args.sources h c.requires.within c.requires.some),
                omega (arith, rows, long, room),
              ),
            ),
          ),
        ),
      ),
    )

pub loop-f-preserved : goal.loop-f-preserved
loop-f-preserved g c =
    let long : length c.scale_frame.new.rows ≡ length c.args.rows.now = search rules in
    record {
      long = long;
      so_far = frame_more g.row.C c.args.guard c.args.all c.args.first c.args.sources c.loop-f.f c.args.samples.now c.loop-f.rows c.scale_frame.new.rows c.loop-f.invariant.so_far c.scale_frame.ensures.rows c.scale_frame.ensures.others;
    }
