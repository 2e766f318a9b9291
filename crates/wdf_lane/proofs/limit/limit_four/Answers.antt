-- The group's values, from those of its lanes.
use Rattle.std.proofs.Common.{◌≡◌, ◌^◌, SFits, List, ℤ, length, map, ap, sym, subst, arith, to_z, of_z, w64, ◌∙◌}
use Rattle.std.proofs.lemmas.Simd.{put_chunk_whole}
use Rattle.std.proofs.lemmas.Int.{to_z-of_z}
use Rattle.std.specs.Int.{int_max, int_min}
use Rattle.wdf_algebra.specs.Truncation.{trunc}
use Rattle.wdf_law.specs.OutputRule.{output_of}
use Rattle.wdf_loop.specs.Limiting.{is_limited}
use Rattle.wdf_lane.specs.Lanes.{AreFour, changes}
use Rattle.wdf_lane.proofs.LaneLemmas.{same_words}
use Rattle.wdf_lane.proofs.LimitLemmas.{length-filter-le, limits_made, limits_counted}
use Rattle.wdf_lane.proofs.limit.limit_four.Goals as goal

handed : (zs : List ℤ) → AreFour zs → AreFour (map (to_z w64) (map (of_z w64) zs))
handed zs four = subst AreFour (sym (same_words zs four)) four

pub quotients-values-requires-clause-four : goal.quotients-values-requires-clause-four
quotients-values-requires-clause-four c = handed c.four_numbers.result c.four_numbers.ensures.four

pub nearest-limited-requires : goal.nearest-limited-requires
nearest-limited-requires c = handed c.quotients-values.result c.quotients-values.ensures.four

pub count_changes-requires-clause-old : goal.count_changes-requires-clause-old
count_changes-requires-clause-old c = handed c.quotients-values.result c.quotients-values.ensures.four

pub count_changes-requires-clause-new : goal.count_changes-requires-clause-new
count_changes-requires-clause-new c = handed c.nearest-limited.result c.nearest-limited.ensures.four

divided : (c : goal.After-from) → c.quotients-values.result ≡ map (λ w. trunc w (2 ^ c.args.down)) c.args.waves.now
divided c =
    let waves : map (to_z w64) (map (of_z w64) c.four_numbers.result) ≡ c.args.waves.now = same_words c.four_numbers.result c.four_numbers.ensures.four ∙ c.four_numbers.ensures.values in
    c.quotients-values.ensures.values ∙ ap (map (λ w. trunc w (2 ^ c.args.down))) waves

made : (c : goal.After-from) → c.nearest-limited.result ≡ map (output_of c.args.down c.args.bits) c.args.waves.now
made c =
    let f1 : SFits w64 c.lowest.result = record { sfits = c.lowest.type_inv } in
    let f2 : SFits w64 c.highest.result = record { sfits = c.highest.type_inv } in
    let low = to_z-of_z w64 c.lowest.result f1 ∙ c.lowest.ensures in
    let high = to_z-of_z w64 c.highest.result f2 ∙ c.highest.ensures in
    let values = same_words c.quotients-values.result c.quotients-values.ensures.four in
    limits_made c.args.down c.args.bits (to_z w64 (of_z w64 c.lowest.result)) (to_z w64 (of_z w64 c.highest.result)) c.args.waves.now c.quotients-values.result c.nearest-limited.result
    low high (divided c)
    (c.nearest-limited.ensures.values ∙ ap (map (λ z. int_max (to_z w64 (of_z w64 c.lowest.result)) (int_min (to_z w64 (of_z w64 c.highest.result)) z))) values)

pub returns-clause-values : goal.returns-clause-values
returns-clause-values c =
    let limited = map (to_z w64) (map (of_z w64) c.nearest-limited.result) in
    let long : length c.args.out.now ≡ length limited = c.requires.room ∙ sym (handed c.nearest-limited.result c.nearest-limited.ensures.four).count in
    put_chunk_whole c.args.out.now limited long ∙ (same_words c.nearest-limited.result c.nearest-limited.ensures.four ∙ made c)

pub returns-clause-limited : goal.returns-clause-limited
returns-clause-limited c =
    let old = same_words c.quotients-values.result c.quotients-values.ensures.four in
    let new = same_words c.nearest-limited.result c.nearest-limited.ensures.four in
    c.from.ensures ∙ (c.count_changes.ensures ∙ ((λ i. changes (old i) (new i)) ∙ limits_counted c.args.down c.args.bits c.args.waves.now c.quotients-values.result c.nearest-limited.result (divided c) (made c)))

pub returns-clause-most : goal.returns-clause-most
returns-clause-most c =
    let counted = returns-clause-limited c in
    let few = length-filter-le (is_limited c.args.down c.args.bits) c.args.waves.now in
    let four = c.requires.waves in
    omega arith
