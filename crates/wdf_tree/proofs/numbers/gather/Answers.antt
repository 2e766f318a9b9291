-- One number more.
use Rattle.std.proofs.Common.{◌<◌, [], ◌∷◌, ◌++◌, length, take, map, rules, ap, sym, ◌∙◌, arith, to_z, of_z, w64}
use Rattle.std.specs.Prelude.{pos, slice_index_or}
use Rattle.std.proofs.lemmas.Int.{to_z-of_z}
use Rattle.std.proofs.lemmas.List.{take_more, take_more_set, map-append, length-set}
use mir.Val.{SFits}
use Rattle.wdf_tree.specs.Places.{at_place}
use Rattle.wdf_tree.proofs.numbers.gather.Goals as goal

pub loop-j-preserved : goal.loop-j-preserved
loop-j-preserved c =
    let ks = c.args.numbers.now in
    let j = c.loop-j.j in
    let f = at_place c.args.downs.now in
    let k = slice_index_or ks j 0 in
    let long = c.loop-j.invariant.long in
    let room : c.loop-j.j < length c.loop-j.state = omega arith in
    let fits : SFits w64 (slice_index_or c.args.downs.now (slice_index_or c.args.numbers.now c.loop-j.j 0) (pos 0)) = search rules in
    record {
      long = length-set c.loop-j.state j (to_z w64 (of_z w64 (f k))) ∙ long;
      so_far = take_more_set c.loop-j.state j (to_z w64 (of_z w64 (f k))) room
          ∙ ((λ i. c.loop-j.invariant.so_far i ++ (to_z-of_z w64 (f k) fits i) ∷ [])
          ∙ (sym (map-append f (take j ks) (k ∷ [])) ∙ ap (map f) (sym (take_more ks j 0 c.loop-j-test.true))));
    }
