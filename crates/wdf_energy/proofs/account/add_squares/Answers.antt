-- One port more.
use Rattle.std.proofs.Common.{◌+◌, ◌<◌, ◌≤◌, length, rules, ap, ◌∙◌, arith, w64}
use Rattle.std.specs.Prelude.{pos, slice_index_or}
use Rattle.std.proofs.lemmas.Int.{to_z-of_z}
use Rattle.std.proofs.lemmas.List.{length-set}
use mir.Val.{SFits}
use Rattle.wdf_algebra.specs.Squares.{square}
use Rattle.wdf_energy.specs.Accounts.{wave_at}
use Rattle.wdf_energy.proofs.ListLemmas.{room-ports, same-at, next-rest, one-more}
use Rattle.wdf_energy.proofs.account.add_squares.Goals as goal

pub overflow_add-squares : goal.overflow_add-squares
overflow_add-squares c =
    let ports = c.args.ports.now in
    let ss = c.args.squares.now in
    let f = wave_at c.args.downs.now in
    let i = c.loop-i.i in
    let p = slice_index_or ports i (record { elem = 0; ratio = 0 }) in
    let few = c.requires.walked.few in
    let long = c.loop-i.invariant.long in
    let inside : c.loop-i.i < length c.loop-i.squares = omega arith in
    let there : length c.args.ports.now ≤ length c.args.squares.now = omega arith in
    let under : c.loop-i.i < length c.args.squares.now = omega arith in
    let fits : SFits w64 (slice_index_or c.args.downs.now (slice_index_or c.args.ports.now c.loop-i.i (record { elem = 0; ratio = 0 })).elem (pos 0)) = search rules in
    let value = c.square.ensures ∙ ap square (to_z-of_z w64 (f p.elem) fits) in
    let same = same-at c.loop-i.squares ss i inside under c.loop-i.invariant.rest in
    let room = room-ports f ports ss i (record { elem = 0; ratio = 0 }) c.requires.room c.loop-i-test.true there in
    record { fits = omega arith }

pub loop-i-preserved : goal.loop-i-preserved
loop-i-preserved c =
    let ports = c.args.ports.now in
    let ss = c.args.squares.now in
    let f = wave_at c.args.downs.now in
    let i = c.loop-i.i in
    let xs = c.loop-i.squares in
    let p = slice_index_or ports i (record { elem = 0; ratio = 0 }) in
    let few = c.requires.walked.few in
    let long = c.loop-i.invariant.long in
    let inside : c.loop-i.i < length c.loop-i.squares = omega arith in
    let there : c.loop-i.i < length c.args.squares.now = omega arith in
    let fits : SFits w64 (slice_index_or c.args.downs.now (slice_index_or c.args.ports.now c.loop-i.i (record { elem = 0; ratio = 0 })).elem (pos 0)) = search rules in
    let value = c.square.ensures ∙ ap square (to_z-of_z w64 (f p.elem) fits) in
    let same = same-at xs ss i inside there c.loop-i.invariant.rest in
    record {
      long = length-set xs i _ ∙ long;
      so_far = one-more f ports xs ss i (record { elem = 0; ratio = 0 }) _ c.loop-i-test.true inside there c.loop-i.invariant.so_far (λ k. same k + value k);
      rest = next-rest xs ss i _ inside there c.loop-i.invariant.rest;
    }
