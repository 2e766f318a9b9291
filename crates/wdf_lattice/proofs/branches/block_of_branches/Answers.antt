-- One piece more, and all of them.
use Rattle.std.proofs.Common.{◌≡◌, ℕ, ◌+◌, ◌*◌, ◌/◌, ◌≤◌, List, length, rules, sym, ap, ◌∙◌, subst, arith}
use Rattle.std.specs.Prelude.{ℤ}
use Rattle.std.proofs.Math.Nat.{mul-div_cancel}
use Rattle.std.proofs.lemmas.List.{take_all}
use Rattle.wdf_bounds.specs.Plans.{PlanOf}
use Rattle.wdf_loop.specs.Engines.{runs_of}
use Rattle.wdf_lattice.specs.declared.engines.Engines.TheVariants.{Two}
use Rattle.wdf_lattice.specs.RunSides.{GoOn}
use Rattle.wdf_lattice.proofs.CutLemmas.{cut_long}
use Rattle.wdf_lattice.proofs.GoOnLemmas.{go_next, piece_fits}
use Rattle.wdf_lattice.proofs.branches.block_of_branches.Goals as goal

pub piece_of_branches-requires-clause-frames : goal.piece_of_branches-requires-clause-frames
piece_of_branches-requires-clause-frames c =
    let made = c.loop-made.made in
    let gone = c.loop-made.invariant.gone in
    let count = c.requires.frames.0 in
    let runs = c.args.runs in
    let all : length c.args.output.now / c.args.runs ≡ count
    = ap (λ (k : ℕ). k / runs) c.requires.frames.1.given ∙ mul-div_cancel count (omega (arith, c.requires.some)) in
    let within : c.loop-made.made + c.min.result ≤ length c.args.output.now / c.args.runs = search rules in
    piece_fits runs (runs_of c.loop-made.first.engine) c.args.first.now.engine.done c.loop-made.first.engine.done c.args.first.now.engine.plan.frames c.loop-made.first.engine.plan.frames
    made c.min.result count c.args.input.now c.loop-made.output (gone.runs_are ∙ sym c.requires.runs) gone.done (ap (λ (p : PlanOf). p.frames) gone.plan_is)
    (subst (λ (n : ℕ). made + c.min.result ≤ n) all within)
    c.requires.frames.1.taken (c.loop-made.invariant.places ∙ c.requires.frames.1.given) c.requires.frames.2

pub loop-made-preserved : goal.loop-made-preserved
loop-made-preserved c =
    let made = c.loop-made.made in
    let k = c.min.result in
    let gone = c.loop-made.invariant.gone in
    let count = c.requires.frames.0 in
    let runs = c.args.runs in
    let given : length c.args.output.now ≡ count * runs = c.requires.frames.1.given in
    let all : length c.args.output.now / c.args.runs ≡ count = ap (λ (k : ℕ). k / runs) given ∙ mul-div_cancel count (omega (arith, c.requires.some)) in
    let within : c.loop-made.made + c.min.result ≤ length c.args.output.now / c.args.runs = search rules in
    let some : 1 ≤ c.min.result = search rules in
    let inside : made + k ≤ count = subst (λ (n : ℕ). made + c.min.result ≤ n) all within in
    let room : length c.loop-made.output ≡ count * runs = c.loop-made.invariant.places ∙ given in
    let own : runs_of c.loop-made.first.engine ≡ runs = gone.runs_are ∙ sym c.requires.runs in
    let long = cut_long made k count runs c.loop-made.output inside room in
    record {
      within = within;
      room = c.piece_of_branches.auto.room ∙ c.loop-made.invariant.room;
      places = search rules;
      gone = go_next runs made k count c.args.input.now c.loop-made.output c.piece_of_branches.new.output c.args.first.now c.args.second.now (Two c.loop-made.first c.loop-made.second)
          (Two c.piece_of_branches.new.first c.piece_of_branches.new.second) some c.requires.runs inside room (c.piece_of_branches.auto.output ∙ long) gone
          (c.piece_of_branches.ensures k (long ∙ ap (λ (n : ℕ). k * n) (sym own)));
    }

pub returns : goal.returns
returns c = λ count given.
    let runs = c.args.runs in
    let all : length c.args.output.now / c.args.runs ≡ count = ap (λ (k : ℕ). k / runs) given ∙ mul-div_cancel count (omega (arith, c.requires.some)) in
    let ended : c.loop-made.made ≡ length c.args.output.now / c.args.runs = let last = c.loop-made-test.false in let most = c.loop-made.invariant.within in omega arith in
    let made : c.loop-made.made ≡ count = ended ∙ all in
    let long : length c.loop-made.output ≡ c.loop-made.made * c.args.runs = c.loop-made.invariant.places ∙ (given ∙ ap (λ (k : ℕ). k * runs) (sym made)) in
    subst (λ (n : ℕ). GoOn n c.args.input.now c.loop-made.output (Two c.args.first.now c.args.second.now) (Two c.loop-made.first c.loop-made.second)) made
    (subst (λ (ws : List ℤ). GoOn c.loop-made.made c.args.input.now ws (Two c.args.first.now c.args.second.now) (Two c.loop-made.first c.loop-made.second))
    (take_all (c.loop-made.made * runs) c.loop-made.output (omega (arith, long))) c.loop-made.invariant.gone)
