-- The next sample is not over amp.
use Rattle.std.proofs.Common.{rules, ◌≡◌, ◌≤◌, ◌&&◌, Bool, true, false, if◌then◌else◌, List, get_or, take, length, pos, refl, ap, subst}
use Rattle.std.specs.Prelude.{ℤ, unsigned_abs, All}
use Rattle.std.proofs.lemmas.List.{take_all}
use Rattle.std.proofs.lemmas.List.Elements.{All-more}
use Rattle.wdf_frames.proofs.samples.are_small.Goals as goal

-- both are true
first : (a b : Bool) → (a && b) ≡ true → a ≡ true
first true b h = refl
first false b h = h

second : (a b : Bool) → (a && b) ≡ true → b ≡ true
second true b h = h
second false b h = ap (λ (x : Bool). if x then true else b) h

pub loop-at-preserved : goal.loop-at-preserved
loop-at-preserved c both =
    let more = second c.loop-at.all c.is_small-all.result both in
    let size = c.is_small-all.ensures more in
    let small : unsigned_abs (get_or c.args.samples.now c.loop-at.at (pos 0)) ≤ c.args.amp = search rules in
    All-more (λ z. unsigned_abs z ≤ c.args.amp) c.args.samples.now c.loop-at.at (pos 0) c.loop-at-test.true (c.loop-at.invariant (first c.loop-at.all c.is_small-all.result both)) small

pub returns : goal.returns
returns c is =
    subst (λ (xs : List ℤ). All (λ z. unsigned_abs z ≤ c.args.amp) xs) (take_all c.loop-at.at c.args.samples.now c.loop-at-test.false) (c.loop-at.invariant is)
