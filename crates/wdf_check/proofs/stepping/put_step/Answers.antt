use Rattle.std.proofs.Common.{◌≡◌, ℕ, ◌^◌, ◌<◌, pos, length, get_or, if◌then◌else◌, subst, ap, ◌∙◌, arith}
use Rattle.std.proofs.lemmas.List.{length-replicate}
use Rattle.std.proofs.lemmas.List.FromFn.{fill_by_all}
use lib.IntN.{◌-ℤ◌, ◌*ℤ◌}
use Rattle.wdf_law.specs.Trees.{AdaptorTree}
use Rattle.wdf_law.specs.Network.{elements, has_leaf}
use Rattle.wdf_residue.specs.Residue.{residue}
use Rattle.wdf_check.specs.ResidueStep.{unit_inverse, mean, sends, reflects, next}
use Rattle.wdf_check.specs.Stepping.{state_of}
use Rattle.wdf_check.proofs.StepCodes.{step_writes}
use Rattle.wdf_check.proofs.stepping.put_step.Goals as goal

pub returns : goal.returns
returns c =
    let long : length c.args.sent.now ≡ length (elements c.args.net.now) = ap length c.requires.zeros ∙ length-replicate (length (elements c.args.net.now)) 0 in
    let all : length c.descend-2.new.sent ≡ length (elements c.args.net.now) = omega arith in
    fill_by_all (λ (i : ℕ). residue (next c.args.net.now (state_of c.args.states.now) i)) c.descend-2.new.sent (length (elements c.args.net.now)) 0 all
    (λ i less.
    let first_less : i < length c.args.sent.now = omega arith in
    let second_less : i < length c.descend.new.sent = omega arith in
    let u1 = c.climb-u1.ensures.value
    ∙ ap (λ (t : AdaptorTree). residue (reflects (2 ^ c.k-k.result) (unit_inverse c.k-k.result) (state_of c.args.states.now) t)) c.left.ensures in
    let u2 = c.climb-u2.ensures.value
    ∙ ap (λ (t : AdaptorTree). residue (reflects (2 ^ c.k-k.result) (unit_inverse c.k-k.result) (state_of c.args.states.now) t)) c.right.ensures in
    let u = c.mean-u.ensures.value
    ∙ ap (λ (m : ℕ). residue (mean (2 ^ c.k-k.result) (unit_inverse c.k-k.result) m (pos c.climb-u1.result) (pos c.climb-u2.result))) c.root_m.ensures.value in
    let second = c.descend.ensures i first_less
    ∙ ap (λ (t : AdaptorTree). if has_leaf t i then residue (sends (2 ^ c.k-k.result) (unit_inverse c.k-k.result) (state_of c.args.states.now) t (pos c.minus.result) i)
    else get_or c.args.sent.now i 0) c.right-2.ensures in
    let first = c.descend-2.ensures i second_less
    ∙ ap (λ (t : AdaptorTree). if has_leaf t i then residue (sends (2 ^ c.k-k.result) (unit_inverse c.k-k.result) (state_of c.args.states.now) t (pos c.minus-2.result) i)
    else get_or c.descend.new.sent i 0) c.left-2.ensures in
    subst (λ (k : ℕ). get_or c.descend-2.new.sent i 0
    ≡ residue (if has_leaf c.args.net.now.left i
    then sends (2 ^ k) (unit_inverse k) (state_of c.args.states.now) c.args.net.now.left
    (pos 2 *ℤ mean (2 ^ k) (unit_inverse k) c.args.net.now.m (reflects (2 ^ k) (unit_inverse k) (state_of c.args.states.now) c.args.net.now.left)
    (reflects (2 ^ k) (unit_inverse k) (state_of c.args.states.now) c.args.net.now.right) -ℤ reflects (2 ^ k) (unit_inverse k) (state_of c.args.states.now) c.args.net.now.left) i
    else sends (2 ^ k) (unit_inverse k) (state_of c.args.states.now) c.args.net.now.right
    (pos 2 *ℤ mean (2 ^ k) (unit_inverse k) c.args.net.now.m (reflects (2 ^ k) (unit_inverse k) (state_of c.args.states.now) c.args.net.now.left)
    (reflects (2 ^ k) (unit_inverse k) (state_of c.args.states.now) c.args.net.now.right) -ℤ reflects (2 ^ k) (unit_inverse k) (state_of c.args.states.now) c.args.net.now.right) i))
    c.k-k.ensures.value
    (step_writes (2 ^ c.k-k.result) (unit_inverse c.k-k.result) (state_of c.args.states.now) c.args.net.now.m c.args.net.now.left c.args.net.now.right
    c.climb-u1.result c.climb-u2.result c.mean-u.result c.plus-twice.result c.minus-2.result c.minus.result i
    (get_or c.args.sent.now i 0) (get_or c.descend.new.sent i 0) (get_or c.descend-2.new.sent i 0)
    u1 u2 u c.plus-twice.ensures.value c.minus-2.ensures.value c.minus.ensures.value second first (c.numbers.ensures.every i less)))
