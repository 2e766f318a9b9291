use Rattle.std.proofs.Common.{◌≡◌, ◌*◌, ◌%◌, ◌/◌, ℕ, ap, sym, ◌∙◌, arith, rules}
use Rattle.wdf_residue.specs.Residue.{prime}
use Rattle.wdf_residue.proofs.Powers.{power}
use Rattle.wdf_residue.proofs.Inverses.{last_exponent, power-inverse}
use Rattle.wdf_residue.proofs.Squarings.{begins, step_odd, step_even, ends}
use Rattle.wdf_residue.proofs.residues.inverse.Goals as goal
use Rattle.wdf_residue.proofs.residues.inverse.Goals.{then-rest-eq1, else-rest-eq1}

pub loop-rest-init : goal.loop-rest-init
loop-rest-init c = record {
  power_below = omega arith;
  square_below = c.requires.residue;
  whole = begins c.args.a last_exponent;
}

pub loop-rest-preserved : goal.loop-rest-preserved
loop-rest-preserved c =
    let squared : (c.if-rest-eq1.power * power c.times-square.result (c.loop-rest.rest / 2)) % prime
    ≡ (c.if-rest-eq1.power * power ((c.loop-rest.square * c.loop-rest.square) % prime) (c.loop-rest.rest / 2)) % prime =
    ap (λ (s : ℕ). (c.if-rest-eq1.power * power s (c.loop-rest.rest / 2)) % prime) c.times-square.ensures.value in
    elim c.if-rest-eq1.branch [
      | then-rest-eq1 w ↦ record {
        power_below = search rules;
        square_below = c.times-square.ensures.residue;
        whole = squared
            ∙ (ap (λ (p : ℕ). (p * power ((c.loop-rest.square * c.loop-rest.square) % prime) (c.loop-rest.rest / 2)) % prime) (w.power-is ∙ w.times-power.ensures.value)
            ∙ (step_odd c.loop-rest.power c.loop-rest.square c.loop-rest.rest c.loop-rest.invariant.square_below w.if-rest-eq1.true ∙ c.loop-rest.invariant.whole));
      }
      | else-rest-eq1 w ↦ record {
        power_below = search rules;
        square_below = c.times-square.ensures.residue;
        whole = squared
            ∙ (ap (λ (p : ℕ). (p * power ((c.loop-rest.square * c.loop-rest.square) % prime) (c.loop-rest.rest / 2)) % prime) w.power-is
            ∙ (step_even c.loop-rest.power c.loop-rest.square c.loop-rest.rest c.loop-rest.invariant.square_below w.if-rest-eq1.false ∙ c.loop-rest.invariant.whole));
      }
    ]

pub returns-clause-product : goal.returns-clause-product
returns-clause-product c =
    let none : c.loop-rest.rest ≡ 0 = omega arith in
    let same : c.loop-rest.power ≡ power c.args.a last_exponent =
    sym (ends c.loop-rest.power c.loop-rest.square c.loop-rest.rest c.loop-rest.invariant.power_below none) ∙ c.loop-rest.invariant.whole in
    ap (λ (p : ℕ). (c.args.a * p) % prime) same ∙ power-inverse c.args.a c.requires.some c.requires.residue
