-- A step that loses nothing obeys Kirchhoff's laws of the circuit that its network's trees span.
use Rattle.std.proofs.Common.{ℕ, ◌<◌, cond, List, arith}
use Rattle.std.proofs.lemmas.Nat.{pow_pos}
use Rattle.std.proofs.lemmas.List.Elements.{All-append}
use Rattle.std.proofs.lemmas.List.Sums.{sum_by-append}
use lib.IntN.{ℤ, pos, ◌+ℤ◌}
use Rattle.wdf_algebra.proofs.RingLaws.{linear}
use Rattle.wdf_law.specs.Network.{Network, unit_of}
use Rattle.wdf_law.specs.Conductance.{conductance, left_factor, right_factor}
use Rattle.wdf_law.specs.Step.{Frame, IsStep, up_wave, down_wave}
use Rattle.wdf_law.specs.Run.{states}
use Rattle.wdf_law.specs.Laws.{IsLossless}
use Rattle.wdf_law.specs.Ports.{Port, ports, ports_of}
use Rattle.wdf_law.specs.Spans.{Branch, outline_of}
use Rattle.wdf_sp.specs.Structure.{Meet, Meets}
use Rattle.wdf_sp.specs.Kirchhoff.{HasDrop, ObeyKirchhoff, ObeysKirchhoff}
use Rattle.wdf_sp.proofs.LosslessJunctions.{root_waves}
use Rattle.wdf_sp.proofs.JunctionWaves.{exact_is, obey_junctions}
use Rattle.wdf_sp.proofs.CurrentLemmas.{port_current, currents_of, out_of-append, no_current, is_port_of, count_ports}
use Rattle.wdf_sp.proofs.PotentialLemmas.{potentials_of, beside, all_drops}

obeys_between : (bs : List Branch) (n : Network) (p r : ℕ) → Meet bs (outline_of n.left) (outline_of n.right) p r → (x e : ℕ → ℤ) (s : Frame) → IsStep n x e s → IsLossless n s → ObeyKirchhoff bs (ports n s)
obeys_between bs n p r m x e s step exact =
    let q = unit_of n in
    let some : 0 < unit_of n = pow_pos n.k in
    let f = left_factor n in
    let g = right_factor n in
    let root = root_waves q (conductance q f n.left) (conductance q g n.right) (up_wave s.left) (up_wave s.right) s.b1 s.b2 (down_wave s.left) (down_wave s.right) some step.root
    (exact_is q s.b1 (down_wave s.left) exact.first step.to_left) (exact_is q s.b2 (down_wave s.right) exact.second step.to_right) in
    let left = obey_junctions q f x e n.left s.left some step.left exact.left in
    let right = obey_junctions q g x e n.right s.right some step.right exact.right in
    let volts = down_wave s.left +ℤ up_wave s.left in
    let v1 = potentials_of bs q f n.left s.left p r volts (pos 0) left m.left m.ends (omega (arith, linear)) in
    let v2 = potentials_of bs q g n.right s.right p r volts (pos 0) right m.right m.ends (omega (arith, linear, root.voltages)) in
    let v = beside bs n.left n.right s.left s.right p r volts (pos 0) m.left m.right m.apart v1 v2 in
    record {
      each = λ i within.
          let c1 = count_ports i q f n.left s.left left in
          let c2 = count_ports i q g n.right s.right right in
          let both = sum_by-append (λ (y : Port). cond {A = ℕ} (is_port_of i y) 1 0) (ports_of q f n.left s.left) (ports_of q g n.right s.right) in
          omega (arith, m.apart i, m.all i within);
      potential = v.at;
      voltages = All-append (HasDrop bs v.at) (ports_of q f n.left s.left) (ports_of q g n.right s.right) (all_drops bs v.at q f n.left s.left p r m.left v.first) (all_drops bs v.at q g n.right s.right p r m.right v.second);
      currents = λ y.
          let c1 = currents_of bs y q f n.left s.left p r left m.left in
          let c2 = currents_of bs y q g n.right s.right p r right m.right in
          let both = out_of-append bs y (ports_of q f n.left s.left) (ports_of q g n.right s.right) in
          let first = no_current p y (port_current q f n.left s.left) (port_current q g n.right s.right) root.currents in
          let last = no_current r y (port_current q f n.left s.left) (port_current q g n.right s.right) root.currents in
          omega (arith, linear);
    }

pub obeys_kirchhoff : (bs : List Branch) (n : Network) → Meets bs (record { left = outline_of n.left; right = outline_of n.right }) → ObeysKirchhoff bs n
obeys_kirchhoff bs n m = λ zs e s step exact. obeys_between bs n m.0 m.1 m.2 (states n zs) e s step exact
