-- Kirchhoff's laws in a circuit, whose elements are the list bs. An element's port has the conductance g, and in a
-- frame the waves u up and d down: the voltage d + u and the current g·(d - u), in units of half a wave, from the
-- node where the port begins. Where the leaf is flipped that is the element's second node, so both are negated.
use Rattle.std.specs.Prelude.{◌≡◌, ℕ, ◌<◌, ◌==◌, if◌then◌else◌, ℤ, pos, ◌+ℤ◌, ◌-ℤ◌, ◌*ℤ◌, List, [], ◌∷◌, length, Some, slice_get, All, count_by}
use Rattle.wdf_law.specs.Elements.{signed}
use Rattle.wdf_law.specs.Network.{Network}
use Rattle.wdf_law.specs.Ports.{Port, ports}
use Rattle.wdf_law.specs.Step.{Frame, IsStep}
use Rattle.wdf_law.specs.Run.{states}
use Rattle.wdf_law.specs.Laws.{IsLossless}
use Rattle.wdf_law.specs.Spans.{Branch}
use Rattle.wdf_sp.specs.Reduction.{branch_at}

-- the voltage across an element, its first node's less its second node's
abbrev pub voltage : Port → ℤ
voltage x = signed x.element.flip (x.down +ℤ x.up)

-- the current through it, from its first node to its second node
abbrev pub current : Port → ℤ
current x = signed x.element.flip (pos x.conductance *ℤ (x.down -ℤ x.up))

-- z where the node is y
abbrev pub at_node : ℕ → ℕ → ℤ → ℤ
at_node x y z = if x == y then z else pos 0

-- the current that leaves the node y through an element, negative where it comes in
abbrev pub out_through : List Branch → ℕ → Port → ℤ
out_through bs y x = at_node (branch_at bs x.element.number).from y (current x) -ℤ at_node (branch_at bs x.element.number).to y (current x)

-- the sum of the currents that leave the node y
abbrev pub out_of : List Branch → ℕ → List Port → ℤ
out_of bs y [] = pos 0
out_of bs y (x ∷ xs) = out_through bs y x +ℤ out_of bs y xs

-- the port is that of an element of the circuit, and its voltage is the difference of the potentials v of the
-- element's nodes
pub record HasDrop (bs : List Branch) (v : ℕ → ℤ) (x : Port) : Type 0 where
  pub branch : Branch
  pub at : slice_get bs x.element.number ≡ Some branch
  pub kind : branch.kind ≡ x.element.kind
  pub drop : voltage x ≡ v branch.from -ℤ v branch.to

-- the ports xs of a frame obey Kirchhoff's laws of the circuit
pub record ObeyKirchhoff (bs : List Branch) (xs : List Port) : Type 0 where
  -- each element has one port
  pub each : (i : ℕ) → i < length bs → count_by (λ (x : Port). x.element.number == i) xs ≡ 1
  -- each node has a potential, and each element the voltage between its nodes
  pub potential : ℕ → ℤ
  pub voltages : All (HasDrop bs potential) xs
  -- at each node the currents add to zero
  pub currents : (y : ℕ) → out_of bs y xs ≡ pos 0

-- every step of the network that loses nothing obeys them
abbrev pub ObeysKirchhoff : List Branch → Network → Type 0
ObeysKirchhoff bs n = (zs : List ℤ) (e : ℕ → ℤ) (s : Frame) → IsStep n (states n zs) e s → IsLossless n s → ObeyKirchhoff bs (ports n s)
