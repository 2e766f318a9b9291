-- The leaves of a quantised network are those of the trees whose ports it is made of.
use Rattle.std.proofs.Common.{◌≡◌, ℕ, ◌++◌, refl}
use Rattle.wdf_law.specs.declared.connection.Connection.TheVariants.{Series, Parallel}
use Rattle.wdf_law.specs.Trees.{elements_of}
use Rattle.wdf_law.specs.Outline.{Outline, single, joined, outline_elements}
use Rattle.wdf_law.specs.PortOutline.{shape_outline}
use Rattle.wdf_law.specs.Spans.{outline_of}
use Rattle.wdf_ports.specs.PortRatios.{ports_with}
use Rattle.wdf_quant.specs.QuantisedNetwork.{quantised}

pub shape-ports : (ratio : ℕ → ℕ) (t : Outline) → shape_outline (ports_with ratio t) ≡ t
shape-ports ratio (single elem _ flip) = refl
shape-ports ratio (joined Series l r) = λ j. joined Series (shape-ports ratio l j) (shape-ports ratio r j)
shape-ports ratio (joined Parallel l r) = λ j. joined Parallel (shape-ports ratio l j) (shape-ports ratio r j)

pub outline-quantised : (q : ℕ) (ratio : ℕ → ℕ) (t : Outline) → outline_of (quantised q (ports_with ratio t)) ≡ t
outline-quantised q ratio (single elem _ flip) = refl
outline-quantised q ratio (joined Series l r) = λ j. joined Series (outline-quantised q ratio l j) (outline-quantised q ratio r j)
outline-quantised q ratio (joined Parallel l r) = λ j. joined Parallel (outline-quantised q ratio l j) (outline-quantised q ratio r j)

pub elements-quantised : (q : ℕ) (ratio : ℕ → ℕ) (t : Outline) → elements_of (quantised q (ports_with ratio t)) ≡ outline_elements t
elements-quantised q ratio (single elem _ flip) = refl
elements-quantised q ratio (joined Series l r) = λ j. elements-quantised q ratio l j ++ elements-quantised q ratio r j
elements-quantised q ratio (joined Parallel l r) = λ j. elements-quantised q ratio l j ++ elements-quantised q ratio r j
