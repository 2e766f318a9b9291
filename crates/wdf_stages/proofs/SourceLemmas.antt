-- The networks of a netlist have its sources.
use Rattle.std.proofs.Common.{◌≡◌, ℕ, length, refl, ap}
use Rattle.wdf_netlist.specs.declared.form.Form.{Form}
use Rattle.wdf_netlist.specs.declared.form.Form.TheVariants.{Ladder as One, Lattice as Two}
use Rattle.wdf_lattice.specs.declared.networks.Networks.{Networks}
use Rattle.wdf_lattice.specs.declared.networks.Networks.TheVariants.{Ladder, Lattice}
use Rattle.wdf_lattice.specs.Sides.{sources_driven}
use Rattle.wdf_design.specs.Realising.{RealisesEach}
use Rattle.wdf_stages.specs.Opening.{source_count_of}

pub sources_counted : (k : ℕ) (form : Form) (ns : Networks) → RealisesEach k form ns → sources_driven ns ≡ source_count_of form
sources_counted k (One c) (Ladder n) h = ap (length {A = ℕ}) h.sources_are
sources_counted k (One c) (Lattice m n) h = absurd h
sources_counted k (Two a b) (Ladder n) h = absurd h
sources_counted k (Two a b) (Lattice m n) h = refl
