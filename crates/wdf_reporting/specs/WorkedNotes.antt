-- A note worked by another program, against which the definitions of its texts are checked: that of a voltage divider.
use Rattle.std.specs.Prelude.{◌≡◌, ℕ, pos, true, false, List, [], ◌∷◌, ◌++◌, codes}
use Rattle.wdf_law.specs.declared.kind.Kind.TheVariants.{Res, Src}
use Rattle.wdf_law.specs.declared.side.Side.{Side}
use Rattle.wdf_law.specs.declared.side.Side.TheVariants.{Whole, A, B}
use Rattle.wdf_law.specs.declared.outlet.Outlet.TheVariants.{Load}
use Rattle.wdf_law.specs.Network.{Network}
use Rattle.wdf_law.specs.Trees.{leaf}
use Rattle.wdf_netlist.specs.declared.element.Element.{Element}
use Rattle.wdf_netlist.specs.declared.root_choice.RootChoice.TheVariants.{Source as At_source}
use Rattle.wdf_netlist.specs.declared.form.Form.TheVariants.{Ladder as One}
use Rattle.wdf_netlist.specs.Netlists.{NetlistValue}
use Rattle.wdf_bounds.specs.Plans.{PlanOf, plan_of}
use Rattle.wdf_lattice.specs.declared.networks.Networks.{Networks}
use Rattle.wdf_lattice.specs.declared.networks.Networks.TheVariants.{Ladder, Lattice}
use Rattle.wdf_design.specs.Designs.{IsDesigned}
use Rattle.wdf_energy.specs.declared.totals.Totals.{Totals}
use Rattle.wdf_reporting.specs.Notes.{ledger_texts, note_text}

-- rate 48000, source S a 0 600, r L a 0 75, load L
abbrev pub divider_elements : List Element
divider_elements =
    record { name = codes "S"; kind = Src; from = 0; to = 1; value = record { digits = 6; exp = pos 2 } }
    ∷ record { name = codes "L"; kind = Res; from = 0; to = 1; value = record { digits = 75; exp = pos 0 } }
    ∷ []

abbrev pub divider : NetlistValue
divider = record {
  rate = 48000;
  form = One (record {
    elements = divider_elements;
    nodes = codes "a" ∷ codes "0" ∷ [];
    outlet = Load 1;
    root = At_source;
  });
}

abbrev pub divider_network : Network
divider_network = record { k = 14; m = 1820; left = leaf 0 Src false; right = leaf 1 Res false; outlet = Load 1 }

abbrev pub divider_networks : Networks
divider_networks = Ladder divider_network

-- the plan of a run of 16 bits that no operand changes
abbrev pub usual_plan : PlanOf
usual_plan = plan_of 14 4 0 67108864 32768 16

abbrev pub divider_totals : Totals
divider_totals = record { incident = 60355153217024; absorbed = 60354727267811; stored = 0 }

-- totals that tell the side and the channel
abbrev pub marked_totals : Side → ℕ → Totals
marked_totals Whole channel = divider_totals
marked_totals A channel = record { incident = 10; absorbed = channel; stored = 7 }
marked_totals B channel = record { incident = 20; absorbed = channel; stored = 8 }

pub record AreWorkedNotes : Type 0 where
  pub designed : IsDesigned divider 14 divider_networks
  pub note : note_text divider divider_networks usual_plan (λ _. true) 1200 0 1 (λ _ _. divider_totals) ≡
      codes "wdf report 1\n"
      ++ codes "form ladder\n"
      ++ codes "rate 48000\n"
      ++ codes "plan k 14 guard 4 shift 0 frames 67108864 amp 32768 bits 16\n"
      ++ codes "root S\n"
      ++ codes "element S source ratio 1099511627776 bound 4294967296\n"
      ++ codes "element L r ratio 137438953472 bound 1518292992\n"
      ++ codes "junction root 1820\n"
      ++ codes "largest 4294967296 limit 70368744177664\n"
      ++ codes "states 0 certified yes\n"
      ++ codes "frames 1200\n"
      ++ codes "clipped 0\n"
      ++ codes "channel 0 incident 60355153217024 absorbed 60354727267811 stored 0\n"
  -- two channels of a lattice
  pub ledger : ledger_texts (Lattice divider_network divider_network) 2 marked_totals ≡
      codes "branch A channel 0 incident 10 absorbed 0 stored 7\n"
      ++ codes "branch A channel 1 incident 10 absorbed 1 stored 7\n"
      ++ codes "branch B channel 0 incident 20 absorbed 0 stored 8\n"
      ++ codes "branch B channel 1 incident 20 absorbed 1 stored 8\n"
