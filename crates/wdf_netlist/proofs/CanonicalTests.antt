-- The canonical text of worked netlists, computed by the definition.
use Rattle.std.proofs.Common.{◌≡◌, [], ◌∷◌, refl}
use Rattle.std.specs.Prelude.{codes, pos, negsuc}
use Rattle.std.specs.Fmt.{digits}
use Rattle.wdf_text.specs.DecimalNumber.{DecimalNumber}
use Rattle.wdf_law.specs.declared.kind.Kind.TheVariants.{Src, Res, Cap}
use Rattle.wdf_law.specs.declared.outlet.Outlet.TheVariants as outlets
use Rattle.wdf_netlist.specs.declared.form.Form.TheVariants.{Ladder}
use Rattle.wdf_netlist.specs.declared.root_choice.RootChoice.TheVariants as roots
use Rattle.wdf_netlist.specs.Netlists.{NetlistValue}
use Rattle.wdf_netlist.specs.Canonical.{canonical, value_text}

one : DecimalNumber
one = record { digits = 1; exp = pos 0 }

-- a source, a capacitor of 10 microfarads and the load between the same nodes
two_leaves : NetlistValue
two_leaves = record {
  rate = 50000;
  form = Ladder (record {
    elements = record { name = codes "S"; kind = Src; from = 0; to = 1; value = one }
        ∷ record { name = codes "C"; kind = Cap; from = 0; to = 1; value = record { digits = 1; exp = negsuc 4 } }
        ∷ record { name = codes "L"; kind = Res; from = 0; to = 1; value = one } ∷ [];
    nodes = codes "a" ∷ codes "0" ∷ [];
    outlet = outlets.Load 2;
    root = roots.Source;
  });
}

two_leaves_text : canonical two_leaves ≡ codes "rate 50000\nsource S a 0 1\nc C a 0 0.00001\nr L a 0 1\nload L\n"
unfolding digits one two_leaves
two_leaves_text = refl

whole_value : value_text (record { digits = 6; exp = pos 2 }) ≡ codes "600"
unfolding digits
whole_value = refl

mixed_value : value_text (record { digits = 12345; exp = negsuc 2 }) ≡ codes "12.345"
unfolding digits
mixed_value = refl

least_value : value_text (record { digits = 1; exp = negsuc 17 }) ≡ codes "0.000000000000000001"
unfolding digits
least_value = refl

tenths_value : value_text (record { digits = 25; exp = negsuc 1 }) ≡ codes "0.25"
unfolding digits
tenths_value = refl
