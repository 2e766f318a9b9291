-- The kinds of elements that are asked for: what the walks over the trees of a network work with.
use Rattle.std.specs.Prelude.{Bool}
use Rattle.wdf_law.specs.declared.kind.Kind.{Kind}
use Rattle.wdf_law.specs.declared.role.Role.{Role}
use Rattle.wdf_law.specs.declared.role.Role.TheVariants.{Resistor, Reactance, Absorbing, Source}
use Rattle.wdf_law.specs.Network.{is_resistor, is_reactance, is_absorbing, is_source}

-- the kind has the role
abbrev pub is_of : Role → Kind → Bool
is_of Resistor kind = is_resistor kind
is_of Reactance kind = is_reactance kind
is_of Absorbing kind = is_absorbing kind
is_of Source kind = is_source kind
