use Rattle.std.proofs.Common.{◌≡◌, List, [], get_or, subst}
use Rattle.std.specs.Prelude.{pos}
use Rattle.std.proofs.lemmas.List.{get_or_read}
use Rattle.wdf_law.specs.declared.kind.Kind.TheVariants.{Res}
use Rattle.wdf_netlist.specs.declared.element.Element.{Element}
use Rattle.wdf_reporting.proofs.elements.element_in.Goals as goal

pub returns : goal.returns
returns c =
    let none : Element = record { name = []; kind = Res; from = 0; to = 0; value = record { digits = 0; exp = pos 0 } } in
    let here = c.index-elements-number.result in
    let read = subst (λ (es : List Element). here ≡ get_or es c.args.number here) c.elements.ensures.elements c.index-elements-number.is in
    get_or_read c.args.circuit.now.elements c.args.number here c.requires read none
