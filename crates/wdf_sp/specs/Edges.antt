-- Edges, elements and trees as clauses see them.
use Rattle.std.specs.Prelude.{List, map}
use Rattle.wdf_law.specs.Outline.{outline}
use Rattle.wdf_law.specs.Spans.{Branch}
use Rattle.wdf_netlist.specs.declared.element.Element.{Element}
use Rattle.wdf_sp.specs.declared.edge.Edge.{Edge}
use Rattle.wdf_sp.specs.declared.rooted.Rooted.{Rooted}
use Rattle.wdf_sp.specs.Reduction.{Arc}
use Rattle.wdf_sp.specs.Structure.{Halves}

abbrev pub arc : Edge → Arc
arc e = record { shape = outline e.shape; from = e.from; to = e.to }

abbrev pub arcs : List Edge → List Arc
arcs es = map arc es

-- an element without its name and value
abbrev pub branch : Element → Branch
branch e = record { kind = e.kind; from = e.from; to = e.to }

abbrev pub branches : List Element → List Branch
branches es = map branch es

abbrev pub halves : Rooted → Halves
halves r = record { left = outline r.left; right = outline r.right }
