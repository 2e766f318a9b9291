-- A network between two nodes, taken from its end to its beginning: each element's direction changes, and
-- the parts of a series change places.
use Rattle.std.specs.Prelude.{not}
use Rattle.wdf_law.specs.declared.connection.Connection.TheVariants.{Series, Parallel}
use Rattle.wdf_law.specs.Outline.{Outline, single, joined}

abbrev pub reversed : Outline → Outline
reversed (single elem kind flip) = single elem kind (not flip)
reversed (joined Series l r) = joined Series (reversed r) (reversed l)
reversed (joined Parallel l r) = joined Parallel (reversed l) (reversed r)
