-- Where the value of a slot stands among the numbers of a cell.
use Rattle.std.specs.Prelude.{◌≡◌, ℕ, true}
use Rattle.wdf_loop.specs.declared.field.Field.{Field}
use Rattle.wdf_loop.specs.declared.field.Field.TheVariants.{Up, Down, Below, Onward, Raw}
use Rattle.wdf_loop.specs.declared.mark.Mark.{Mark}
use Rattle.wdf_loop.specs.declared.share.Share.{Share}

-- the stage's number of this name is the value of the slot i
abbrev pub Holds : Field → Share → Mark → ℕ → Type 0
Holds Up s k i = k.up ≡ i
Holds Down s k i = k.down ≡ i
Holds Below s k i = k.below ≡ i
Holds Onward s k i = k.onward ≡ i
Holds Raw s k i = (s.parallel ≡ true) × (k.raw ≡ i)
