use Rattle.std.specs.Prelude.{ℕ, List, drop}
use Rattle.wdf_io.specs.declared.sure_source.SureSource.{SureSource}

-- the bytes that are not yet read
abbrev pub sure_left : SureSource → List ℕ
sure_left source = drop source.at source.bytes.items
