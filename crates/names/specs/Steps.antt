-- What the code's own steps keep; no promise cites this. Assumes nothing.
use Rattle.std.specs.Prelude.{◌<◌, ◌^◌}
use Rattle.names.specs.declared.Name.{Name}

-- both numbers have eight bytes
abbrev pub InEights : Name → Type 0
InEights name = (name.high < 2 ^ 64) × (name.low < 2 ^ 64)
