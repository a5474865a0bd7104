-- The bytes of a record on another page are those of the record but for the two of the page number. Assumes nothing.
use Prim.Native.Nat.{ℕ}
use mathlib.Core.Path.{◌≡◌, refl}
use mathlib.Core.List.{◌++◌}
use lib.ListN.{take, drop}
use Rattle.numbers.specs.Bytes.{bytes_of}
use Rattle.placements.specs.declared.Record.{Record}
use Rattle.placements.specs.Records.{record_bytes}
use Rattle.rewritten.specs.Renumbered.{record_on}

-- bytes 2 and 3 are the page's, all others stay (rules 8.1, 12.6)
pub renumbered_bytes : (n : ℕ) (r : Record) → record_bytes (record_on n r) ≡ take 2 (record_bytes r) ++ (bytes_of 2 n ++ drop 4 (record_bytes r))
unfolding record_bytes bytes_of
renumbered_bytes n r = refl
