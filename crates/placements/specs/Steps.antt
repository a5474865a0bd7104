-- What the code's own steps give and keep; no promise cites this. Assumes nothing.
use Rattle.std.specs.Prelude.{ℕ, ◌+◌, ◌*◌, ◌≤◌, ◌^◌, cond, List, [], ◌∷◌, ◌++◌, leb, length, take, drop, nat_abs}
use Rattle.placements.specs.declared.Record.{Record}
use Rattle.placements.specs.declared.Counts.{Counts}
use Rattle.placements.specs.declared.Adds.{Adds}
use Rattle.placements.specs.Records.{placement_record_size, record_bytes, Added, nothing, placed, missing, special}

-- a record whose signed numbers are small enough to be taken apart
pub record InWords (r : Record) : Type 0 where
  pub hh_in : nat_abs r.hh ≤ 2 ^ 31
  pub vv_in : nat_abs r.vv ≤ 2 ^ 31
  pub content_in : nat_abs r.content ≤ 2 ^ 31
  pub extent_in : nat_abs r.extent ≤ 2 ^ 31

-- a record of an index in its place, where the area has room for it
abbrev pub put_record : List ℕ → ℕ → Record → List ℕ
put_record out index r =
    cond (leb (placement_record_size * index + placement_record_size) (length out))
    (take (placement_record_size * index) out ++ record_bytes r ++ drop (placement_record_size * index + placement_record_size) out)
    out

-- what the code says that a command adds
abbrev pub added_of : Adds → Added
added_of Adds.Nothing = nothing
added_of (Adds.Placed r) = placed r
added_of Adds.Missing = missing
added_of Adds.Special = special

-- so of what a command adds
abbrev pub AddsInWords : Adds → Type 0
AddsInWords Adds.Nothing = Unit {0}
AddsInWords (Adds.Placed r) = InWords r
AddsInWords Adds.Missing = Unit {0}
AddsInWords Adds.Special = Unit {0}

-- the area and the counts with what a command adds
abbrev pub area_noted : List ℕ → ℕ → Added → List ℕ
area_noted out index nothing = out
area_noted out index (placed r) = put_record out index r
area_noted out index missing = out
area_noted out index special = out

-- the counts with what a command adds
abbrev pub count_noted : Counts → Added → Counts
count_noted counts nothing = counts
count_noted counts (placed r) = record { records = counts.records + 1; missing = counts.missing; specials = counts.specials }
count_noted counts missing = record { records = counts.records; missing = counts.missing + 1; specials = counts.specials }
count_noted counts special = record { records = counts.records; missing = counts.missing; specials = counts.specials + 1 }

-- the records from an index on, each where there is room
abbrev pub stored : List ℕ → ℕ → List Record → List ℕ
stored out index [] = out
stored out index (r ∷ records) = stored (put_record out index r) (index + 1) records
