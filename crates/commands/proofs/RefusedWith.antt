-- The refusals of reading one command. Assumes nothing.
use Prim.Native.Nat.{ℕ}
use mathlib.Core.Path.{refl}
use mathlib.Core.List.{List}
use mathlib.Core.Logic.{inl, inr}
use lib.Dec.{ltb}
use lib.ListN.{length, drop}
use Rattle.refusals.specs.Numbers.{file_too_long}
use Rattle.refusals.specs.RefusedOnly.{RefusedOnly, CommandRefusal}
use Rattle.refusals.proofs.RefusedOnly.{if_only}
use Rattle.commands.specs.Commands.{Front, cut, undefined, whole, front}
use Rattle.commands.specs.Reading.{reading, read_at, longest_file, command_read}

-- 1 at 0, 2 or 3 at the place that is asked
pub command_refused_with : (file : List ℕ) (at : ℕ) → RefusedOnly (CommandRefusal at) (command_read file at)
command_refused_with file at =
    if_only (CommandRefusal at) (ltb longest_file (length file)) file_too_long 0 (read_at file at) (inl (refl, refl)) (by (front (drop at file)))
  where
    by : (f : Front) → RefusedOnly (CommandRefusal at) (reading at f)
    by cut = inr (inl refl, refl)
    by undefined = inr (inr refl, refl)
    by (whole c rest) = tt
