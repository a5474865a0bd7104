-- A number that a call answers, as its caller reads it. Assumes nothing.
use mathlib.Core.Path.{◌≡◌, ◌∙◌}
use Prim.Native.Nat.{◌<◌, ◌^◌}
use lib.IntN.{ℤ}
use lib.Signed.{mag}
use mir.Syntax.{w64}
use mir.Val.{to_z, of_z}
use mir.Facts.{to_z-of_z}
use borrow.Author.Rules.{sfits_of}

pub number_is : {n number : ℤ} → mag n < 2 ^ 63 → n ≡ number → to_z w64 (of_z w64 n) ≡ number
number_is fits e = to_z-of_z {w = w64} (sfits_of fits) ∙ e
