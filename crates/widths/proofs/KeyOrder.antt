-- The order of keys that is derived, part by part, is that of their numbers. Assumes nothing.
use mathlib.Core.Path.{◌≡◌}
use Prim.Native.Nat.{◌<◌}
use lib.Dec.{ltb, eqb}
use borrow.Author.Rules.{rules}
use Rattle.std.specs.Ordering.{partial_lt}
use Rattle.widths.specs.contracts.table.KeyPartialOrd.TheImpl.{partial_cmp-value}
use Rattle.widths.specs.contracts.table.KeyPartialEq.TheImpl.{eq-value}
use Rattle.widths.specs.declared.table.Key.{Key}
use Rattle.widths.specs.Steps.{key_number, InKey}

-- a key is below another where its number is
pub below_number : (a b : Key) → InKey a → InKey b → a.code < 256 → partial_lt partial_cmp-value.it a b ≡ ltb (key_number a) (key_number b)
below_number a b a_in b_in small = search rules

-- two keys are the same where their numbers are
pub same_number : (a b : Key) → InKey a → InKey b → a.code < 256 → b.code < 256 → eq-value.it a b ≡ eqb (key_number a) (key_number b)
same_number a b a_in b_in a_small b_small = search rules
