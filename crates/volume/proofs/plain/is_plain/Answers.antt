-- `volume::plain::is_plain` meets its contract: each arm's range is one of plain kinds, or of others. Assumes nothing.
use mathlib.Core.Path.{refl, sym}
use mathlib.Core.Bool.{true, false}
use native.Mathlib.Omega.{arith}
use Rattle.commands.specs.Kinds.{kind_of}
use Rattle.commands.proofs.Ranges.{constant_on}
use Rattle.volume.specs.Steps.{is_plain}
use Rattle.volume.proofs.plain.is_plain.Goals as goal

pub returns-in-0-to-138 : goal.returns-in-0-to-138
returns-in-0-to-138 c = sym (constant_on (λ x. is_plain (kind_of x)) true 0 139 (unfold kind_of in refl) (omega arith) (omega arith))

pub returns-in-0-to-138-2 : goal.returns-in-0-to-138-2
returns-in-0-to-138-2 c = sym (constant_on (λ x. is_plain (kind_of x)) true 143 28 (unfold kind_of in refl) (omega arith) (omega arith))

pub returns-in_default : goal.returns-in_default
returns-in_default c = sym (constant_on (λ x. is_plain (kind_of x)) false 139 4 (unfold kind_of in refl) (omega arith) (omega arith))

pub returns-in_default-2 : goal.returns-in_default-2
returns-in_default-2 c = sym (constant_on (λ x. is_plain (kind_of x)) false 171 85 (unfold kind_of in refl) (omega arith) (omega arith))
