-- `scaling::scale_width` meets its contract: one product and one division come to the chain. Assumes nothing.
use mathlib.Core.Path.{◌≡◌, ◌∙◌, ap}
use mathlib.Core.Bool.{true, and-eq-true_iff}
use Prim.Native.Nat.{ℕ, ◌≤◌}
use native.Mathlib.Omega.{arith}
use lib.Dec.{leb}
use borrow.Author.Rules.{sfits_of}
use borrow.Author.Tests.{leb-true}
use mir.Facts.{to_z-of_z}
use mir.Syntax.{w64}
use Rattle.numbers.specs.Sizes.{lawful_size}
use Rattle.scaling.specs.Steps.{width_from}
use Rattle.scaling.proofs.OneDivision.{one_division, sixteenfold_small}
use Rattle.scaling.proofs.scale_width.Goals as goal

lawful : (scale : ℕ) → lawful_size scale ≡ true → scale ≤ 134217727
lawful scale h = leb-true scale 134217727 ((and-eq-true_iff (leb 1 scale) (leb scale 134217727)).0 h).1

pub scaled-requires : goal.scaled-requires
scaled-requires c = omega (arith, c.sixteenfold_of.ensures, sixteenfold_small c.args.scale (lawful c.args.scale c.requires))

pub returns : goal.returns
returns c =
    to_z-of_z {w = w64} (sfits_of c.scaled.type_inv) ∙ c.scaled.ensures
    ∙ ap (λ (sixteenfold : ℕ). width_from sixteenfold c.args.w) c.sixteenfold_of.ensures ∙ one_division c.args.scale c.args.w
