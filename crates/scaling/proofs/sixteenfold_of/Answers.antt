-- `scaling::sixteenfold_of` meets its contract. Assumes nothing.
use mathlib.Core.Path.{ap}
use Prim.Native.Nat.{◌*◌}
use native.Mathlib.Omega.{arith}
use Rattle.scaling.specs.Scaling.{Halved}
use Rattle.scaling.specs.Steps.{sixteenfold_of}
use Rattle.scaling.proofs.Halving.{start, turn, done}
use Rattle.scaling.proofs.sixteenfold_of.Goals as goal

pub loop-z-init : goal.loop-z-init
loop-z-init c = (4, start c.args.scale c.requires)

pub loop-z-preserved : goal.loop-z-preserved
loop-z-preserved c =
    let l = c.loop-z in
    turn c.args.scale l.z l.alpha l.invariant.0 l.invariant.1 (omega (arith, c.loop-z-test.true))

pub returns : goal.returns
unfolding sixteenfold_of
returns c =
    let l = c.loop-z in
    ap (λ (k : Halved). k.alpha * k.z) (done c.args.scale l.z l.alpha l.invariant.0 l.invariant.1 (omega (arith, c.loop-z-test.false)))
