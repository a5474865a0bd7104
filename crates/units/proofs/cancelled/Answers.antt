-- `units::cancelled` meets its contract: each call is a `Cut`, and six of them give the lowest terms. Assumes nothing.
use mathlib.Core.Path.{ap, ◌∙◌}
use Prim.Native.Nat.{◌*◌}
use native.Mathlib.Nat.{mul_assoc, le_trans}
use Rattle.units.specs.Divisor.{lowest}
use Rattle.units.proofs.Cancelling.{cut_of, num_some, num_small, den_small, six}
use Rattle.units.proofs.cancelled.Goals as goal

pub lowest_terms-num_inch-requires : goal.lowest_terms-num_inch-requires
lowest_terms-num_inch-requires c =
    let n = c.requires.units.num_positive in
    num_some (cut_of c.args.num c.args.den c.lowest_terms-num_den.result n c.lowest_terms-num_den.ensures) n

pub lowest_terms-mag_inch-requires : goal.lowest_terms-mag_inch-requires
lowest_terms-mag_inch-requires c =
    let m = c.requires.units.mag_positive in
    num_some (cut_of c.args.mag c.lowest_terms-num_den.result.q c.lowest_terms-mag_den.result m c.lowest_terms-mag_den.ensures) m

pub lowest_terms-resolution_inch-requires : goal.lowest_terms-resolution_inch-requires
lowest_terms-resolution_inch-requires c =
    let r = c.requires.resolution_nonzero in
    num_some (cut_of c.args.resolution c.lowest_terms-mag_den.result.q c.lowest_terms-resolution_den.result r c.lowest_terms-resolution_den.ensures) r

pub returns : goal.returns
returns c =
    let a = c.args in
    let n = c.requires.units.num_positive in
    let m = c.requires.units.mag_positive in
    let r = c.requires.resolution_nonzero in
    let cut1 = cut_of a.num a.den c.lowest_terms-num_den.result n c.lowest_terms-num_den.ensures in
    let cut2 = cut_of a.mag c.lowest_terms-num_den.result.q c.lowest_terms-mag_den.result m c.lowest_terms-mag_den.ensures in
    let cut3 = cut_of a.resolution c.lowest_terms-mag_den.result.q c.lowest_terms-resolution_den.result r c.lowest_terms-resolution_den.ensures in
    let cut4 = cut_of c.lowest_terms-num_den.result.p 254000000 c.lowest_terms-num_inch.result (num_some cut1 n) c.lowest_terms-num_inch.ensures in
    let cut5 = cut_of c.lowest_terms-mag_den.result.p c.lowest_terms-num_inch.result.q c.lowest_terms-mag_inch.result (num_some cut2 m) c.lowest_terms-mag_inch.ensures in
    let cut6 = cut_of c.lowest_terms-resolution_den.result.p c.lowest_terms-mag_inch.result.q c.lowest_terms-resolution_inch.result (num_some cut3 r) c.lowest_terms-resolution_inch.ensures in
    record {
      lowest_terms = ap (lowest (a.num * a.mag * a.resolution)) (mul_assoc a.den 1000 254000) ∙ six cut1 cut2 cut3 cut4 cut5 cut6;
      num_small = le_trans (num_small cut4) (num_small cut1);
      mag_small = le_trans (num_small cut5) (num_small cut2);
      resolution_small = le_trans (num_small cut6) (num_small cut3);
      resolution_positive = num_some cut6 (num_some cut3 r);
      den_small = le_trans (den_small cut3) (le_trans (den_small cut2) (den_small cut1));
      inch_small = le_trans (den_small cut6) (le_trans (den_small cut5) (den_small cut4));
    }
