-- `turns::steps::Scene::rule_adds` meets its contract: a side that is not above 0 hides the rule. Assumes nothing.
use mathlib.Core.Path.{◌≡◌, sym, ap, ap₂, ◌∙◌, subst}
use mathlib.Core.Bool.{true, false}
use native.Mathlib.Omega.{arith}
use lib.IntN.{ℤ, pos}
use lib.Signed.{lt_z, le_z}
use mir.Facts.{to_z-of_z}
use Rattle.numbers.proofs.Signed.{le_no, yes_lt}
use Rattle.units.specs.Rounding.{rounded_up}
use Rattle.units.proofs.Rounding.{up_within}
use Rattle.placements.specs.Records.{rule_record, placed}
use Rattle.placements.specs.Steps.{InWords}
use Rattle.placements.proofs.RecordWords.{of_bits, read_record}
use Rattle.turns.proofs.steps.Scene.rule_adds.Goals as goal

shown : (side : ℤ) → le_z side (pos 0) ≡ false → lt_z (pos 0) side ≡ true
shown side e = yes_lt (pos 0) side (omega (arith, le_no side (pos 0) e))

pub returns : goal.returns
returns c =
    let scene = c.args.self.now in
    let k = scene.terms.ruler.k in
    let workable = scene.terms.workable in
    let level = scene.level in
    let bounded = scene.bounded in
    let height-shown : lt_z (pos 0) c.args.height ≡ true = shown c.args.height (simp (to_z-of_z, c.ranges.height) at c.if-height-le0.false) in
    let width-shown : lt_z (pos 0) c.args.width ≡ true = shown c.args.width (simp (to_z-of_z, c.ranges.width) at c.if-width-le0.false) in
    let height : c.round_up.result ≡ rounded_up k c.args.height = c.round_up.ensures ∙ ap (rounded_up k) (to_z-of_z c.ranges.height) in
    let width : c.round_up-2.result ≡ rounded_up k c.args.width = c.round_up-2.ensures ∙ ap (rounded_up k) (to_z-of_z c.ranges.width) in
    let r = rule_record scene.terms.page level (rounded_up k c.args.height) (rounded_up k c.args.width) in
    let words : InWords r =
    record { hh_in = bounded.hh_in; vv_in = bounded.vv_in; content_in = omega (arith, up_within workable c.args.height); extent_in = omega (arith, up_within workable c.args.width) } in
    let is = ap₂ (λ (content extent : ℤ). of_bits (rule_record scene.terms.page level content extent)) height width ∙ read_record r words in
    (ap placed is ∙ simp (height-shown, width-shown), subst InWords (sym is) words)
