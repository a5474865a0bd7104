-- `turns::steps::Scene::character` meets its contract: the search answers as the walk, and what a found record holds is small. Assumes nothing.
use mathlib.Core.Path.{◌≡◌, sym, ap, ap₂, ◌∙◌, subst}
use Prim.Native.Nat.{ℕ, ◌≤◌, ◌^◌}
use native.Mathlib.Omega.{arith}
use borrow.Author.Rules.{sfits_of}
use lib.IntN.{ℤ, nat_abs}
use mir.Syntax.{w64}
use mir.Val.{SFits, to_z, of_z}
use mir.Facts.{to_z-of_z}
use Rattle.std.specs.declared.option.Option.{Option}
use Rattle.std.specs.declared.option.Option.TheVariants.{Some}
use Rattle.numbers.specs.Signs.{to_twos}
use Rattle.numbers.proofs.Signed.{to_below}
use Rattle.scaling.specs.Scaling.{scaled_by}
use Rattle.names.specs.Names.{name_number}
use Rattle.widths.specs.LookUp.{found, code_byte, looked_for, metric_of}
use Rattle.scaling.specs.Steps.{sixteenfold_of, width_from}
use Rattle.widths.specs.Steps.{found_at, FoundIn}
use Rattle.widths.specs.Table.{record_of}
use Rattle.widths.specs.declared.Metric.{Metric}
use Rattle.state.specs.declared.Level.{Level}
use Rattle.state.specs.declared.Font.{Font}
use Rattle.state.specs.Steps.{Bounded}
use Rattle.turns.specs.declared.Kept.{Kept}
use Rattle.turns.specs.declared.Terms.{Terms}
use Rattle.turns.specs.declared.Asked.{Asked}
use Rattle.scaling.specs.Fractions.{LastBytes}
use Rattle.scaling.proofs.OneDivision.{one_division, sixteenfold_small, width_small}
use Rattle.state.specs.declared.moving.Direction.TheVariants as Direction
use Rattle.turns.specs.declared.Turn.{Turn}
use Rattle.turns.specs.Placing.{look_in}
use Rattle.turns.specs.Steps.{Known, KeptFor, unless_left, CharacterAsks}
use Rattle.turns.proofs.KeptLaws.{sixteenfold_is, own_within, any_within, finds}
use Rattle.turns.proofs.CharacterLaws.{Present, absent_asks, put_asks, set_asks}
use Rattle.turns.proofs.Words.{word}
use Rattle.turns.proofs.steps.Scene.character.Goals as goal

pub find-requires : goal.find-requires
find-requires c =
    let scene = c.args.self.now in
    let is : c.to_twos-byte.result ≡ code_byte c.args.code = c.to_twos-byte.ensures ∙ ap (to_twos 256) (to_z-of_z c.ranges.code) in
    (own_within scene.kept_is, any_within scene.kept_is, omega (arith, is, to_below 256 c.args.code (omega arith)))

-- ---- what the search found

module _ (terms : Terms) (level : Level) (font : Font) (code : ℤ) (kept : Kept) (code_small : nat_abs code ≤ 2 ^ 31) (keeps : ∥ KeptFor terms.widths font kept ∥₁)
    {byte : ℕ} {place : Option ℕ} (byte-is : byte ≡ to_twos 256 (to_z w64 (of_z w64 code))) (sought : FoundIn terms.widths.bytes.now terms.widths.records kept.own kept.any byte place) where
  -- it is what is found for the code's byte by the name that the font seeks
  found_is : {r : Option ℕ} → place ≡ r → look_in terms.widths.bytes.now terms.widths.records font code ≡ found_at terms.widths.bytes.now r
  found_is is =
      let of-code : byte ≡ code_byte code = byte-is ∙ ap (to_twos 256) (word code code_small) in
      sym (finds keeps byte place sought ∙ ap (λ (b : ℕ). looked_for terms.widths.records terms.widths.bytes.now font.checksum font.scale (name_number font.name) b) of-code)
      ∙ ap (found_at terms.widths.bytes.now) is

  -- a record was found, and its metric was read
  module _ (known : Known font) (bounded : Bounded level) {m : Metric} (last : LastBytes m.width) (escapement_small : nat_abs m.escapement ≤ 2 ^ 31) {index : ℕ}
      (is : place ≡ Some index) (read : m ≡ metric_of (record_of terms.widths.bytes.now index)) where
    present : Present terms level font code m
    present =
        record {
          is = found_is is ∙ ap found (sym read);
          bounded = bounded;
          code_small = code_small;
          escapement_small = escapement_small;
          width_small = width_small font.scale m.width last known.scale_small;
        }

pub returns-in_default : goal.returns-in_default
returns-in_default c =
    let s = c.args.self.now in
    let there = found_is s.terms s.level s.font c.args.code s.kept c.requires s.kept_is c.to_twos-byte.ensures c.find.ensures.0 c.in_default.is in
    subst (λ (r : Asked). CharacterAsks s.terms s.level s.font c.args.sets c.args.code r) (sym c.asked.ensures)
    (absent_asks s.terms s.level s.font c.args.sets c.args.code there)

pub scaled-width-requires : goal.scaled-width-requires
scaled-width-requires c =
    let s = c.args.self.now in omega (arith, sixteenfold_is s.kept_is, sixteenfold_small s.font.scale s.known.scale_small)

width_is : {width : ℤ} (font : Font) (kept : Kept) (m : Metric) → SFits w64 width → width ≡ width_from kept.sixteenfold m.width → kept.sixteenfold ≡ sixteenfold_of font.scale
    → to_z w64 (of_z w64 width) ≡ scaled_by font.scale m.width
width_is font kept m fits is keeps =
    to_z-of_z {w = w64} fits ∙ is ∙ ap (λ (sixteenfold : ℕ). width_from sixteenfold m.width) keeps ∙ one_division font.scale m.width

pub returns-then-not-sets : goal.returns-then-not-sets
returns-then-not-sets c =
    let s = c.args.self.now in
    let m = c.metric_of-metric in
    let last : LastBytes m.result.width = record { b1_below = omega arith; b2_below = omega arith; b3_below = omega arith } in
    let p = present s.terms s.level s.font c.args.code s.kept c.requires s.kept_is c.to_twos-byte.ensures c.find.ensures.0 s.known s.bounded last m.ensures.escapement_bound c.in-Some.is m.ensures.value in
    put_asks p c.if-not-sets.true

pub unless_left-turn-requires : goal.unless_left-turn-requires
unless_left-turn-requires c =
    let s = c.args.self.now in
    let m = c.metric_of-metric.result in
    let last : LastBytes m.width = record { b1_below = omega arith; b2_below = omega arith; b3_below = omega arith } in
    let width = width_is s.font s.kept m (sfits_of c.scaled-width.type_inv) c.scaled-width.ensures (sixteenfold_is s.kept_is) in
    subst (λ (z : ℤ). nat_abs z ≤ 2 ^ 31) (sym width) (width_small s.font.scale m.width last s.known.scale_small)

pub returns : goal.returns
returns c =
    let s = c.args.self.now in
    let m = c.metric_of-metric in
    let last : LastBytes m.result.width = record { b1_below = omega arith; b2_below = omega arith; b3_below = omega arith } in
    let p = present s.terms s.level s.font c.args.code s.kept c.requires s.kept_is c.to_twos-byte.ensures c.find.ensures.0 s.known s.bounded last m.ensures.escapement_bound c.in-Some.is m.ensures.value in
    let width = width_is s.font s.kept m.result (sfits_of c.scaled-width.type_inv) c.scaled-width.ensures (sixteenfold_is s.kept_is) in
    let past : ℤ → ℤ → Turn = λ width escapement. unless_left Direction.Sideways s.level width (Turn.PastCharacter width escapement) in
    set_asks p c.if-not-sets.false (c.unless_left-turn.ensures ∙ ap₂ past width (word m.result.escapement p.escapement_small))
