-- `turns::steps::Scene::asked_by` meets its contract: what a command asks, by its kind. Assumes nothing.
use mathlib.Core.Path.{◌≡◌, refl, sym, ap, ◌∙◌, subst}
use mathlib.Core.Bool.{Bool, true, false}
use mathlib.Core.Logic.{◌⊎◌, inl, inr, ⊎_elim}
use mathlib.Core.List.{List}
use Prim.Native.Nat.{ℕ, ◌<◌, ◌≤◌}
use native.Mathlib.Omega.{arith}
use borrow.Author.Rules.{sfits_of}
use borrow.Author.Tests.{lt-ltb, le-ltb}
use lib.ListN.{length, get_or}
use lib.Dec.{ltb}
use lib.IntN.{ℤ}
use mir.Syntax.{w64}
use mir.Val.{to_z, of_z}
use mir.Facts.{to_z-of_z}
use Rattle.commands.specs.declared.Kind.{Kind}
use Rattle.commands.specs.Kinds.{kind_of}
use Rattle.commands.specs.Commands.{Command, Whole, kind_of_command}
use Rattle.commands.specs.Parameters.{character_code, selected_font}
use Rattle.commands.specs.ByKind.{first, last, fixed_by}
use Rattle.commands.proofs.Opcodes.{kind_range}
use Rattle.commands.proofs.ParameterLengths.{has_inner, whole_at_most, whole_plain}
use Rattle.placements.specs.declared.Adds.TheVariants as Adds
use Rattle.turns.specs.declared.Turn.{Turn}
use Rattle.turns.specs.declared.Asked.{Asked}
use Rattle.turns.specs.declared.Terms.{Terms}
use Rattle.state.specs.declared.Level.{Level}
use Rattle.state.specs.declared.Font.{Font}
use Rattle.state.specs.Steps.{Bounded}
use Rattle.turns.specs.Placing.{Setting, continues, font_of, after_kind}
use Rattle.placements.specs.Records.{nothing}
use Rattle.turns.specs.Steps.{state_with, did, Safe, Suits, terms_setting, Comes, CharacterAsks, command, MoveFits, RuleAsks, CommandAsks}
use Rattle.turns.proofs.TurnLaws.{turns_alone, move_fits, turn_does, turn_suits, turn_safe, asks_by_kind, rule_sets, rule_puts}
use Rattle.turns.proofs.Words.{small_word}
use Rattle.turns.proofs.steps.Scene.asked_by.Goals as goal

-- ---- of a command by its kind

module _ (opcode : ℕ) (params : List ℕ) (whole : Whole (command opcode params)) {k : Kind} (told : k ≡ kind_of opcode) where
  kind_is : {kind : Kind} → k ≡ kind → kind_of_command (command opcode params) ≡ kind
  kind_is is = sym told ∙ is

  -- the parameters of a command of one length are four bytes at most
  code_fits : {kind : Kind} → k ≡ kind → has_inner kind ≡ false → fixed_by kind (last kind) ≤ 4 → length params ≤ 4
  code_fits is plain short = omega (arith, whole_at_most (command opcode params) whole (kind_is is) plain, short)

  range : {kind : Kind} → k ≡ kind → (first kind ≤ opcode) × (opcode ≤ last kind)
  range is = kind_range opcode (omega (arith, whole.defined)) (kind_is is)

  -- the parameters of a rule
  rule_fits : {kind : Kind} → k ≡ kind → has_inner kind ≡ false → fixed_by kind opcode ≡ length params
  rule_fits is plain = sym (whole_plain (command opcode params) whole (kind_is is) plain)

  fits_move : MoveFits k params
  fits_move = subst (λ (kind : Kind). MoveFits kind params) (sym told) (move_fits (command opcode params) whole)

  module _ (setting : Setting) (level : Level) (font : Font) (r : Asked) where
    -- what a kind comes to is what the command asks
    asks : {kind : Kind} → k ≡ kind → Comes setting level font (λ s. after_kind kind setting s (command opcode params)) r.turn r.adds → Suits kind r.turn
        → CommandAsks setting level font (command opcode params) r
    asks {kind} is comes suits = asks_by_kind setting level font (command opcode params) r kind (kind_is is) comes suits

  -- what is asked of the code that was read, set or put, is asked of the command's code
  module _ (terms : Terms) (level : Level) (font : Font) (r : Asked) {code : ℤ} (code-is : code ≡ character_code opcode params) where
    asked : {test : Bool} → CharacterAsks terms level font test code r → (sets : Bool) → test ≡ sets → CharacterAsks terms level font sets (character_code opcode params) r
    asked {test} asks sets sets-is =
        subst (λ (t : Bool). CharacterAsks terms level font t (character_code opcode params) r) sets-is
        (subst (λ (z : ℤ). CharacterAsks terms level font test z r) code-is asks)

    -- a bound on opcodes that parts the characters that are set from those that are put
    character_asks : {bound : ℕ} → CharacterAsks terms level font (ltb opcode bound) code r → (k ≡ Kind.SetCharacter) ⊎ (k ≡ Kind.PutCharacter)
        → last Kind.SetCharacter < bound → bound ≤ first Kind.PutCharacter → (volume : List Command)
        → CommandAsks (terms_setting terms volume) level font (command opcode params) r
    character_asks {bound} given (inl is) over under volume =
        let both = asked given true (lt-ltb opcode bound (omega (arith, (range is).1, over))) volume in
        let comes = both.0 in
        asks (terms_setting terms volume) level font r is (record { does = comes.does; safe = comes.safe; words = comes.words }) both.1
    character_asks {bound} given (inr is) over under volume =
        let both = asked given false (le-ltb opcode bound (omega (arith, (range is).0, under))) volume in
        let comes = both.0 in
        asks (terms_setting terms volume) level font r is (record { does = comes.does; safe = comes.safe; words = comes.words }) both.1

  module _ (terms : Terms) (volume : List Command) (level : Level) (font : Font) (bounded : Bounded level) (bytes : (i : ℕ) → get_or params i 0 < 256) (r : Asked) where
    set_rule_asks : k ≡ Kind.SetRule → RuleAsks terms level true params r → CommandAsks (terms_setting terms volume) level font (command opcode params) r
    set_rule_asks is given =
        let both = rule_sets terms volume level font params bounded bytes r given in
        let comes = both.0 in
        asks (terms_setting terms volume) level font r is (record { does = comes.does; safe = comes.safe; words = comes.words }) both.1

    put_rule_asks : k ≡ Kind.PutRule → RuleAsks terms level false params r → CommandAsks (terms_setting terms volume) level font (command opcode params) r
    put_rule_asks is given =
        let both = rule_puts terms volume level font params bounded bytes r given in
        let comes = both.0 in
        asks (terms_setting terms volume) level font r is (record { does = comes.does; safe = comes.safe; words = comes.words }) both.1

-- ---- the goals

pub character_code-code-requires : goal.character_code-code-requires
character_code-code-requires c =
    let w = c.requires in
    let told = c.from-kind.ensures in
    ⊎_elim (λ sets. code_fits c.args.opcode c.args.params.now w told sets refl (omega arith)) (λ puts. code_fits c.args.opcode c.args.params.now w told puts refl (omega arith)) c.in-SetCharacter.is

pub rule-requires : goal.rule-requires
rule-requires c = omega (arith, rule_fits c.args.opcode c.args.params.now c.requires c.from-kind.ensures c.in-SetRule.is refl)

pub rule-requires-in-PutRule : goal.rule-requires-in-PutRule
rule-requires-in-PutRule c = omega (arith, rule_fits c.args.opcode c.args.params.now c.requires c.from-kind.ensures c.in-PutRule.is refl)

pub selected_font-number-requires : goal.selected_font-number-requires
selected_font-number-requires c =
    let between = range c.args.opcode c.args.params.now c.requires c.from-kind.ensures c.in-Select.is in
    (between.0, between.1, omega (arith, rule_fits c.args.opcode c.args.params.now c.requires c.from-kind.ensures c.in-Select.is refl))

pub turn_of-requires : goal.turn_of-requires
turn_of-requires c = fits_move c.args.opcode c.args.params.now c.requires c.from-kind.ensures

pub returns-in-SetCharacter : goal.returns-in-SetCharacter
returns-in-SetCharacter c =
    let code = c.character_code-code in
    let a = c.args in
    let s = a.self.now in
    character_asks a.opcode a.params.now c.requires c.from-kind.ensures s.terms s.level s.font c.character.result
    (to_z-of_z {w = w64} (sfits_of code.type_inv) ∙ code.ensures.0) c.character.ensures c.in-SetCharacter.is (omega arith) (omega arith)

pub returns-in-SetRule : goal.returns-in-SetRule
returns-in-SetRule c volume =
    let a = c.args in
    let s = a.self.now in
    set_rule_asks a.opcode a.params.now c.requires c.from-kind.ensures s.terms volume s.level s.font s.bounded (λ i. (c.type_inv.params i).fits) c.rule.result c.in-SetRule.is c.rule.ensures

pub returns-in-PutRule : goal.returns-in-PutRule
returns-in-PutRule c volume =
    let a = c.args in
    let s = a.self.now in
    put_rule_asks a.opcode a.params.now c.requires c.from-kind.ensures s.terms volume s.level s.font s.bounded (λ i. (c.type_inv.params i).fits) c.rule-in-PutRule.result c.in-PutRule.is c.rule-in-PutRule.ensures

pub returns-in-Select : goal.returns-in-Select
returns-in-Select c volume =
    let a = c.args in
    let s = a.self.now in
    let setting = terms_setting s.terms volume in
    let read = c.selected_font-number in
    let number_is : to_z w64 (of_z w64 read.result) ≡ selected_font a.opcode a.params.now = to_z-of_z {w = w64} (sfits_of read.type_inv) ∙ read.ensures.0 in
    subst (λ (r : Asked). CommandAsks setting s.level s.font (command a.opcode a.params.now) r) (sym c.asked.ensures)
    (asks a.opcode a.params.now c.requires c.from-kind.ensures setting s.level s.font (record { turn = Turn.Select (to_z w64 (of_z w64 read.result)); adds = Adds.Nothing; hint = s.hint }) c.in-Select.is
    (record {
      does = λ saved. ap (λ (number : ℤ). continues (record { level = s.level; saved = saved; font = font_of setting number }) nothing) number_is;
      safe = small_word read.result read.ensures.1;
      words = tt;
    })
    refl)

pub returns-in-Special : goal.returns-in-Special
returns-in-Special c volume =
    let a = c.args in
    let s = a.self.now in
    let setting = terms_setting s.terms volume in
    subst (λ (r : Asked). CommandAsks setting s.level s.font (command a.opcode a.params.now) r) (sym c.asked-in-Special.ensures)
    (asks a.opcode a.params.now c.requires c.from-kind.ensures setting s.level s.font (record { turn = Turn.Stay; adds = Adds.Special; hint = s.hint }) c.in-Special.is
    (record { does = λ saved. refl; safe = tt; words = tt }) refl)

pub returns-in_default : goal.returns-in_default
returns-in_default c volume =
    let a = c.args in
    let s = a.self.now in
    let setting = terms_setting s.terms volume in
    let told = c.from-kind.ensures in
    let kind = c.from-kind.result in
    let others = c.in_default in
    let only = turns_alone kind others.not-SetCharacter others.not-SetRule others.not-PutCharacter others.not-PutRule others.not-Select others.not-Special in
    let turn_is = c.turn_of.ensures in
    subst (λ (r : Asked). CommandAsks setting s.level s.font (command a.opcode a.params.now) r) (sym c.asked-in_default.ensures)
    (asks a.opcode a.params.now c.requires told setting s.level s.font (record { turn = c.turn_of.result; adds = Adds.Nothing; hint = s.hint }) refl
    (record {
      does = λ saved. ap (λ (turn : Turn). did setting (state_with s.level saved s.font) turn Adds.Nothing) turn_is ∙ turn_does setting s.level saved s.font (command a.opcode a.params.now) kind only;
      safe = subst (Safe s.level) (sym turn_is) (turn_safe a.params.now (λ i. (c.type_inv.params i).fits) s.level s.bounded kind (fits_move a.opcode a.params.now c.requires told));
      words = tt;
    })
    (subst (Suits kind) (sym turn_is) (turn_suits s.level a.params.now kind)))
