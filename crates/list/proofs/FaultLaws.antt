-- What the lowest fault of a command comes to: at the start, and after it 5 first and then what its kind asks for; and it is 0 where every rule is kept, and only there.
-- Assumes nothing.
use mathlib.Core.Path.{◌≡◌, refl, ap, sym, ◌∙◌}
use mathlib.Core.Bool.{Bool, true, false, cond, not, or-false}
use mathlib.Core.List.{List}
use Prim.Native.Nat.{ℕ, ◌<◌}
use native.Mathlib.Omega.{arith}
use Rattle.refusals.specs.Numbers.{wrong_preamble, misplaced_command, wrong_depth, wrong_font_definition, no_font, wrong_pointer, wrong_postamble}
use Rattle.commands.specs.declared.Kind.{Kind}
use Rattle.commands.specs.declared.Kind.TheVariants.{SetCharacter, SetRule, PutCharacter, PutRule, Nop, Bop, Eop, Push, Pop, Right, W, X, Down, Y, Z, Select, Special, Define, Pre, Post, PostPost, Undefined}
use Rattle.commands.specs.Kinds.{kind_of}
use Rattle.commands.specs.Commands.{Command, kind_of_command}
use Rattle.list.specs.declared.Stage.{Stage}
use Rattle.list.specs.declared.Stage.TheVariants.{AtStart, BeforePages, OnPage, BetweenPages, AfterPost, AfterEnd}
use Rattle.list.specs.declared.Volume.{Volume}
use Rattle.list.specs.Past.{is_a, stage}
use Rattle.list.specs.Rules.{is_at_start, lawful_preamble, preamble_wrong, misplaced, depth_wrong, definition_wrong, font_missing, pointer_wrong, postamble_wrong, fault, Allowed}
use Rattle.list.specs.Steps.{command, volume_of, first_fault, standing_or, depth_fault, definition_fault, selection_fault, character_fault, bop_fault, post_fault, end_fault}
use Rattle.list.proofs.Arms.{is_kind}

-- what the rules after 5 say of a command by its kind, of which the code holds v
abbrev pub later_fault : Volume → List Command → Command → Kind → ℕ
later_fault v past c SetCharacter = character_fault v.selected
later_fault v past c SetRule = 0
later_fault v past c PutCharacter = character_fault v.selected
later_fault v past c PutRule = 0
later_fault v past c Nop = 0
later_fault v past c Bop = bop_fault v c.params
later_fault v past c Eop = depth_fault Eop v.depth
later_fault v past c Push = depth_fault Push v.depth
later_fault v past c Pop = depth_fault Pop v.depth
later_fault v past c Right = 0
later_fault v past c W = 0
later_fault v past c X = 0
later_fault v past c Down = 0
later_fault v past c Y = 0
later_fault v past c Z = 0
later_fault v past c Select = selection_fault past c.opcode c.params
later_fault v past c Special = 0
later_fault v past c Define = definition_fault past c.opcode c.params
later_fault v past c Pre = 0
later_fault v past c Post = post_fault v c.params
later_fault v past c PostPost = end_fault v c.params
later_fault v past c Undefined = 0

only_start : (s : Stage) → is_at_start s ≡ true → s ≡ AtStart
only_start AtStart e = refl
only_start BeforePages e = cc
only_start OnPage e = cc
only_start BetweenPages e = cc
only_start AfterPost e = cc
only_start AfterEnd e = cc

cond_not : (t : Bool) (a b : ℕ) → cond (not t) a b ≡ cond t b a
cond_not true a b = refl
cond_not false a b = refl

-- a rule whose number is not answered is not broken
not_broken : (broken : Bool) (number later : ℕ) → 0 < number → cond broken number later ≡ 0 → (broken ≡ false) × (later ≡ 0)
not_broken true number later h e = absurd (omega arith)
not_broken false number later h e = (refl, e)

module _ (past : List Command) (c : Command) where
  module _ (start : is_at_start (stage past) ≡ true) where
    fault_first : (t : Bool) → is_a Pre c ≡ t → fault past c ≡ first_fault (kind_of_command c) c.params
    fault_first true e = rw (only_start (stage past) start, is_kind (kind_of_command c) Pre e) (cond_not (lawful_preamble c.params) wrong_preamble 0)
    fault_first false e = rw (start, e)

    pub fault_at_start : fault past c ≡ first_fault (kind_of_command c) c.params
    fault_at_start = fault_first (is_a Pre c) refl

  module _ (begun : is_at_start (stage past) ≡ false) where
    pub fault_later : (page : ℕ) (k : Kind) → kind_of_command c ≡ k → fault past c ≡ standing_or (stage past) k (later_fault (volume_of page past) past c k)
    fault_later page SetCharacter e = rw (begun, e)
    fault_later page SetRule e = rw (begun, e)
    fault_later page PutCharacter e = rw (begun, e)
    fault_later page PutRule e = rw (begun, e)
    fault_later page Nop e = rw (begun, e)
    fault_later page Bop e = rw (begun, e) (simp or-false)
    fault_later page Eop e = rw (begun, e)
    fault_later page Push e = rw (begun, e)
    fault_later page Pop e = rw (begun, e)
    fault_later page Right e = rw (begun, e)
    fault_later page W e = rw (begun, e)
    fault_later page X e = rw (begun, e)
    fault_later page Down e = rw (begun, e)
    fault_later page Y e = rw (begun, e)
    fault_later page Z e = rw (begun, e)
    fault_later page Select e = rw (begun, e) (simp or-false)
    fault_later page Special e = rw (begun, e)
    fault_later page Define e = rw (begun, e) (simp or-false)
    fault_later page Pre e = rw (begun, e)
    fault_later page Post e = rw (begun, e) (simp or-false)
    fault_later page PostPost e = rw (begun, e)
    fault_later page Undefined e = rw (begun, e)

  -- ---- every rule kept

  pub none_broken : Allowed past c → fault past c ≡ 0
  none_broken a = rw (a.preamble, a.standing, a.depth_right, a.definition, a.font, a.pointer, a.postamble)

  pub all_kept : fault past c ≡ 0 → Allowed past c
  all_kept e =
      let four : _ = not_broken (preamble_wrong past c) wrong_preamble _ (omega arith) e in
      let five : _ = not_broken (misplaced past c) misplaced_command _ (omega arith) four.1 in
      let six : _ = not_broken (depth_wrong past c) wrong_depth _ (omega arith) five.1 in
      let seven : _ = not_broken (definition_wrong past c) wrong_font_definition _ (omega arith) six.1 in
      let eight : _ = not_broken (font_missing past c) no_font _ (omega arith) seven.1 in
      let nine : _ = not_broken (pointer_wrong past c) wrong_pointer _ (omega arith) eight.1 in
      let ten : _ = not_broken (postamble_wrong past c) wrong_postamble _ (omega arith) nine.1 in
      record {
        preamble = four.0;
        standing = five.0;
        depth_right = six.0;
        definition = seven.0;
        font = eight.0;
        pointer = nine.0;
        postamble = ten.0;
      }

-- ---- where the code holds v of the commands so far

module _ (page : ℕ) (past : List Command) {v : Volume} (held : v ≡ volume_of page past) {kind : Kind} (opcode : ℕ) (kind_is : kind ≡ kind_of opcode) (params : List ℕ) where
  module _ {starts : Bool} (starts_is : starts ≡ is_at_start v.stage) where
    start_of : is_at_start (stage past) ≡ starts
    start_of = sym (starts_is ∙ ap (λ (w : Volume). is_at_start w.stage) held)

    pub held_at_start : starts ≡ true → fault past (command opcode params) ≡ first_fault kind params
    held_at_start start = fault_at_start past (command opcode params) (start_of ∙ start) ∙ ap (λ (k : Kind). first_fault k params) (sym kind_is)

    pub held_later : starts ≡ false → fault past (command opcode params) ≡ standing_or v.stage kind (later_fault v past (command opcode params) kind)
    held_later begun =
        fault_later past (command opcode params) (start_of ∙ begun) page kind (sym kind_is)
        ∙ ap (λ (w : Volume). standing_or w.stage kind (later_fault w past (command opcode params) kind)) (sym held)
