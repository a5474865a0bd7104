-- A block gives back what was there: after push, a run in which each push has its pop, and pop, the level and the saved levels are those of before,
-- and the font is the one that was selected last. Assumes nothing.
use mathlib.Core.Path.{◌≡◌, refl, sym, ap, ◌∙◌, subst}
use mathlib.Core.Bool.{Bool, true, false, cond, true≢false}
use mathlib.Core.List.{List, [], ◌∷◌, ◌++◌, map}
use Prim.Native.Nat.{ℕ}
use lib.IntN.{ℤ, ◌+ℤ◌}
use Rattle.refusals.specs.Numbers.{position_out_of_range}
use Rattle.refusals.specs.Answer.{given}
use Rattle.refusals.proofs.Answer.{given_not_refused}
use Rattle.scaling.specs.Scaling.{scaled_by}
use Rattle.widths.specs.LookUp.{LookUp, found, absent}
use Rattle.commands.specs.declared.Kind.{Kind}
use Rattle.commands.specs.Kinds.{is}
use Rattle.commands.specs.Commands.{Command, kind_of_command}
use Rattle.commands.specs.Parameters.{distance, rule_width, selected_font}
use Rattle.state.specs.declared.Level.{Level}
use Rattle.state.specs.declared.Font.{Font}
use Rattle.state.specs.declared.moving.Direction.{Direction}
use Rattle.state.specs.declared.registers.Register.{Register}
use Rattle.state.specs.Moving.{leaves}
use Rattle.state.specs.Registers.{State, pushed, popped, popped_to, spot_of, register_of, direction_of}
use Rattle.turns.specs.Placing.{Located, Setting, font_of, Outcome, continues, leaves_range, with_numbers, moves_to, set_character, put_character, plain_move, distance_or, register_move, after_kind, after, Contents, adding, on_outcome, placing}
use Rattle.placements.specs.Records.{Added, nothing}
use Rattle.turns.specs.Counting.{font_after, code_of}
use Rattle.turns.specs.Blocks.{opening, closing, inside, frame_of, frame_of_command, Balanced, none, single, block, Led, to, out, lead_on, after_all, last_font, after_block}
use Rattle.turns.proofs.CountLaws.{and_given, AsCounted, as_counted}
use Rattle.turns.proofs.Frames.{is_opening, is_closing, opening_push, closing_pop}

-- a state is led to, or none
pub to_same : {s t : State} → to s ≡ to t → s ≡ t
to_same e = cc

pub out_to : {A : Type 0} {s : State} → out ≡ to s → A
out_to e = absurd (true≢false (ap isOut e))
  where
    isOut : Led → Bool
    isOut out = true
    isOut (to s) = false

module _ (setting : Setting) where
  -- ---- one command

  -- an outcome keeps the saved levels of a state
  abbrev Keeps : State → Outcome → Type 0
  Keeps s leaves_range = Unit {0}
  Keeps s (continues next added) = next.saved ≡ s.saved

  module _ (s : State) where
    moves_keep : (direction : Direction) (n : ℤ) (level : Level) (added : Added) → Keeps s (moves_to direction s n level added)
    moves_keep direction n level added = by (leaves ((spot_of direction s.level).position +ℤ n))
      where
        by : (t : Bool) → Keeps s (cond t leaves_range (continues (with_numbers s level) added))
        by true = tt
        by false = refl

    plain_keeps : (direction : Direction) (params : List ℕ) → Keeps s (plain_move direction setting s params)
    plain_keeps direction params = moves_keep direction (distance params) _ _

    register_keeps : (register : Register) (params : List ℕ) → Keeps s (register_move register setting s params)
    register_keeps register params = moves_keep (direction_of register) (distance_or (register_of register s.level) params) _ _

    set_keeps : (code : ℤ) (l : LookUp) → Keeps s (set_character setting s code l)
    set_keeps code absent = refl
    set_keeps code (found m) = moves_keep Direction.Sideways (scaled_by s.font.scale m.width) _ _

    put_keeps : (code : ℤ) (l : LookUp) → Keeps s (put_character setting s code l)
    put_keeps code absent = refl
    put_keeps code (found m) = refl

    -- only push and pop change them
    kind_keeps : (c : Command) (k : Kind) → frame_of k ≡ inside → Keeps s (after_kind k setting s c)
    kind_keeps c Kind.SetCharacter e = set_keeps (code_of c) (setting.look s.font (code_of c))
    kind_keeps c Kind.SetRule e = moves_keep Direction.Sideways (rule_width c.params) _ _
    kind_keeps c Kind.PutCharacter e = put_keeps (code_of c) (setting.look s.font (code_of c))
    kind_keeps c Kind.PutRule e = refl
    kind_keeps c Kind.Nop e = refl
    kind_keeps c Kind.Bop e = refl
    kind_keeps c Kind.Eop e = refl
    kind_keeps c Kind.Push e = absurd (true≢false (ap is_opening e))
    kind_keeps c Kind.Pop e = absurd (true≢false (ap is_closing e))
    kind_keeps c Kind.Right e = plain_keeps Direction.Sideways c.params
    kind_keeps c Kind.W e = register_keeps Register.W c.params
    kind_keeps c Kind.X e = register_keeps Register.X c.params
    kind_keeps c Kind.Down e = plain_keeps Direction.Down c.params
    kind_keeps c Kind.Y e = register_keeps Register.Y c.params
    kind_keeps c Kind.Z e = register_keeps Register.Z c.params
    kind_keeps c Kind.Select e = refl
    kind_keeps c Kind.Special e = refl
    kind_keeps c Kind.Define e = refl
    kind_keeps c Kind.Pre e = refl
    kind_keeps c Kind.Post e = refl
    kind_keeps c Kind.PostPost e = refl
    kind_keeps c Kind.Undefined e = refl

    inside_keeps : (c : Command) → frame_of_command c ≡ inside → Keeps s (after setting s c)
    unfolding after
    inside_keeps c e = kind_keeps c (kind_of_command c) e

    -- push and pop do what is meant by them
    push_does : (c : Command) → frame_of_command c ≡ opening → after setting s c ≡ continues (pushed s) nothing
    unfolding after
    push_does c e = ap (λ (k : Kind). after_kind k setting s c) (opening_push (kind_of_command c) (sym e))

    pop_does : (c : Command) → frame_of_command c ≡ closing → after setting s c ≡ continues (popped s) nothing
    unfolding after
    pop_does c e = ap (λ (k : Kind). after_kind k setting s c) (closing_pop (kind_of_command c) (sym e))

  -- neither selects a font
  push_font : (font : Font) (c : Command) → frame_of_command c ≡ opening → font_after setting font c ≡ font
  push_font font c e = ap (λ (k : Kind). cond (is k Kind.Select) (font_of setting (selected_font c.opcode c.params)) font) (opening_push (kind_of_command c) (sym e))

  pop_font : (font : Font) (c : Command) → frame_of_command c ≡ closing → font_after setting font c ≡ font
  pop_font font c e = ap (λ (k : Kind). cond (is k Kind.Select) (font_of setting (selected_font c.opcode c.params)) font) (closing_pop (kind_of_command c) (sym e))

  -- ---- a run after another

  pub run_append : (xs ys : List Command) (s end : State) → after_all setting s (xs ++ ys) ≡ to end
      → (mid : State) × (after_all setting s xs ≡ to mid) × (after_all setting mid ys ≡ to end)
  run_append [] ys s end e = (s, refl, e)
  run_append (x ∷ xs) ys s end e = by (after setting s x) e (λ next. run_append xs ys next end)
    where
      by : (o : Outcome) → lead_on o (λ next. after_all setting next (xs ++ ys)) ≡ to end
          → ((next : State) → after_all setting next (xs ++ ys) ≡ to end → (mid : State) × (after_all setting next xs ≡ to mid) × (after_all setting mid ys ≡ to end))
          → (mid : State) × (lead_on o (λ next. after_all setting next xs) ≡ to mid) × (after_all setting mid ys ≡ to end)
      by leaves_range e later = out_to e
      by (continues next added) e later = later next e

  font_append : (font : Font) (xs ys : List Command) → last_font setting font (xs ++ ys) ≡ last_font setting (last_font setting font xs) ys
  font_append font [] ys = refl
  font_append font (x ∷ xs) ys = font_append (font_after setting font x) xs ys

  -- ---- what a run gives back

  -- the saved levels are back, and the font is the one that was selected last
  abbrev GivesBack : List Command → Type 0
  GivesBack cs = (s end : State) → after_all setting s cs ≡ to end → (end.saved ≡ s.saved) × (end.font ≡ last_font setting s.font cs)

  module _ (push pop : Command) (within : List Command) (opens : frame_of_command push ≡ opening) (closes : frame_of_command pop ≡ closing) (back : GivesBack within) where
    -- what comes after a block goes on from that state
    block_leads : (s end : State) (rest : List Command) → after_all setting s (push ∷ within ++ pop ∷ rest) ≡ to end → after_all setting (after_block setting s within) rest ≡ to end
    block_leads s end rest e =
        let inner : after_all setting (pushed s) (within ++ pop ∷ rest) ≡ to end = ap (λ (o : Outcome). lead_on o (λ next. after_all setting next (within ++ pop ∷ rest))) (sym (push_does s push opens)) ∙ e in
        let (mid, first, then) = run_append within (pop ∷ rest) (pushed s) end inner in
        let (saved-is, font_is) = back (pushed s) mid first in
        let there : popped mid ≡ after_block setting s within = ap (popped_to mid) saved-is ∙ ap (λ (font : Font). record { level = s.level; saved = s.saved; font = font }) font_is in
        ap (λ (next : State). after_all setting next rest) (sym there)
        ∙ ap (λ (o : Outcome). lead_on o (λ next. after_all setting next rest)) (sym (pop_does mid pop closes))
        ∙ then

    block_font : (font : Font) (rest : List Command) → last_font setting font (push ∷ within ++ pop ∷ rest) ≡ last_font setting (last_font setting font within) rest
    block_font font rest =
        ap (λ (f : Font). last_font setting f (within ++ pop ∷ rest)) (push_font font push opens)
        ∙ font_append font within (pop ∷ rest)
        ∙ ap (λ (f : Font). last_font setting f rest) (pop_font (last_font setting font within) pop closes)

  -- a run in which each push has its pop gives back the saved levels
  pub gives_back : {cs : List Command} → Balanced cs → GivesBack cs
  gives_back none s end e = (ap (λ (t : State). t.saved) (sym (to_same e)), ap (λ (t : State). t.font) (sym (to_same e)))
  gives_back (single c {rest} is-inside balanced) s end e =
      by (after setting s c) (inside_keeps s c is-inside) (as_counted setting s c) e (λ next last led. gives_back balanced next last led)
    where
      by : (o : Outcome) → Keeps s o → AsCounted setting (record { font = s.font; command = c }) o → lead_on o (λ next. after_all setting next rest) ≡ to end → GivesBack rest
          → (end.saved ≡ s.saved) × (end.font ≡ last_font setting s.font (c ∷ rest))
      by leaves_range keeps counted e later = out_to e
      by (continues next added) keeps counted e later =
          let (saved-is, font_is) = later next end e in (saved-is ∙ keeps, font_is ∙ ap (λ (f : Font). last_font setting f rest) counted.0)
  gives_back (block push pop {within} {rest} opens balanced closes balanced-rest) s end e =
      let back : GivesBack within = λ next last led. gives_back balanced next last led in
      let (saved-is, font_is) = gives_back balanced-rest (after_block setting s within) end (block_leads push pop within opens closes back s end rest e) in
      (saved-is, font_is ∙ sym (block_font push pop within opens closes back s.font rest))

  -- push, a run in which each push has its pop, and pop: all eight numbers and the saved levels are back, and the font is the one that was selected last
  pub level_comes_back : (push pop : Command) {within : List Command} → frame_of_command push ≡ opening → Balanced within → frame_of_command pop ≡ closing
      → (s end : State) → after_all setting s (push ∷ within ++ pop ∷ []) ≡ to end → end ≡ after_block setting s within
  level_comes_back push pop {within} opens balanced closes s end e = sym (to_same (block_leads push pop within opens closes (λ next last led. gives_back balanced next last led) s end [] e))

  -- ---- all along a run

  -- the saved levels of a state end with some levels
  abbrev EndsWith : List Level → State → Type 0
  EndsWith below s = (above : List Level) × (s.saved ≡ above ++ below)

  -- what is said of the state that an outcome leads to
  abbrev Then : Outcome → (State → Type 0) → Type 0
  Then leaves_range said = Unit {0}
  Then (continues next added) said = said next

  -- each state on the way has such saved levels
  abbrev Along : List Level → State → List Command → Type 0
  Along below s [] = EndsWith below s
  Along below s (c ∷ rest) = EndsWith below s × Then (after setting s c) (λ next. Along below next rest)

  module _ (below : List Level) where
    along_first : (s : State) (cs : List Command) → Along below s cs → EndsWith below s
    along_first s [] along = along
    along_first s (c ∷ rest) along = along.0

    along_append : (xs ys : List Command) (s : State) → Along below s xs → ((mid : State) → after_all setting s xs ≡ to mid → Along below mid ys) → Along below s (xs ++ ys)
    along_append [] ys s along later = later s refl
    along_append (x ∷ xs) ys s (first, along) later = (first, by (after setting s x) along later (λ next. along_append xs ys next))
      where
        by : (o : Outcome) → Then o (λ next. Along below next xs) → ((mid : State) → lead_on o (λ next. after_all setting next xs) ≡ to mid → Along below mid ys)
            → ((next : State) → Along below next xs → ((mid : State) → after_all setting next xs ≡ to mid → Along below mid ys) → Along below next (xs ++ ys))
            → Then o (λ next. Along below next (xs ++ ys))
        by leaves_range along later more = tt
        by (continues next added) along later more = more next along later

    along_prefix : (xs ys : List Command) (s t : State) → Along below s (xs ++ ys) → after_all setting s xs ≡ to t → EndsWith below t
    along_prefix [] ys s t along e = subst (EndsWith below) (to_same e) (along_first s ys along)
    along_prefix (x ∷ xs) ys s t (first, along) e = by (after setting s x) along e (λ next. along_prefix xs ys next t)
      where
        by : (o : Outcome) → Then o (λ next. Along below next (xs ++ ys)) → lead_on o (λ next. after_all setting next xs) ≡ to t
            → ((next : State) → Along below next (xs ++ ys) → after_all setting next xs ≡ to t → EndsWith below t)
            → EndsWith below t
        by leaves_range along e later = out_to e
        by (continues next added) along e later = later next along e

    same_saved : (s t : State) → t.saved ≡ s.saved → EndsWith below s → EndsWith below t
    same_saved s t same (above, is) = (above, same ∙ is)

    balanced_along : {cs : List Command} → Balanced cs → (s : State) → EndsWith below s → Along below s cs
    balanced_along none s ends = ends
    balanced_along (single c {rest} is-inside balanced) s ends = (ends, by (after setting s c) (inside_keeps s c is-inside) (λ next ends. balanced_along balanced next ends))
      where
        by : (o : Outcome) → Keeps s o → ((next : State) → EndsWith below next → Along below next rest) → Then o (λ next. Along below next rest)
        by leaves_range keeps later = tt
        by (continues next added) keeps later = later next (same_saved s next keeps ends)
    balanced_along (block push pop {within} {rest} opens balanced closes balanced-rest) s ends =
        let inner = balanced_along balanced (pushed s) (s.level ∷ ends.0, ap (λ (saved : List Level). s.level ∷ saved) ends.1) in
        let after-pop : (mid : State) → mid.saved ≡ s.level ∷ s.saved → Along below (popped mid) rest =
        λ mid same. balanced_along balanced-rest (popped mid) (same_saved s (popped mid) (ap (λ (saved : List Level). (popped_to mid saved).saved) same) ends) in
        let outer : (mid : State) → after_all setting (pushed s) within ≡ to mid → Along below mid (pop ∷ rest) =
        λ mid led. (
          same_saved (pushed s) mid (gives_back balanced (pushed s) mid led).0 (along_first (pushed s) within inner),
          subst (λ (o : Outcome). Then o (λ next. Along below next rest)) (sym (pop_does mid pop closes)) (after-pop mid (gives_back balanced (pushed s) mid led).0),
        ) in
        (ends, subst (λ (o : Outcome). Then o (λ next. Along below next (within ++ pop ∷ rest))) (sym (push_does s push opens)) (along_append within (pop ∷ rest) (pushed s) inner outer))

  -- all along such a run the levels that were saved at its start stay saved, below what the run has saved since
  pub never_below : (done left : List Command) → Balanced (done ++ left) → (s t : State) → after_all setting s done ≡ to t
      → (above : List Level) × (t.saved ≡ above ++ s.saved)
  never_below done left balanced s t e = along_prefix s.saved done left s t (balanced_along s.saved balanced s ([], refl)) e

  -- ---- a page that is placed

  -- its commands lead to a state
  pub placed_leads : (s : State) (cs : List Located) (p : Contents) → placing setting s cs ≡ given p → (t : State) × (after_all setting s (map (λ c. c.command) cs) ≡ to t)
  unfolding placing
  placed_leads s [] p e = (s, refl)
  placed_leads s (c ∷ rest) p e = by (after setting s c.command) e (λ next. placed_leads next rest)
    where
      by : (o : Outcome) → on_outcome c.at o (λ next. placing setting next rest) ≡ given p
          → ((next : State) (q : Contents) → placing setting next rest ≡ given q → (t : State) × (after_all setting next (map (λ x. x.command) rest) ≡ to t))
          → (t : State) × (lead_on o (λ next. after_all setting next (map (λ x. x.command) rest)) ≡ to t)
      by leaves_range e later = absurd (given_not_refused p position_out_of_range c.at (sym e))
      by (continues next added) e later = let (q, placed-rest, same) = and_given (adding added) (placing setting next rest) p e in later next q placed-rest
