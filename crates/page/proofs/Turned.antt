-- What each turn of the walk over a page needs and leads to, said of plain values: the walk's own answers cite it. Assumes nothing.
use mathlib.Core.Path.{◌≡◌, refl, sym, ap, ap₂, ◌∙◌, subst}
use mathlib.Core.Bool.{false}
use mathlib.Core.List.{List}
use Prim.Native.Nat.{ℕ, ◌+◌, ◌-◌, ◌<◌, ◌≤◌}
use native.Mathlib.Omega.{arith}
use lib.ListN.{length, get_or, set, length-set}
use lib.IntN.{ℤ}
use mir.Syntax.{w64}
use mir.Val.{to_z, of_z}
use Rattle.volume.specs.History.{history}
use Rattle.commands.specs.Commands.{Command}
use Rattle.state.specs.declared.Level.{Level}
use Rattle.state.specs.declared.KeptLevel.{KeptLevel}
use Rattle.state.specs.declared.Font.{Font}
use Rattle.state.specs.declared.Page.{Page}
use Rattle.state.specs.declared.moving.Direction.{Direction}
use Rattle.state.specs.declared.moving.Stride.{Stride}
use Rattle.state.specs.declared.moving.Ruler.{Ruler}
use Rattle.state.specs.declared.registers.Register.{Register}
use Rattle.state.specs.Registers.{State, pushed, popped, moved_by, character_moved, direction_of, moved_by_register}
use Rattle.state.specs.Steps.{zero_kept, level_in, kept_with_register, kept_moved_by, kept_past, RoundsLevel, RoundsBelow, page_state, saved_of, with_level, with_font, Ruled, Bounded}
use Rattle.state.proofs.Levels.{bounded_moved, bounded_by_register, bounded_character, stored}
use Rattle.state.proofs.Kept.{level_moved, level_by_register, rounds_at, rounds_register, rounds_pushed, rounds_popped}
use Rattle.placements.specs.declared.Counts.{Counts}
use Rattle.placements.specs.Steps.{added_of, area_noted, count_noted, AddsInWords}
use Rattle.turns.specs.declared.Kept.{Kept}
use Rattle.turns.specs.declared.Step.{Step}
use Rattle.turns.specs.declared.Terms.{Terms}
use Rattle.turns.specs.declared.Turn.{Turn}
use Rattle.turns.specs.Placing.{Setting, continues, with_numbers, font_of}
use Rattle.turns.specs.Blocks.{inside}
use Rattle.turns.specs.Steps.{did, terms_setting, Known, KeptFor, StepAsks, Stays, Safe, turn_frame}
use Rattle.turns.proofs.Frames.{is_ending, depth_by}
use Rattle.turns.proofs.Words.{word}
use Rattle.page.specs.declared.Seen.{Seen}
use Rattle.page.specs.Steps.{AllSeen, SeenIs}
use Rattle.page.proofs.PageRuns.{runs_inside}
use Rattle.page.proofs.WalkLaws.{Sound, state_sound, popped_bounded, popped_font, Walking, advances, in_ranges, onwards, leveled, push_room, pop_room}

module _ {file fonts out₀ out : List ℕ} {terms : Terms} {start at : ℕ} {page : Page} {counts : Counts} (w : Walking file fonts terms start out₀ out page counts at)
    (r : Step) {level : Level} (level_is : level ≡ level_in page.now) (told : (volume : List Command) → StepAsks file at (terms_setting terms volume) level page.font r) where
  -- ---- what holds as a command has been read

  pub asks : StepAsks file at (terms_setting terms (history file)) (level_in page.now) page.font r
  asks = subst (λ (l : Level). StepAsks file at (terms_setting terms (history file)) l page.font r) level_is (told (history file))

  pub ruled : Ruled terms.ruler page.font.scale
  ruled = record { unit = terms.workable; drift_small = w.ready.drift_small; scale_small = w.sound.known.scale_small }

  pub safe : (turn : Turn) → r.asked.turn ≡ turn → Safe (level_in page.now) turn
  safe turn turn_is = subst (Safe (level_in page.now)) turn_is (in_ranges w r asks).1

  pub less : length file - r.next < length file - at
  less = omega (arith, advances w r asks)

  -- counts are small: there is at most one for each byte
  small : (count : ℕ) → count ≤ at → count ≤ 16777216
  small count at_most = omega (arith, at_most, runs_inside w.runs, w.ready.short)

  pub all_small : (counts.records ≤ 16777216) × (counts.missing ≤ 16777216) × (counts.specials ≤ 16777216) × AddsInWords r.asked.adds
  all_small = (small counts.records w.few_records, small counts.missing w.few_missing, small counts.specials w.few_specials, (in_ranges w r asks).0)

  abbrev rounds : RoundsLevel terms.ruler.k page.now
  rounds = w.sound.rounds

  -- a distance that is handed on
  pub handed : (direction : Direction) (z : ℤ) → Stays direction (level_in page.now) z → Stays direction (level_in page.now) (to_z w64 (of_z w64 z))
  handed direction z ok = subst (Stays direction (level_in page.now)) (sym (word z ok.0)) ok

  -- ---- as what the command adds has been noted

  module _ {keeps : Kept} (memory : List Seen) (kept_for : KeptFor terms.widths page.font keeps) (remembers : AllSeen file fonts terms.widths memory)
      {out' : List ℕ} {counts' : Counts} (counts_are : counts' ≡ count_noted counts (added_of r.asked.adds)) (out-is : out' ≡ area_noted out counts.records (added_of r.asked.adds)) where
    abbrev setting : Setting
    setting = terms_setting terms (history file)

    -- what is kept for a font
    abbrev KeptBy : Font → Kept → Type 0
    KeptBy font kept = KeptFor terms.widths font kept

    -- what is remembered
    abbrev Remembers : List Seen → Type 0
    Remembers seen = AllSeen file fonts terms.widths seen

    -- the next turn starts from this page, and with what is kept for its font and remembered
    abbrev Next : Page → Kept → List Seen → Type 0
    Next next kept seen = Walking file fonts terms start out₀ out' next counts' r.next × KeptBy next.font kept × Remembers seen

    abbrev ruler : Ruler
    ruler = terms.ruler

    abbrev scale : ℕ
    scale = page.font.scale

    bounded : Bounded (level_in page.now)
    bounded = w.sound.bounded

    -- to another level only
    to_level : (turn : Turn) → r.asked.turn ≡ turn → turn_frame turn ≡ inside → (lead : Level)
        → did setting (page_state page) turn r.asked.adds ≡ continues (with_numbers (page_state page) lead) (added_of r.asked.adds)
        → (l : KeptLevel) → level_in l ≡ lead → (next : Page) → next ≡ with_level page l → Bounded lead → RoundsLevel ruler.k l → Next next keeps memory
    to_level turn turn_is is-inside lead led l stands-for next next_is bounded rounds = (
      leveled w r asks turn turn_is is-inside l
          (led ∙ ap (λ (x : Level). continues (with_numbers (page_state page) x) (added_of r.asked.adds)) (sym stands-for))
          next next_is (subst Bounded (sym stands-for) bounded) rounds out' out-is counts' counts_are,
      subst (λ (p : Page). KeptBy p.font keeps) (sym next_is) kept_for,
      remembers,
    )

    -- to another state
    to_state : (turn : Turn) → r.asked.turn ≡ turn → is_ending (turn_frame turn) ≡ false → (s : State)
        → did setting (page_state page) turn r.asked.adds ≡ continues s (added_of r.asked.adds)
        → (next : Page) → page_state next ≡ s → next.depth ≡ depth_by (turn_frame turn) page.depth → Sound ruler.k next
        → (kept : Kept) → KeptBy s.font kept → (seen : List Seen) → Remembers seen → Next next kept seen
    to_state turn turn_is on s led next state_is depth_is sound kept kept-is seen seen-is = (
      onwards w r asks turn turn_is on s led next state_is depth_is sound out' out-is counts' counts_are,
      subst (λ (x : State). KeptBy x.font kept) (sym state_is) kept-is,
      seen-is,
    )

    -- by a distance, in either direction and stride
    module _ (direction : Direction) (stride : Stride) (z : ℤ) (turn : Turn) (turn_is : r.asked.turn ≡ turn) (is-inside : turn_frame turn ≡ inside)
        (ok : Stays direction (level_in page.now) z)
        (led : did setting (page_state page) turn r.asked.adds ≡ continues (with_numbers (page_state page) (moved_by direction stride ruler scale z (level_in page.now))) (added_of r.asked.adds)) where
      to_moved : (next : Page) → next ≡ with_level page (kept_moved_by direction stride ruler scale (to_z w64 (of_z w64 z)) page.now) → Next next keeps memory
      to_moved next next_is =
          to_level turn turn_is is-inside (moved_by direction stride ruler scale z (level_in page.now)) led
          (kept_moved_by direction stride ruler scale z page.now) (level_moved direction stride ruler scale z page.now) next
          (next_is ∙ ap (λ (y : ℤ). with_level page (kept_moved_by direction stride ruler scale y page.now)) (word z ok.0))
          (bounded_moved direction stride ruler scale z (level_in page.now) ruled bounded ok.1)
          (rounds_at ruler.k direction _ page.now rounds)

    -- ---- the turns

    pub stays : r.asked.turn ≡ Turn.Stay → Next page keeps memory
    stays is = to_state Turn.Stay is refl (page_state page) refl page refl refl w.sound keeps kept_for memory remembers

    module _ {next : Page} where
      pub moves_sideways : {stride : Stride} {z : ℤ} → r.asked.turn ≡ Turn.Sideways stride z
          → next ≡ with_level page (kept_moved_by Direction.Sideways stride ruler scale (to_z w64 (of_z w64 z)) page.now) → Next next keeps memory
      moves_sideways {stride} {z} is next_is =
          to_moved Direction.Sideways stride z (Turn.Sideways stride z) is refl (safe (Turn.Sideways stride z) is) refl next next_is

      pub moves_down : {z : ℤ} → r.asked.turn ≡ Turn.Down z → next ≡ with_level page (kept_moved_by Direction.Down Stride.Rounded ruler scale (to_z w64 (of_z w64 z)) page.now) → Next next keeps memory
      moves_down {z} is next_is = to_moved Direction.Down Stride.Rounded z (Turn.Down z) is refl (safe (Turn.Down z) is) refl next next_is

      pub moves_by_register : {register : Register} {z : ℤ} {moved : KeptLevel} → r.asked.turn ≡ Turn.ByRegister register z
          → moved ≡ kept_moved_by (direction_of register) Stride.Rounded ruler scale (to_z w64 (of_z w64 z)) (kept_with_register register (to_z w64 (of_z w64 z)) page.now)
          → next ≡ with_level page moved → Next next keeps memory
      moves_by_register {register} {z} is moved_is next_is =
          let ok = safe (Turn.ByRegister register z) is in
          let to : ℤ → KeptLevel = λ y. kept_moved_by (direction_of register) Stride.Rounded ruler scale y (kept_with_register register y page.now) in
          to_level (Turn.ByRegister register z) is refl (moved_by_register register Stride.Rounded ruler scale z (level_in page.now)) refl
          (to z) (level_by_register register Stride.Rounded ruler scale z page.now) next
          (next_is ∙ ap (with_level page) (moved_is ∙ ap to (word z ok.0)))
          (bounded_by_register register Stride.Rounded ruler scale z (level_in page.now) ruled bounded ok.0 ok.1)
          (rounds_at ruler.k (direction_of register) _ (kept_with_register register z page.now) (rounds_register ruler.k register z page.now rounds))

      pub moves_past : {width escapement : ℤ} → r.asked.turn ≡ Turn.PastCharacter width escapement
          → next ≡ with_level page (kept_past ruler (to_z w64 (of_z w64 width)) (to_z w64 (of_z w64 escapement)) page.now) → Next next keeps memory
      moves_past {width} {escapement} is next_is =
          let ok = safe (Turn.PastCharacter width escapement) is in
          to_level (Turn.PastCharacter width escapement) is refl (character_moved ruler width escapement (level_in page.now)) refl
          (kept_past ruler width escapement page.now) refl next
          (next_is ∙ ap₂ (λ (x y : ℤ). with_level page (kept_past ruler x y page.now)) (word width ok.0.0) (word escapement ok.1))
          (bounded_character ruler scale width escapement (level_in page.now) ruled bounded ok.0.1)
          (rounds_at ruler.k Direction.Sideways _ page.now rounds)

    -- a push finds room
    pub room : r.asked.turn ≡ Turn.Push → page.depth < 100
    room is = push_room w r asks is

    -- the level that was stored changes nothing of the state
    pub level_stored : r.asked.turn ≡ Turn.Push
        → (page_state (record { now = page.now; depth = page.depth; font = page.font; stack = set page.stack page.depth page.now }) ≡ page_state page)
        × (get_or (set page.stack page.depth page.now) page.depth zero_kept ≡ page.now)
    level_stored is = stored page (omega (arith, room is, w.sound.full))

    pub pushes : {next : Page} → r.asked.turn ≡ Turn.Push
        → (page_state next ≡ pushed (page_state (record { now = page.now; depth = page.depth; font = page.font; stack = set page.stack page.depth page.now })))
        × (next.depth ≡ page.depth + 1) × (next.stack ≡ set page.stack page.depth page.now) × (next.now ≡ page.now)
        → Next next keeps memory
    pushes {next} is ensures =
        let sound = w.sound in
        let state_is = ensures.0 ∙ ap pushed (level_stored is).0 in
        to_state Turn.Push is refl (pushed (page_state page)) refl next state_is ensures.1
        (state_sound ruler.k next (pushed (page_state page)) state_is sound.bounded (sound.bounded, sound.saved_bounded)
        (subst (RoundsLevel ruler.k) (sym ensures.3) sound.rounds)
        (subst (λ (depth : ℕ). RoundsBelow ruler.k depth next.stack) (sym ensures.1)
        (subst (RoundsBelow ruler.k (page.depth + 1)) (sym ensures.2)
        (rounds_pushed ruler.k page.depth page.stack page.now (omega (arith, room is, sound.full)) sound.rounds_below sound.rounds)))
        sound.known
        (omega (arith, ensures.1, room is))
        (ap length ensures.2 ∙ length-set page.stack page.depth page.now ∙ sound.full))
        keeps kept_for memory remembers

    -- a pop finds a level
    pub below : r.asked.turn ≡ Turn.Pop → 0 < page.depth
    below is = pop_room w r asks is

    pub pops : {next : Page} → r.asked.turn ≡ Turn.Pop
        → (page_state next ≡ popped (page_state page)) × (next.depth ≡ page.depth - 1) × (next.stack ≡ page.stack) × (next.now ≡ get_or page.stack (page.depth - 1) zero_kept)
        → Next next keeps memory
    pops {next} is ensures =
        let sound = w.sound in
        let s = page_state page in
        let back = popped_bounded s s.saved sound.saved_bounded sound.bounded sound.saved_bounded in
        let same-font : s.font ≡ (popped s).font = sym (popped_font s s.saved) in
        to_state Turn.Pop is refl (popped s) refl next ensures.0 ensures.1
        (state_sound ruler.k next (popped s) ensures.0 back.0 back.1
        (subst (RoundsLevel ruler.k) (sym ensures.3) (sound.rounds_below (page.depth - 1) (omega (arith, below is))))
        (subst (λ (depth : ℕ). RoundsBelow ruler.k depth next.stack) (sym ensures.1)
        (subst (RoundsBelow ruler.k (page.depth - 1)) (sym ensures.2) (rounds_popped ruler.k page.depth page.stack sound.rounds_below)))
        (subst Known same-font sound.known)
        (omega (arith, ensures.1, sound.shallow)) (ap length ensures.2 ∙ sound.full))
        keeps (subst (λ (font : Font). KeptBy font keeps) same-font kept_for) memory remembers

    pub selects : {next : Page} {number : ℤ} {found : Seen} (seen : List Seen) → r.asked.turn ≡ Turn.Select number
        → SeenIs file fonts terms.widths found × (found.number ≡ to_z w64 (of_z w64 number)) → Remembers seen → next ≡ with_font page found.font
        → Next next found.kept seen
    selects {next} {number} {found} seen is found-is seen-is next_is =
        let sound = w.sound in
        let ok = safe (Turn.Select number) is in
        let number_is : found.number ≡ number = found-is.1 ∙ word number ok in
        let font = found-is.0.0 (history file) w.ready.told in
        let chosen : found.font ≡ font_of setting number = font.0 ∙ ap (font_of setting) number_is in
        to_state (Turn.Select number) is refl (record { level = level_in page.now; saved = saved_of page.depth page.stack; font = font_of setting number }) refl
        next (ap page_state next_is ∙ ap (λ (f : Font). record { level = level_in page.now; saved = saved_of page.depth page.stack; font = f }) chosen) (ap (λ (p : Page). p.depth) next_is)
        (subst (Sound ruler.k) (sym next_is)
        (record { bounded = sound.bounded; saved_bounded = sound.saved_bounded; rounds = sound.rounds; rounds_below = sound.rounds_below; known = font.1; shallow = sound.shallow; full = sound.full }))
        found.kept (subst (λ (f : Font). KeptBy f found.kept) chosen found-is.0.1)
        seen seen-is
