-- One turn of the walk over a page: what is still to come ends as the whole page does, before a command and after it. Assumes nothing.
use mathlib.Core.Path.{◌≡◌, refl, sym, ap, ap₂, ◌∙◌, subst}
use mathlib.Core.Bool.{Bool, true, false, ◌||◌, true≢false}
use mathlib.Core.List.{List, [], ◌∷◌}
use Prim.Native.Nat.{ℕ, ◌+◌, ◌<◌, ◌≤◌}
use native.Mathlib.Nat.{add-zero}
use native.Mathlib.Omega.{arith}
use lib.Dec.{leb, eqb}
use lib.ListN.{length, drop}
use borrow.Author.Tests.{leb-false, eqb-false}
use Rattle.refusals.specs.Numbers.{position_out_of_range}
use Rattle.refusals.specs.Answer.{refused, given, and_then}
use Rattle.commands.specs.declared.Kind.{Kind}
use Rattle.commands.specs.declared.Kind.TheVariants.{Eop, Push, Pop}
use Rattle.commands.specs.Commands.{Command, kind_of_command, whole, front}
use Rattle.list.specs.Past.{is_a, depth_after}
use Rattle.list.specs.Rules.{wrong_at_depth}
use Rattle.volume.specs.History.{history}
use Rattle.list.proofs.Arms.{is_kind}
use Rattle.volume.proofs.Going.{after_command}
use Rattle.units.specs.declared.Ratio.{Ratio}
use Rattle.state.specs.declared.Level.{Level}
use Rattle.state.specs.declared.KeptLevel.{KeptLevel}
use Rattle.state.specs.declared.Page.{Page}
use Rattle.state.specs.Registers.{State, fresh_state, popped_to}
use Rattle.state.specs.Steps.{zero_kept, level_in, RoundsLevel, RoundsBelow, page_state, saved_of, with_level, Bounded, AllBounded}
use Rattle.state.proofs.Levels.{bounded_zero}
use Rattle.state.proofs.Kept.{rounds_zero}
use Rattle.placements.specs.declared.Counts.{Counts}
use Rattle.turns.specs.declared.Terms.{Terms}
use Rattle.turns.specs.declared.Turn.{Turn}
use Rattle.turns.specs.declared.Step.{Step}
use Rattle.turns.specs.Placing.{Located, Setting, Outcome, continues, leaves_range, with_numbers, adding, on_outcome, after, placing}
use Rattle.page.specs.PageList.{page_of}
use Rattle.turns.specs.Blocks.{Frame, inside}
use Rattle.placements.specs.Records.{Added, nothing, placed, missing, special}
use Rattle.placements.specs.Steps.{added_of, AddsInWords, area_noted, count_noted}
use Rattle.page.specs.Steps.{finish, stopped, through, zero_counts, Runs, ends, onward, Ready}
use Rattle.turns.specs.Steps.{did, Safe, turn_frame, Suits, terms_setting, StepAsks, Known}
use Rattle.placements.proofs.Areas.{noted_length}
use Rattle.page.proofs.Finishing.{finish_adding}
use Rattle.page.proofs.FontLaws.{unselected_known}
use Rattle.turns.proofs.TurnLaws.{after_kind_lem}
use Rattle.turns.proofs.Frames.{is_ending, opening_push, closing_pop, ending_eop, depth_by, frame_depth}

-- ---- the code's page

-- its numbers are in their ranges, the roundings that it keeps are those of h and v, now and in each level that is saved, and its stack is that long
pub record Sound (k : Ratio) (page : Page) : Type 0 where
  pub bounded : Bounded (level_in page.now)
  pub saved_bounded : AllBounded (saved_of page.depth page.stack)
  pub rounds : RoundsLevel k page.now
  pub rounds_below : RoundsBelow k page.depth page.stack
  pub known : Known page.font
  pub shallow : page.depth ≤ 100
  pub full : length page.stack ≡ 100

-- so it is where the state that it stands for has its numbers in their ranges
pub state_sound : (k : Ratio) (page : Page) (s : State) → page_state page ≡ s → Bounded s.level → AllBounded s.saved
    → RoundsLevel k page.now → RoundsBelow k page.depth page.stack → Known s.font → page.depth ≤ 100
    → length page.stack ≡ 100 → Sound k page
state_sound k page s is-s bounded kept rounds rounds_below known shallow full =
    record {
      bounded = subst (λ (x : State). Bounded x.level) (sym is-s) bounded;
      saved_bounded = subst (λ (x : State). AllBounded x.saved) (sym is-s) kept;
      rounds = rounds;
      rounds_below = rounds_below;
      known = subst (λ (x : State). Known x.font) (sym is-s) known;
      shallow = shallow;
      full = full;
    }

-- a pop brings back numbers in their ranges
pub popped_bounded : (s : State) (levels : List Level) → AllBounded levels → Bounded s.level → AllBounded s.saved
    → Bounded (popped_to s levels).level × AllBounded (popped_to s levels).saved
popped_bounded s [] all bounded kept = (bounded, kept)
popped_bounded s (l ∷ levels) all bounded kept = (all.0, all.1)

-- and no other font
pub popped_font : (s : State) (levels : List Level) → (popped_to s levels).font ≡ s.font
popped_font s [] = refl
popped_font s (l ∷ levels) = refl

-- ---- what is still to come

-- the commands still to come run from here, and end as the whole page does
pub record Walking (file fonts : List ℕ) (terms : Terms) (start : ℕ) (out₀ out : List ℕ) (page : Page) (counts : Counts) (at : ℕ) : Type 0 where
  pub ready : Ready file fonts terms start
  pub rest : List Located
  pub runs : Runs file at page.depth rest
  pub same : finish out counts (placing (terms_setting terms (history file)) (page_state page) rest)
      ≡ finish out₀ zero_counts (placing (terms_setting terms (history file)) fresh_state (page_of terms.page (history file)))
  pub sound : Sound terms.ruler.k page
  pub few_records : counts.records ≤ at
  pub few_missing : counts.missing ≤ at
  pub few_specials : counts.specials ≤ at
  pub long : length out ≡ length out₀

-- at the start all of the page is to come
pub starting : {file fonts : List ℕ} {terms : Terms} {start : ℕ} (ready : Ready file fonts terms start) (out : List ℕ) (page : Page)
    → page_state page ≡ fresh_state → page.depth ≡ 0 → length page.stack ≡ 100 → page.now ≡ zero_kept
    → Walking file fonts terms start out out page zero_counts start
starting {file} {fonts} {terms} {start} ready out page fresh flat full zero =
    record {
      ready = ready;
      rest = page_of terms.page (history file);
      runs = subst (λ (depth : ℕ). Runs file start depth (page_of terms.page (history file))) (sym flat) ready.runs;
      same = ap (λ (s : State). finish out zero_counts (placing (terms_setting terms (history file)) s (page_of terms.page (history file)))) fresh;
      sound =
          state_sound terms.ruler.k page fresh_state fresh bounded_zero tt (subst (RoundsLevel terms.ruler.k) (sym zero) (rounds_zero terms.ruler.k))
          (λ place less. absurd (omega (arith, flat, less))) unselected_known (omega arith) full;
      few_records = omega arith;
      few_missing = omega arith;
      few_specials = omega arith;
      long = refl;
    }

-- ---- what a turn adds

-- what is added counts for one at most
module _ (counts : Counts) (at next : ℕ) (forward : at < next) where
  few_noted : (added : Added) → counts.records ≤ at → counts.missing ≤ at → counts.specials ≤ at
      → ((count_noted counts added).records ≤ next) × ((count_noted counts added).missing ≤ next) × ((count_noted counts added).specials ≤ next)
  few_noted nothing r m s = (omega arith, omega arith, omega arith)
  few_noted (placed x) r m s = (omega arith, omega arith, omega arith)
  few_noted missing r m s = (omega arith, omega arith, omega arith)
  few_noted special r m s = (omega arith, omega arith, omega arith)

-- with nothing to come, the area and the counts stay
finish_none : (out : List ℕ) (counts : Counts) → through out counts ≡ finish out counts (given (record { placements = []; missing_characters = 0; specials = 0 }))
finish_none out counts =
    sym (ap₂ (λ (r m : ℕ). through out (record { records = r; missing = m; specials = counts.specials + 0 })) (add-zero counts.records) (add-zero counts.missing)
    ∙ ap (λ (n : ℕ). through out (record { records = counts.records; missing = counts.missing; specials = n })) (add-zero counts.specials))

-- neither of two tests
neither : (a b : Bool) → (a || b) ≡ false → a ≡ false
neither true b e = e
neither false b e = refl

-- ---- one turn

module _ {file fonts : List ℕ} {terms : Terms} {start : ℕ} {out₀ out : List ℕ} {page : Page} {counts : Counts} {at : ℕ}
    (w : Walking file fonts terms start out₀ out page counts at) (r : Step)
    (asks : StepAsks file at (terms_setting terms (history file)) (level_in page.now) page.font r) where
  abbrev setting : Setting
  setting = terms_setting terms (history file)

  abbrev s : State
  s = page_state page

  -- the command that stands here: the page's eop, or the next of its commands
  data Here : Type 0 where
    last : (c : Command) (rest : List ℕ) → front (drop at file) ≡ whole c rest → is_a Eop c ≡ true → w.rest ≡ [] → Here
    next : (c : Command) (rest : List ℕ) (later : List Located) → front (drop at file) ≡ whole c rest → is_a Eop c ≡ false
        → wrong_at_depth (kind_of_command c) page.depth ≡ false → w.rest ≡ record { at = at; command = c } ∷ later
        → Runs file (at + (1 + length c.params)) (depth_after (kind_of_command c) page.depth) later
        → Here

  here : Here
  here = by w.runs refl
    where
      by : {cs : List Located} → Runs file at page.depth cs → w.rest ≡ cs → Here
      by (ends c rest stands eop) e = last c rest stands eop e
      by (onward {cs = later} c rest stands goes_on right runs) e = next c rest later stands goes_on right e runs

  -- the place goes on, within the file
  pub advances : (at < r.next) × (r.next ≤ length file)
  advances = by here
    where
      forward : (c : Command) (rest : List ℕ) → front (drop at file) ≡ whole c rest → (at < r.next) × (r.next ≤ length file)
      forward c rest stands = (omega (arith, (asks c rest stands).1), omega (arith, (asks c rest stands).1, (after_command file at c rest stands).1))

      by : Here → (at < r.next) × (r.next ≤ length file)
      by (last c rest stands eop e) = forward c rest stands
      by (next c rest later stands goes_on right e runs) = forward c rest stands

  -- what is asked by the command that stands here
  module _ {c : Command} {rest : List ℕ} (stands : front (drop at file) ≡ whole c rest) (turn : Turn) (turn_is : r.asked.turn ≡ turn) where
    suits : Suits (kind_of_command c) turn
    suits = subst (Suits (kind_of_command c)) turn_is (asks c rest stands).0.1

    -- one that does not end the page is no eop's
    no_eop : is_ending (turn_frame turn) ≡ false → is_a Eop c ≡ false
    no_eop on = sym (ap is_ending suits ∙ ending_eop (kind_of_command c)) ∙ on

    -- the depth is as after the command
    turned_depth : depth_by (turn_frame turn) page.depth ≡ depth_after (kind_of_command c) page.depth
    turned_depth = ap (λ (frame : Frame). depth_by frame page.depth) suits ∙ frame_depth (kind_of_command c) page.depth

    does : did setting s turn r.asked.adds ≡ after setting s c
    does =
        ap (λ (t : Turn). did setting s t r.asked.adds) (sym turn_is) ∙ (asks c rest stands).0.0.does (saved_of page.depth page.stack)

  -- there are fewer records than bytes
  pub few : (counts' : Counts) → counts' ≡ count_noted counts (added_of r.asked.adds) → counts'.records ≤ length file
  few counts' counts_are =
      omega (arith, ap (λ (n : Counts). n.records) counts_are, (few_noted counts at r.next advances.0 (added_of r.asked.adds) w.few_records w.few_missing w.few_specials).0, advances.1)

  -- the record that is added, and the turn, are in their ranges
  pub in_ranges : AddsInWords r.asked.adds × Safe (level_in page.now) r.asked.turn
  in_ranges = by here
    where
      both : {c : Command} {rest : List ℕ} → front (drop at file) ≡ whole c rest → AddsInWords r.asked.adds × Safe (level_in page.now) r.asked.turn
      both {c} {rest} stands = ((asks c rest stands).0.0.words, (asks c rest stands).0.0.safe)

      by : Here → AddsInWords r.asked.adds × Safe (level_in page.now) r.asked.turn
      by (last c rest stands eop e) = both stands
      by (next c rest later stands goes_on right e runs) = both stands

  module _ (turn : Turn) (turn_is : r.asked.turn ≡ turn) where
    -- a command that leads to a next state
    pub onwards : is_ending (turn_frame turn) ≡ false → (s' : State) → did setting s turn r.asked.adds ≡ continues s' (added_of r.asked.adds)
        → (page' : Page) → page_state page' ≡ s' → page'.depth ≡ depth_by (turn_frame turn) page.depth → Sound terms.ruler.k page'
        → (out' : List ℕ) → out' ≡ area_noted out counts.records (added_of r.asked.adds)
        → (counts' : Counts) → counts' ≡ count_noted counts (added_of r.asked.adds)
        → Walking file fonts terms start out₀ out' page' counts' r.next
    unfolding placing
    onwards on s' led page' state_is depth_is sound out' out-is counts' counts_are = by here
      where
        added : Added
        added = added_of r.asked.adds

        by : Here → Walking file fonts terms start out₀ out' page' counts' r.next
        by (last c rest stands eop e) = absurd (true≢false (sym eop ∙ no_eop stands turn turn_is on))
        by (next c rest later stands goes_on right e runs) =
            let outcome : after setting s c ≡ continues s' added = sym (does stands turn turn_is) ∙ led in
            let step : placing setting s w.rest ≡ and_then (placing setting s' later) (λ p. given (adding added p)) =
            ap (placing setting s) e ∙ ap (λ (o : Outcome). on_outcome at o (λ n. placing setting n later)) outcome in
            let noted = few_noted counts at r.next advances.0 added w.few_records w.few_missing w.few_specials in
            record {
              ready = w.ready;
              rest = later;
              runs =
                  subst (λ (place : ℕ). Runs file place page'.depth later) (sym (asks c rest stands).1)
                  (subst (λ (depth : ℕ). Runs file (at + (1 + length c.params)) depth later) (sym (depth_is ∙ turned_depth stands turn turn_is)) runs);
              same =
                  ap (λ (x : State). finish out' counts' (placing setting x later)) state_is
                  ∙ ap₂ (λ (o : List ℕ) (n : Counts). finish o n (placing setting s' later)) out-is counts_are
                  ∙ sym (finish_adding out counts added (placing setting s' later))
                  ∙ ap (finish out counts) (sym step)
                  ∙ w.same;
              sound = sound;
              few_records = subst (λ (n : Counts). n.records ≤ r.next) (sym counts_are) noted.0;
              few_missing = subst (λ (n : Counts). n.missing ≤ r.next) (sym counts_are) noted.1;
              few_specials = subst (λ (n : Counts). n.specials ≤ r.next) (sym counts_are) noted.2;
              long = ap length out-is ∙ noted_length out counts.records added ∙ w.long;
            }

    -- one that leads to another level only
    pub leveled : turn_frame turn ≡ inside → (l : KeptLevel) → did setting s turn r.asked.adds ≡ continues (with_numbers s (level_in l)) (added_of r.asked.adds)
        → (page' : Page) → page' ≡ with_level page l → Bounded (level_in l) → RoundsLevel terms.ruler.k l
        → (out' : List ℕ) → out' ≡ area_noted out counts.records (added_of r.asked.adds)
        → (counts' : Counts) → counts' ≡ count_noted counts (added_of r.asked.adds)
        → Walking file fonts terms start out₀ out' page' counts' r.next
    leveled is-inside l led page' page_is bounded rounds out' out-is counts' counts_are =
        let sound = w.sound in
        onwards (ap is_ending is-inside) (with_numbers s (level_in l)) led page' (ap page_state page_is) (ap (λ (p : Page). p.depth) page_is ∙ sym (ap (λ (frame : Frame). depth_by frame page.depth) is-inside))
        (subst (Sound terms.ruler.k) (sym page_is)
        (record { bounded = bounded; saved_bounded = sound.saved_bounded; rounds = rounds; rounds_below = sound.rounds_below; known = sound.known; shallow = sound.shallow; full = sound.full }))
        out' out-is counts' counts_are

  -- push and pop keep to the depths
  pub push_room : r.asked.turn ≡ Turn.Push → page.depth < 100
  push_room turn_is = by here
    where
      by : Here → page.depth < 100
      by (last c rest stands eop e) = absurd (true≢false (sym eop ∙ no_eop stands Turn.Push turn_is refl))
      by (next c rest later stands goes_on right e runs) =
          let pushes : wrong_at_depth Push page.depth ≡ false = subst (λ (k : Kind). wrong_at_depth k page.depth ≡ false) (opening_push (kind_of_command c) (suits stands Turn.Push turn_is)) right in
          leb-false 100 page.depth (neither (leb 100 page.depth) false pushes)

  pub pop_room : r.asked.turn ≡ Turn.Pop → 0 < page.depth
  pop_room turn_is = by here
    where
      by : Here → 0 < page.depth
      by (last c rest stands eop e) = absurd (true≢false (sym eop ∙ no_eop stands Turn.Pop turn_is refl))
      by (next c rest later stands goes_on right e runs) =
          let pops : wrong_at_depth Pop page.depth ≡ false = subst (λ (k : Kind). wrong_at_depth k page.depth ≡ false) (closing_pop (kind_of_command c) (suits stands Turn.Pop turn_is)) right in
          omega (arith, eqb-false page.depth 0 (neither (eqb page.depth 0) false pops))

  -- at eop all has been walked over
  pub ended : r.asked.turn ≡ Turn.End → (out' : List ℕ) → out' ≡ area_noted out counts.records (added_of r.asked.adds)
      → (counts' : Counts) → counts' ≡ count_noted counts (added_of r.asked.adds)
      → through out' counts' ≡ finish out₀ zero_counts (placing setting fresh_state (page_of terms.page (history file)))
  unfolding placing
  ended turn_is out' out-is counts' counts_are = by here
    where
      by : Here → through out' counts' ≡ finish out₀ zero_counts (placing setting fresh_state (page_of terms.page (history file)))
      by (last c rest stands eop e) =
          let same_outcome : continues s (added_of r.asked.adds) ≡ continues s nothing =
          does stands Turn.End turn_is ∙ sym (after_kind_lem setting (level_in page.now) (saved_of page.depth page.stack) page.font c Eop (is_kind (kind_of_command c) Eop eop)) in
          let none : added_of r.asked.adds ≡ nothing = cc in
          ap₂ through (out-is ∙ ap (area_noted out counts.records) none) (counts_are ∙ ap (count_noted counts) none)
          ∙ finish_none out counts
          ∙ ap (λ (cs : List Located). finish out counts (placing setting s cs)) (sym e)
          ∙ w.same
      by (next c rest later stands goes_on right e runs) = absurd (true≢false (ap is_ending (suits stands Turn.End turn_is) ∙ ending_eop (kind_of_command c) ∙ goes_on))

  -- where h or v would leave its range, the page is refused there
  pub left : r.asked.turn ≡ Turn.Leave → stopped position_out_of_range at ≡ finish out₀ zero_counts (placing setting fresh_state (page_of terms.page (history file)))
  unfolding placing
  left turn_is = by here
    where
      by : Here → stopped position_out_of_range at ≡ finish out₀ zero_counts (placing setting fresh_state (page_of terms.page (history file)))
      by (last c rest stands eop e) = absurd (true≢false (sym eop ∙ no_eop stands Turn.Leave turn_is refl))
      by (next c rest later stands goes_on right e runs) =
          let outcome : after setting s c ≡ leaves_range = sym (does stands Turn.Leave turn_is) in
          let step : placing setting s w.rest ≡ refused position_out_of_range at =
          ap (placing setting s) e ∙ ap (λ (o : Outcome). on_outcome at o (λ n. placing setting n later)) outcome in
          ap (finish out counts) (sym step) ∙ w.same
