-- After every command of a page the pixels are within D of the rounded position; every rule that is set moves hh by its width rounded up, from which D moves it by at most one
-- pixel; and behind a bar hh has gone by the bar's own pixels, wherever D does not move it. Assumes nothing.
use Prim.Native.Nat.{ℕ, ◌*◌, ◌≤◌, ◌<◌}
use mathlib.Core.Path.{◌≡◌, refl, sym, ap, ap₂, ◌∙◌, subst}
use mathlib.Core.Bool.{Bool, true, false, cond, true≢false, and-eq-true_iff}
use mathlib.Core.List.{List, [], ◌∷◌, ◌++◌, map, append_assoc, map-append}
use native.Mathlib.Omega.{arith}
use lib.ListN.{take}
use lib.IntN.{ℤ, pos, nat_abs, ◌+ℤ◌, ◌-ℤ◌}
use lib.Signed.{lt_z}
use contract.Lifetimes.{Lfts}
use Rattle.refusals.specs.Numbers.{position_out_of_range}
use Rattle.refusals.specs.Answer.{Answer, given, and_then}
use Rattle.refusals.proofs.Answer.{given_not_refused}
use Rattle.numbers.specs.Parts.{up, dn}
use Rattle.numbers.proofs.Signed.{sum, diff, same}
use Rattle.units.specs.Rounding.{rounded, rounded_up}
use Rattle.units.proofs.Rounding.{up_some}
use Rattle.scaling.specs.Scaling.{scaled_by}
use Rattle.widths.specs.LookUp.{LookUp, found, absent}
use Rattle.commands.specs.declared.Kind.{Kind}
use Rattle.commands.specs.Commands.{Command, kind_of_command}
use Rattle.commands.specs.Parameters.{distance, rule_height, rule_width}
use Rattle.list.specs.Past.{is_a}
use Rattle.list.proofs.Arms.{is_kind}
use Rattle.state.specs.declared.Level.{Level}
use Rattle.state.specs.declared.moving.Direction.{Direction}
use Rattle.state.specs.declared.moving.Stride.TheVariants as Stride
use Rattle.state.specs.declared.registers.Register.{Register}
use Rattle.state.specs.Moving.{Spot, leaves}
use Rattle.state.specs.Registers.{State, fresh_state, popped_to, spot_of, register_of, direction_of}
use Rattle.state.specs.Nearby.{Near, AllNear, StateNear}
use Rattle.state.proofs.Nearby.{near_moved, near_character, near_register, near_fresh, up_unheld, up_stays, up_nearly}
use Rattle.placements.specs.declared.Record.{Record}
use Rattle.placements.specs.Records.{placement_record_size, rule_record, all_bytes, Added, nothing, placed, missing, special}
use Rattle.turns.specs.Placing.{Located, Setting, Outcome, continues, leaves_range, with_numbers, moves_to, set_character, put_character, is_visible, rule_added, plain_move, distance_or, register_move, after_kind, after, Contents, adding, on_outcome, placing}
use Rattle.turns.specs.Counting.{code_of}
use Rattle.turns.specs.Blocks.{to, lead_on, after_all}
use Rattle.turns.proofs.CountLaws.{and_given}
use Rattle.turns.proofs.Blocks.{out_to, to_same, run_append, placed_leads}
use Rattle.reader.proofs.place_page.Reads as place-page
use Rattle.promises.specs.Calls.{Arguments, area, own, Grounds, grounds_setting}
use Rattle.promises.specs.Bars.{record_added, AtCommand, past_bar, BarMoves, bites, Covers, ClearBar}
use Rattle.promises.proofs.Placing.{placed_by_lem, accepted_writes_only_records}
use Rattle.std.specs.declared.result.Result.TheVariants.{Ok}
use Rattle.placements.specs.declared.Counts.{Counts}

-- an outcome that goes on does so to one state, with one addition
goes_on : {s t : State} {x y : Added} → continues s x ≡ continues t y → (s ≡ t) × (x ≡ y)
goes_on e = (cc, cc)

-- and is none that leaves the range
left_on : {A : Type 0} {s : State} {x : Added} → leaves_range ≡ continues s x → A
left_on e = absurd (true≢false (ap leaves-it e))
  where
    leaves-it : Outcome → Bool
    leaves-it leaves_range = true
    leaves-it (continues s x) = false

-- a record that is added is one record
one_record : {r t : Record} → placed r ≡ placed t → r ≡ t
one_record e = cc

-- and not nothing
no_record : {A : Type 0} {r : Record} → nothing ≡ placed r → A
no_record e = absurd (true≢false (ap is-nothing e))
  where
    is-nothing : Added → Bool
    is-nothing nothing = true
    is-nothing (placed r) = false
    is-nothing missing = false
    is-nothing special = false

module _ (setting : Setting) where
  -- ---- near, after every command

  -- the state to which an outcome leads is near
  abbrev NearOutcome : Outcome → Type 0
  NearOutcome leaves_range = Unit {0}
  NearOutcome (continues next added) = StateNear setting.ruler next

  module _ (s : State) (near : StateNear setting.ruler s) where
    moves_near : (direction : Direction) (n : ℤ) (level : Level) (added : Added) → Near setting.ruler level → NearOutcome (moves_to direction s n level added)
    moves_near direction n level added there = by (leaves ((spot_of direction s.level).position +ℤ n))
      where
        by : (t : Bool) → NearOutcome (cond t leaves_range (continues (with_numbers s level) added))
        by true = tt
        by false = (there, near.1)

    plain_near : (direction : Direction) (params : List ℕ) → NearOutcome (plain_move direction setting s params)
    plain_near direction params =
        moves_near direction (distance params) _ _ (near_moved setting.ruler direction Stride.Rounded s.font.scale (distance params) s.level near.0)

    registers_near : (register : Register) (params : List ℕ) → NearOutcome (register_move register setting s params)
    registers_near register params =
        let n = distance_or (register_of register s.level) params in
        moves_near (direction_of register) n _ _ (near_register setting.ruler register Stride.Rounded s.font.scale n s.level near.0)

    sets_near : (code : ℤ) (l : LookUp) → NearOutcome (set_character setting s code l)
    sets_near code absent = near
    sets_near code (found m) =
        let width = scaled_by s.font.scale m.width in
        moves_near Direction.Sideways width _ _ (near_character setting.ruler width m.escapement s.level near.0)

    puts_near : (code : ℤ) (l : LookUp) → NearOutcome (put_character setting s code l)
    puts_near code absent = near
    puts_near code (found m) = near

    pops_near : (saved : List Level) → AllNear setting.ruler saved → StateNear setting.ruler (popped_to s saved)
    pops_near [] all = near
    pops_near (last ∷ before) (there, all) = (there, all)

    kind_near : (c : Command) (k : Kind) → NearOutcome (after_kind k setting s c)
    kind_near c Kind.SetCharacter = sets_near (code_of c) (setting.look s.font (code_of c))
    kind_near c Kind.SetRule =
        let width = rule_width c.params in
        moves_near Direction.Sideways width _ _ (near_moved setting.ruler Direction.Sideways Stride.RoundedUp s.font.scale width s.level near.0)
    kind_near c Kind.PutCharacter = puts_near (code_of c) (setting.look s.font (code_of c))
    kind_near c Kind.PutRule = near
    kind_near c Kind.Nop = near
    kind_near c Kind.Bop = near
    kind_near c Kind.Eop = near
    kind_near c Kind.Push = (near.0, near)
    kind_near c Kind.Pop = pops_near s.saved near.1
    kind_near c Kind.Right = plain_near Direction.Sideways c.params
    kind_near c Kind.W = registers_near Register.W c.params
    kind_near c Kind.X = registers_near Register.X c.params
    kind_near c Kind.Down = plain_near Direction.Down c.params
    kind_near c Kind.Y = registers_near Register.Y c.params
    kind_near c Kind.Z = registers_near Register.Z c.params
    kind_near c Kind.Select = near
    kind_near c Kind.Special = near
    kind_near c Kind.Define = near
    kind_near c Kind.Pre = near
    kind_near c Kind.Post = near
    kind_near c Kind.PostPost = near
    kind_near c Kind.Undefined = near

    after_near : (c : Command) → NearOutcome (after setting s c)
    unfolding after
    after_near c = kind_near c (kind_of_command c)

  -- from a state that is near a run of commands leads to one that is
  stays_near : (cs : List Command) (s t : State) → StateNear setting.ruler s → after_all setting s cs ≡ to t → StateNear setting.ruler t
  stays_near [] s t near e = subst (StateNear setting.ruler) (to_same e) near
  stays_near (c ∷ rest) s t near e = by (after setting s c) (after_near s near c) e (λ next. stays_near rest next t)
    where
      by : (o : Outcome) → NearOutcome o → lead_on o (λ next. after_all setting next rest) ≡ to t
          → ((next : State) → StateNear setting.ruler next → after_all setting next rest ≡ to t → StateNear setting.ruler t)
          → StateNear setting.ruler t
      by leaves_range there e later = out_to e
      by (continues next added) there e later = later next there e

  -- ---- a page at one of its commands

  -- what a command adds stands before what follows
  records_after : (added : Added) (p : Contents) → (adding added p).placements ≡ record_added added ++ p.placements
  records_after nothing p = refl
  records_after (placed r) p = refl
  records_after missing p = refl
  records_after special p = refl

  at_first : (s : State) (c : Located) (rest : List Located) (p : Contents) (o : Outcome) → after setting s c.command ≡ o
      → on_outcome c.at o (λ next. placing setting next rest) ≡ given p
      → AtCommand setting s p.placements [] c
  unfolding placing
  at_first s c rest p leaves_range led e = absurd (given_not_refused p position_out_of_range c.at (sym e))
  at_first s c rest p (continues next added) led e =
      let (q, placed-rest, same) = and_given (adding added) (placing setting next rest) p e in
      record {
        earlier = record { placements = []; missing_characters = 0; specials = 0 };
        here = s;
        next = next;
        added = added;
        later = q.placements;
        placed_before = refl;
        leads = refl;
        does = led;
        stands = ap (λ (contents : Contents). contents.placements) (sym same) ∙ records_after added q;
      }

  -- each command of a page that is placed is met, and what it adds stands behind the records of those before it
  at_command : (before : List Located) (c : Located) (rest : List Located) (s : State) (p : Contents) → placing setting s (before ++ c ∷ rest) ≡ given p
      → AtCommand setting s p.placements before c
  unfolding placing
  at_command [] c rest s p e = at_first s c rest p (after setting s c.command) refl e
  at_command (b ∷ before) c rest s p e = by (after setting s b.command) refl e (λ next. at_command before c rest next)
    where
      by : (o : Outcome) → after setting s b.command ≡ o → on_outcome b.at o (λ next. placing setting next (before ++ c ∷ rest)) ≡ given p
          → ((next : State) (q : Contents) → placing setting next (before ++ c ∷ rest) ≡ given q → AtCommand setting next q.placements before c)
          → AtCommand setting s p.placements (b ∷ before) c
      by leaves_range led e later = absurd (given_not_refused p position_out_of_range b.at (sym e))
      by (continues next added) led e later =
          let (q, placed-rest, same) = and_given (adding added) (placing setting next (before ++ c ∷ rest)) p e in
          let there = later next q placed-rest in
          record {
            earlier = adding added there.earlier;
            here = there.here;
            next = there.next;
            added = there.added;
            later = there.later;
            placed_before =
                ap (λ (o : Outcome). on_outcome b.at o (λ n. placing setting n before)) led
                ∙ ap (λ (answer : Answer Contents). and_then answer (λ contents. given (adding added contents))) there.placed_before;
            leads = ap (λ (o : Outcome). lead_on o (λ n. after_all setting n (map (λ x. x.command) before))) led ∙ there.leads;
            does = there.does;
            stands =
                ap (λ (contents : Contents). contents.placements) (sym same)
                ∙ records_after added q
                ∙ ap (λ (records : List Record). record_added added ++ records) there.stands
                ∙ sym (append_assoc (record_added added) there.earlier.placements (record_added there.added ++ there.later))
                ∙ ap (λ (records : List Record). records ++ (record_added there.added ++ there.later)) (sym (records_after added there.earlier));
          }

  -- ---- behind a bar

  module _ (s next : State) (c : Command) (sets : is_a Kind.SetRule c ≡ true) where
    abbrev width : ℤ
    width = rule_width c.params

    -- where a bar leads, and what it adds
    bar_does : (added : Added) → after setting s c ≡ continues next added → (next ≡ past_bar setting s width) × (added ≡ rule_added setting s (rule_height c.params) width)
    unfolding after
    bar_does added does =
        by (leaves (s.level.h +ℤ width)) (ap (λ (k : Kind). after_kind k setting s c) (sym (is_kind (kind_of_command c) Kind.SetRule sets)) ∙ does)
      where
        by : (t : Bool) → cond t leaves_range (continues (past_bar setting s width) (rule_added setting s (rule_height c.params) width)) ≡ continues next added
            → (next ≡ past_bar setting s width) × (added ≡ rule_added setting s (rule_height c.params) width)
        by true e = left_on e
        by false e = (sym (goes_on e).0, sym (goes_on e).1)

    -- its record, where it has one
    abbrev drawn : Record
    drawn = rule_record setting.page s.level (rounded_up setting.ruler.k (rule_height c.params)) (rounded_up setting.ruler.k width)

    -- a bar whose sides are above 0 has one
    bar_drawn : (added : Added) → after setting s c ≡ continues next added → is_visible (rule_height c.params) width ≡ true → (bar : Record) × (added ≡ placed bar)
    bar_drawn added does visible = (drawn, (bar_does added does).1 ∙ ap (λ (t : Bool). cond t (placed drawn) nothing) visible)

    module _ (bar : Record) (does : after setting s c ≡ continues next (placed bar)) where
      bar_is : bar ≡ drawn
      bar_is = by (is_visible (rule_height c.params) width) (bar_does (placed bar) does).1
        where
          by : (visible : Bool) → placed bar ≡ cond visible (placed drawn) nothing → bar ≡ drawn
          by true e = one_record e
          by false e = no_record (sym e)

      -- it is at least a pixel wide
      bar_some : is_visible (rule_height c.params) width ≡ true → 0 < setting.ruler.k.p → 0 < setting.ruler.k.q → lt_z (pos 0) bar.extent ≡ true
      bar_some visible p q =
          let wide = ((and-eq-true_iff (lt_z (pos 0) (rule_height c.params)) (lt_z (pos 0) width)).0 visible).1 in
          subst (λ (r : Record). lt_z (pos 0) r.extent ≡ true) (sym bar_is) (up_some setting.ruler.k p q width wide)

      -- it stands where the page stood
      bar_starts : bar.hh ≡ s.level.hh
      bar_starts = ap (λ (r : Record). r.hh) bar_is

      abbrev spot : Spot
      spot = spot_of Direction.Sideways s.level

      next_is : next ≡ past_bar setting s width
      next_is = (bar_does (placed bar) does).0

      bites_is : bites setting bar next ≡ bites setting drawn (past_bar setting s width)
      bites_is = ap₂ (bites setting) bar_is next_is

      -- hh is then the first pixel behind it, unless D bites
      behind_bar : bites setting bar next ≡ false → next.level.hh ≡ bar.hh +ℤ bar.extent
      behind_bar free =
          ap (λ (t : State). t.level.hh) next_is
          ∙ up_unheld setting.ruler Direction.Sideways s.font.scale width spot (sym bites_is ∙ free)
          ∙ ap (λ (r : Record). r.hh +ℤ r.extent) (sym bar_is)

      -- so it has grown by the bar's own width
      grown_by_bar : bites setting bar next ≡ false → next.level.hh -ℤ s.level.hh ≡ bar.extent
      grown_by_bar free =
          let grown : next.level.hh ≡ s.level.hh +ℤ bar.extent = behind_bar free ∙ ap (λ (z : ℤ). z +ℤ bar.extent) bar_starts in
          same _ _ (omega (arith, diff next.level.hh s.level.hh, sum s.level.hh bar.extent, ap up grown, ap dn grown))

      -- and no pixel of the bar is at hh or behind it
      bar_clear : bites setting bar next ≡ false → (column : ℤ) → Covers bar column → lt_z column next.level.hh ≡ true
      bar_clear free column covers = subst (λ (hh : ℤ). lt_z column hh ≡ true) (sym (behind_bar free)) covers.before_end

      -- D does not bite where hh was less than D from rounded h
      bite_free : nat_abs (s.level.hh -ℤ rounded setting.ruler.k s.level.h) < setting.ruler.drift → bites setting bar next ≡ false
      bite_free less = bites_is ∙ up_stays setting.ruler width spot less

-- ---- of a page that place_page has placed

-- the commands of some places
abbrev commands : List Located → List Command
commands = map (λ c. c.command)

module _ (κs : Lfts 3) (a x : Arguments) (counts : Counts) (post : place-page.Post κs a (Ok counts) x) where
  -- after every command the pixels are within D of the rounded positions, those of the saved levels too (rule 7.4)
  pub pixels_stay_near : (before rest : List Located) → own a ≡ before ++ rest
      → (g : Grounds a) × (here : State) × (after_all (grounds_setting a g) fresh_state (map (λ c. c.command) before) ≡ to here) × StateNear (grounds_setting a g).ruler here
  pixels_stay_near before rest own_is =
      let (p, is, many, bytes, others, long) = accepted_writes_only_records κs a x counts post in
      let (g, placing-is, fits) = placed_by_lem a p is in
      let setting = grounds_setting a g in
      let (last, led) = placed_leads setting fresh_state (own a) p placing-is in
      let apart : commands (before ++ rest) ≡ commands before ++ commands rest = map-append (λ (c : Located). c.command) before rest in
      let (here, leads, onwards) = run_append setting (commands before) (commands rest) fresh_state last (ap (after_all setting fresh_state) (sym (ap commands own_is ∙ apart)) ∙ led) in
      (g, here, leads, stays_near setting (commands before) fresh_state here (near_fresh setting.ruler) leads)

  -- the command behind some of the page's, as it is placed
  on_page : (before rest : List Located) (c : Located) → own a ≡ before ++ c ∷ rest
      → (g : Grounds a) × (written : List Record) × (take (placement_record_size * counts.records) (area x) ≡ all_bytes written) × AtCommand (grounds_setting a g) fresh_state written before c
  on_page before rest c own_is =
      let (p, is, many, bytes, others, long) = accepted_writes_only_records κs a x counts post in
      let (g, placing-is, fits) = placed_by_lem a p is in
      let setting = grounds_setting a g in
      (g, p.placements, bytes, at_command setting before c rest fresh_state p (ap (placing setting fresh_state) (sym own_is) ∙ placing-is))

  -- every rule that is set, with a record or without, moves h by its width and hh by its width rounded up, and D moves hh from there by at most one pixel (rules 7.3, 7.4, 7.8)
  pub every_bar_moves : (before rest : List Located) (c : Located) → own a ≡ before ++ c ∷ rest → is_a Kind.SetRule c.command ≡ true
      → (g : Grounds a) × (written : List Record) × (take (placement_record_size * counts.records) (area x) ≡ all_bytes written) × BarMoves (grounds_setting a g) written before c
  every_bar_moves before rest c own_is sets =
      let (g, written, bytes, at) = on_page before rest c own_is in
      let setting = grounds_setting a g in
      let width = rule_width c.command.params in
      let (moves, adds) = bar_does setting at.here at.next c.command sets at.added at.does in
      let near = (stays_near setting (commands before) fresh_state at.here (near_fresh setting.ruler) at.leads).0 in
      let moved = up_nearly setting.ruler Direction.Sideways at.here.font.scale width (spot_of Direction.Sideways at.here.level) (near Direction.Sideways) in
      let bar : BarMoves setting written before c = record {
        at = at;
        adds = adds;
        moves = moves;
        nearly = subst (λ (s : State). nat_abs (s.level.hh -ℤ (at.here.level.hh +ℤ rounded_up setting.ruler.k width)) ≤ 1) (sym moves) moved;
      } in
      (g, written, bytes, bar)

  -- behind a bar hh has gone by the bar's own pixels, wherever D does not bite (rules 7.3, 7.4, 7.8)
  pub bars_are_clear : (before rest : List Located) (c : Located) → own a ≡ before ++ c ∷ rest → is_a Kind.SetRule c.command ≡ true
      → is_visible (rule_height c.command.params) (rule_width c.command.params) ≡ true
      → (g : Grounds a) × (written : List Record) × (take (placement_record_size * counts.records) (area x) ≡ all_bytes written) × ClearBar (grounds_setting a g) written before c
  bars_are_clear before rest c own_is sets visible =
      let (g, written, bytes, at) = on_page before rest c own_is in
      let setting = grounds_setting a g in
      let (bar, adds) = bar_drawn setting at.here at.next c.command sets at.added at.does visible in
      let does : after setting at.here c.command ≡ continues at.next (placed bar) = at.does ∙ ap (continues at.next) adds in
      let clear : ClearBar setting written before c = record {
        at = at;
        bar = bar;
        adds = adds;
        starts = bar_starts setting at.here at.next c.command sets bar does;
        some = bar_some setting at.here at.next c.command sets bar does visible;
        grows = grown_by_bar setting at.here at.next c.command sets bar does;
        clear = bar_clear setting at.here at.next c.command sets bar does;
        free = bite_free setting at.here at.next c.command sets bar does;
      } in
      (g, written, bytes, clear)
