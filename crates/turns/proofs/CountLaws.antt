-- The counts and the records of a placed page are tied to the page's own commands. Assumes nothing.
use mathlib.Core.Path.{◌≡◌, refl, sym, ap₂, ◌∙◌, subst}
use mathlib.Core.Bool.{Bool, true, false, cond}
use mathlib.Core.List.{List, [], ◌∷◌, map}
use Prim.Native.Nat.{ℕ, ◌+◌}
use native.Mathlib.Omega.{arith}
use lib.ListN.{length}
use lib.IntN.{ℤ, ◌+ℤ◌}
use Rattle.refusals.specs.Numbers.{position_out_of_range}
use Rattle.refusals.specs.Answer.{Answer, refused, given, and_then}
use Rattle.refusals.proofs.Answer.{given_not_refused, given_same}
use Rattle.units.specs.Rounding.{rounded_up}
use Rattle.scaling.specs.Scaling.{scaled_by}
use Rattle.widths.specs.LookUp.{LookUp, found, absent}
use Rattle.commands.specs.declared.Kind.{Kind}
use Rattle.commands.specs.Commands.{Command, kind_of_command}
use Rattle.commands.specs.Parameters.{distance, rule_height, rule_width}
use Rattle.list.specs.Past.{is_a}
use Rattle.state.specs.declared.Level.{Level}
use Rattle.state.specs.declared.Font.{Font}
use Rattle.state.specs.declared.moving.Direction.{Direction}
use Rattle.state.specs.declared.registers.Register.{Register}
use Rattle.state.specs.Moving.{leaves}
use Rattle.state.specs.Registers.{State, popped_to, spot_of, register_of, direction_of}
use Rattle.placements.specs.declared.Record.{Record}
use Rattle.placements.specs.Records.{character_record, rule_record, Added, nothing, placed, missing, special}
use Rattle.turns.specs.Placing.{Located, Setting, Outcome, continues, leaves_range, moves_to, set_character, put_character, is_visible, plain_move, distance_or, register_move, after_kind, after, Contents, adding, on_outcome, placing}
use Rattle.turns.specs.Counting.{Seen, font_after, with_fonts, is_character, is_rule, code_of, character_found, character_missing, rule_visible, is_special, makes_record, count_of, those, said_by, said_of, LeavesAt, now, later}

-- what is given in the end was made from a result that was given
pub and_given : {A B : Type 0} (make : A → B) (answer : Answer A) (b : B) → and_then answer (λ a. given (make a)) ≡ given b
    → (a : A) × (answer ≡ given a) × (make a ≡ b)
and_given make (refused n place) b e = absurd (given_not_refused b n place (sym e))
and_given make (given a) b e = (a, refl, given_same (make a) b e)

-- what is refused in the end was refused before
and_refused : {A B : Type 0} (make : A → B) (answer : Answer A) (n place : ℕ) → and_then answer (λ a. given (make a)) ≡ refused n place
    → answer ≡ refused n place
and_refused make (refused number there) n place e = ap₂ refused (cc) (cc)
and_refused make (given a) n place e = absurd (given_not_refused (make a) n place e)

-- four tests, of which none holds
none : (false ≡ false) × (false ≡ false) × (false ≡ false) × (false ≡ false)
none = (refl, refl, refl, refl)

module _ (setting : Setting) where
  -- ---- one command

  -- whether a command is in each of the four counts: visible rules, characters found, characters missing, specials
  abbrev pub In : Seen → Bool → Bool → Bool → Bool → Type 0
  In c rule character lacking other =
      (rule_visible c ≡ rule) × (character_found setting c ≡ character) × (character_missing setting c ≡ lacking) × (is_special c ≡ other)

  -- what a command adds, by the count that it is in, and what its record says
  pub data Adding (c : Seen) : Added → Type 0 where
    a_rule : (r : Record) → In c true false false false → said_by r ≡ said_of setting c → Adding c (placed r)
    a_character : (r : Record) → In c false true false false → said_by r ≡ said_of setting c → Adding c (placed r)
    a_missing : In c false false true false → Adding c missing
    a_special : In c false false false true → Adding c special
    no_more : In c false false false false → Adding c nothing

  -- an outcome is the one that the counts and the fonts say
  abbrev pub AsCounted : Seen → Outcome → Type 0
  AsCounted c leaves_range = Unit {0}
  AsCounted c (continues next added) = (next.font ≡ font_after setting c.font c.command) × Adding c added

  -- where h or v would leave its range nothing is said
  unless : (c : Seen) (o : Outcome) (t : Bool) → AsCounted c o → AsCounted c (cond t leaves_range o)
  unless c o true counted = tt
  unless c o false counted = counted

  module _ (s : State) (c : Command) where
    -- the command with the font that is current at it
    abbrev this : Seen
    this = record { font = s.font; command = c }

    -- whether it is a rule, a character, a special, a selection
    abbrev Is : Bool → Bool → Bool → Bool → Type 0
    Is rule character other select = (is_rule c ≡ rule) × (is_character c ≡ character) × (is_a Kind.Special c ≡ other) × (is_a Kind.Select c ≡ select)

    -- one that is none of these is in no count, adds nothing and keeps the font
    quiet : Is false false false false → AsCounted this (continues s nothing)
    quiet (rule, character, other, select) = (rw select, no_more (rw (rule, character, other) none))

    -- so does a move
    moves : Is false false false false → (direction : Direction) (n : ℤ) (level : Level) → AsCounted this (moves_to direction s n level nothing)
    moves is direction n level = unless this _ (leaves ((spot_of direction s.level).position +ℤ n)) (quiet is)

    plain_moves : Is false false false false → (direction : Direction) → AsCounted this (plain_move direction setting s c.params)
    plain_moves is direction = moves is direction (distance c.params) _

    register_moves : Is false false false false → (register : Register) → AsCounted this (register_move register setting s c.params)
    register_moves is register = moves is (direction_of register) (distance_or (register_of register s.level) c.params) _

    -- a rule's sides, and its record where the page stands
    abbrev height : ℤ
    height = rule_height c.params

    abbrev width : ℤ
    width = rule_width c.params

    abbrev rule_here : Record
    rule_here = rule_record setting.page s.level (rounded_up setting.ruler.k height) (rounded_up setting.ruler.k width)

    -- a rule adds its record where it is visible
    rules : Is true false false false → (visible : Bool) → is_visible height width ≡ visible
        → AsCounted this (continues s (cond visible (placed rule_here) nothing))
    rules (rule, character, other, select) true e = (rw select, a_rule rule_here (rw (rule, character, other, e) (refl, refl, refl, refl)) (rw rule))
    rules (rule, character, other, select) false e = (rw select, no_more (rw (rule, character, other, e) none))

    -- a character that is put adds its record where it is found, else it is missing
    puts : Is false true false false → (l : LookUp) → setting.look s.font (code_of c) ≡ l → AsCounted this (put_character setting s (code_of c) l)
    puts (rule, character, other, select) absent e = (rw select, a_missing (rw (rule, character, other, e) (refl, refl, refl, refl)))
    puts (rule, character, other, select) (found m) e =
        let r = character_record setting.page s.level s.font (code_of c) m.escapement in
        (rw select, a_character r (rw (rule, character, other, e) (refl, refl, refl, refl)) (rw (rule, e)))

    -- so does one that is set
    sets : Is false true false false → (l : LookUp) → setting.look s.font (code_of c) ≡ l → AsCounted this (set_character setting s (code_of c) l)
    sets is absent e = puts is absent e
    sets is (found m) e = unless this _ (leaves (s.level.h +ℤ scaled_by s.font.scale m.width)) (puts is (found m) e)

    -- pop keeps the font
    popped_font : (saved : List Level) → (popped_to s saved).font ≡ s.font
    popped_font [] = refl
    popped_font (last ∷ before) = refl

    -- so it goes for each kind
    by_kind : (k : Kind) → kind_of_command c ≡ k → AsCounted this (after_kind k setting s c)
    by_kind Kind.SetCharacter e = sets (rw e (refl, refl, refl, refl)) (setting.look s.font (code_of c)) refl
    by_kind Kind.SetRule e = unless this _ (leaves (s.level.h +ℤ width)) (rules (rw e (refl, refl, refl, refl)) (is_visible height width) refl)
    by_kind Kind.PutCharacter e = puts (rw e (refl, refl, refl, refl)) (setting.look s.font (code_of c)) refl
    by_kind Kind.PutRule e = rules (rw e (refl, refl, refl, refl)) (is_visible height width) refl
    by_kind Kind.Nop e = quiet (rw e none)
    by_kind Kind.Bop e = quiet (rw e none)
    by_kind Kind.Eop e = quiet (rw e none)
    by_kind Kind.Push e = quiet (rw e none)
    by_kind Kind.Pop e = let (font, adding) = quiet (rw e none) in (popped_font s.saved ∙ font, adding)
    by_kind Kind.Right e = plain_moves (rw e none) Direction.Sideways
    by_kind Kind.W e = register_moves (rw e none) Register.W
    by_kind Kind.X e = register_moves (rw e none) Register.X
    by_kind Kind.Down e = plain_moves (rw e none) Direction.Down
    by_kind Kind.Y e = register_moves (rw e none) Register.Y
    by_kind Kind.Z e = register_moves (rw e none) Register.Z
    by_kind Kind.Select e = (rw e, no_more (rw e none))
    by_kind Kind.Special e = (rw e, a_special (rw e (refl, refl, refl, refl)))
    by_kind Kind.Define e = quiet (rw e none)
    by_kind Kind.Pre e = quiet (rw e none)
    by_kind Kind.Post e = quiet (rw e none)
    by_kind Kind.PostPost e = quiet (rw e none)
    by_kind Kind.Undefined e = quiet (rw e none)

    -- what a command comes to is what the counts and the fonts say
    pub as_counted : AsCounted (record { font = s.font; command = c }) (after setting s c)
    unfolding after
    as_counted = by_kind (kind_of_command c) refl

  -- ---- a page

  -- what a page comes to is tied to its commands
  pub record Tied (cs : List Seen) (p : Contents) : Type 0 where
    pub record_count : length p.placements ≡ count_of rule_visible cs + count_of (character_found setting) cs
    pub missing_count : p.missing_characters ≡ count_of (character_missing setting) cs
    pub special_count : p.specials ≡ count_of is_special cs
    pub record_order : map said_by p.placements ≡ map (said_of setting) (those (makes_record setting) cs)

  -- it stays tied with what a command before them adds
  tied_adding : (c : Seen) (added : Added) (cs : List Seen) (p : Contents) → Adding c added → Tied cs p → Tied (c ∷ cs) (adding added p)
  tied_adding c added cs p (a_rule r (rule, character, lacking, other) said) t =
      record {
        record_count = rw (rule, character) (omega (arith, t.record_count));
        missing_count = rw lacking t.missing_count;
        special_count = rw other t.special_count;
        record_order = rw rule (ap₂ ◌∷◌ said t.record_order);
      }
  tied_adding c added cs p (a_character r (rule, character, lacking, other) said) t =
      record {
        record_count = rw (rule, character) (omega (arith, t.record_count));
        missing_count = rw lacking t.missing_count;
        special_count = rw other t.special_count;
        record_order = rw (rule, character) (ap₂ ◌∷◌ said t.record_order);
      }
  tied_adding c added cs p (a_missing (rule, character, lacking, other)) t =
      record {
        record_count = rw (rule, character) t.record_count;
        missing_count = rw lacking (omega (arith, t.missing_count));
        special_count = rw other t.special_count;
        record_order = rw (rule, character) t.record_order;
      }
  tied_adding c added cs p (a_special (rule, character, lacking, other)) t =
      record {
        record_count = rw (rule, character) t.record_count;
        missing_count = rw lacking t.missing_count;
        special_count = rw other (omega (arith, t.special_count));
        record_order = rw (rule, character) t.record_order;
      }
  tied_adding c added cs p (no_more (rule, character, lacking, other)) t =
      record {
        record_count = rw (rule, character) t.record_count;
        missing_count = rw lacking t.missing_count;
        special_count = rw other t.special_count;
        record_order = rw (rule, character) t.record_order;
      }

  -- the page's counts and records are tied to its commands
  pub tied : (s : State) (cs : List Located) (p : Contents) → placing setting s cs ≡ given p → Tied (with_fonts setting s.font cs) p
  unfolding placing
  tied s [] p e = subst (Tied []) (given_same _ p e) (record { record_count = refl; missing_count = refl; special_count = refl; record_order = refl })
  tied s (c ∷ rest) p e = by (after setting s c.command) (as_counted s c.command) e (λ next. tied next rest)
    where
      by : (o : Outcome) → AsCounted (this s c.command) o → on_outcome c.at o (λ next. placing setting next rest) ≡ given p
          → ((next : State) (q : Contents) → placing setting next rest ≡ given q → Tied (with_fonts setting next.font rest) q)
          → Tied (with_fonts setting s.font (c ∷ rest)) p
      by leaves_range counted e onward = absurd (given_not_refused p position_out_of_range c.at (sym e))
      by (continues next added) (font, adds) e onward =
          let (q, placed-rest, same) = and_given (adding added) (placing setting next rest) p e in
          let tied-rest = subst (λ (f : Font). Tied (with_fonts setting f rest) q) font (onward next q placed-rest) in
          subst (Tied _) same (tied_adding (this s c.command) added _ q adds tied-rest)

  module _ (s : State) (cs : List Located) (p : Contents) (e : placing setting s cs ≡ given p) where
    -- there are as many records as visible rules and characters found
    pub records_counted : length p.placements ≡ count_of rule_visible (with_fonts setting s.font cs) + count_of (character_found setting) (with_fonts setting s.font cs)
    records_counted = (tied s cs p e).record_count

    -- as many missing characters as characters that the table has not
    pub missing_counted : p.missing_characters ≡ count_of (character_missing setting) (with_fonts setting s.font cs)
    missing_counted = (tied s cs p e).missing_count

    -- as many specials as special commands
    pub specials_counted : p.specials ≡ count_of is_special (with_fonts setting s.font cs)
    specials_counted = (tied s cs p e).special_count

    -- the records say, in order, what the commands that make one say; each names this page
    pub records_in_order : map said_by p.placements ≡ map (said_of setting) (those (makes_record setting) (with_fonts setting s.font cs))
    records_in_order = (tied s cs p e).record_order

  -- ---- a refusal

  -- a page is refused only by 16, with the place of the first of its own commands at which h or v would leave its range
  pub refused_place : (s : State) (cs : List Located) (n place : ℕ) → placing setting s cs ≡ refused n place → (n ≡ position_out_of_range) × LeavesAt setting place s cs
  unfolding placing
  refused_place s [] n place e = absurd (given_not_refused _ n place e)
  refused_place s (c ∷ rest) n place e = by (after setting s c.command) refl e (λ next. refused_place next rest n place)
    where
      by : (o : Outcome) → after setting s c.command ≡ o → on_outcome c.at o (λ next. placing setting next rest) ≡ refused n place
          → ((next : State) → placing setting next rest ≡ refused n place → (n ≡ position_out_of_range) × LeavesAt setting place next rest)
          → (n ≡ position_out_of_range) × LeavesAt setting place s (c ∷ rest)
      by leaves_range comes e onward = (cc, now s c rest comes (cc))
      by (continues next added) comes e onward =
          let (number, leaving) = onward next (and_refused (adding added) (placing setting next rest) n place e) in
          (number, later s c rest next added comes leaving)
