-- What the turns of commands come to: the outcome that is meant, what the page's methods need, and that each suits its command's kind.
-- Assumes nothing.
use mathlib.Core.Path.{◌≡◌, refl, sym, ap, ◌∙◌, subst}
use mathlib.Core.Bool.{Bool, true, false, cond, not, ◌&&◌, false≢true}
use mathlib.Core.List.{List}
use Prim.Native.Nat.{ℕ, ◌+◌, ◌<◌, ◌≤◌, ◌^◌}
use native.Mathlib.Omega.{arith}
use lib.Dec.{leb, eqb}
use lib.ListN.{length, get_or}
use lib.IntN.{ℤ, nat_abs, ◌+ℤ◌}
use borrow.Author.Tests.{leb-true, not-true}
use Rattle.numbers.specs.Bytes.{unsigned_at}
use Rattle.numbers.proofs.Bytes.{power_le, unsigned_below}
use Rattle.numbers.proofs.Signed.{abs_cond, from_small}
use Rattle.commands.specs.declared.Kind.{Kind}
use Rattle.commands.specs.Commands.{Command, Whole, kind_of_command}
use Rattle.commands.specs.Parameters.{distance, rule_height, rule_width}
use Rattle.commands.specs.ByKind.{last, fixed_by}
use Rattle.commands.proofs.ParameterLengths.{has_inner, whole_at_most}
use Rattle.list.proofs.Arms.{on_kinds}
use Rattle.state.specs.declared.Level.{Level}
use Rattle.state.specs.declared.Font.{Font}
use Rattle.state.specs.declared.moving.Direction.{Direction}
use Rattle.state.specs.declared.moving.Stride.TheVariants as Stride
use Rattle.state.specs.declared.registers.Register.{Register}
use Rattle.state.specs.Moving.{leaves}
use Rattle.state.specs.Registers.{State, spot_of, moved_by, register_of, direction_of}
use Rattle.state.specs.Steps.{Bounded}
use Rattle.state.proofs.Levels.{register_in}
use Rattle.turns.specs.declared.Terms.{Terms}
use Rattle.placements.specs.declared.Adds.{Adds}
use Rattle.turns.specs.declared.Turn.{Turn}
use Rattle.turns.specs.declared.Asked.{Asked}
use Rattle.turns.specs.Placing.{Setting, Outcome, continues, leaves_range, moves_to, rule_added, set_rule, plain_move, distance_or, register_move, after_kind, after}
use Rattle.placements.specs.Records.{Added}
use Rattle.turns.specs.Blocks.{inside}
use Rattle.placements.specs.Steps.{added_of}
use Rattle.turns.specs.Steps.{state_with, did, Safe, turn_frame, Suits, terms_setting, Comes, rule_by, unless_left, plain_turn, register_turn, turn_of, is_move, MoveFits, RuleAsks, CommandAsks}

-- ---- a turn, unless h or v would leave its range

module _ (setting : Setting) (s : State) (turn : Turn) (adds : Adds) where
  pub did_unless : (t : Bool) → did setting s (cond t Turn.Leave turn) adds ≡ cond t leaves_range (did setting s turn adds)
  did_unless true = refl
  did_unless false = refl

module _ (direction : Direction) (level : Level) (n : ℤ) (turn : Turn) where
  pub safe_unless : (leaves ((spot_of direction level).position +ℤ n) ≡ false → Safe level turn) → Safe level (unless_left direction level n turn)
  safe_unless safe = by (leaves ((spot_of direction level).position +ℤ n)) refl
    where
      by : (t : Bool) → leaves ((spot_of direction level).position +ℤ n) ≡ t → Safe level (cond t Turn.Leave turn)
      by true e = tt
      by false e = safe e

  pub inside_unless : turn_frame turn ≡ inside → turn_frame (unless_left direction level n turn) ≡ inside
  inside_unless is-inside = by (leaves ((spot_of direction level).position +ℤ n))
    where
      by : (t : Bool) → turn_frame (cond t Turn.Leave turn) ≡ inside
      by true = refl
      by false = is-inside

-- ---- commands that add nothing but a turn

abbrev pub only_turns : Kind → Bool
only_turns Kind.SetCharacter = false
only_turns Kind.SetRule = false
only_turns Kind.PutCharacter = false
only_turns Kind.PutRule = false
only_turns Kind.Nop = true
only_turns Kind.Bop = true
only_turns Kind.Eop = true
only_turns Kind.Push = true
only_turns Kind.Pop = true
only_turns Kind.Right = true
only_turns Kind.W = true
only_turns Kind.X = true
only_turns Kind.Down = true
only_turns Kind.Y = true
only_turns Kind.Z = true
only_turns Kind.Select = false
only_turns Kind.Special = false
only_turns Kind.Define = true
only_turns Kind.Pre = true
only_turns Kind.Post = true
only_turns Kind.PostPost = true
only_turns Kind.Undefined = true

-- one that is none of the six others
pub turns_alone : (k : Kind) → (k ≡ Kind.SetCharacter → ⊥) → (k ≡ Kind.SetRule → ⊥) → (k ≡ Kind.PutCharacter → ⊥) → (k ≡ Kind.PutRule → ⊥) → (k ≡ Kind.Select → ⊥) → (k ≡ Kind.Special → ⊥)
    → only_turns k ≡ true
turns_alone Kind.SetCharacter sets sets-rule puts puts-rule selects special = absurd (sets refl)
turns_alone Kind.SetRule sets sets-rule puts puts-rule selects special = absurd (sets-rule refl)
turns_alone Kind.PutCharacter sets sets-rule puts puts-rule selects special = absurd (puts refl)
turns_alone Kind.PutRule sets sets-rule puts puts-rule selects special = absurd (puts-rule refl)
turns_alone Kind.Nop sets sets-rule puts puts-rule selects special = refl
turns_alone Kind.Bop sets sets-rule puts puts-rule selects special = refl
turns_alone Kind.Eop sets sets-rule puts puts-rule selects special = refl
turns_alone Kind.Push sets sets-rule puts puts-rule selects special = refl
turns_alone Kind.Pop sets sets-rule puts puts-rule selects special = refl
turns_alone Kind.Right sets sets-rule puts puts-rule selects special = refl
turns_alone Kind.W sets sets-rule puts puts-rule selects special = refl
turns_alone Kind.X sets sets-rule puts puts-rule selects special = refl
turns_alone Kind.Down sets sets-rule puts puts-rule selects special = refl
turns_alone Kind.Y sets sets-rule puts puts-rule selects special = refl
turns_alone Kind.Z sets sets-rule puts puts-rule selects special = refl
turns_alone Kind.Select sets sets-rule puts puts-rule selects special = absurd (selects refl)
turns_alone Kind.Special sets sets-rule puts puts-rule selects special = absurd (special refl)
turns_alone Kind.Define sets sets-rule puts puts-rule selects special = refl
turns_alone Kind.Pre sets sets-rule puts puts-rule selects special = refl
turns_alone Kind.Post sets sets-rule puts puts-rule selects special = refl
turns_alone Kind.PostPost sets sets-rule puts puts-rule selects special = refl
turns_alone Kind.Undefined sets sets-rule puts puts-rule selects special = refl

module _ (setting : Setting) (level : Level) (saved : List Level) (font : Font) (c : Command) where
  abbrev s : State
  s = state_with level saved font

  plain_does : (direction : Direction) → did setting s (plain_turn direction level c.params) Adds.Nothing ≡ plain_move direction setting s c.params
  plain_does Direction.Sideways = let n = distance c.params in did_unless setting s (Turn.Sideways Stride.Rounded n) Adds.Nothing (leaves (level.h +ℤ n))
  plain_does Direction.Down = let n = distance c.params in did_unless setting s (Turn.Down n) Adds.Nothing (leaves (level.v +ℤ n))

  register_does : (register : Register) → did setting s (register_turn register level c.params) Adds.Nothing ≡ register_move register setting s c.params
  register_does register =
      let n = distance_or (register_of register level) c.params in
      did_unless setting s (Turn.ByRegister register n) Adds.Nothing (leaves ((spot_of (direction_of register) level).position +ℤ n))

  -- the turn of a kind comes to what is meant by a command of it
  pub turn_does : (k : Kind) → only_turns k ≡ true → did setting s (turn_of k level c.params) Adds.Nothing ≡ after_kind k setting s c
  turn_does Kind.SetCharacter only = absurd (false≢true only)
  turn_does Kind.SetRule only = absurd (false≢true only)
  turn_does Kind.PutCharacter only = absurd (false≢true only)
  turn_does Kind.PutRule only = absurd (false≢true only)
  turn_does Kind.Nop only = refl
  turn_does Kind.Bop only = refl
  turn_does Kind.Eop only = refl
  turn_does Kind.Push only = refl
  turn_does Kind.Pop only = refl
  turn_does Kind.Right only = plain_does Direction.Sideways
  turn_does Kind.W only = register_does Register.W
  turn_does Kind.X only = register_does Register.X
  turn_does Kind.Down only = plain_does Direction.Down
  turn_does Kind.Y only = register_does Register.Y
  turn_does Kind.Z only = register_does Register.Z
  turn_does Kind.Select only = absurd (false≢true only)
  turn_does Kind.Special only = absurd (false≢true only)
  turn_does Kind.Define only = refl
  turn_does Kind.Pre only = refl
  turn_does Kind.Post only = refl
  turn_does Kind.PostPost only = refl
  turn_does Kind.Undefined only = refl

  -- what a command comes to is what its kind comes to
  pub after_kind_lem : (k : Kind) → kind_of_command c ≡ k → after_kind k setting s c ≡ after setting s c
  unfolding after
  after_kind_lem k e = sym (ap (λ (kind : Kind). after_kind kind setting s c) e)

module _ (level : Level) (params : List ℕ) where
  plain_inside : (direction : Direction) → turn_frame (plain_turn direction level params) ≡ inside
  plain_inside Direction.Sideways = let n = distance params in inside_unless Direction.Sideways level n (Turn.Sideways Stride.Rounded n) refl
  plain_inside Direction.Down = let n = distance params in inside_unless Direction.Down level n (Turn.Down n) refl

  register_inside : (register : Register) → turn_frame (register_turn register level params) ≡ inside
  register_inside register =
      let n = distance_or (register_of register level) params in inside_unless (direction_of register) level n (Turn.ByRegister register n) refl

  -- the turn of a kind suits it
  pub turn_suits : (k : Kind) → Suits k (turn_of k level params)
  turn_suits Kind.SetCharacter = refl
  turn_suits Kind.SetRule = refl
  turn_suits Kind.PutCharacter = refl
  turn_suits Kind.PutRule = refl
  turn_suits Kind.Nop = refl
  turn_suits Kind.Bop = refl
  turn_suits Kind.Eop = refl
  turn_suits Kind.Push = refl
  turn_suits Kind.Pop = refl
  turn_suits Kind.Right = plain_inside Direction.Sideways
  turn_suits Kind.W = register_inside Register.W
  turn_suits Kind.X = register_inside Register.X
  turn_suits Kind.Down = plain_inside Direction.Down
  turn_suits Kind.Y = register_inside Register.Y
  turn_suits Kind.Z = register_inside Register.Z
  turn_suits Kind.Select = refl
  turn_suits Kind.Special = refl
  turn_suits Kind.Define = refl
  turn_suits Kind.Pre = refl
  turn_suits Kind.Post = refl
  turn_suits Kind.PostPost = refl
  turn_suits Kind.Undefined = refl

-- ---- what the page's methods need of a turn

module _ (params : List ℕ) (bytes : (i : ℕ) → get_or params i 0 < 256) where
  -- a distance of at most four bytes is one of 32 bits
  distance_small : length params ≤ 4 → nat_abs (distance params) ≤ 2 ^ 31
  distance_small h =
      omega (arith, from_small (256 ^ length params) (unsigned_at params 0 (length params)) (unsigned_below params 0 (length params) (λ i h. bytes (0 + i))), power_le (length params) 4 h)

  or_small : (register : ℤ) → nat_abs register ≤ 2 ^ 31 → length params ≤ 4 → nat_abs (distance_or register params) ≤ 2 ^ 31
  or_small register r h = omega (arith, abs_cond (eqb (length params) 0) register (distance params), r, distance_small h)

  module _ (level : Level) (bounded : Bounded level) where
    plain_safe : (direction : Direction) → length params ≤ 4 → Safe level (plain_turn direction level params)
    plain_safe Direction.Sideways fits = let n = distance params in safe_unless Direction.Sideways level n (Turn.Sideways Stride.Rounded n) (λ stays. (distance_small fits, stays))
    plain_safe Direction.Down fits = let n = distance params in safe_unless Direction.Down level n (Turn.Down n) (λ stays. (distance_small fits, stays))

    register_safe : (register : Register) → length params ≤ 4 → Safe level (register_turn register level params)
    register_safe register fits =
        let n = distance_or (register_of register level) params in
        safe_unless (direction_of register) level n (Turn.ByRegister register n) (λ stays. (or_small (register_of register level) (register_in register level bounded) fits, stays))

    -- the turn of a kind is one that the page's methods take
    pub turn_safe : (k : Kind) → MoveFits k params → Safe level (turn_of k level params)
    turn_safe Kind.SetCharacter fits = tt
    turn_safe Kind.SetRule fits = tt
    turn_safe Kind.PutCharacter fits = tt
    turn_safe Kind.PutRule fits = tt
    turn_safe Kind.Nop fits = tt
    turn_safe Kind.Bop fits = tt
    turn_safe Kind.Eop fits = tt
    turn_safe Kind.Push fits = tt
    turn_safe Kind.Pop fits = tt
    turn_safe Kind.Right fits = plain_safe Direction.Sideways (fits refl)
    turn_safe Kind.W fits = register_safe Register.W (fits refl)
    turn_safe Kind.X fits = register_safe Register.X (fits refl)
    turn_safe Kind.Down fits = plain_safe Direction.Down (fits refl)
    turn_safe Kind.Y fits = register_safe Register.Y (fits refl)
    turn_safe Kind.Z fits = register_safe Register.Z (fits refl)
    turn_safe Kind.Select fits = tt
    turn_safe Kind.Special fits = tt
    turn_safe Kind.Define fits = tt
    turn_safe Kind.Pre fits = tt
    turn_safe Kind.Post fits = tt
    turn_safe Kind.PostPost fits = tt
    turn_safe Kind.Undefined fits = tt

-- where one of two tests cannot hold without the other
implied : (a b : Bool) → (a && not b) ≡ false → a ≡ true → b ≡ true
implied true true e t = refl
implied true false e t = sym e
implied false b e t = absurd (false≢true t)

-- a move's distance has at most four bytes
pub move_fits : (c : Command) → Whole c → MoveFits (kind_of_command c) c.params
move_fits c w is_a_move =
    let k = kind_of_command c in
    let short = implied (is_move k) (leb (fixed_by k (last k)) 4) (on_kinds (λ j. is_move j && not (leb (fixed_by j (last j)) 4)) (λ j. false) refl k) is_a_move in
    let plain = implied (is_move k) (not (has_inner k)) (on_kinds (λ j. is_move j && not (not (has_inner j))) (λ j. false) refl k) is_a_move in
    omega (arith, whole_at_most c w refl (not-true (has_inner k) plain), leb-true (fixed_by k (last k)) 4 short)

-- ---- what a command of a kind asks

module _ (setting : Setting) (level : Level) (font : Font) (c : Command) (r : Asked) (k : Kind) (is-k : kind_of_command c ≡ k) where
  -- what is asked by its kind is what is asked by the command
  pub asks_by_kind : Comes setting level font (λ s. after_kind k setting s c) r.turn r.adds → Suits k r.turn → CommandAsks setting level font c r
  asks_by_kind comes suits = (
    record { does = λ saved. comes.does saved ∙ after_kind_lem setting level saved font c k is-k; safe = comes.safe; words = comes.words },
    subst (λ (kind : Kind). Suits kind r.turn) (sym is-k) suits,
  )

module _ (terms : Terms) (volume : List Command) (level : Level) (font : Font) (params : List ℕ) (bounded : Bounded level) (bytes : (i : ℕ) → get_or params i 0 < 256) where
  abbrev past : Turn
  past = Turn.Sideways Stride.RoundedUp (rule_width params)

  -- what a rule comes to that is set
  rule_does : (saved : List Level) (adds : Adds) → added_of adds ≡ rule_by terms level (rule_height params) (rule_width params)
      → did (terms_setting terms volume) (state_with level saved font) (unless_left Direction.Sideways level (rule_width params) past) adds
      ≡ set_rule (terms_setting terms volume) (state_with level saved font) (rule_height params) (rule_width params)
  rule_does saved adds e =
      let s = state_with level saved font in
      let leads : Added → Outcome = moves_to Direction.Sideways s (rule_width params) (moved_by Direction.Sideways Stride.RoundedUp terms.ruler font.scale (rule_width params) level) in
      did_unless (terms_setting terms volume) s past adds (leaves (level.h +ℤ rule_width params)) ∙ ap leads e

  width_small : nat_abs (rule_width params) ≤ 2 ^ 31
  width_small = omega (arith, from_small (256 ^ 4) (unsigned_at params 4 4) (unsigned_below params 4 4 (λ i h. bytes (4 + i))))

  pub rule_sets : (r : Asked) → RuleAsks terms level true params r
      → Comes (terms_setting terms volume) level font (λ s. set_rule (terms_setting terms volume) s (rule_height params) (rule_width params)) r.turn r.adds × (turn_frame r.turn ≡ inside)
  rule_sets r asks = (
    record {
      does = λ saved. ap (λ (turn : Turn). did (terms_setting terms volume) (state_with level saved font) turn r.adds) asks.turn_is ∙ rule_does saved r.adds asks.adds_are;
      safe = subst (Safe level) (sym asks.turn_is) (safe_unless Direction.Sideways level (rule_width params) past (λ stays. (width_small, stays)));
      words = asks.words;
    },
    ap turn_frame asks.turn_is ∙ inside_unless Direction.Sideways level (rule_width params) past refl,
  )

  pub rule_puts : (r : Asked) → RuleAsks terms level false params r
      → Comes (terms_setting terms volume) level font (λ s. continues s (rule_added (terms_setting terms volume) s (rule_height params) (rule_width params))) r.turn r.adds
      × (turn_frame r.turn ≡ inside)
  rule_puts r asks = (
    record {
      does = λ saved. ap (λ (turn : Turn). did (terms_setting terms volume) (state_with level saved font) turn r.adds) asks.turn_is ∙ ap (continues (state_with level saved font)) asks.adds_are;
      safe = subst (Safe level) (sym asks.turn_is) tt;
      words = asks.words;
    },
    ap turn_frame asks.turn_is,
  )
