-- What a character asks, by what was looked up for it. Assumes nothing.
use mathlib.Core.Path.{◌≡◌, refl, sym, subst}
use mathlib.Core.Bool.{Bool, true, false}
use Prim.Native.Nat.{◌≤◌, ◌^◌}
use lib.IntN.{ℤ, nat_abs, ◌+ℤ◌}
use Rattle.widths.specs.declared.Metric.{Metric}
use Rattle.scaling.specs.Scaling.{scaled_by}
use Rattle.widths.specs.LookUp.{LookUp, found, absent}
use Rattle.state.specs.declared.Level.{Level}
use Rattle.state.specs.declared.Font.{Font}
use Rattle.state.specs.declared.moving.Direction.TheVariants as Direction
use Rattle.state.specs.Moving.{leaves}
use Rattle.state.specs.Steps.{Bounded}
use Rattle.placements.specs.declared.Record.{Record}
use Rattle.turns.specs.declared.Terms.{Terms}
use Rattle.placements.specs.declared.Adds.{Adds}
use Rattle.turns.specs.declared.Turn.{Turn}
use Rattle.placements.specs.Records.{character_record}
use Rattle.turns.specs.Placing.{look_in}
use Rattle.placements.specs.Steps.{InWords}
use Rattle.turns.specs.Steps.{state_with, terms_setting, unless_left, CharacterAsks}
use Rattle.placements.proofs.RecordWords.{of_bits, read_record}
use Rattle.turns.proofs.TurnLaws.{did_unless, safe_unless, inside_unless}

-- a turn and what is added are what the character asks, whatever the hint
abbrev Asks : Terms → Level → Font → Bool → ℤ → Turn → Adds → Type 0
Asks terms level font sets code turn adds = CharacterAsks terms level font sets code (record { turn = turn; adds = adds; hint = 0 })

abbrev looked : Terms → Font → ℤ → LookUp
looked terms font code = look_in terms.widths.bytes.now terms.widths.records font code

-- a missing character asks the same, set or put
pub absent_asks : (terms : Terms) (level : Level) (font : Font) (sets : Bool) (code : ℤ) → looked terms font code ≡ absent
    → Asks terms level font sets code Turn.Stay Adds.Missing
absent_asks terms level font true code is volume = (record { does = λ saved. rw is; safe = tt; words = tt }, refl)
absent_asks terms level font false code is volume = (record { does = λ saved. rw is; safe = tt; words = tt }, refl)

-- a character whose record was found
pub record Present (terms : Terms) (level : Level) (font : Font) (code : ℤ) (m : Metric) : Type 0 where
  pub is : looked terms font code ≡ found m
  pub bounded : Bounded level
  pub code_small : nat_abs code ≤ 2 ^ 31
  pub escapement_small : nat_abs m.escapement ≤ 2 ^ 31
  pub width_small : nat_abs (scaled_by font.scale m.width) ≤ 2 ^ 31

module _ {terms : Terms} {level : Level} {font : Font} {code : ℤ} {m : Metric} (p : Present terms level font code m) where
  abbrev here : Record
  here = character_record terms.page level font code m.escapement

  words : InWords here
  words = record { hh_in = p.bounded.hh_in; vv_in = p.bounded.vv_in; content_in = p.code_small; extent_in = p.escapement_small }

  -- the turn that adds its record, as the code holds the record
  abbrev Places : Bool → Turn → Type 0
  Places sets turn = Asks terms level font sets code turn (Adds.Placed (of_bits here))

  placing : (sets : Bool) (turn : Turn) → Asks terms level font sets code turn (Adds.Placed here) → Places sets turn
  placing sets turn asks = subst (λ (r : Record). Asks terms level font sets code turn (Adds.Placed r)) (sym (read_record here words)) asks

  pub put_asks : {sets : Bool} → sets ≡ false → Places sets Turn.Stay
  put_asks {sets} put = placing sets Turn.Stay (λ volume. (record { does = λ saved. rw (p.is, put); safe = tt; words = words }, refl))

  abbrev width : ℤ
  width = scaled_by font.scale m.width

  abbrev past : Turn
  past = Turn.PastCharacter width m.escapement

  -- past the character, unless h would leave its range
  pub set_asks : {sets : Bool} {turn : Turn} → sets ≡ true → turn ≡ unless_left Direction.Sideways level width past → Places sets turn
  set_asks {sets} set turn_is =
      subst (Places sets) (sym turn_is)
      (placing sets (unless_left Direction.Sideways level width past) (λ volume. (
        record {
          does = λ saved. rw (p.is, set) (did_unless (terms_setting terms volume) (state_with level saved font) past (Adds.Placed here) (leaves (level.h +ℤ width)));
          safe = safe_unless Direction.Sideways level width past (λ stays. ((p.width_small, stays), p.escapement_small));
          words = words;
        },
        inside_unless Direction.Sideways level width past refl,
      )))
