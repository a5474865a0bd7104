-- A placed page is refused with 16 only at one of its own commands that is no definition. Assumes nothing.
use Prim.Native.Nat.{ℕ, ◌*◌}
use mathlib.Core.Path.{◌≡◌, refl, sym, ◌∙◌}
use mathlib.Core.Bool.{Bool, true, false, true≢false}
use mathlib.Core.List.{List}
use mathlib.Core.Logic.{inl, inr}
use native.Mathlib.Omega.{arith}
use lib.Dec.{ltb, eqb}
use lib.ListN.{length}
use borrow.Author.Tests.{eq-eqb, ne_eqb}
use Rattle.refusals.specs.Numbers.{no_such_page, position_out_of_range, area_too_short}
use Rattle.refusals.specs.Answer.{Answer, refused, given, refuse_if, and_then}
use Rattle.refusals.specs.RefusedOnly.{RefusedOnly, UnitRefusal, TableRefusal}
use Rattle.refusals.proofs.Answer.{given_not_refused}
use Rattle.refusals.proofs.RefusedOnly.{only_wider, unit_numbers}
use Rattle.units.specs.Unit.{unit_of}
use Rattle.units.proofs.RefusedWith.{unit_refused_with}
use Rattle.widths.specs.Table.{width_record_size, checked_table}
use Rattle.widths.proofs.RefusedWith.{table_refused_with}
use Rattle.commands.specs.declared.Kind.TheVariants.{Define}
use Rattle.commands.specs.Commands.{Command}
use Rattle.list.specs.Past.{is_a, num, den, mag}
use Rattle.state.specs.Registers.{State, fresh_state}
use Rattle.placements.specs.Records.{placement_record_size, nothing}
use Rattle.turns.specs.Placing.{Located, Setting, continues, leaves_range, Contents, placing}
use Rattle.page.specs.PageList.{page_of}
use Rattle.turns.specs.Counting.{LeavesAt, now, later}
use Rattle.page.specs.Answers.{page_outside, setting_in, with_room, placed_in}
use Rattle.turns.proofs.CountLaws.{refused_place}
use Rattle.rewritten.proofs.Likeness.{define_quiet}
use Rattle.rewritten.proofs.Standing.{IsAmong}

-- ---- what is judged before the page's commands

-- a refusal with another number than 16
abbrev pub IsOther : ℕ → ℕ → Type 0
IsOther number place = eqb number position_out_of_range ≡ false

-- the units have other numbers
pub unit_other : (num den mag resolution : ℕ) → RefusedOnly IsOther (unit_of num den mag resolution)
unit_other num den mag resolution =
    only_wider UnitRefusal IsOther (unit_of num den mag resolution)
    (λ number place may. ne_eqb number position_out_of_range (λ e. omega (arith, (unit_numbers may).1)))
    (unit_refused_with num den mag resolution)

-- so has the table
pub table_other : (table : List ℕ) → RefusedOnly IsOther (checked_table table)
table_other table =
    only_wider (TableRefusal width_record_size table) IsOther (checked_table table)
    (λ number place may. ne_eqb number position_out_of_range (λ e. omega (arith, may.0)))
    (table_refused_with table)

module _ {at : ℕ} where
  -- a refusal with another number is none with 16
  other_not : {A : Type 0} (number place : ℕ) → IsOther number place → ◌≡◌ {A = Answer A} (refused number place) (refused position_out_of_range at) → ⊥
  other_not number place other e = let same : number ≡ position_out_of_range = cc in true≢false (sym (eq-eqb number position_out_of_range same) ∙ other)

  then_left : {A : Type 0} (x : Answer A) (next : A → Answer Contents) → RefusedOnly IsOther x → and_then x next ≡ refused position_out_of_range at
      → (a : A) × (next a ≡ refused position_out_of_range at)
  then_left (refused number place) next other e = absurd (other_not number place other e)
  then_left (given a) next other e = (a, e)

  inside_left : (outside : Bool) (next : Answer Contents) → refuse_if outside no_such_page 0 next ≡ refused position_out_of_range at → next ≡ refused position_out_of_range at
  inside_left true next e = absurd (other_not no_such_page 0 refl e)
  inside_left false next e = e

  room_left : (room : ℕ) (x : Answer Contents) → and_then x (with_room room) ≡ refused position_out_of_range at → x ≡ refused position_out_of_range at
  room_left room (refused number place) e = e
  room_left room (given p) e = absurd (by (ltb room (placement_record_size * length p.placements)) e)
    where
      by : (short : Bool) → refuse_if short area_too_short 0 (given p) ≡ refused position_out_of_range at → ⊥
      by true e = other_not area_too_short 0 refl e
      by false e = given_not_refused p position_out_of_range at e

  -- ---- the page's commands

  -- the command at which h or v would leave its range is no definition
  leaving : (setting : Setting) (s : State) (cs : List Located) → LeavesAt setting at s cs → (c : Command) × (is_a Define c ≡ false) × IsAmong at c cs
  leaving setting s cs (now s' c rest comes there) = (c.command, by (is_a Define c.command) refl, inl (there, refl))
    where
      by : (define : Bool) → is_a Define c.command ≡ define → define ≡ false
      by false d = refl
      by true d =
          let still : continues s nothing ≡ leaves_range = sym (define_quiet setting s c.command d) ∙ comes in
          let z : ◌≡◌ {A = ℕ} 0 1 = cc in absurd (omega arith)
  leaving setting s cs (later s' c rest next added comes further) =
      let (d, plain, among) = leaving setting next rest further in (d, plain, inr among)

  -- so 16 is at one of the page's commands that is no definition
  pub left_at : (past : List Command) (table : List ℕ) (resolution page room count : ℕ)
      → placed_in past table resolution page room count ≡ refused position_out_of_range at
      → (c : Command) × (is_a Define c ≡ false) × IsAmong at c (page_of page past)
  left_at past table resolution page room count e =
      let (k, e1) = then_left (unit_of (num past) (den past) (mag past) resolution) _ (unit_other (num past) (den past) (mag past) resolution) e in
      let (rows, e2) = then_left (checked_table table) _ (table_other table) e1 in
      let setting = setting_in past table k resolution rows page in
      let e3 = inside_left (page_outside page count) _ e2 in
      let e4 = room_left room (placing setting fresh_state (page_of page past)) e3 in
      leaving setting fresh_state (page_of page past) (refused_place setting fresh_state (page_of page past) position_out_of_range at e4).1
