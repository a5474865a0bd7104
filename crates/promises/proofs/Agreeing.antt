-- Two lists of commands, the newest first, of which everything that a later command is judged or placed by is the same. Assumes nothing.
use Prim.Native.Nat.{ℕ}
use mathlib.Core.Path.{◌≡◌, refl, sym, ap, ◌∙◌}
use mathlib.Core.Bool.{Bool, true, false, cond, ◌||◌}
use mathlib.Core.List.{List, [], ◌∷◌}
use lib.IntN.{ℤ}
use Rattle.refusals.specs.Numbers.{no_such_page}
use Rattle.refusals.specs.Answer.{Answer, refused, given, refuse_if, and_then}
use Rattle.units.specs.declared.Ratio.{Ratio}
use Rattle.units.specs.Unit.{unit_of}
use Rattle.widths.specs.Table.{checked_table}
use Rattle.widths.specs.LookUp.{LookUp, found, absent}
use Rattle.commands.specs.declared.Kind.{Kind}
use Rattle.commands.specs.declared.Kind.TheVariants.{SetCharacter, PutCharacter, Select}
use Rattle.commands.specs.Kinds.{is}
use Rattle.commands.specs.declared.fields.UnsignedField.{UnsignedField}
use Rattle.commands.specs.Fields.{pre_num, pre_den, pre_mag}
use Rattle.commands.specs.Parameters.{character_code, selected_font}
use Rattle.commands.specs.Commands.{Command, kind_of_command, place}
use Rattle.list.specs.Past.{is_a, stage, depth, greatest, pages, last_bop, post_place, unit_in, num, den, mag, selected, font_number, definition_of, font_count}
use Rattle.list.specs.Rules.{fault, Allowed}
use Rattle.list.specs.Lawful.{Follows, ends, goes}
use Rattle.volume.specs.Judged.{summary}
use Rattle.volume.specs.OfList.{up_to_last}
use Rattle.list.proofs.FaultLaws.{none_broken, all_kept}
use Rattle.list.proofs.Arms.{on_kinds, is_kind}
use Rattle.state.specs.Registers.{State, fresh_state}
use Rattle.turns.specs.Placing.{Located, Setting, Outcome, continues, leaves_range, set_character, put_character, after_kind, after, Contents, adding, on_outcome, placing}
use Rattle.page.specs.PageList.{page_of}
use Rattle.page.specs.Answers.{page_outside, setting_in, with_room, placed_in}

pub record Agree (past past' : List Command) : Type 0 where
  pub same_place : place past ≡ place past'
  pub same_stage : stage past ≡ stage past'
  pub same_depth : depth past ≡ depth past'
  pub same_greatest : greatest past ≡ greatest past'
  pub same_pages : pages past ≡ pages past'
  pub same_bop : last_bop past ≡ last_bop past'
  pub same_post : post_place past ≡ post_place past'
  pub same_unit : (field : UnsignedField) → unit_in field past ≡ unit_in field past'
  pub same_selected : selected past ≡ selected past'
  pub same_definition : (after : Bool) (number : ℤ) → definition_of after number past ≡ definition_of after number past'
  pub same_count : (after : Bool) → font_count after past ≡ font_count after past'
  pub same_page : (page : ℕ) → page_of page past ≡ page_of page past'

module _ {past past' : List Command} (a : Agree past past') where
  -- they agree after one more command
  agree_more : (c : Command) → Agree (c ∷ past) (c ∷ past')
  agree_more c =
      record {
        same_place = rw a.same_place;
        same_stage = rw a.same_stage;
        same_depth = rw a.same_depth;
        same_greatest = rw (a.same_greatest, a.same_depth);
        same_pages = rw a.same_pages;
        same_bop = rw (a.same_place, a.same_bop);
        same_post = rw (a.same_place, a.same_post);
        same_unit = λ field. rw (a.same_unit field);
        same_selected = rw a.same_selected;
        same_definition = λ after number. rw (a.same_stage, a.same_place, a.same_definition after number);
        same_count = λ after. rw (a.same_stage, a.same_count after);
        same_page = λ page. rw (a.same_stage, a.same_pages, a.same_place, a.same_page page);
      }

  -- what the check gives of them
  pub same_summary : summary past ≡ summary past'
  same_summary = rw (a.same_pages, a.same_count false, a.same_greatest, a.same_post)

  -- the next command breaks the same rule, or none
  same_fault : (c : Command) → fault past c ≡ fault past' c
  same_fault c =
      rw (
        a.same_stage,
        a.same_depth,
        a.same_greatest,
        a.same_pages,
        a.same_bop,
        a.same_post,
        a.same_unit pre_num,
        a.same_unit pre_den,
        a.same_unit pre_mag,
        a.same_selected,
        a.same_definition false (font_number c),
        a.same_definition true (font_number c),
        a.same_definition false (selected_font c.opcode c.params),
        a.same_count false,
        a.same_count true,
      )

  agree_allowed : {c : Command} → Allowed past c → Allowed past' c
  agree_allowed {c} allowed = all_kept past' c (sym (same_fault c) ∙ none_broken past c allowed)

-- a list goes on after the one as after the other, and they agree at its end
pub agree_follows : {past past' cs : List Command} → Agree past past' → Follows past cs → Follows past' cs × Agree (up_to_last past cs) (up_to_last past' cs)
agree_follows a (ends {c = c} n w allowed last enough) = (ends n w (agree_allowed a allowed) last enough, rw last (agree_more a c))
agree_follows a (goes {c = c} w allowed not_last follows) =
    let (onwards, at_end) = agree_follows (agree_more a c) follows in (goes w (agree_allowed a allowed) not_last onwards, rw not_last at_end)

-- ---- placing

-- what follows of an answer is the same if it is the same of each result
then_same : {A B : Type 0} (x : Answer A) {f g : A → Answer B} → ((y : A) → f y ≡ g y) → and_then x f ≡ and_then x g
then_same (refused number at) h = refl
then_same (given y) h = h y

module _ {past past' : List Command} (a : Agree past past') (table : List ℕ) (resolution rows page : ℕ) (k : Ratio) where
  abbrev one : Setting
  one = setting_in past table k resolution rows page

  abbrev other : Setting
  other = setting_in past' table k resolution rows page

  module _ (s : State) (c : Command) where
    -- a character asks nothing of it
    same_set : (code : ℤ) (l : LookUp) → set_character one s code l ≡ set_character other s code l
    same_set code absent = refl
    same_set code (found m) = refl

    same_put : (code : ℤ) (l : LookUp) → put_character one s code l ≡ put_character other s code l
    same_put code absent = refl
    same_put code (found m) = refl

    abbrev code : ℤ
    code = character_code c.opcode c.params

    -- nor does a command of another kind than these and a selection
    abbrev of_others : Setting → Kind → Outcome
    of_others setting kind = cond (is kind Select || (is kind SetCharacter || is kind PutCharacter)) leaves_range (after_kind kind setting s c)

    by_kind : (select set put : Bool) → is_a Select c ≡ select → is_a SetCharacter c ≡ set → is_a PutCharacter c ≡ put
        → after_kind (kind_of_command c) one s c ≡ after_kind (kind_of_command c) other s c
    by_kind true set put e f g = rw (is_kind (kind_of_command c) Select e, a.same_definition false (selected_font c.opcode c.params))
    by_kind false true put e f g = rw (is_kind (kind_of_command c) SetCharacter f) (same_set code (one.look s.font code))
    by_kind false false true e f g = rw (is_kind (kind_of_command c) PutCharacter g) (same_put code (one.look s.font code))
    by_kind false false false e f g = rw (e, f, g) at (on_kinds (of_others one) (of_others other) refl (kind_of_command c))

    -- a command asks of the volume only what the definitions before post say
    same_after : after one s c ≡ after other s c
    unfolding after
    same_after = by_kind (is_a Select c) (is_a SetCharacter c) (is_a PutCharacter c) refl refl refl

  same_onwards : (place : ℕ) (own : List Located) → ((s : State) → placing one s own ≡ placing other s own)
      → (o : Outcome) → on_outcome place o (λ next. placing one next own) ≡ on_outcome place o (λ next. placing other next own)
  same_onwards place own h leaves_range = refl
  same_onwards place own h (continues next added) = ap (λ (x : Answer Contents). and_then x (λ p. given (adding added p))) (h next)

  same_placing : (own : List Located) (s : State) → placing one s own ≡ placing other s own
  unfolding placing
  same_placing [] s = refl
  same_placing (c ∷ own) s = rw (same_after s c.command) (same_onwards c.at own (same_placing own) (after other s c.command))

-- each page of the one volume is placed as that of the other
pub same_placed : {past past' : List Command} → Agree past past' → (table : List ℕ) (resolution page room pages : ℕ)
    → placed_in past table resolution page room pages ≡ placed_in past' table resolution page room pages
same_placed {past} {past'} a table resolution page room pages =
    let unit : List Command → Answer Ratio = λ volume. unit_of (num volume) (den volume) (mag volume) resolution in
    let same_unit : unit past ≡ unit past' = rw (a.same_unit pre_num, a.same_unit pre_den, a.same_unit pre_mag) in
    let after-unit : Ratio → Answer Contents = λ k. and_then (checked_table table) (λ rows. refuse_if (page_outside page pages) no_such_page 0 (and_then (placing (setting_in past table k resolution rows page) fresh_state (page_of page past)) (with_room room))) in
    ap (λ (x : Answer Ratio). and_then x after-unit) same_unit
    ∙ then_same (unit past') (λ k.
    then_same (checked_table table) (λ rows.
    ap (λ (x : Answer Contents). refuse_if (page_outside page pages) no_such_page 0 (and_then x (with_room room)))
    (ap (placing (setting_in past table k resolution rows page) fresh_state) (a.same_page page)
    ∙ same_placing a table resolution rows page k (page_of page past') fresh_state)))
