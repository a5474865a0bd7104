-- A page's counts, and its refusal, do not depend on the ruler by which pixels are worked out. Assumes nothing.
use Prim.Native.Nat.{ℕ, ◌+◌, ◌*◌}
use native.Mathlib.Nat.{zero-add}
use native.Mathlib.Omega.{arith}
use mathlib.Core.Path.{◌≡◌, refl, sym, ap, ◌∙◌}
use mathlib.Core.Bool.{Bool, true, false, cond}
use mathlib.Core.List.{List, [], ◌∷◌, map}
use lib.IntN.{ℤ, pos, ◌+ℤ◌}
use borrow.Author.Tests.{lt-leb}
use Rattle.refusals.specs.Answer.{Answer, refused, given, and_then}
use Rattle.scaling.specs.Scaling.{scaled_by}
use Rattle.widths.specs.LookUp.{LookUp, found, absent}
use Rattle.commands.specs.declared.Kind.{Kind}
use Rattle.commands.specs.Commands.{Command, kind_of_command}
use Rattle.commands.specs.Parameters.{character_code, distance, rule_width}
use Rattle.state.specs.declared.Level.{Level}
use Rattle.state.specs.declared.moving.Ruler.{Ruler}
use Rattle.state.specs.Moving.{leaves}
use Rattle.state.specs.Registers.{State, popped_to}
use Rattle.placements.specs.declared.Record.{Record}
use Rattle.placements.specs.declared.Counts.{Counts}
use Rattle.placements.specs.Records.{placement_record_size, Added, nothing, placed, missing, special}
use Rattle.placements.specs.Steps.{count_noted, stored}
use Rattle.turns.specs.Placing.{Located, Setting, Outcome, continues, leaves_range, set_character, put_character, distance_or, after_kind, after, Contents, adding, on_outcome, placing}
use Rattle.page.specs.Answers.{placed_counts}
use Rattle.page.specs.Steps.{Ending, stopped, through, finish, zero_counts}

-- the same setting with another ruler
abbrev pub by_ruler : Ruler → Setting → Setting
by_ruler ruler setting = record { ruler = ruler; look = setting.look; volume = setting.volume; page = setting.page }

-- ---- what is left where pixels do not count

-- a level with its pixels at 0
abbrev plain_level : Level → Level
plain_level l = record { h = l.h; v = l.v; w = l.w; x = l.x; y = l.y; z = l.z; hh = pos 0; vv = pos 0 }

-- a state with all its pixels at 0
abbrev plain_state : State → State
plain_state s = record { level = plain_level s.level; saved = map plain_level s.saved; font = s.font }

-- a record that says nothing
abbrev plain_record : Record
plain_record = record { kind = 0; font = 0; page = 0; hh = pos 0; vv = pos 0; content = pos 0; extent = pos 0 }

-- what is added, with nothing said in a record
abbrev plain_added : Added → Added
plain_added nothing = nothing
plain_added (placed r) = placed plain_record
plain_added missing = missing
plain_added special = special

-- an outcome with its pixels at 0 and nothing said in its record
abbrev plain_outcome : Outcome → Outcome
plain_outcome (continues s added) = continues (plain_state s) (plain_added added)
plain_outcome leaves_range = leaves_range

-- ---- one command

-- to put the pixels of saved levels to 0 twice is to do it once
plain_twice : (saved : List Level) → map plain_level (map plain_level saved) ≡ map plain_level saved
plain_twice [] = refl
plain_twice (l ∷ saved) = ap (◌∷◌ (plain_level l)) (plain_twice saved)

-- a rule adds the same, whatever its record says
plain_rule : (t : Bool) (r : Record) → plain_added (cond t (placed r) nothing) ≡ cond t (placed plain_record) nothing
plain_rule true r = refl
plain_rule false r = refl

-- where h or v would leave its range both say so
unless : (t : Bool) (o other : Outcome) → plain_outcome o ≡ plain_outcome other → plain_outcome (cond t leaves_range o) ≡ plain_outcome (cond t leaves_range other)
unless true o other e = refl
unless false o other e = e

module _ (one other : Ruler) (setting : Setting) (s : State) where
  -- an outcome is the same by the other ruler and without pixels
  abbrev Same : (Setting → State → Outcome) → Type 0
  Same outcome = plain_outcome (outcome (by_ruler one setting) s) ≡ plain_outcome (outcome (by_ruler other setting) (plain_state s))

  -- a character that is put
  puts : (code : ℤ) (l : LookUp) → Same (λ by from. put_character by from code l)
  puts code absent = simp plain_twice
  puts code (found m) = simp plain_twice

  -- one that is set
  sets : (code : ℤ) (l : LookUp) → Same (λ by from. set_character by from code l)
  sets code absent = simp plain_twice
  sets code (found m) = unless (leaves (s.level.h +ℤ scaled_by s.font.scale m.width)) _ _ (simp plain_twice)

  -- a pop, by the levels that were saved
  pops : (saved : List Level) → plain_outcome (continues (popped_to s saved) nothing) ≡ plain_outcome (continues (popped_to (plain_state s) (map plain_level saved)) nothing)
  pops [] = simp plain_twice
  pops (last ∷ before) = rw (plain_twice before) refl

  -- a command of each kind
  by_kind : (c : Command) (k : Kind) → Same (λ by from. after_kind k by from c)
  by_kind c Kind.SetCharacter = sets _ (setting.look s.font (character_code c.opcode c.params))
  by_kind c Kind.SetRule = unless (leaves (s.level.h +ℤ rule_width c.params)) _ _ (simp (plain_twice, plain_rule))
  by_kind c Kind.PutCharacter = puts _ (setting.look s.font (character_code c.opcode c.params))
  by_kind c Kind.PutRule = simp (plain_twice, plain_rule)
  by_kind c Kind.Nop = simp plain_twice
  by_kind c Kind.Bop = simp plain_twice
  by_kind c Kind.Eop = simp plain_twice
  by_kind c Kind.Push = simp plain_twice
  by_kind c Kind.Pop = pops s.saved
  by_kind c Kind.Right = unless (leaves (s.level.h +ℤ distance c.params)) _ _ (simp plain_twice)
  by_kind c Kind.W = unless (leaves (s.level.h +ℤ distance_or s.level.w c.params)) _ _ (simp plain_twice)
  by_kind c Kind.X = unless (leaves (s.level.h +ℤ distance_or s.level.x c.params)) _ _ (simp plain_twice)
  by_kind c Kind.Down = unless (leaves (s.level.v +ℤ distance c.params)) _ _ (simp plain_twice)
  by_kind c Kind.Y = unless (leaves (s.level.v +ℤ distance_or s.level.y c.params)) _ _ (simp plain_twice)
  by_kind c Kind.Z = unless (leaves (s.level.v +ℤ distance_or s.level.z c.params)) _ _ (simp plain_twice)
  by_kind c Kind.Select = simp plain_twice
  by_kind c Kind.Special = simp plain_twice
  by_kind c Kind.Define = simp plain_twice
  by_kind c Kind.Pre = simp plain_twice
  by_kind c Kind.Post = simp plain_twice
  by_kind c Kind.PostPost = simp plain_twice
  by_kind c Kind.Undefined = simp plain_twice

-- ---- the list of commands

-- what a command adds is counted after what follows it
then_counted : (added : Added) (x : Answer Contents)
    → placed_counts (and_then x (λ p. given (adding added p))) ≡ and_then (placed_counts x) (λ n. given (count_noted n added))
then_counted added (refused number place) = refl
then_counted nothing (given p) = refl
then_counted (placed r) (given p) = ap (λ (n : ℕ). given (record { records = n; missing = p.missing_characters; specials = p.specials })) (omega arith)
then_counted missing (given p) = refl
then_counted special (given p) = refl

-- it counts the same whatever its record says
count_plain : (added : Added) (x : Answer Counts) → and_then x (λ n. given (count_noted n added)) ≡ and_then x (λ n. given (count_noted n (plain_added added)))
count_plain nothing x = refl
count_plain (placed r) x = refl
count_plain missing x = refl
count_plain special x = refl

module _ (setting : Setting) where
  -- the commands by a ruler, from a state on
  abbrev by : Ruler → List Located → State → Answer Contents
  by ruler cs s = placing (by_ruler ruler setting) s cs

  -- the commands count the same by another ruler and without pixels
  abbrev Plain : Ruler → Ruler → List Located → Type 0
  Plain one other cs = (s : State) → placed_counts (by one cs s) ≡ placed_counts (by other cs (plain_state s))

  -- so do they after an outcome
  on_plain : (one other : Ruler) (rest : List Located) → Plain one other rest → (at : ℕ) (o : Outcome)
      → placed_counts (on_outcome at o (by one rest)) ≡ placed_counts (on_outcome at (plain_outcome o) (by other rest))
  on_plain one other rest plain at leaves_range = refl
  on_plain one other rest plain at (continues s added) =
      then_counted added (by one rest s)
      ∙ count_plain added (placed_counts (by one rest s))
      ∙ ap (λ (x : Answer Counts). and_then x (λ n. given (count_noted n (plain_added added)))) (plain s)
      ∙ sym (then_counted (plain_added added) (by other rest (plain_state s)))

  -- and so does the whole list
  all_plain : (one other : Ruler) (cs : List Located) → Plain one other cs
  unfolding placing after
  all_plain one other [] s = refl
  all_plain one other (c ∷ rest) s =
      on_plain one other rest (all_plain one other rest) c.at (after (by_ruler one setting) s c.command)
      ∙ ap (λ (o : Outcome). placed_counts (on_outcome c.at o (by other rest))) (by_kind one other setting s c.command (kind_of_command c.command))
      ∙ sym (on_plain other other rest (all_plain other other rest) c.at (after (by_ruler other setting) (plain_state s) c.command))

-- a page's counts, and its refusal, are the same by every ruler
pub any_ruler : (one other : Ruler) (setting : Setting) (s : State) (cs : List Located)
    → placed_counts (placing (by_ruler one setting) s cs) ≡ placed_counts (placing (by_ruler other setting) s cs)
any_ruler one other setting s cs = all_plain setting one other cs s ∙ sym (all_plain setting other other cs s)

-- ---- an area without room

-- nothing is stored there
none_stored : (index : ℕ) (records : List Record) → stored [] index records ≡ []
none_stored index [] = refl
none_stored index (r ∷ records) = rw (lt-leb (placement_record_size * index + placement_record_size) 0 (omega arith)) (none_stored (index + 1) records)

-- so the counts tell the ending
abbrev ended_by : Answer Counts → Ending
ended_by (refused number place) = stopped number place
ended_by (given counts) = through [] counts

ended_by_lem : (answer : Answer Contents) → finish [] zero_counts answer ≡ ended_by (placed_counts answer)
ended_by_lem (refused number place) = refl
ended_by_lem (given p) = simp (zero-add, none_stored 0 p.placements)

-- what counts alike, or is refused alike, ends alike
pub ends_alike : (one other : Answer Contents) → placed_counts one ≡ placed_counts other → finish [] zero_counts one ≡ finish [] zero_counts other
ends_alike one other e = ended_by_lem one ∙ ap ended_by e ∙ sym (ended_by_lem other)
