-- The judgement and the history at the start, and one turn of them: what they are where the front is cut, undefined, or a whole command that breaks
-- a rule, ends the list, or goes on; and that one of these is so. Assumes nothing.
use Prim.Native.Nat.{ℕ, zero, suc, ◌<◌, ◌≤◌}
use mathlib.Core.Path.{◌≡◌, refl}
use mathlib.Core.Bool.{Bool, true, false}
use mathlib.Core.List.{List, [], ◌∷◌}
use lib.ListN.{length}
use borrow.Author.Tests.{lt-ltb, le-ltb}
use Rattle.refusals.specs.Numbers.{file_too_long, file_ends, undefined_opcode}
use Rattle.refusals.specs.Answer.{Answer, refused}
use Rattle.commands.specs.declared.Kind.TheVariants.{PostPost}
use Rattle.commands.specs.Commands.{Command, Front, cut, undefined, whole, front, place}
use Rattle.commands.specs.Reading.{longest_file}
use Rattle.volume.specs.declared.Summary.{Summary}
use Rattle.list.specs.Past.{is_a}
use Rattle.list.specs.Rules.{fault}
use Rattle.volume.specs.Judged.{summary, tail, on_fault, judged_from, judged}
use Rattle.volume.specs.History.{history_from, history}

fault_refuses : (at : ℕ) {found : ℕ} (number : ℕ) (next : Unit {0} → Answer Summary) → found ≡ number → (number ≡ 0 → ⊥)
    → on_fault at found next ≡ refused number at
fault_refuses at zero next e h = absurd (h refl)
fault_refuses at (suc n) next e h = rw e

-- ---- the start

module _ (file : List ℕ) where
  pub judged_long : longest_file < length file → judged file ≡ refused file_too_long 0
  unfolding judged
  judged_long h = rw (lt-ltb longest_file (length file) h)

  pub judged_short : length file ≤ longest_file → judged file ≡ judged_from (suc (length file)) [] file
  unfolding judged
  judged_short h = rw (le-ltb longest_file (length file) h)

  pub history_start : history file ≡ history_from (suc (length file)) [] file
  unfolding history
  history_start = refl

-- ---- one step

module _ (left : ℕ) (past : List Command) (bytes : List ℕ) where
  pub judged_cut : front bytes ≡ cut → judged_from (suc left) past bytes ≡ refused file_ends (place past)
  unfolding judged_from
  judged_cut e = rw e

  pub judged_undefined : front bytes ≡ undefined → judged_from (suc left) past bytes ≡ refused undefined_opcode (place past)
  unfolding judged_from
  judged_undefined e = rw e

  module _ (c : Command) (rest : List ℕ) (stands : front bytes ≡ whole c rest) where
    pub judged_faulty : (number : ℕ) → fault past c ≡ number → (number ≡ 0 → ⊥) → judged_from (suc left) past bytes ≡ refused number (place past)
    unfolding judged_from
    judged_faulty number e h = rw stands (fault_refuses (place past) number _ e h)

    pub judged_last : fault past c ≡ 0 → is_a PostPost c ≡ true
        → judged_from (suc left) past bytes ≡ tail (summary (c ∷ past)) (place (c ∷ past)) 0 rest
    unfolding judged_from
    judged_last e l = rw (stands, e, l)

    pub judged_onward : fault past c ≡ 0 → is_a PostPost c ≡ false → judged_from (suc left) past bytes ≡ judged_from left (c ∷ past) rest
    unfolding judged_from
    judged_onward e l = rw (stands, e, l)

    pub history_last : is_a PostPost c ≡ true → history_from (suc left) past bytes ≡ c ∷ past
    unfolding history_from
    history_last l = rw (stands, l)

    pub history_onward : is_a PostPost c ≡ false → history_from (suc left) past bytes ≡ history_from left (c ∷ past) rest
    unfolding history_from
    history_onward l = rw (stands, l)

-- ---- the cases

module _ (past : List Command) (bytes : List ℕ) where
  -- what stands at the front after the commands before
  pub data Turn : Type 0 where
    at_cut : front bytes ≡ cut → Turn
    at_undefined : front bytes ≡ undefined → Turn
    at_fault : (c : Command) (rest : List ℕ) (n : ℕ) → front bytes ≡ whole c rest → fault past c ≡ suc n → Turn
    at_last : (c : Command) (rest : List ℕ) → front bytes ≡ whole c rest → fault past c ≡ 0 → is_a PostPost c ≡ true → Turn
    onward : (c : Command) (rest : List ℕ) → front bytes ≡ whole c rest → fault past c ≡ 0 → is_a PostPost c ≡ false → Turn

  module _ (c : Command) (rest : List ℕ) (stands : front bytes ≡ whole c rest) where
    by_kind : fault past c ≡ 0 → (b : Bool) → is_a PostPost c ≡ b → Turn
    by_kind e true l = at_last c rest stands e l
    by_kind e false l = onward c rest stands e l

    by_fault : (n : ℕ) → fault past c ≡ n → Turn
    by_fault zero e = by_kind e (is_a PostPost c) refl
    by_fault (suc n) e = at_fault c rest n stands e

  by_front : (x : Front) → front bytes ≡ x → Turn
  by_front cut e = at_cut e
  by_front undefined e = at_undefined e
  by_front (whole c rest) e = by_fault c rest e (fault past c) refl

  pub turn : Turn
  turn = by_front (front bytes) refl
