-- The list of an accepted file's commands, as later notions speak of it (rule 3.13). Assumes nothing.
use Rattle.std.specs.Prelude.{ℕ, zero, suc, Bool, true, false, List, [], ◌∷◌, length}
use Rattle.commands.specs.declared.Kind.TheVariants.{PostPost}
use Rattle.commands.specs.Commands.{Command, Front, cut, undefined, whole, front}
use Rattle.list.specs.Past.{is_a}

-- what stands at the front goes on the list; where no command does, the list is at its end (rule 3.13)
abbrev pub on_next : List Command → Front → (Command → List ℕ → List Command) → List Command
on_next past cut next = past
on_next past undefined next = past
on_next past (whole c rest) next = next c rest

-- post_post is the last of the list (rule 3.13)
abbrev pub on_last : Bool → List Command → (Unit {0} → List Command) → List Command
on_last true past next = past
on_last false past next = next tt

-- the commands of the bytes, upon those before, in at most so many steps (rule 3.13)
unfoldable pub history_from : ℕ → List Command → List ℕ → List Command
history_from zero past bytes = past
history_from (suc left) past bytes =
    on_next past (front bytes) (λ c rest. on_last (is_a PostPost c) (c ∷ past) (λ _. history_from left (c ∷ past) rest))

-- the commands of a file up to post_post, the newest first; a file has no more commands than bytes (rule 3.13)
unfoldable pub history : List ℕ → List Command
history file = history_from (suc (length file)) [] file
