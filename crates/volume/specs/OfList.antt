-- What a list of commands that keeps the rules amounts to, at its post_post. Names no file and no reader. Assumes nothing.
use Rattle.std.specs.Prelude.{cond, List, [], ◌∷◌}
use Rattle.commands.specs.declared.Kind.TheVariants.{PostPost}
use Rattle.commands.specs.Commands.{Command}
use Rattle.volume.specs.declared.Summary.{Summary}
use Rattle.list.specs.Past.{is_a}
use Rattle.volume.specs.Judged.{summary}

-- the commands of a list up to its post_post, the newest first, in front of those before them (rule 3.13)
abbrev pub up_to_last : List Command → List Command → List Command
up_to_last past [] = past
up_to_last past (c ∷ cs) = cond (is_a PostPost c) (c ∷ past) (up_to_last (c ∷ past) cs)

-- the commands of a whole list up to its post_post, the newest first (rule 3.13)
abbrev pub past_of : List Command → List Command
past_of cs = up_to_last [] cs

-- pages, fonts, greatest depth and the place of post of a list (rule 9.2)
abbrev pub counts : List Command → Summary
counts cs = summary (past_of cs)
