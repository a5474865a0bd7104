-- Reading the one command that stands at a place. Assumes nothing.
use Rattle.std.specs.Prelude.{ℕ, ◌+◌, List, ltb, length, drop}
use Rattle.refusals.specs.Numbers.{file_too_long, file_ends, undefined_opcode}
use Rattle.refusals.specs.Answer.{Answer, refused, given, refuse_if}
use Rattle.commands.specs.declared.Reading.{Reading}
use Rattle.commands.specs.Commands.{Front, cut, undefined, whole, front}

-- the opcode, where its parameters start, and the place behind them (rule 9.3)
abbrev pub reading : ℕ → Front → Answer Reading
reading at cut = refused file_ends at
reading at undefined = refused undefined_opcode at
reading at (whole c rest) = given (record { opcode = c.opcode; start = at + 1; next = at + 1 + length c.params })

-- what stands at a place of a file: at its end, or past it, there is nothing, as where a command is cut (rule 9.3)
abbrev pub read_at : List ℕ → ℕ → Answer Reading
read_at file at = reading at (front (drop at file))

-- the most bytes that a file may have (rule 3.12)
abbrev pub longest_file : ℕ
longest_file = 16777216

-- the same of any file: one that is too long is refused before all (rule 9.3)
abbrev pub command_read : List ℕ → ℕ → Answer Reading
command_read file at = refuse_if (ltb longest_file (length file)) file_too_long 0 (read_at file at)
