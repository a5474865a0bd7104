-- The judgement of a PK file, from its front on. Assumes nothing.
use Rattle.std.specs.Prelude.{ℕ, zero, suc, not, List, [], ◌∷◌, ltb, length, take, drop}
use Rattle.refusals.specs.Numbers.{font_ends}
use Rattle.refusals.specs.Answer.{Answer, refused, given, refuse_if, and_then}
use Rattle.commands.specs.Commands.{Command, place}
use Rattle.packed.specs.declared.Note.{Note}
use Rattle.packed.specs.Commands.{param_bytes}
use Rattle.packed.specs.Rules.{ended, font_fault, places, packets}

-- the command of an opcode or flag and the bytes that follow it, where they are enough (rule 11.4)
abbrev pub taken : ℕ → List ℕ → Command
taken opcode rest = record { opcode = opcode; params = take (param_bytes opcode rest) rest }

-- the bytes after the commands before, in at most so many steps: all commands, the newest first (rule 11.9)
unfoldable pub font_judged_from : ℕ → List Command → List ℕ → Answer (List Command)
font_judged_from zero past bytes = refused font_ends (place past)
font_judged_from (suc left) past [] = refuse_if (not (ended past)) font_ends (place past) (given past)
font_judged_from (suc left) past (opcode ∷ rest) =
    refuse_if (ltb (length rest) (param_bytes opcode rest)) font_ends (place past)
    (refuse_if (ltb 0 (font_fault past (taken opcode rest))) (font_fault past (taken opcode rest)) (place past)
    (font_judged_from left (taken opcode rest ∷ past) (drop (param_bytes opcode rest) rest)))

-- the commands of a file, the newest first, or 18 to 21; a file has no more commands than bytes (rule 11.9)
unfoldable pub font_judged : List ℕ → Answer (List Command)
font_judged pk = font_judged_from (suc (length pk)) [] pk

-- what is noted of a list: for each code the place of its packet, and how many packets there are (rule 11.10)
abbrev pub note_of : List Command → Note
note_of past = record { places = places past; packets = packets past }

-- the note of a file, or 18 to 21 (rule 11.10)
abbrev pub noted : List ℕ → Answer Note
noted pk = and_then (font_judged pk) (λ past. given (note_of past))
