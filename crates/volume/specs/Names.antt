-- A font's name: which part of the file it is, and what an answer says of that part. Assumes nothing.
use Rattle.std.specs.Prelude.{ℕ, ◌+◌, ◌-◌, false, List, [], length, take, drop, ℤ}
use Rattle.refusals.specs.Numbers.{no_font}
use Rattle.refusals.specs.Answer.{Answer, refused, given, and_then}
use Rattle.commands.specs.Fields.{definition_number_size, definition_name}
use Rattle.commands.specs.Commands.{Command}
use Rattle.list.specs.declared.Part.{Part}
use Rattle.list.specs.Past.{Definition, none, stands, definition_of}
use Rattle.volume.specs.History.{history}
use Rattle.volume.specs.Judged.{judged}

-- the part of a definition at a place that holds the name: from where its name starts to the command's end (rule 9.4)
abbrev pub name_part : ℕ → Command → Part
name_part at c = record { start = at + 1 + definition_number_size c.opcode + definition_name; end = at + 1 + length c.params }

-- a font without a definition is refused with place 0 (rule 9.4)
abbrev pub named_by : Definition → Answer Part
named_by none = refused no_font 0
named_by (stands at c) = given (name_part at c)

-- the file is judged first; the definition that counts stands before post (rule 9.4)
abbrev pub name_place : List ℕ → ℤ → Answer Part
name_place file number = and_then (judged file) (λ found. named_by (definition_of false number (history file)))

-- the bytes of the part that is lent: none where the name is refused (rule 9.4)
abbrev pub part_of : List ℕ → Answer Part → List ℕ
part_of file (refused number place) = []
part_of file (given part) = take (part.end - part.start) (drop part.start file)

-- the bytes of a font's name (rule 9.4)
abbrev pub name_of : List ℕ → ℤ → List ℕ
name_of file number = part_of file (name_place file number)

-- how far into the file the part that is lent starts: not at all where the name is refused (rule 9.4)
abbrev pub start_of : Answer Part → ℕ
start_of (refused number place) = 0
start_of (given part) = part.start

-- how far into the file the part of a font's name starts (rule 9.4)
abbrev pub name_start : List ℕ → ℤ → ℕ
name_start file number = start_of (name_place file number)

-- the place in memory so many bytes after another, of the same lent bytes (rule 9.4)
abbrev pub bytes_after : ℕ → ℕ × ℕ → ℕ × ℕ
bytes_after count from = (from.0, count + from.1)
