-- A font's definition without its place. Assumes nothing.
use Rattle.list.specs.Past.{Definition, none, stands}

-- the same command, at whatever place (rule 12.6)
abbrev pub unplaced : Definition → Definition
unplaced none = none
unplaced (stands at c) = stands 0 c
