-- The depth that a file states in its post, and the file with another in its place. Assumes nothing.
use Rattle.std.specs.Prelude.{ℕ, ◌+◌, ◌/◌, ◌%◌, List, drop, set}
use Rattle.commands.specs.Fields.{unsigned_in, post_depth}

-- s of the post whose opcode stands at a place: the parameters follow it (rules 2.6, 3.8)
abbrev pub stated_depth : List ℕ → ℕ → ℕ
stated_depth file post = unsigned_in post_depth (drop (post + 1) file)

-- the file whose post there states s, the highest byte first (above 65,535 that is no byte); no other byte is changed (rules 1.2, 2.6, 3.8)
abbrev pub stating : ℕ → ℕ → List ℕ → List ℕ
stating s post file = let at = post + 1 + post_depth.at in set (set file at (s / 256)) (at + 1) (s % 256)
