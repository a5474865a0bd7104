-- The counts of the commands so far are at most the place after them, and the depth at most the greatest. Assumes nothing.
use mathlib.Core.Bool.{Bool, true, false, cond}
use mathlib.Core.List.{List, [], ◌∷◌}
use Prim.Native.Nat.{ℕ, ◌≤◌}
use native.Mathlib.Omega.{arith}
use Rattle.commands.specs.declared.Kind.TheVariants.{Bop, Push, Pop, Post}
use Rattle.commands.specs.Kinds.{is}
use Rattle.commands.specs.Commands.{Command, kind_of_command, place}
use Rattle.list.specs.Past.{is_a, stage, depth, greatest, pages, post_place, defines, font_count}

-- a choice between two is at most what both are at most
either : (t : Bool) {a b most : ℕ} → a ≤ most → b ≤ most → cond t a b ≤ most
either true h k = h
either false h k = k

pub depth_small : (past : List Command) → depth past ≤ place past
depth_small [] = omega arith
depth_small (c ∷ past) =
    let h : depth past ≤ place past = depth_small past in
    either (is (kind_of_command c) Push) (omega arith) (either (is (kind_of_command c) Pop) (omega arith) (omega arith))

pub pages_small : (past : List Command) → pages past ≤ place past
pages_small [] = omega arith
pages_small (c ∷ past) = let h : pages past ≤ place past = pages_small past in either (is_a Bop c) (omega arith) (omega arith)

pub fonts_small : (after : Bool) (past : List Command) → font_count after past ≤ place past
fonts_small after [] = omega arith
fonts_small after (c ∷ past) =
    let h : font_count after past ≤ place past = fonts_small after past in
    either (defines after (stage past) (kind_of_command c)) (omega arith) (omega arith)

pub post_small : (past : List Command) → post_place past ≤ place past
post_small [] = omega arith
post_small (c ∷ past) = let h : post_place past ≤ place past = post_small past in either (is_a Post c) (omega arith) (omega arith)

pub depth_reached : (past : List Command) → depth past ≤ greatest past
depth_reached [] = omega arith
depth_reached (c ∷ past) = omega arith
