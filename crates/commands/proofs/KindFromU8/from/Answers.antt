-- `Kind::from` meets its contract: each arm's range is the range of a kind. Assumes nothing.
use mathlib.Core.Path.{sym}
use native.Mathlib.Omega.{arith}
use Rattle.commands.specs.declared.Kind.TheVariants.{SetCharacter, SetRule, PutCharacter, PutRule, Nop, Bop, Eop, Push, Pop, Right, W, X, Down, Y, Z, Select, Special, Define, Pre, Post, PostPost, Undefined}
use Rattle.commands.proofs.Opcodes.{range_kind}
use Rattle.commands.proofs.KindFromU8.from.Goals as goal

pub returns-in-0-to-131 : goal.returns-in-0-to-131
returns-in-0-to-131 c = sym (range_kind SetCharacter (omega arith) (omega arith))

pub returns-in-132 : goal.returns-in-132
returns-in-132 c = sym (range_kind SetRule (omega arith) (omega arith))

pub returns-in-133-to-136 : goal.returns-in-133-to-136
returns-in-133-to-136 c = sym (range_kind PutCharacter (omega arith) (omega arith))

pub returns-in-137 : goal.returns-in-137
returns-in-137 c = sym (range_kind PutRule (omega arith) (omega arith))

pub returns-in-138 : goal.returns-in-138
returns-in-138 c = sym (range_kind Nop (omega arith) (omega arith))

pub returns-in-139 : goal.returns-in-139
returns-in-139 c = sym (range_kind Bop (omega arith) (omega arith))

pub returns-in-140 : goal.returns-in-140
returns-in-140 c = sym (range_kind Eop (omega arith) (omega arith))

pub returns-in-141 : goal.returns-in-141
returns-in-141 c = sym (range_kind Push (omega arith) (omega arith))

pub returns-in-142 : goal.returns-in-142
returns-in-142 c = sym (range_kind Pop (omega arith) (omega arith))

pub returns-in-143-to-146 : goal.returns-in-143-to-146
returns-in-143-to-146 c = sym (range_kind Right (omega arith) (omega arith))

pub returns-in-147-to-151 : goal.returns-in-147-to-151
returns-in-147-to-151 c = sym (range_kind W (omega arith) (omega arith))

pub returns-in-152-to-156 : goal.returns-in-152-to-156
returns-in-152-to-156 c = sym (range_kind X (omega arith) (omega arith))

pub returns-in-157-to-160 : goal.returns-in-157-to-160
returns-in-157-to-160 c = sym (range_kind Down (omega arith) (omega arith))

pub returns-in-161-to-165 : goal.returns-in-161-to-165
returns-in-161-to-165 c = sym (range_kind Y (omega arith) (omega arith))

pub returns-in-166-to-170 : goal.returns-in-166-to-170
returns-in-166-to-170 c = sym (range_kind Z (omega arith) (omega arith))

pub returns-in-171-to-238 : goal.returns-in-171-to-238
returns-in-171-to-238 c = sym (range_kind Select (omega arith) (omega arith))

pub returns-in-239-to-242 : goal.returns-in-239-to-242
returns-in-239-to-242 c = sym (range_kind Special (omega arith) (omega arith))

pub returns-in-243-to-246 : goal.returns-in-243-to-246
returns-in-243-to-246 c = sym (range_kind Define (omega arith) (omega arith))

pub returns-in-247 : goal.returns-in-247
returns-in-247 c = sym (range_kind Pre (omega arith) (omega arith))

pub returns-in-248 : goal.returns-in-248
returns-in-248 c = sym (range_kind Post (omega arith) (omega arith))

pub returns-in-249 : goal.returns-in-249
returns-in-249 c = sym (range_kind PostPost (omega arith) (omega arith))

pub returns-in_default : goal.returns-in_default
returns-in_default c = sym (range_kind Undefined (omega arith) (omega arith))
