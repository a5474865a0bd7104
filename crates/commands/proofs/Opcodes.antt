-- The kinds and their opcodes: an opcode lies in the range of its kind, and each opcode of a kind's range is of that kind. Assumes nothing.
use mathlib.Core.Path.{◌≡◌, refl}
use mathlib.Core.List.{List, [], ◌∷◌, ◌++◌}
use mathlib.Core.Logic.{⊎_elim}
use Prim.Native.Nat.{ℕ, suc, ◌+◌, ◌-◌, ◌<◌, ◌≤◌}
use native.Mathlib.Omega.{arith}
use lib.ListN.{length, replicate, length-append}
use borrow.Author.Tests.{le-ltb}
use Rattle.commands.specs.declared.Kind.{Kind}
use Rattle.commands.specs.declared.Kind.TheVariants.{SetCharacter, SetRule, PutCharacter, PutRule, Nop, Bop, Eop, Push, Pop, Right, W, X, Down, Y, Z, Select, Special, Define, Pre, Post, PostPost, Undefined}
use Rattle.commands.specs.Kinds.{Row, rows, kind_in, kind_of}
use Rattle.commands.specs.Lengths.{lengths_in}
use Rattle.commands.specs.ByKind.{first, last}
use Rattle.numbers.proofs.Radix.{less_or_not}
use Rattle.commands.proofs.Ranges.{values, constant_on, between_on}

-- an opcode lies in the range of its kind
pub kind_range : {k : Kind} (opcode : ℕ) → opcode < 256 → kind_of opcode ≡ k → (first k ≤ opcode) × (opcode ≤ last k)
kind_range opcode h e = rw e at (between_on (λ x. x) (λ x. first (kind_of x)) (λ x. last (kind_of x)) 0 256 (unfold kind_of in refl) {x = opcode} (omega arith) (omega arith))

-- each opcode of a kind's range is of that kind
abbrev count : Kind → ℕ
count k = suc (last k) - first k

range_values : (k : Kind) → values kind_of (first k) (count k) ≡ replicate (count k) k
unfolding kind_of
range_values SetCharacter = refl
range_values SetRule = refl
range_values PutCharacter = refl
range_values PutRule = refl
range_values Nop = refl
range_values Bop = refl
range_values Eop = refl
range_values Push = refl
range_values Pop = refl
range_values Right = refl
range_values W = refl
range_values X = refl
range_values Down = refl
range_values Y = refl
range_values Z = refl
range_values Select = refl
range_values Special = refl
range_values Define = refl
range_values Pre = refl
range_values Post = refl
range_values PostPost = refl
range_values Undefined = refl

pub range_kind : (k : Kind) {opcode : ℕ} → first k ≤ opcode → opcode ≤ last k → kind_of opcode ≡ k
range_kind k h l = constant_on kind_of k (first k) (count k) (range_values k) h (omega arith)

-- the undefined opcodes are those past all rows, which are those from 250 on
past_rows : (these : List Row) (opcode : ℕ) → length (lengths_in these) ≤ opcode → kind_in these opcode ≡ Undefined
past_rows [] opcode h = refl
past_rows (r ∷ others) opcode h =
    let all : length (r.fixed ++ lengths_in others) ≡ length r.fixed + length (lengths_in others) = length-append r.fixed (lengths_in others) in
    rw (le-ltb opcode (length r.fixed) (omega arith)) (past_rows others (opcode - length r.fixed) (omega arith))

pub from_250 : (opcode : ℕ) → 250 ≤ opcode → kind_of opcode ≡ Undefined
unfolding kind_of
from_250 opcode h = past_rows rows opcode h

-- a kind's opcodes begin at its first, however large the number
pub kind_from : {k : Kind} (opcode : ℕ) → kind_of opcode ≡ k → first k ≤ opcode
kind_from opcode e = ⊎_elim (λ h. (kind_range opcode h e).0) (λ h. rw (← e, from_250 opcode (omega arith)) (omega arith)) (less_or_not opcode 256)
