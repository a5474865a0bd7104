-- The preamble stands at the file's start, and its check sum is the font's. Assumes nothing.
use mathlib.Core.Path.{◌≡◌, refl, sym, ap, ◌∙◌}
use mathlib.Core.Bool.{Bool, true, false, cond, not, ◌&&◌}
use mathlib.Core.List.{List, [], ◌∷◌, ◌++◌}
use Prim.Native.Nat.{ℕ, ◌+◌, ◌≤◌, ◌<◌}
use native.Mathlib.Omega.{arith}
use lib.Dec.{leb}
use lib.ListN.{length, take, drop, take-append-drop}
use borrow.Author.Tests.{eqb-true, eq-eqb, ne_eqb, leb-false}
use Rattle.numbers.specs.Bytes.{unsigned_at}
use Rattle.numbers.proofs.Bytes.{unsigned_front, unsigned_drop}
use Rattle.commands.specs.Commands.{Command}
use Rattle.packed.specs.Commands.{is_no_op, is_preamble, param_bytes}
use Rattle.packed.specs.Rules.{ended, misplaced_after, font_fault}
use Rattle.packed.specs.Judged.{taken}
use Rattle.packed.specs.Table.{checksum_in, font_checksum}
use Rattle.packed.proofs.Forms.{fixed_preamble, counted_preamble}
use Rattle.packed.proofs.Says.{clash, not_true}
use Rattle.packed.proofs.Faults.{taken_length}
use Rattle.packed.proofs.Standing.{Standing, more}

-- ---- where the preamble may be

-- a command that earns no refusal is in its place
pub in_place : (past : List Command) (c : Command) → font_fault past c ≡ 0 → misplaced_after past c ≡ false
unfolding font_fault
in_place past c right = go (misplaced_after past c) _ right
  where
    go : (b : Bool) (n : ℕ) → cond b 19 n ≡ 0 → b ≡ false
    go true n e = absurd (omega arith)
    go false n e = refl

both : (a b : Bool) → not (a && b) ≡ false → a ≡ true
both true b e = refl
both false b e = absurd (let z = clash e in omega arith)

pub first_preamble : (c : Command) → misplaced_after [] c ≡ false → c.opcode ≡ 247
first_preamble c e = eqb-true c.opcode 247 (both (is_preamble c.opcode) _ e)

pub later_other : (before : Command) (past : List Command) (c : Command) → misplaced_after (before ∷ past) c ≡ false → c.opcode < 247
later_other before past c e = go (ended (before ∷ past)) e
  where
    go : (b : Bool) → cond b (not (is_no_op c.opcode)) (leb 247 c.opcode) ≡ false → c.opcode < 247
    go true e = omega (arith, eqb-true c.opcode 246 (not_true (is_no_op c.opcode) e))
    go false e = leb-false 247 c.opcode e

-- ---- its check sum

-- the preamble is all there, and this is its check sum
pub record Preambled (pk : List ℕ) (checksum : ℕ) : Type 0 where
  pub there : 19 + unsigned_at pk 2 1 ≤ length pk
  pub sum : checksum ≡ checksum_in (drop 1 pk)

module _ (pk : List ℕ) (opcode : ℕ) (rest : List ℕ) (here : drop 0 pk ≡ opcode ∷ rest) (fits : param_bytes opcode rest ≤ length rest) (first : opcode ≡ 247) where
  abbrev params : List ℕ
  params = take (param_bytes opcode rest) rest

  split : params ++ drop (param_bytes opcode rest) rest ≡ rest
  split = take-append-drop (param_bytes opcode rest) rest

  rest_is : drop 1 pk ≡ rest
  rest_is = ap (drop 1) here

  comment : param_bytes opcode rest ≡ 18 + unsigned_at rest 1 1
  comment = omega (arith, fixed_preamble opcode first, counted_preamble opcode rest first)

  same_comment : unsigned_at params 1 1 ≡ unsigned_at rest 1 1
  same_comment = sym (unsigned_front params (drop (param_bytes opcode rest) rest) 1 1 (omega (arith, taken_length opcode rest fits, comment))) ∙ ap (λ (l : List ℕ). unsigned_at l 1 1) split

  same_sum : checksum_in params ≡ checksum_in rest
  same_sum =
      ap (λ (n : ℕ). unsigned_at params (6 + n) 4) same_comment
      ∙ sym (unsigned_front params (drop (param_bytes opcode rest) rest) (6 + unsigned_at rest 1 1) 4 (omega (arith, taken_length opcode rest fits, comment)))
      ∙ ap (λ (l : List ℕ). unsigned_at l (6 + unsigned_at rest 1 1) 4) split

  pub preamble_first : Preambled pk (checksum_in params)
  preamble_first =
      let byte : unsigned_at pk 2 1 ≡ unsigned_at rest 1 1 = sym (unsigned_drop pk 1 1 1) ∙ ap (λ (l : List ℕ). unsigned_at l 1 1) rest_is in
      record {
        there = omega (arith, byte, comment, ap length here);
        sum = same_sum ∙ ap checksum_in (sym rest_is);
      }

pub preambled : (pk : List ℕ) (c : Command) (past : List Command) → Standing pk (c ∷ past) → Preambled pk (font_checksum (c ∷ past))
preambled pk c [] (more opcode rest stand here fits right) =
    let first : opcode ≡ 247 = first_preamble (taken opcode rest) (in_place [] (taken opcode rest) right) in
    rw (eq-eqb opcode 247 first) (preamble_first pk opcode rest here fits first)
preambled pk c (before ∷ past) (more opcode rest stand here fits right) =
    let other : opcode < 247 = later_other before past (taken opcode rest) (in_place (before ∷ past) (taken opcode rest) right) in
    rw (ne_eqb opcode 247 (λ e. omega (arith, e))) (preambled pk before past stand)
