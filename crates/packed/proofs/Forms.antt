-- The three forms of packets, and the lengths of commands, case by case. Assumes nothing.
use mathlib.Core.Path.{◌≡◌, refl}
use mathlib.Core.Bool.{Bool, true, false, cond}
use mathlib.Core.List.{List}
use Prim.Native.Nat.{ℕ, ◌+◌, ◌-◌, ◌*◌, ◌%◌, ◌^◌, ◌≤◌, ◌<◌}
use native.Mathlib.Omega.{arith}
use lib.Dec.{ltb, eqb}
use borrow.Author.Tests.{ltb-true, ltb-false, lt-ltb, le-ltb, lt-leb, le-leb, ne_eqb, eqb-true, eqb-false}
use Rattle.numbers.specs.Bytes.{unsigned_at}
use Rattle.packed.specs.declared.Form.{Form}
use Rattle.packed.specs.Commands.{form_of, fixed_bytes, counted_bytes}
use Rattle.packed.specs.Packets.{is_long}

-- ---- which form

-- the three forms
abbrev short : ℕ → Form
short flag = record { added = flag % 4 * 256; length = 1; code = 1; width = 3; escapement = 1; fields = 8 }

abbrev extended : ℕ → Form
extended flag = record { added = flag % 4 * 65536; length = 2; code = 1; width = 3; escapement = 2; fields = 13 }

abbrev long : Form
long = record { added = 0; length = 4; code = 4; width = 4; escapement = 4; fields = 28 }

-- ---- what all forms keep

-- how large the fields of a form are
pub record Sized (flag : ℕ) (f : Form) : Type 0 where
  pub length_small : f.length ≤ 4
  pub code_small : f.code ≤ 4
  pub width_small : f.width ≤ 4
  pub escapement_small : f.escapement ≤ 4
  pub fields_hold : f.width + f.escapement ≤ f.fields
  pub added_small : f.added + 256 ^ f.length ≤ 2 ^ 32
  pub long_four : is_long flag ≡ true → f.escapement ≡ 4
  pub short_two : is_long flag ≡ false → f.escapement ≤ 2

pub form_sized : (flag : ℕ) → Sized flag (form_of flag)
unfolding form_of
form_sized flag = go (ltb (flag % 8) 4) (ltb (flag % 8) 7) refl refl
  where
    go : (a b : Bool) → ltb (flag % 8) 4 ≡ a → ltb (flag % 8) 7 ≡ b → Sized flag (cond a (short flag) (cond b (extended flag) long))
    go true b p q =
        record {
          length_small = omega arith;
          code_small = omega arith;
          width_small = omega arith;
          escapement_small = omega arith;
          fields_hold = omega arith;
          added_small = omega arith;
          long_four = λ e. absurd (omega (arith, ltb-true (flag % 8) 4 p, eqb-true (flag % 8) 7 e));
          short_two = λ e. omega arith;
        }
    go false true p q =
        record {
          length_small = omega arith;
          code_small = omega arith;
          width_small = omega arith;
          escapement_small = omega arith;
          fields_hold = omega arith;
          added_small = omega arith;
          long_four = λ e. absurd (omega (arith, ltb-true (flag % 8) 7 q, eqb-true (flag % 8) 7 e));
          short_two = λ e. omega arith;
        }
    go false false p q =
        record {
          length_small = omega arith;
          code_small = omega arith;
          width_small = omega arith;
          escapement_small = omega arith;
          fields_hold = omega arith;
          added_small = omega arith;
          long_four = λ e. refl;
          short_two = λ e. absurd (eqb-false (flag % 8) 7 e (omega (arith, ltb-false (flag % 8) 7 q)));
        }

-- ---- the lengths of each kind of command

module _ (opcode : ℕ) where
  pub fixed_packet : opcode < 240 → (form_of opcode).length + (form_of opcode).code ≡ fixed_bytes opcode
  unfolding fixed_bytes
  fixed_packet h = rw (lt-ltb opcode 240 h) refl

  pub fixed_special : 240 ≤ opcode → opcode < 244 → opcode - 239 ≡ fixed_bytes opcode
  unfolding fixed_bytes
  fixed_special h k = rw (le-ltb opcode 240 h, le-leb 240 opcode h, le-leb opcode 243 (omega arith)) refl

  pub fixed_preamble : opcode ≡ 247 → 18 ≡ fixed_bytes opcode
  unfolding fixed_bytes
  fixed_preamble e = rw e refl

  module _ (params : List ℕ) where
    pub counted_packet : opcode < 240 → (form_of opcode).added + unsigned_at params 0 (form_of opcode).length ≡ counted_bytes opcode params
    unfolding counted_bytes
    counted_packet h = rw (lt-ltb opcode 240 h) refl

    pub counted_special : 240 ≤ opcode → opcode < 244 → unsigned_at params 0 (opcode - 239) ≡ counted_bytes opcode params
    unfolding counted_bytes
    counted_special h k = rw (le-ltb opcode 240 h, le-leb 240 opcode h, le-leb opcode 243 (omega arith)) refl

    pub counted_preamble : opcode ≡ 247 → unsigned_at params 1 1 ≡ counted_bytes opcode params
    unfolding counted_bytes
    counted_preamble e = rw e refl

    pub counted_none : 244 ≤ opcode → (opcode ≡ 247 → ⊥) → 0 ≡ counted_bytes opcode params
    unfolding counted_bytes
    counted_none h n =
        rw (le-ltb opcode 240 (omega arith), le-leb 240 opcode (omega arith), lt-leb opcode 243 (omega arith), ne_eqb opcode 247 n) refl

-- ---- which kind

-- the kinds of opcodes by their lengths
pub data Sort (opcode : ℕ) : Type 0 where
  packet : opcode < 240 → Sort opcode
  special : 240 ≤ opcode → opcode < 244 → Sort opcode
  number : opcode ≡ 244 → Sort opcode
  preamble : opcode ≡ 247 → Sort opcode
  other : 244 < opcode → (opcode ≡ 247 → ⊥) → Sort opcode

pub sort_of : (opcode : ℕ) → Sort opcode
sort_of opcode = go (ltb opcode 240) (ltb opcode 244) (eqb opcode 244) (eqb opcode 247) refl refl refl refl
  where
    go : (p s n e : Bool) → ltb opcode 240 ≡ p → ltb opcode 244 ≡ s → eqb opcode 244 ≡ n → eqb opcode 247 ≡ e → Sort opcode
    go true s n e a b c d = packet (ltb-true opcode 240 a)
    go false true n e a b c d = special (ltb-false opcode 240 a) (ltb-true opcode 244 b)
    go false false true e a b c d = number (eqb-true opcode 244 c)
    go false false false true a b c d = preamble (eqb-true opcode 247 d)
    go false false false false a b c d =
        let differs : opcode ≡ 244 → ⊥ = eqb-false opcode 244 c in
        other (omega (arith, ltb-false opcode 244 b, differs)) (eqb-false opcode 247 d)
