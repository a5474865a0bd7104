-- What stands in a command's first bytes does not hang on the bytes behind. Assumes nothing.
use mathlib.Core.Path.{◌≡◌, refl, sym, ap, ◌∙◌}
use mathlib.Core.Bool.{Bool, true, false, cond}
use mathlib.Core.List.{List, ◌++◌}
use Prim.Native.Nat.{ℕ, ◌+◌, ◌-◌, ◌^◌, ◌≤◌}
use native.Mathlib.Omega.{arith}
use lib.ListN.{length, drop, get_or}
use lib.IntN.{ℤ, pos}
use Rattle.numbers.specs.Signs.{from_twos}
use Rattle.numbers.specs.Bytes.{unsigned_at, signed_at}
use Rattle.numbers.proofs.Bytes.{unsigned_one, unsigned_front, unsigned_drop}
use Rattle.packed.specs.declared.Form.{Form}
use Rattle.packed.specs.Commands.{form_of, fixed_bytes, counted_bytes}
use Rattle.packed.specs.Packets.{code_in, width_in, escapement_in, escapement_start, is_long, nearest}
use Rattle.packed.specs.Steps.{packet_of}
use Rattle.packed.proofs.Forms.{form_sized, Sort, packet, special, number, preamble, other, sort_of, fixed_packet, fixed_special, fixed_preamble, counted_packet, counted_special, counted_preamble, counted_none}

-- a number that stands at a place behind another
pub there : (pk : List ℕ) (from at place count : ℕ) → place ≡ from + at → unsigned_at pk place count ≡ unsigned_at (drop from pk) at count
there pk from at place count e = ap (λ (n : ℕ). unsigned_at pk n count) e ∙ sym (unsigned_drop pk from at count)

-- the byte behind a place
pub first_byte : (pk : List ℕ) (at : ℕ) → unsigned_at (drop (at + 1) pk) 0 1 ≡ get_or pk (at + 1) 0
first_byte pk at = sym (there pk (at + 1) 0 (at + 1) 1 (omega arith)) ∙ unsigned_one pk (at + 1)

-- ---- how many bytes are counted

pub counted_front : (opcode : ℕ) (params more : List ℕ) → fixed_bytes opcode ≤ length params → counted_bytes opcode (params ++ more) ≡ counted_bytes opcode params
counted_front opcode params more h = go (sort_of opcode)
  where
    go : Sort opcode → counted_bytes opcode (params ++ more) ≡ counted_bytes opcode params
    go (packet k) =
        sym (counted_packet opcode (params ++ more) k)
        ∙ ap (λ (n : ℕ). (form_of opcode).added + n) (unsigned_front params more 0 (form_of opcode).length (omega (arith, fixed_packet opcode k)))
        ∙ counted_packet opcode params k
    go (special k l) =
        sym (counted_special opcode (params ++ more) k l) ∙ unsigned_front params more 0 (opcode - 239) (omega (arith, fixed_special opcode k l)) ∙ counted_special opcode params k l
    go (number e) =
        let differs : opcode ≡ 247 → ⊥ = λ f. omega (arith, e, f) in
        sym (counted_none opcode (params ++ more) (omega (arith, e)) differs) ∙ counted_none opcode params (omega (arith, e)) differs
    go (preamble e) =
        sym (counted_preamble opcode (params ++ more) e) ∙ unsigned_front params more 1 1 (omega (arith, fixed_preamble opcode e)) ∙ counted_preamble opcode params e
    go (other k n) = sym (counted_none opcode (params ++ more) (omega arith) n) ∙ counted_none opcode params (omega arith) n

-- ---- what a packet says

module _ (flag : ℕ) (params more : List ℕ) (room : (form_of flag).length + (form_of flag).code + (form_of flag).fields ≤ length params) where
  pub code_front : code_in flag (params ++ more) ≡ code_in flag params
  unfolding code_in
  code_front = unsigned_front params more (form_of flag).length (form_of flag).code (omega arith)

  pub width_front : width_in flag (params ++ more) ≡ width_in flag params
  unfolding width_in
  width_front = let s = form_sized flag in unsigned_front params more ((form_of flag).length + (form_of flag).code) (form_of flag).width (omega (arith, s.fields_hold))

  behind : (long : Bool) → is_long flag ≡ long
      → cond long (nearest (from_twos (256 ^ 4) (unsigned_at (params ++ more) (escapement_start flag) 4))) (pos (unsigned_at (params ++ more) (escapement_start flag) (form_of flag).escapement))
      ≡ cond long (nearest (from_twos (256 ^ 4) (unsigned_at params (escapement_start flag) 4))) (pos (unsigned_at params (escapement_start flag) (form_of flag).escapement))
  behind true e =
      let s = form_sized flag in
      ap (λ (n : ℕ). nearest (from_twos (256 ^ 4) n)) (unsigned_front params more (escapement_start flag) 4 (omega (arith, s.fields_hold, s.long_four e)))
  behind false e = let s = form_sized flag in ap pos (unsigned_front params more (escapement_start flag) (form_of flag).escapement (omega (arith, s.fields_hold)))

  pub escapement_front : escapement_in flag (params ++ more) ≡ escapement_in flag params
  unfolding escapement_in
  escapement_front = behind (is_long flag) refl

-- ---- a packet read in a file

module _ (pk : List ℕ) (from flag : ℕ) (f : Form) (same : f ≡ form_of flag) where
  pub code_read : (start : ℕ) → start ≡ from + f.length → unsigned_at pk start f.code ≡ code_in flag (drop from pk)
  unfolding code_in
  code_read start e =
      there pk from f.length start f.code e ∙ ap (λ (g : Form). unsigned_at (drop from pk) g.length g.code) same

  pub width_read : (start : ℕ) → start ≡ from + (f.length + f.code) → unsigned_at pk start f.width ≡ width_in flag (drop from pk)
  unfolding width_in
  width_read start e =
      there pk from (f.length + f.code) start f.width e ∙ ap (λ (g : Form). unsigned_at (drop from pk) (g.length + g.code) g.width) same

  pub dm_read : (start : ℕ) → start ≡ from + (f.length + f.code + f.width) → is_long flag ≡ false
      → pos (unsigned_at pk start f.escapement) ≡ escapement_in flag (drop from pk)
  unfolding escapement_in
  dm_read start e short =
      ap pos (there pk from (f.length + f.code + f.width) start f.escapement e ∙ ap (λ (g : Form). unsigned_at (drop from pk) (g.length + g.code + g.width) g.escapement) same)
      ∙ sym (ap (λ (b : Bool). cond b (nearest (signed_at (drop from pk) (escapement_start flag) 4)) (pos (unsigned_at (drop from pk) (escapement_start flag) (form_of flag).escapement))) short)

  pub dx_read : (start : ℕ) → start ≡ from + (f.length + f.code + f.width) → is_long flag ≡ true → nearest (signed_at pk start 4) ≡ escapement_in flag (drop from pk)
  unfolding escapement_in
  dx_read start e long =
      ap (λ (n : ℕ). nearest (from_twos (256 ^ 4) n)) (there pk from (f.length + f.code + f.width) start 4 e ∙ ap (λ (g : Form). unsigned_at (drop from pk) (g.length + g.code + g.width) 4) same)
      ∙ sym (ap (λ (b : Bool). cond b (nearest (signed_at (drop from pk) (escapement_start flag) 4)) (pos (unsigned_at (drop from pk) (escapement_start flag) (form_of flag).escapement))) long)

-- its fields make the packet
pub packet_is : (flag : ℕ) (rest : List ℕ) (code width : ℕ) (escapement : ℤ) → code ≡ code_in flag rest → width ≡ width_in flag rest → escapement ≡ escapement_in flag rest
    → record { code = code; width = width; escapement = escapement } ≡ packet_of flag rest
packet_is flag rest code width escapement code_is width_is escapement_is = rw (code_is, width_is, escapement_is) refl
