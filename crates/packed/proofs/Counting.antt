-- There are as many records as packets. Assumes nothing.
use mathlib.Core.Path.{◌≡◌, refl, ap, ap₂, ◌∙◌}
use mathlib.Core.Bool.{Bool, true, false, cond, ◌&&◌}
use mathlib.Core.List.{List, [], ◌∷◌, ◌++◌}
use Prim.Native.Nat.{ℕ, zero, suc, ◌+◌, ◌≤◌, ◌<◌}
use native.Mathlib.Omega.{arith}
use lib.Dec.{eqb}
use lib.ListN.{length, length-append}
use borrow.Author.Tests.{ne_eqb, eqb-true, eqb-false}
use Rattle.commands.specs.Commands.{Command}
use Rattle.packed.specs.Commands.{is_packet}
use Rattle.packed.specs.Packets.{code_in}
use Rattle.packed.specs.Rules.{is_packet_for, packets}
use Rattle.packed.specs.Judged.{taken}
use Rattle.packed.specs.Table.{font_checksum, entry_of, packets_for, packets_from, font_table}
use Rattle.packed.proofs.Faults.{packet_right}
use Rattle.packed.proofs.Standing.{Standing, start, more}
use Rattle.packed.proofs.Written.{length_map}

module _ (c : Command) (past : List Command) where
  abbrev k : ℕ
  k = code_in c.opcode c.params

  -- a command for another code adds nothing for this one
  other : (code : ℕ) → is_packet_for code c ≡ false → packets_for code (c ∷ past) ≡ packets_for code past
  other code e = rw e refl

  -- what is no packet adds nothing
  no_packet : is_packet c.opcode ≡ false → (left code : ℕ) → packets_from left code (c ∷ past) ≡ packets_from left code past
  no_packet e zero code = refl
  no_packet e (suc left) code =
      ap₂ (λ (a b : List Command). a ++ b) (other code (ap (λ (b : Bool). b && eqb (code_in c.opcode c.params) code) e)) (no_packet e left (suc code))

  module _ (flag : is_packet c.opcode ≡ true) where
    not_for : (code : ℕ) → (code_in c.opcode c.params ≡ code → ⊥) → packets_for code (c ∷ past) ≡ packets_for code past
    not_for code differs = other code (rw (flag, ne_eqb (code_in c.opcode c.params) code differs) refl)

    -- nor does a packet for codes above its own
    above : (left code : ℕ) → code_in c.opcode c.params < code → packets_from left code (c ∷ past) ≡ packets_from left code past
    above zero code h = refl
    above (suc left) code h = ap₂ (λ (a b : List Command). a ++ b) (not_for code (λ e. omega (arith, e))) (above left (suc code) (omega arith))

    -- among codes that its own is one of it adds one
    among : (left code : ℕ) → code ≤ code_in c.opcode c.params → code_in c.opcode c.params < code + left
        → length (packets_from left code (c ∷ past)) ≡ length (packets_from left code past) + 1
    among zero code low high = absurd (omega arith)
    among (suc left) code low high = go (eqb (code_in c.opcode c.params) code) refl (among left (suc code))
      where
        go : (b : Bool) → eqb (code_in c.opcode c.params) code ≡ b
            → (suc code ≤ code_in c.opcode c.params → code_in c.opcode c.params < suc code + left
            → length (packets_from left (suc code) (c ∷ past)) ≡ length (packets_from left (suc code) past) + 1)
            → length (packets_for code (c ∷ past) ++ packets_from left (suc code) (c ∷ past)) ≡ length (packets_for code past ++ packets_from left (suc code) past) + 1
        go true e later =
            let same = eqb-true (code_in c.opcode c.params) code e in
            let here : packets_for code (c ∷ past) ≡ c ∷ packets_for code past = rw (flag, e) refl in
            ap₂ (λ (a b : List Command). length (a ++ b)) here (above left (suc code) (omega (arith, same)))
            ∙ omega arith
        go false e later =
            let differs = eqb-false (code_in c.opcode c.params) code e in
            let beyond : suc code ≤ code_in c.opcode c.params = omega (arith, differs) in
            ap (λ (l : List Command). length (l ++ packets_from left (suc code) (c ∷ past))) (not_for code differs)
            ∙ omega (
              arith,
              length-append (packets_for code past) (packets_from left (suc code) (c ∷ past)),
              length-append (packets_for code past) (packets_from left (suc code) past),
              later beyond (omega arith),
            )

pub packets_counted : (pk : List ℕ) (past : List Command) → Standing pk past → length (packets_from 256 0 past) ≡ packets past
packets_counted pk [] start = none_from 256 0
  where
    none_from : (left code : ℕ) → length (packets_from left code []) ≡ 0
    none_from zero code = refl
    none_from (suc left) code = none_from left (suc code)
packets_counted pk (c ∷ past) (more opcode rest stand here fits right) = go (is_packet opcode) refl (packets_counted pk past stand)
  where
    go : (b : Bool) → is_packet opcode ≡ b → length (packets_from 256 0 past) ≡ packets past
        → length (packets_from 256 0 (taken opcode rest ∷ past)) ≡ cond b (packets past + 1) (packets past)
    go true e before =
        let whole = packet_right past (taken opcode rest) right e in
        among (taken opcode rest) past e 256 0 (omega arith) (omega (arith, whole.code_small)) ∙ ap (λ (n : ℕ). n + 1) before
    go false e before = ap length (no_packet (taken opcode rest) past e 256 0) ∙ before

pub records_counted : (pk : List ℕ) (scale : ℕ) (past : List Command) → Standing pk past → length (font_table scale past) ≡ packets past
records_counted pk scale past stand = length_map (entry_of (font_checksum past) scale) (packets_from 256 0 past) ∙ packets_counted pk past stand
