-- Which numbers a PK file and the table made from it are refused with, and at which places. Assumes nothing.
use mathlib.Core.Path.{◌≡◌, refl, ap}
use mathlib.Core.Bool.{Bool, true, false, cond, not}
use mathlib.Core.List.{List, [], ◌∷◌}
use mathlib.Core.Logic.{inl, inr}
use Prim.Native.Nat.{ℕ, zero, suc, ◌+◌, ◌*◌, ◌≤◌, ◌<◌}
use native.Mathlib.Omega.{arith}
use lib.Dec.{ltb}
use lib.ListN.{length, drop, length-drop}
use borrow.Author.Tests.{ltb-true, ltb-false}
use Rattle.refusals.specs.Answer.{Answer, given, refuse_if}
use Rattle.refusals.specs.RefusedOnly.{RefusedOnly, FontRefusal, MadeRefusal}
use Rattle.refusals.proofs.RefusedOnly.{if_only, then_only, only_wider}
use Rattle.numbers.specs.Sizes.{lawful_size}
use Rattle.commands.specs.Commands.{Command, place}
use Rattle.widths.specs.Table.{width_record_size}
use Rattle.packed.specs.Commands.{is_packet, param_bytes}
use Rattle.packed.specs.Rules.{ended, misplaced_after, too_short, packet_wrong, font_fault}
use Rattle.packed.specs.Judged.{taken, font_judged_from, font_judged}
use Rattle.packed.specs.Table.{font_table, with_room, table_made, records_made}
use Rattle.packed.proofs.Faults.{taken_length}
use Rattle.packed.proofs.Standing.{behind}

-- a number that is due is 19, 20 or 21
pub fault_range : (past : List Command) (c : Command) → 0 < font_fault past c → (19 ≤ font_fault past c) × (font_fault past c ≤ 21)
unfolding font_fault
fault_range past c some = go (misplaced_after past c) (is_packet c.opcode) (too_short c) (packet_wrong past c) some
  where
    go : (m p s w : Bool) → 0 < cond m 19 (cond p (cond s 20 (cond w 21 0)) 0)
        → (19 ≤ cond m 19 (cond p (cond s 20 (cond w 21 0)) 0)) × (cond m 19 (cond p (cond s 20 (cond w 21 0)) 0) ≤ 21)
    go true p s w h = (omega arith, omega arith)
    go false true true w h = (omega arith, omega arith)
    go false true false true h = (omega arith, omega arith)
    go false true false false h = absurd (omega arith)
    go false false s w h = absurd (omega arith)

module _ (pk : List ℕ) where
  -- a command is refused in the file, with a number that is due
  by_fault : (past : List Command) (c : Command) (next : Answer (List Command)) → place past < length pk → RefusedOnly (FontRefusal pk) next
      → RefusedOnly (FontRefusal pk) (refuse_if (ltb 0 (font_fault past c)) (font_fault past c) (place past) next)
  by_fault past c next inside rest = go (ltb 0 (font_fault past c)) refl
    where
      go : (b : Bool) → ltb 0 (font_fault past c) ≡ b → RefusedOnly (FontRefusal pk) (refuse_if b (font_fault past c) (place past) next)
      go true e = let (low, high) = fault_range past c (ltb-true 0 (font_fault past c) e) in inr (low, high, inside)
      go false e = rest

  only_from : (left : ℕ) (past : List Command) (bytes : List ℕ) → drop (place past) pk ≡ bytes → place past ≤ length pk → RefusedOnly (FontRefusal pk) (font_judged_from left past bytes)
  unfolding font_judged_from
  only_from zero past bytes here within = inl (refl, within)
  only_from (suc left) past [] here within = if_only (FontRefusal pk) (not (ended past)) 18 (place past) (given past) (inl (refl, within)) tt
  only_from (suc left) past (opcode ∷ rest) here within = go (ltb (length rest) (param_bytes opcode rest)) refl (only_from left (taken opcode rest ∷ past) (drop (param_bytes opcode rest) rest))
    where
      long : length pk ≡ place past + suc (length rest)
      long = omega (arith, ap length here, length-drop (place past) pk)

      go : (b : Bool) → ltb (length rest) (param_bytes opcode rest) ≡ b
          → (drop (place (taken opcode rest ∷ past)) pk ≡ drop (param_bytes opcode rest) rest → place (taken opcode rest ∷ past) ≤ length pk
          → RefusedOnly (FontRefusal pk) (font_judged_from left (taken opcode rest ∷ past) (drop (param_bytes opcode rest) rest)))
          → RefusedOnly
          (FontRefusal pk)
          (refuse_if b 18 (place past)
          (refuse_if (ltb 0 (font_fault past (taken opcode rest))) (font_fault past (taken opcode rest)) (place past)
          (font_judged_from left (taken opcode rest ∷ past) (drop (param_bytes opcode rest) rest))))
      go true e onward = inl (refl, within)
      go false e onward =
          let fits = ltb-false (length rest) (param_bytes opcode rest) e in
          by_fault past (taken opcode rest) _ (omega (arith, long)) (onward (behind pk past opcode rest here fits) (omega (arith, long, taken_length opcode rest fits)))

  pub font_refused_with : RefusedOnly (FontRefusal pk) (font_judged pk)
  unfolding font_judged
  font_refused_with = only_from (suc (length pk)) [] pk refl (omega arith)

  pub made_refused_with : (scale room : ℕ) → RefusedOnly (MadeRefusal pk) (records_made (table_made pk scale room))
  made_refused_with scale room =
      let May = MadeRefusal pk in
      then_only May (table_made pk scale room) (λ entries. given (length entries)) (
      if_only May (not (lawful_size scale)) 22 0 _ (inl (refl, refl)) (
      then_only May (font_judged pk) (λ past. with_room room (font_table scale past)) (only_wider (FontRefusal pk) May (font_judged pk) (λ number place may. inr (inl may)) font_refused_with) (
      λ past. if_only May (ltb room (width_record_size * length (font_table scale past))) 17 0 (given (font_table scale past)) (inr (inr (refl, refl))) tt
      )
      )
      ) (λ entries. tt)
