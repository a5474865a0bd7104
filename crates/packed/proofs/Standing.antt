-- The commands that the judging takes off a file stand in it one after the other, and each keeps the rules where it stands. Assumes nothing.
use mathlib.Core.Path.{◌≡◌, refl, sym, ap, ◌∙◌}
use mathlib.Core.Bool.{true, not}
use mathlib.Core.List.{List, [], ◌∷◌}
use Prim.Native.Nat.{ℕ, zero, suc, ◌+◌, ◌≤◌}
use native.Mathlib.Omega.{arith}
use lib.Dec.{ltb}
use lib.ListN.{length, drop}
use lib.Seq.{drop-drop}
use borrow.Author.Tests.{ltb-false}
use Rattle.refusals.specs.Answer.{given}
use Rattle.refusals.proofs.Answer.{given_not_refused, given_next, given_same}
use Rattle.commands.specs.Commands.{Command, place}
use Rattle.packed.specs.Commands.{param_bytes}
use Rattle.packed.specs.Rules.{ended, font_fault}
use Rattle.packed.specs.Judged.{taken, font_judged_from, font_judged}
use Rattle.packed.proofs.Says.{not_true}
use Rattle.packed.proofs.Faults.{taken_length}

-- the commands of past, the newest first, stand in the file from its start on
pub data Standing (pk : List ℕ) : List Command → Type 0 where
  start : Standing pk []
  more : {past : List Command} (opcode : ℕ) (rest : List ℕ) → Standing pk past → drop (place past) pk ≡ opcode ∷ rest → param_bytes opcode rest ≤ length rest
      → font_fault past (taken opcode rest) ≡ 0 → Standing pk (taken opcode rest ∷ past)

-- what the judging gives of a file
pub record Judged (pk : List ℕ) (all : List Command) : Type 0 where
  pub stand : Standing pk all
  pub end : ended all ≡ true
  pub whole : drop (place all) pk ≡ []

-- behind a command
pub behind : (pk : List ℕ) (past : List Command) (opcode : ℕ) (rest : List ℕ) → drop (place past) pk ≡ opcode ∷ rest → param_bytes opcode rest ≤ length rest
    → drop (place (taken opcode rest ∷ past)) pk ≡ drop (param_bytes opcode rest) rest
behind pk past opcode rest here fits =
    let size = param_bytes opcode rest in
    let count : place (taken opcode rest ∷ past) ≡ place past + suc size = omega (arith, taken_length opcode rest fits) in
    ap (λ (n : ℕ). drop n pk) count ∙ sym (drop-drop (suc size) (place past) pk) ∙ ap (drop (suc size)) here

pub never : (past : List Command) (bytes : List ℕ) (all : List Command) → font_judged_from zero past bytes ≡ given all → ⊥
unfolding font_judged_from
never past bytes all e = given_not_refused all 18 (place past) (sym e)

pub at_end : (left : ℕ) (past all : List Command) → font_judged_from (suc left) past [] ≡ given all → (ended past ≡ true) × (past ≡ all)
unfolding font_judged_from
at_end left past all e =
    let next = given_next (not (ended past)) 18 (place past) (given past) all e in
    (not_true (ended past) next.0, given_same past all next.1)

-- one command more: its bytes are there, it earns no refusal, and the rest is judged
pub record Goes (left : ℕ) (past : List Command) (opcode : ℕ) (rest : List ℕ) (all : List Command) : Type 0 where
  pub fits : param_bytes opcode rest ≤ length rest
  pub right : font_fault past (taken opcode rest) ≡ 0
  pub onward : font_judged_from left (taken opcode rest ∷ past) (drop (param_bytes opcode rest) rest) ≡ given all

pub goes_on : (left : ℕ) (past : List Command) (opcode : ℕ) (rest : List ℕ) (all : List Command) → font_judged_from (suc left) past (opcode ∷ rest) ≡ given all
    → Goes left past opcode rest all
unfolding font_judged_from
goes_on left past opcode rest all e =
    let cut = given_next (ltb (length rest) (param_bytes opcode rest)) 18 (place past) _ all e in
    let due = given_next (ltb 0 (font_fault past (taken opcode rest))) (font_fault past (taken opcode rest)) (place past) _ all cut.1 in
    record {
      fits = ltb-false (length rest) (param_bytes opcode rest) cut.0;
      right = omega (arith, ltb-false 0 (font_fault past (taken opcode rest)) due.0);
      onward = due.1;
    }

stands_from : (pk : List ℕ) (left : ℕ) (past : List Command) (bytes : List ℕ) (all : List Command) → Standing pk past → drop (place past) pk ≡ bytes
    → font_judged_from left past bytes ≡ given all → Judged pk all
stands_from pk zero past bytes all stand here e = absurd (never past bytes all e)
stands_from pk (suc left) past [] all stand here e =
    let (end, same) = at_end left past all e in
    rw (← same) (record { stand = stand; end = end; whole = here })
stands_from pk (suc left) past (opcode ∷ rest) all stand here e =
    let goes = goes_on left past opcode rest all e in
    stands_from
    pk
    left
    (taken opcode rest ∷ past)
    (drop (param_bytes opcode rest) rest)
    all
    (more opcode rest stand here goes.fits goes.right)
    (behind pk past opcode rest here goes.fits)
    goes.onward

pub judged_stands : (pk : List ℕ) (all : List Command) → font_judged pk ≡ given all → Judged pk all
unfolding font_judged
judged_stands pk all e = stands_from pk (suc (length pk)) [] pk all start refl e
