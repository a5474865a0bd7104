-- What is found of a packet and of a command, case by case. Assumes nothing.
use mathlib.Core.Path.{◌≡◌, refl, ap}
use mathlib.Core.Bool.{Bool, true, false, cond, not}
use mathlib.Core.List.{List}
use Prim.Native.Nat.{ℕ, ◌+◌, ◌≤◌, ◌<◌}
use native.Mathlib.Omega.{arith}
use lib.Dec.{ltb}
use lib.ListN.{length}
use borrow.Author.Tests.{ltb-true, ltb-false}
use Rattle.std.specs.Prelude.{Some, None}
use Rattle.refusals.specs.Answer.{Answer, refused, given, refuse_if}
use Rattle.packed.specs.declared.Found.{Found}
use Rattle.packed.specs.Commands.{is_packet, form_of, counted_bytes, param_bytes}
use Rattle.packed.specs.Packets.{code_in}
use Rattle.packed.specs.Steps.{misplaced_at, wrong_fields, packet_of, found_at}

pub clash : true ≡ false → ◌≡◌ {A = ℕ} 0 1
clash e = cc

pub not_true : (b : Bool) → not b ≡ false → b ≡ true
not_true true e = refl
not_true false e = absurd (let z = clash e in omega arith)

-- ---- a command

-- 20 or 21 or 0, by the bytes that the packet length counts
abbrev pub packet_number : List ℕ → ℕ → List ℕ → ℕ
packet_number noted flag rest = cond (ltb (counted_bytes flag rest) (form_of flag).fields) 20 (cond (wrong_fields noted (packet_of flag rest)) 21 0)

-- 19 to 21 or 0
abbrev pub number_at : ℕ → Bool → List ℕ → ℕ → List ℕ → ℕ
number_at at ended noted opcode rest = cond (misplaced_at at ended opcode rest) 19 (cond (is_packet opcode) (packet_number noted opcode rest) 0)

-- the number of the refusal that a command earns, or 0
abbrev pub fault_number : Answer Found → ℕ
fault_number (refused number place) = number
fault_number (given found) = 0

-- what is found of a command that earns one
pub record Faulty (at number place : ℕ) : Type 0 where
  pub some : 0 < number
  pub here : place ≡ at

-- what is found of a command that earns none
pub record Right (at : ℕ) (opcode : ℕ) (rest : List ℕ) (f : Found) : Type 0 where
  pub fits : param_bytes opcode rest ≤ length rest
  pub next : f.next ≡ at + 1 + param_bytes opcode rest
  pub packet : opcode < 240 → f.code ≡ Some (code_in opcode rest)
  pub other : 240 ≤ opcode → f.code ≡ None

module _ (at : ℕ) (ended : Bool) (noted : List ℕ) (opcode : ℕ) (rest : List ℕ) where
  abbrev packet : Found
  packet = record { next = at + 1 + param_bytes opcode rest; code = Some (code_in opcode rest) }

  abbrev other : Found
  other = record { next = at + 1 + param_bytes opcode rest; code = None }

  -- by the outcomes of the tests: cut, misplaced, a packet, short, wrong
  abbrev by_tests : Bool → Bool → Bool → Bool → Bool → Answer Found
  by_tests c m p s w = refuse_if c 18 at (refuse_if m 19 at (cond p (refuse_if s 20 at (refuse_if w 21 at (given packet))) (given other)))

  pub found_number : fault_number (found_at at ended noted opcode rest) ≡ cond (ltb (length rest) (param_bytes opcode rest)) 18 (number_at at ended noted opcode rest)
  found_number =
      go
      (ltb (length rest) (param_bytes opcode rest))
      (misplaced_at at ended opcode rest)
      (is_packet opcode)
      (ltb (counted_bytes opcode rest) (form_of opcode).fields)
      (wrong_fields noted (packet_of opcode rest))
    where
      go : (c m p s w : Bool) → fault_number (by_tests c m p s w) ≡ cond c 18 (cond m 19 (cond p (cond s 20 (cond w 21 0)) 0))
      go true m p s w = refl
      go false true p s w = refl
      go false false false s w = refl
      go false false true true w = refl
      go false false true false true = refl
      go false false true false false = refl

  pub found_faulty : (number place : ℕ) → found_at at ended noted opcode rest ≡ refused number place → Faulty at number place
  found_faulty number place =
      go
      (ltb (length rest) (param_bytes opcode rest))
      (misplaced_at at ended opcode rest)
      (is_packet opcode)
      (ltb (counted_bytes opcode rest) (form_of opcode).fields)
      (wrong_fields noted (packet_of opcode rest))
    where
      faulty : (n : ℕ) → 0 < n → ◌≡◌ {A = Answer Found} (refused n at) (refused number place) → Faulty at number place
      faulty n some e = let same : n ≡ number = cc in record { some = omega arith; here = cc }

      never : (f : Found) → ◌≡◌ {A = Answer Found} (given f) (refused number place) → ⊥
      never f e = let z : ◌≡◌ {A = ℕ} 0 1 = cc in omega arith

      go : (c m p s w : Bool) → by_tests c m p s w ≡ refused number place → Faulty at number place
      go true m p s w e = faulty 18 (omega arith) e
      go false true p s w e = faulty 19 (omega arith) e
      go false false false s w e = absurd (never other e)
      go false false true true w e = faulty 20 (omega arith) e
      go false false true false true e = faulty 21 (omega arith) e
      go false false true false false e = absurd (never packet e)

  pub found_right : (f : Found) → found_at at ended noted opcode rest ≡ given f → Right at opcode rest f
  found_right f =
      go
      (ltb (length rest) (param_bytes opcode rest))
      (misplaced_at at ended opcode rest)
      (is_packet opcode)
      (ltb (counted_bytes opcode rest) (form_of opcode).fields)
      (wrong_fields noted (packet_of opcode rest))
      refl
      refl
    where
      never : (number : ℕ) → ◌≡◌ {A = Answer Found} (refused number at) (given f) → ⊥
      never number e = let z : ◌≡◌ {A = ℕ} 0 1 = cc in omega arith

      same : (g : Found) → ◌≡◌ {A = Answer Found} (given g) (given f) → f ≡ g
      same g e = cc

      go : (c m p s w : Bool) → ltb (length rest) (param_bytes opcode rest) ≡ c → is_packet opcode ≡ p → by_tests c m p s w ≡ given f → Right at opcode rest f
      go true m p s w c_is p_is e = absurd (never 18 e)
      go false true p s w c_is p_is e = absurd (never 19 e)
      go false false false s w c_is p_is e =
          record {
            fits = ltb-false (length rest) (param_bytes opcode rest) c_is;
            next = ap (λ (g : Found). g.next) (same other e);
            packet = λ h. absurd (omega (arith, ltb-false opcode 240 p_is));
            other = λ h. ap (λ (g : Found). g.code) (same other e);
          }
      go false false true true w c_is p_is e = absurd (never 20 e)
      go false false true false true c_is p_is e = absurd (never 21 e)
      go false false true false false c_is p_is e =
          record {
            fits = ltb-false (length rest) (param_bytes opcode rest) c_is;
            next = ap (λ (g : Found). g.next) (same packet e);
            packet = λ h. ap (λ (g : Found). g.code) (same packet e);
            other = λ h. absurd (omega (arith, ltb-true opcode 240 p_is));
          }
