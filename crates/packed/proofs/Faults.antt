-- What a command that earns no refusal keeps, and that the code's numbers are those of the rules. Assumes nothing.
use mathlib.Core.Path.{◌≡◌, refl, sym, ap, ◌∙◌}
use mathlib.Core.Bool.{Bool, true, false, cond, not, ◌&&◌, ◌||◌}
use mathlib.Core.List.{List, [], ◌∷◌, ◌++◌}
use Prim.Native.Nat.{ℕ, ◌+◌, ◌/◌, ◌≤◌, ◌<◌}
use native.Mathlib.Omega.{arith}
use lib.Dec.{ltb, leb, eqb}
use lib.ListN.{length, take, drop, get_or, take-append-drop}
use lib.Seq.{length-take-le}
use lib.IntN.{ℤ}
use borrow.Author.Tests.{ltb-true, ltb-false, ne_eqb, eqb-true}
use Rattle.numbers.specs.Bytes.{unsigned_at}
use Rattle.numbers.proofs.Bytes.{unsigned_front}
use Rattle.scaling.specs.Scaling.{lawful_first}
use Rattle.commands.specs.Commands.{Command, place}
use Rattle.packed.specs.Commands.{is_packet, is_no_op, is_preamble, form_of, counted_bytes, param_bytes}
use Rattle.packed.specs.Packets.{code_in, width_in, escapement_in}
use Rattle.packed.specs.Rules.{ended, met, identification, misplaced_after, too_short, lawful_escapement, packet_wrong, packet_fault, font_fault}
use Rattle.packed.specs.Judged.{taken}
use Rattle.packed.specs.Steps.{misplaced_at, wrong_fields, packet_of}
use Rattle.packed.proofs.Forms.{fixed_packet, fixed_preamble}
use Rattle.packed.proofs.Fields.{counted_front, code_front, width_front, escapement_front}
use Rattle.packed.proofs.Says.{clash, packet_number, number_at}

-- ---- a packet that breaks no rule

-- what it keeps
pub record RightPacket (past : List Command) (c : Command) : Type 0 where
  pub standing : misplaced_after past c ≡ false
  pub room : (form_of c.opcode).fields ≤ counted_bytes c.opcode c.params
  pub code_small : code_in c.opcode c.params < 256
  pub code_new : met (code_in c.opcode c.params) past ≡ false
  pub first_right : lawful_first (width_in c.opcode c.params / 16777216) ≡ true
  pub escapement_right : lawful_escapement (escapement_in c.opcode c.params) ≡ true

-- tests of which none holds
four : (a b l e : Bool) → (a || (b || (not l || not e))) ≡ false → (a ≡ false) × (b ≡ false) × (l ≡ true) × (e ≡ true)
four true b l e h = absurd (let z = clash h in omega arith)
four false true l e h = absurd (let z = clash h in omega arith)
four false false false e h = absurd (let z = clash h in omega arith)
four false false true false h = absurd (let z = clash h in omega arith)
four false false true true h = (refl, refl, refl, refl)

-- numbers of which none is due
none_due : (m s w : Bool) → ◌≡◌ {A = ℕ} (cond m 19 (cond s 20 (cond w 21 0))) 0 → (m ≡ false) × (s ≡ false) × (w ≡ false)
none_due true s w h = absurd (omega arith)
none_due false true w h = absurd (omega arith)
none_due false false true h = absurd (omega arith)
none_due false false false h = (refl, refl, refl)

pub packet_right : (past : List Command) (c : Command) → font_fault past c ≡ 0 → is_packet c.opcode ≡ true → RightPacket past c
unfolding font_fault
packet_right past c right flag =
    let due = none_due (misplaced_after past c) (too_short c) (packet_wrong past c) (sym (ap (λ (b : Bool). cond (misplaced_after past c) 19 (cond b (packet_fault past c) 0)) flag) ∙ right) in
    let tests = four (ltb 255 (code_in c.opcode c.params)) (met (code_in c.opcode c.params) past) (lawful_first (width_in c.opcode c.params / 16777216))
    (lawful_escapement (escapement_in c.opcode c.params)) due.2 in
    record {
      standing = due.0;
      room = ltb-false (counted_bytes c.opcode c.params) (form_of c.opcode).fields due.1;
      code_small = omega (arith, ltb-false 255 (code_in c.opcode c.params) tests.0);
      code_new = tests.1;
      first_right = tests.2;
      escapement_right = tests.3;
    }

-- ---- a command taken off the bytes

module _ (opcode : ℕ) (rest : List ℕ) (fits : param_bytes opcode rest ≤ length rest) where
  abbrev params : List ℕ
  params = take (param_bytes opcode rest) rest

  pub taken_length : length (take (param_bytes opcode rest) rest) ≡ param_bytes opcode rest
  taken_length = length-take-le (param_bytes opcode rest) rest fits

  split : take (param_bytes opcode rest) rest ++ drop (param_bytes opcode rest) rest ≡ rest
  split = take-append-drop (param_bytes opcode rest) rest

  pub counted_taken : counted_bytes opcode (take (param_bytes opcode rest) rest) ≡ counted_bytes opcode rest
  counted_taken =
      sym (counted_front opcode params (drop (param_bytes opcode rest) rest) (omega (arith, taken_length))) ∙ ap (counted_bytes opcode) split

  module _ (flag : opcode < 240) (room : (form_of opcode).fields ≤ counted_bytes opcode rest) where
    enough : (form_of opcode).length + (form_of opcode).code + (form_of opcode).fields ≤ length (take (param_bytes opcode rest) rest)
    enough = omega (arith, taken_length, fixed_packet opcode flag)

    pub code_taken : code_in opcode (take (param_bytes opcode rest) rest) ≡ code_in opcode rest
    code_taken = sym (code_front opcode params (drop (param_bytes opcode rest) rest) enough) ∙ ap (code_in opcode) split

    pub width_taken : width_in opcode (take (param_bytes opcode rest) rest) ≡ width_in opcode rest
    width_taken = sym (width_front opcode params (drop (param_bytes opcode rest) rest) enough) ∙ ap (width_in opcode) split

    pub escapement_taken : escapement_in opcode (take (param_bytes opcode rest) rest) ≡ escapement_in opcode rest
    escapement_taken = sym (escapement_front opcode params (drop (param_bytes opcode rest) rest) enough) ∙ ap (escapement_in opcode) split

  -- ---- the numbers by the place, the postamble byte and the note are those of the rules

  identified : opcode ≡ 247 → identification (take (param_bytes opcode rest) rest) ≡ identification rest
  identified e =
      sym (unsigned_front params (drop (param_bytes opcode rest) rest) 0 1 (omega (arith, taken_length, fixed_preamble opcode e)))
      ∙ ap (λ (l : List ℕ). unsigned_at l 0 1) split

  first_same : (b : Bool) → is_preamble opcode ≡ b → not (b && eqb (identification (take (param_bytes opcode rest) rest)) 89) ≡ not (b && eqb (identification rest) 89)
  first_same true e = ap (λ (n : ℕ). not (eqb n 89)) (identified (eqb-true opcode 247 e))
  first_same false e = refl

  pub misplaced_same : (past : List Command) → misplaced_after past (taken opcode rest) ≡ misplaced_at (place past) (ended past) opcode rest
  misplaced_same [] = first_same (is_preamble opcode) refl
  misplaced_same (before ∷ past) =
      let later : eqb (place (before ∷ past)) 0 ≡ false = ne_eqb (place (before ∷ past)) 0 (λ e. omega arith) in
      sym (ap (λ (b : Bool). cond b (not (is_preamble opcode && eqb (identification rest) 89)) (cond (ended (before ∷ past)) (not (is_no_op opcode)) (leb 247 opcode))) later)

  module _ (past : List Command) (seen : List ℕ) (marked : (code : ℕ) → met code past ≡ ltb 0 (get_or seen code 0)) where
    wrong_same : opcode < 240 → (form_of opcode).fields ≤ counted_bytes opcode rest → packet_wrong past (taken opcode rest) ≡ wrong_fields seen (packet_of opcode rest)
    wrong_same flag room =
        let code = code_taken flag room in
        ap (λ (n : ℕ). ltb 255 n || (met n past || (not (lawful_first (width_in opcode params / 16777216)) || not (lawful_escapement (escapement_in opcode params))))) code
        ∙ ap (λ (b : Bool). ltb 255 (code_in opcode rest) || (b || (not (lawful_first (width_in opcode params / 16777216)) || not (lawful_escapement (escapement_in opcode params))))) (marked (code_in opcode rest))
        ∙ ap (λ (n : ℕ). ltb 255 (code_in opcode rest) || (ltb 0 (get_or seen (code_in opcode rest) 0) || (not (lawful_first (n / 16777216)) || not (lawful_escapement (escapement_in opcode params)))))
        (width_taken flag room)
        ∙ ap (λ (z : ℤ). ltb 255 (code_in opcode rest) || (ltb 0 (get_or seen (code_in opcode rest) 0) || (not (lawful_first (width_in opcode rest / 16777216)) || not (lawful_escapement z))))
        (escapement_taken flag room)

    packet_same : opcode < 240 → (b : Bool) → ltb (counted_bytes opcode rest) (form_of opcode).fields ≡ b
        → ◌≡◌ {A = ℕ} (cond b 20 (cond (packet_wrong past (taken opcode rest)) 21 0)) (cond b 20 (cond (wrong_fields seen (packet_of opcode rest)) 21 0))
    packet_same flag true e = refl
    packet_same flag false e = ap (λ (b : Bool). cond b 21 0) (wrong_same flag (ltb-false (counted_bytes opcode rest) (form_of opcode).fields e))

    number_after : (b : Bool) → is_packet opcode ≡ b → cond b (packet_fault past (taken opcode rest)) 0 ≡ cond b (packet_number seen opcode rest) 0
    number_after true e =
        ap (λ (n : ℕ). cond (ltb n (form_of opcode).fields) 20 (cond (packet_wrong past (taken opcode rest)) 21 0)) counted_taken
        ∙ packet_same (ltb-true opcode 240 e) (ltb (counted_bytes opcode rest) (form_of opcode).fields) refl
    number_after false e = refl

    pub number_same : number_at (place past) (ended past) seen opcode rest ≡ font_fault past (taken opcode rest)
    unfolding font_fault
    number_same =
        sym
        (ap (λ (b : Bool). cond b 19 (cond (is_packet opcode) (packet_fault past (taken opcode rest)) 0)) (misplaced_same past)
        ∙ ap (λ (n : ℕ). cond (misplaced_at (place past) (ended past) opcode rest) 19 n) (number_after (is_packet opcode) refl))
