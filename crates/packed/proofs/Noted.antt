-- The note of a file's commands: what it says of each code. Assumes nothing.
use mathlib.Core.Path.{◌≡◌, refl, sym, ap, subst, ◌∙◌}
use mathlib.Core.Bool.{Bool, true, false, cond, not, ◌&&◌, ◌||◌}
use mathlib.Core.List.{List, [], ◌∷◌}
use Prim.Native.Nat.{ℕ, ◌+◌, ◌≤◌, ◌<◌}
use native.Mathlib.Omega.{arith}
use lib.Dec.{ltb, eqb}
use lib.ListN.{length, take, drop, get_or, set, replicate, length-drop, length-set, length-replicate, get_or-replicate, get_or-eq_default}
use lib.Seq.{drop-drop, get_or-drop, get_or-set_same, get_or-set_other}
use borrow.Author.Tests.{ltb-true, ltb-false, lt-ltb, eqb-true, eqb-false}
use Rattle.refusals.specs.Answer.{given}
use Rattle.commands.specs.Commands.{Command, place}
use Rattle.packed.specs.Commands.{is_packet, is_preamble, form_of, counted_bytes, param_bytes}
use Rattle.packed.specs.Packets.{code_in}
use Rattle.packed.specs.Rules.{is_packet_for, met, font_fault, places}
use Rattle.packed.specs.Judged.{taken, font_judged}
use Rattle.packed.specs.Table.{packets_for}
use Rattle.packed.specs.Noting.{IsPacket, NotedAt, none, one}
use Rattle.packed.proofs.Forms.{fixed_packet}
use Rattle.packed.proofs.Says.{clash}
use Rattle.packed.proofs.Faults.{RightPacket, packet_right, counted_taken, code_taken, width_taken, escapement_taken}
use Rattle.packed.proofs.Standing.{Standing, start, more, judged_stands}

-- ---- where a packet stands

-- a packet is never the first command, so its place is above 0
packet_later : (past : List Command) (c : Command) → RightPacket past c → is_packet c.opcode ≡ true → 0 < place past
packet_later [] c right flag = absurd (first-is (is_preamble c.opcode) _ refl right.standing)
  where
    first-is : (b other : Bool) → is_preamble c.opcode ≡ b → not (b && other) ≡ false → ⊥
    first-is true other e h = omega (arith, ltb-true c.opcode 240 flag, eqb-true c.opcode 247 e)
    first-is false other e h = let z = clash h in omega arith
packet_later (before ∷ past) c right flag = omega arith

-- ---- how long the note is

pub places_length : (past : List Command) → length (places past) ≡ 256
places_length [] = length-replicate {A = ℕ} 256 0
places_length (c ∷ past) = go (is_packet c.opcode) (places_length past)
  where
    go : (b : Bool) → length (places past) ≡ 256 → length (cond b (set (places past) (code_in c.opcode c.params) (place past)) (places past)) ≡ 256
    go true before = length-set (places past) (code_in c.opcode c.params) (place past) ∙ before
    go false before = before

blank : (code : ℕ) → get_or (replicate {A = ℕ} 256 0) code 0 ≡ 0
blank code = go (ltb code 256) refl
  where
    go : (b : Bool) → ltb code 256 ≡ b → get_or (replicate {A = ℕ} 256 0) code 0 ≡ 0
    go true e = get_or-replicate {A = ℕ} 256 code 0 0 (ltb-true code 256 e)
    go false e =
        let past_end : length (replicate {A = ℕ} 256 0) ≤ code = omega (arith, ltb-false code 256 e, length-replicate {A = ℕ} 256 0) in
        get_or-eq_default (replicate {A = ℕ} 256 0) 0 past_end

-- ---- a code is noted where its packet has passed

module _ (pk : List ℕ) where
  -- one packet more
  marked_packet : (past : List Command) (c : Command) → RightPacket past c → is_packet c.opcode ≡ true → (code : ℕ)
      → met code past ≡ ltb 0 (get_or (places past) code 0) → (b : Bool) → eqb (code_in c.opcode c.params) code ≡ b
      → (b || met code past) ≡ ltb 0 (get_or (set (places past) (code_in c.opcode c.params) (place past)) code 0)
  marked_packet past c right flag code before true e =
      let same : code_in c.opcode c.params ≡ code = eqb-true (code_in c.opcode c.params) code e in
      let value : get_or (set (places past) (code_in c.opcode c.params) (place past)) code 0 ≡ place past =
      ap (λ (n : ℕ). get_or (set (places past) n (place past)) code 0) same ∙ get_or-set_same (places past) code (place past) 0 (omega (arith, places_length past, right.code_small)) in
      sym (lt-ltb 0 (get_or (set (places past) (code_in c.opcode c.params) (place past)) code 0) (omega (arith, value, packet_later past c right flag)))
  marked_packet past c right flag code before false e =
      let differs = eqb-false (code_in c.opcode c.params) code e in
      before ∙ ap (λ (n : ℕ). ltb 0 n) (sym (get_or-set_other (places past) (code_in c.opcode c.params) code (place past) 0 (λ f. differs (sym f))))

  pub marked : (past : List Command) → Standing pk past → (code : ℕ) → met code past ≡ ltb 0 (get_or (places past) code 0)
  marked [] start code = sym (ap (λ (n : ℕ). ltb 0 n) (blank code))
  marked (c ∷ past) (more opcode rest stand here fits right) code = go (is_packet opcode) refl (marked past stand code)
    where
      go : (b : Bool) → is_packet opcode ≡ b → met code past ≡ ltb 0 (get_or (places past) code 0)
          → ((b && eqb (code_in opcode (take (param_bytes opcode rest) rest)) code) || met code past)
          ≡ ltb 0 (get_or (cond b (set (places past) (code_in opcode (take (param_bytes opcode rest) rest)) (place past)) (places past)) code 0)
      go true e before =
          marked_packet past (taken opcode rest) (packet_right past (taken opcode rest) right e) e code before (eqb (code_in opcode (take (param_bytes opcode rest) rest)) code) refl
      go false e before = before

-- ---- what the note says of a code

-- none has a code that was not met
unmet : (code : ℕ) (past : List Command) → met code past ≡ false → packets_for code past ≡ []
unmet code [] e = refl
unmet code (c ∷ past) e = go (is_packet_for code c) refl e (unmet code past)
  where
    go : (b : Bool) → is_packet_for code c ≡ b → (b || met code past) ≡ false → (met code past ≡ false → packets_for code past ≡ [])
        → cond b (c ∷ packets_for code past) (packets_for code past) ≡ []
    go true f h before = absurd (let z = clash h in omega arith)
    go false f h before = before h

module _ (pk : List ℕ) (past : List Command) (opcode : ℕ) (rest : List ℕ) (here : drop (place past) pk ≡ opcode ∷ rest) (fits : param_bytes opcode rest ≤ length rest) where
  rest_is : drop (place past + 1) pk ≡ rest
  rest_is = sym (drop-drop 1 (place past) pk) ∙ ap (drop 1) here

  flag_at : get_or pk (place past) 0 ≡ opcode
  flag_at = ap (λ (n : ℕ). get_or pk n 0) (omega arith) ∙ sym (get_or-drop (place past) pk 0 0) ∙ ap (λ (l : List ℕ). get_or l 0 0) here

  long : length pk ≡ place past + 1 + length rest
  long = omega (arith, ap length here, length-drop (place past) pk)

  -- a packet that breaks no rule is the one at its place
  packet_here : RightPacket past (taken opcode rest) → is_packet opcode ≡ true → IsPacket pk (code_in opcode (take (param_bytes opcode rest) rest)) (place past) (taken opcode rest)
  packet_here right flag =
      let below : opcode < 240 = ltb-true opcode 240 flag in
      let room : (form_of opcode).fields ≤ counted_bytes opcode rest = omega (arith, right.room, counted_taken opcode rest fits) in
      record {
        later = packet_later past (taken opcode rest) right flag;
        inside = omega (arith, long);
        flag = rw flag_at flag;
        stands = rw (flag_at, rest_is) refl;
        room = rw flag_at (omega (arith, long, fixed_packet opcode below));
        code_is = refl;
        code_there = rw (flag_at, rest_is) (code_taken opcode rest fits below room);
        width_there = rw (flag_at, rest_is) (width_taken opcode rest fits below room);
        escapement_there = rw (flag_at, rest_is) (escapement_taken opcode rest fits below room);
      }

  abbrev next : List Command
  next = taken opcode rest ∷ past

  -- a command that is not for a code leaves what is noted of it
  unchanged : (code : ℕ) → packets_for code next ≡ packets_for code past → get_or (places next) code 0 ≡ get_or (places past) code 0 → NotedAt pk past code → NotedAt pk next code
  unchanged code same-packets same_place (none blank empty) = none (same_place ∙ blank) (same-packets ∙ empty)
  unchanged code same-packets same_place (one c only is) = one c (same-packets ∙ only) (subst (λ (p : ℕ). IsPacket pk code p c) (sym same_place) is)

  -- one packet more
  noted_packet : (code : ℕ) → RightPacket past (taken opcode rest) → is_packet opcode ≡ true → NotedAt pk past code → (b : Bool)
      → eqb (code_in opcode (take (param_bytes opcode rest) rest)) code ≡ b → NotedAt pk next code
  noted_packet code right flag before true e =
      let k = code_in opcode (take (param_bytes opcode rest) rest) in
      let same : k ≡ code = eqb-true k code e in
      let empty : packets_for code past ≡ [] = unmet code past (ap (λ (n : ℕ). met n past) (sym same) ∙ right.code_new) in
      let only : packets_for code next ≡ taken opcode rest ∷ [] = rw (flag, e, empty) refl in
      let value : get_or (places next) code 0 ≡ place past =
      ap (λ (b : Bool). get_or (cond b (set (places past) k (place past)) (places past)) code 0) flag
      ∙ ap (λ (n : ℕ). get_or (set (places past) n (place past)) code 0) same
      ∙ get_or-set_same (places past) code (place past) 0 (omega (arith, places_length past, right.code_small)) in
      one
      (taken opcode rest)
      only
      (subst (λ (p : ℕ). IsPacket pk code p (taken opcode rest)) (sym value) (subst (λ (n : ℕ). IsPacket pk n (place past) (taken opcode rest)) same (packet_here right flag)))
  noted_packet code right flag before false e =
      let k = code_in opcode (take (param_bytes opcode rest) rest) in
      let differs = eqb-false k code e in
      let value : get_or (places next) code 0 ≡ get_or (places past) code 0 =
      ap (λ (b : Bool). get_or (cond b (set (places past) k (place past)) (places past)) code 0) flag ∙ get_or-set_other (places past) k code (place past) 0 (λ f. differs (sym f)) in
      unchanged code (rw (flag, e) refl) value before

  pub noted_more : (code : ℕ) → font_fault past (taken opcode rest) ≡ 0 → NotedAt pk past code → (b : Bool) → is_packet opcode ≡ b → NotedAt pk next code
  noted_more code right before true e =
      noted_packet code (packet_right past (taken opcode rest) right e) e before (eqb (code_in opcode (take (param_bytes opcode rest) rest)) code) refl
  noted_more code right before false e = unchanged code (rw e refl) (rw e refl) before

pub noted_at : (pk : List ℕ) (past : List Command) → Standing pk past → (code : ℕ) → NotedAt pk past code
noted_at pk [] start code = none (blank code) refl
noted_at pk (c ∷ past) (more opcode rest stand here fits right) code = noted_more pk past opcode rest here fits code right (noted_at pk past stand code) (is_packet opcode) refl

-- the note of a file that was judged
pub judged_noted : (pk : List ℕ) (past : List Command) → font_judged pk ≡ given past → (code : ℕ) → NotedAt pk past code
judged_noted pk past judged code = noted_at pk past (judged_stands pk past judged).stand code
