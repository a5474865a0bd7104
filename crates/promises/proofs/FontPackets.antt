-- The table made of a font has one record for each packet and one packet for each record, and its codes rise. Assumes nothing.
use Prim.Native.Nat.{ℕ, zero, suc, ◌+◌, ◌≤◌, ◌<◌}
use mathlib.Core.Path.{◌≡◌, refl, sym, subst}
use mathlib.Core.Bool.{Bool, true, false, cond, and-eq-true_iff}
use mathlib.Core.List.{List, [], ◌∷◌, ◌++◌, map}
use mathlib.Core.Logic.{◌⊎◌, inl, inr, ⊎_elim}
use native.Mathlib.Omega.{arith}
use lib.Dec.{eqb}
use borrow.Author.Tests.{eq-eqb, eqb-true, eqb-false}
use Rattle.refusals.specs.Answer.{given}
use Rattle.commands.specs.Commands.{Command}
use Rattle.packed.specs.Commands.{is_packet}
use Rattle.packed.specs.Packets.{code_in}
use Rattle.packed.specs.Rules.{is_packet_for}
use Rattle.packed.specs.Judged.{taken, font_judged}
use Rattle.widths.specs.Entries.{Entry}
use Rattle.packed.specs.Table.{font_checksum, entry_of, packets_for, packets_from, font_table}
use Rattle.packed.proofs.Faults.{packet_right}
use Rattle.packed.proofs.Standing.{Standing, judged_stands}
use Rattle.packed.proofs.Standing as standing
use Rattle.packed.specs.Noting.{NotedAt}
use Rattle.packed.specs.Noting as noted
use Rattle.packed.proofs.Noted.{noted_at}
use Rattle.packed.proofs.MadeLaws.{records_are}
use Rattle.promises.specs.Fonts.{Among, first, later, Rising, none, more, OneForOne}

-- ---- in a list that goes on

module _ {A : Type 0} where
  among_left : (x : A) (xs ys : List A) → Among x xs → Among x (xs ++ ys)
  among_left x [] ys a = elim a [ ]
  among_left x (y ∷ xs) ys first = first
  among_left x (y ∷ xs) ys (later a) = later (among_left x xs ys a)

  among_right : (x : A) (xs ys : List A) → Among x ys → Among x (xs ++ ys)
  among_right x [] ys a = a
  among_right x (y ∷ xs) ys a = later (among_right x xs ys a)

uncons : {A : Type 0} (x y : A) (xs : List A) → Among x (y ∷ xs) → (y ≡ x) ⊎ Among x xs
uncons x y xs first = inl refl
uncons x y xs (later a) = inr a

-- among two lists, one after the other, it is among one of them
data Either {A : Type 0} (x : A) (xs ys : List A) : Type 0 where
  is_in_front : Among x xs → Either x xs ys
  behind : Among x ys → Either x xs ys

among_split : {A : Type 0} (x : A) (xs ys : List A) → Among x (xs ++ ys) → Either x xs ys
among_split x [] ys a = behind a
among_split x (y ∷ xs) ys first = is_in_front first
among_split x (y ∷ xs) ys (later a) = go (among_split x xs ys a)
  where
    go : Either x xs ys → Either x (y ∷ xs) ys
    go (is_in_front b) = is_in_front (later b)
    go (behind b) = behind b

among_map : (f : Command → Entry) (c : Command) (cs : List Command) → Among c cs → Among (f c) (map f cs)
among_map f c [] a = elim a [ ]
among_map f c (d ∷ cs) first = first
among_map f c (d ∷ cs) (later a) = later (among_map f c cs a)

map_among : (f : Command → Entry) (e : Entry) (cs : List Command) → Among e (map f cs) → (c : Command) × Among c cs × (e ≡ f c)
map_among f e [] a = elim a [ ]
map_among f e (d ∷ cs) first = (d, first, refl)
map_among f e (d ∷ cs) (later a) = let (c, b, same) = map_among f e cs a in (c, later b, same)

-- ---- for each packet its record

-- a packet is one of those for its code
for_code : (c : Command) (past : List Command) → Among c past → is_packet c.opcode ≡ true → Among c (packets_for (code_in c.opcode c.params) past)
for_code c [] a flag = elim a [ ]
for_code c (d ∷ past) first flag = rw (flag, eq-eqb (code_in c.opcode c.params) (code_in c.opcode c.params) refl) first
for_code c (d ∷ past) (later a) flag = go (is_packet_for (code_in c.opcode c.params) d) (for_code c past a flag)
  where
    go : (b : Bool) → Among c (packets_for (code_in c.opcode c.params) past)
        → Among c (cond b (d ∷ packets_for (code_in c.opcode c.params) past) (packets_for (code_in c.opcode c.params) past))
    go true a = later a
    go false a = a

-- what is for a code is among what is for the codes around it
among_from : (c : Command) (past : List Command) (k left code : ℕ) → code ≤ k → k < code + left → Among c (packets_for k past) → Among c (packets_from left code past)
among_from c past k zero code low high a = absurd (omega arith)
among_from c past k (suc left) code low high a = go (eqb code k) refl (λ low-next. among_from c past k left (suc code) low-next (omega arith) a)
  where
    go : (b : Bool) → eqb code k ≡ b → (suc code ≤ k → Among c (packets_from left (suc code) past)) → Among c (packets_for code past ++ packets_from left (suc code) past)
    go true e onward =
        let same : code ≡ k = eqb-true code k e in
        among_left c (packets_for code past) (packets_from left (suc code) past) (subst (λ (n : ℕ). Among c (packets_for n past)) (sym same) a)
    go false e onward = among_right c (packets_for code past) (packets_from left (suc code) past) (onward (omega (arith, eqb-false code k e)))

-- a packet of a file that was judged has a code below 256
code_small : (pk : List ℕ) (past : List Command) → Standing pk past → (c : Command) → Among c past → is_packet c.opcode ≡ true → code_in c.opcode c.params < 256
code_small pk [] _ c a flag = elim a [ ]
code_small pk (d ∷ past) (standing.more opcode rest stand here fits right) c first flag = (packet_right past (taken opcode rest) right flag).code_small
code_small pk (d ∷ past) (standing.more opcode rest stand here fits right) c (later a) flag = code_small pk past stand c a flag

-- ---- for each record its packet

-- what is for a code is a packet of the list
from_for : (c : Command) (code : ℕ) (past : List Command) → Among c (packets_for code past) → Among c past × (is_packet c.opcode ≡ true)
from_for c code [] a = elim a [ ]
from_for c code (d ∷ past) a = go (is_packet_for code d) refl a (from_for c code past)
  where
    go : (b : Bool) → is_packet_for code d ≡ b → Among c (cond b (d ∷ packets_for code past) (packets_for code past)) → (Among c (packets_for code past) → Among c past × (is_packet c.opcode ≡ true))
        → Among c (d ∷ past) × (is_packet c.opcode ≡ true)
    go true e a before =
        let flag : is_packet d.opcode ≡ true = ((and-eq-true_iff (is_packet d.opcode) (eqb (code_in d.opcode d.params) code)).0 e).0 in
        ⊎_elim
        (λ (same : d ≡ c). (subst (λ (z : Command). Among c (z ∷ past)) (sym same) first, subst (λ (z : Command). is_packet z.opcode ≡ true) same flag))
        (λ (b : Among c (packets_for code past)). let r = before b in (later r.0, r.1))
        (uncons c d (packets_for code past) a)
    go false e a before = let r = before a in (later r.0, r.1)

pub from_all : (c : Command) (past : List Command) (left code : ℕ) → Among c (packets_from left code past) → Among c past × (is_packet c.opcode ≡ true)
from_all c past zero code a = elim a [ ]
from_all c past (suc left) code a = go (among_split c (packets_for code past) (packets_from left (suc code) past) a) (from_all c past left (suc code))
  where
    go : Either c (packets_for code past) (packets_from left (suc code) past) → (Among c (packets_from left (suc code) past) → Among c past × (is_packet c.opcode ≡ true))
        → Among c past × (is_packet c.opcode ≡ true)
    go (is_in_front b) onward = from_for c code past b
    go (behind b) onward = onward b

-- ---- the order

-- codes that rise from a number on rise from a lower one on
lower : {least : ℕ} (lowest : ℕ) {entries : List Entry} → lowest ≤ least → Rising least entries → Rising lowest entries
lower lowest h none = none
lower lowest h (more e low high rest) = more {least = lowest} e (omega arith) high rest

rising_from : (pk : List ℕ) (past : List Command) → Standing pk past → (checksum scale left code : ℕ) → code + left ≡ 256 → Rising code (map (entry_of checksum scale) (packets_from left code past))
rising_from pk past stand checksum scale zero code all = none
rising_from pk past stand checksum scale (suc left) code all = go (noted_at pk past stand code) (rising_from pk past stand checksum scale left (suc code) (omega arith))
  where
    go : NotedAt pk past code → Rising (suc code) (map (entry_of checksum scale) (packets_from left (suc code) past))
        → Rising code (map (entry_of checksum scale) (packets_for code past ++ packets_from left (suc code) past))
    go (noted.none blank empty) next = rw empty (lower code (omega arith) next)
    go (noted.one c only is) next =
        let named : code_in c.opcode c.params ≡ code = is.code_is in
        rw only (more {least = code} (entry_of checksum scale c) (omega (arith, named)) (omega (arith, named)) (subst (λ (n : ℕ). Rising (suc n) (map (entry_of checksum scale) (packets_from left (suc code) past))) (sym named) next))

-- ---- the theorem

pub one_for_one : (pk : List ℕ) (scale : ℕ) (past : List Command) → font_judged pk ≡ given past → OneForOne scale past (font_table scale past)
one_for_one pk scale past judged =
    let stand = (judged_stands pk past judged).stand in
    let make = entry_of (font_checksum past) scale in
    record {
      as_many = records_are pk scale past judged;
      its_record = λ c a flag.
          among_map make c (packets_from 256 0 past)
          (among_from c past (code_in c.opcode c.params) 256 0 (omega arith) (omega (arith, code_small pk past stand c a flag)) (for_code c past a flag));
      its_packet = λ e a.
          let (c, b, same) = map_among make e (packets_from 256 0 past) a in
          let r = from_all c past 256 0 b in
          (c, r.0, r.1, same);
      rising = rising_from pk past stand (font_checksum past) scale 256 0 refl;
    }
