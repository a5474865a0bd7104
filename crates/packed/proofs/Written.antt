-- The table in the output area: one record after the other. Assumes nothing.
use mathlib.Core.Path.{◌≡◌, refl, sym, ap, ap₂, ◌∙◌}
use mathlib.Core.Bool.{cond}
use mathlib.Core.List.{List, [], ◌∷◌, ◌++◌, map, append_assoc, append-nil}
use Prim.Native.Nat.{ℕ, suc, ◌+◌, ◌-◌, ◌*◌, ◌≤◌, ◌<◌}
use native.Mathlib.Omega.{arith}
use lib.Dec.{ltb}
use lib.ListN.{length, take, drop, get_or, length-append, length-drop}
use lib.Seq.{take_at, drop_at, drop-drop}
use borrow.Author.Tests.{lt-ltb, le-ltb}
use Rattle.numbers.specs.Bytes.{bytes_of}
use Rattle.commands.specs.Commands.{Command}
use Rattle.widths.specs.Table.{width_record_size}
use Rattle.packed.specs.Rules.{places}
use Rattle.widths.specs.Entries.{Entry, entry_bytes, table_bytes}
use Rattle.packed.specs.Table.{entry_of, packets_for, packets_from}
use Rattle.packed.specs.Steps.{entry_at}
use Rattle.packed.specs.Noting.{NotedAt, none, one, IsPacket}

-- ---- a record

pub entry_length : (e : Entry) → length (entry_bytes e) ≡ width_record_size
unfolding entry_bytes bytes_of
entry_length e = refl

pub table_length : (entries : List Entry) → length (table_bytes entries) ≡ width_record_size * length entries
table_length [] = refl
table_length (e ∷ entries) = omega (arith, length-append (entry_bytes e) (table_bytes entries), entry_length e, table_length entries)

pub table_append : (a b : List Entry) → table_bytes (a ++ b) ≡ table_bytes a ++ table_bytes b
table_append [] b = refl
table_append (e ∷ a) b = ap (λ (l : List ℕ). entry_bytes e ++ l) (table_append a b) ∙ sym (append_assoc (entry_bytes e) (table_bytes a) (table_bytes b))

-- a command's entry is that of the packet at its place
pub same_entry : (checksum scale code p : ℕ) (pk : List ℕ) (c : Command) → IsPacket pk code p c → entry_at checksum scale pk p ≡ entry_of checksum scale c
same_entry checksum scale code p pk c is = rw (is.code_there, is.width_there, is.escapement_there) refl

-- ---- the area

-- the area while it is written: these entries, and behind them what stood there
abbrev pub area_with : List Entry → List ℕ → List ℕ
area_with done entry = table_bytes done ++ drop (width_record_size * length done) entry

pub area_length : (done : List Entry) (entry : List ℕ) → width_record_size * length done ≤ length entry → length (area_with done entry) ≡ length entry
area_length done entry h =
    omega (arith, length-append (table_bytes done) (drop (width_record_size * length done) entry), table_length done, length-drop (width_record_size * length done) entry)

-- one entry more
pub area_more : (done : List Entry) (e : Entry) (entry : List ℕ) (written : ℕ) → written ≡ width_record_size * length done
    → take written (area_with done entry) ++ entry_bytes e ++ drop (written + width_record_size) (area_with done entry) ≡ area_with (done ++ (e ∷ [])) entry
area_more done e entry written size =
    let long : length (table_bytes done) ≡ written = table_length done ∙ sym size in
    let rest = drop (width_record_size * length done) entry in
    let front : take written (area_with done entry) ≡ table_bytes done = take_at (table_bytes done) rest written long in
    let count : width_record_size * length done + width_record_size ≡ width_record_size * length (done ++ (e ∷ [])) = omega (arith, length-append done (e ∷ [])) in
    let back : drop (written + width_record_size) (area_with done entry) ≡ drop (width_record_size * length (done ++ (e ∷ []))) entry =
    sym (drop-drop width_record_size written (area_with done entry))
    ∙ ap (drop width_record_size) (drop_at (table_bytes done) rest written long)
    ∙ drop-drop width_record_size (width_record_size * length done) entry
    ∙ ap (λ (n : ℕ). drop n entry) count in
    let bytes : table_bytes (done ++ (e ∷ [])) ≡ table_bytes done ++ entry_bytes e = table_append done (e ∷ []) ∙ ap (λ (l : List ℕ). table_bytes done ++ l) (append-nil (entry_bytes e)) in
    ap₂ (λ (a b : List ℕ). a ++ entry_bytes e ++ b) front back ∙ ap (λ (l : List ℕ). l ++ drop (width_record_size * length (done ++ (e ∷ []))) entry) (sym bytes)

-- ---- from code to code

-- the packets from a code on are those for it and those from the next on
from_step : (code : ℕ) (past : List Command) → code < 256 → packets_from (256 - code) code past ≡ packets_for code past ++ packets_from (256 - (code + 1)) (code + 1) past
from_step code past h =
    let count : 256 - code ≡ suc (256 - (code + 1)) = omega arith in
    let next : suc code ≡ code + 1 = omega arith in
    ap (λ (n : ℕ). packets_from n code past) count ∙ ap (λ (n : ℕ). packets_for code past ++ packets_from (256 - (code + 1)) n past) next

map-append : (f : Command → Entry) (a b : List Command) → map f (a ++ b) ≡ map f a ++ map f b
map-append f [] b = refl
map-append f (c ∷ a) b = ap (λ (l : List Entry). f c ∷ l) (map-append f a b)

pub length_map : (f : Command → Entry) (cs : List Command) → length (map f cs) ≡ length cs
length_map f [] = refl
length_map f (c ∷ cs) = ap suc (length_map f cs)

-- what is written below a code, and where that ends
pub record Below (scale checksum : ℕ) (past : List Command) (entry : List ℕ) (code written : ℕ) (out : List ℕ) : Type 0 where
  pub done : List Entry
  pub all : done ++ map (entry_of checksum scale) (packets_from (256 - code) code past) ≡ map (entry_of checksum scale) (packets_from 256 0 past)
  pub ends : written ≡ width_record_size * length done
  pub area : out ≡ area_with done entry
  pub small : code ≤ 256

pub below_start : (scale checksum : ℕ) (past : List Command) (entry : List ℕ) → Below scale checksum past entry 0 0 entry
below_start scale checksum past entry = record { done = []; all = refl; ends = refl; area = refl; small = omega arith }

module _ (scale checksum : ℕ) (past : List Command) (pk entry : List ℕ) (code written : ℕ) (out : List ℕ) (b : Below scale checksum past entry code written out) (more : code < 256) where
  abbrev make : Command → Entry
  make = entry_of checksum scale

  abbrev at : ℕ
  at = get_or (places past) code 0

  -- the packets for the code are written next
  all_next : b.done ++ (map make (packets_for code past) ++ map make (packets_from (256 - (code + 1)) (code + 1) past)) ≡ map make (packets_from 256 0 past)
  all_next =
      ap (λ (l : List Entry). b.done ++ l) (sym (ap (map make) (from_step code past more) ∙ map-append make (packets_for code past) (packets_from (256 - (code + 1)) (code + 1) past)))
      ∙ b.all

  -- so many entries there are at least
  pub fewer : length b.done + length (packets_for code past) ≤ length (map make (packets_from 256 0 past))
  fewer =
      let later = map make (packets_from (256 - (code + 1)) (code + 1) past) in
      omega (
        arith,
        ap length all_next,
        length-append b.done (map make (packets_for code past) ++ later),
        length-append (map make (packets_for code past)) later,
        length_map make (packets_for code past),
      )

  pub below_next : (noted : NotedAt pk past code)
      → Below
      scale
      checksum
      past
      entry
      (code + 1)
      (cond (ltb 0 at) (written + width_record_size) written)
      (cond (ltb 0 at) (take written out ++ entry_bytes (entry_at checksum scale pk at) ++ drop (written + width_record_size) out) out)
  below_next (none blank empty) =
      rw (le-ltb 0 at (omega (arith, blank))) (
      record {
        done = b.done;
        all = ap (λ (l : List Command). b.done ++ (map make l ++ map make (packets_from (256 - (code + 1)) (code + 1) past))) (sym empty) ∙ all_next;
        ends = b.ends;
        area = b.area;
        small = omega arith;
      }
      )
  below_next (one c only is) =
      let later = map make (packets_from (256 - (code + 1)) (code + 1) past) in
      let next : List Entry = b.done ++ (make c ∷ []) in
      rw (lt-ltb 0 at is.later) (
      record {
        done = next;
        all = append_assoc b.done (make c ∷ []) later ∙ ap (λ (l : List Command). b.done ++ (map make l ++ later)) (sym only) ∙ all_next;
        ends = omega (arith, b.ends, length-append b.done (make c ∷ []));
        area =
            ap₂ (λ (l : List ℕ) (e : Entry). take written l ++ entry_bytes e ++ drop (written + width_record_size) l) b.area (same_entry checksum scale code at pk c is)
            ∙ area_more b.done (make c) entry written b.ends;
        small = omega arith;
      }
      )

-- when all codes are passed, the whole table is written
pub below_all : (scale checksum : ℕ) (past : List Command) (entry : List ℕ) (code written : ℕ) (out : List ℕ) → Below scale checksum past entry code written out → 256 ≤ code
    → out ≡ area_with (map (entry_of checksum scale) (packets_from 256 0 past)) entry
below_all scale checksum past entry code written out b h =
    let none_left : 256 - code ≡ 0 = omega arith in
    let done-is : b.done ≡ map (entry_of checksum scale) (packets_from 256 0 past) =
    sym (append-nil b.done) ∙ ap (λ (n : ℕ). b.done ++ map (entry_of checksum scale) (packets_from n code past)) (sym none_left) ∙ b.all in
    b.area ∙ ap (λ (l : List Entry). area_with l entry) done-is
