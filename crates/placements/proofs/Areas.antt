-- What the output area holds after records are put into it. Assumes nothing.
use Prim.Native.Nat.{ℕ, suc, ◌+◌, ◌*◌, ◌≤◌, ◌<◌}
use native.Mathlib.Omega.{arith}
use native.Mathlib.Nat.{add-zero}
use mathlib.Core.Path.{◌≡◌, refl, sym, ap, ◌∙◌}
use mathlib.Core.List.{List, [], ◌∷◌, ◌++◌, append_assoc, append-nil}
use mathlib.Core.Logic.{⊎_elim}
use lib.ListN.{length, take, drop, take-append-drop}
use lib.Seq.{paste, take-paste, drop-paste, length-paste, drop-drop, take_all}
use borrow.Author.Tests.{le-leb, lt-leb}
use Rattle.numbers.specs.Bytes.{bytes_of}
use Rattle.numbers.proofs.Radix.{less_or_not}
use Rattle.placements.specs.declared.Record.{Record}
use Rattle.placements.specs.Records.{placement_record_size, record_bytes, all_bytes, Added, nothing, placed, missing, special}
use Rattle.placements.specs.Steps.{put_record, area_noted, stored}

-- a record has 20 bytes
pub record_length : (r : Record) → length (record_bytes r) ≡ placement_record_size
unfolding record_bytes bytes_of
record_length r = refl

module _ (out : List ℕ) (index : ℕ) (r : Record) where
  -- without room a record is not written
  no_room : length out < placement_record_size * index + placement_record_size → put_record out index r ≡ out
  no_room h = simp (lt-leb (placement_record_size * index + placement_record_size) (length out) h)

  -- with room it is pasted in
  room : placement_record_size * index + placement_record_size ≤ length out → put_record out index r ≡ paste out (placement_record_size * index) (record_bytes r) placement_record_size
  room h =
      let whole : take placement_record_size (record_bytes r) ≡ record_bytes r = take_all placement_record_size (record_bytes r) (omega (arith, record_length r)) in
      simp (le-leb (placement_record_size * index + placement_record_size) (length out) h, whole)

  -- a record put in its place changes no length
  pub put_length : length (put_record out index r) ≡ length out
  put_length =
      ⊎_elim
      (λ short. ap length (no_room short))
      (λ long. ap length (room long) ∙ length-paste out (placement_record_size * index) (record_bytes r) placement_record_size long (omega (arith, record_length r)))
      (less_or_not (length out) (placement_record_size * index + placement_record_size))

-- nor does anything else that a command adds
pub noted_length : (out : List ℕ) (index : ℕ) (added : Added) → length (area_noted out index added) ≡ length out
noted_length out index nothing = refl
noted_length out index (placed r) = put_length out index r
noted_length out index missing = refl
noted_length out index special = refl

-- before a part that was pasted in, and behind it
module _ (out bytes : List ℕ) (at more : ℕ) (size : length bytes ≡ placement_record_size) (h : at + placement_record_size + more ≤ length out) where
  front : take (at + placement_record_size) (paste out at bytes placement_record_size) ≡ take at out ++ bytes
  front = take-paste out at bytes placement_record_size (omega arith) (omega arith) ∙ ap (λ (l : List ℕ). take at out ++ l) (take_all placement_record_size bytes (omega arith))

  back : drop (at + placement_record_size + more) (paste out at bytes placement_record_size) ≡ drop (at + placement_record_size + more) out
  back =
      sym (drop-drop more (at + placement_record_size) (paste out at bytes placement_record_size))
      ∙ ap (λ (l : List ℕ). drop more l) (drop-paste out at bytes placement_record_size (omega arith) (omega arith))
      ∙ drop-drop more (at + placement_record_size) out

-- with room for all, the records' bytes stand one after the other, and the rest is as it was
pub stored_all : (records : List Record) (out : List ℕ) (index : ℕ) → placement_record_size * (index + length records) ≤ length out
    → stored out index records ≡ take (placement_record_size * index) out ++ all_bytes records ++ drop (placement_record_size * (index + length records)) out
stored_all [] out index h = simp (append-nil, add-zero, take-append-drop)
stored_all (r ∷ records) out index h =
    let at : ℕ = placement_record_size * index in
    let more : ℕ = placement_record_size * length records in
    let fits : at + placement_record_size + more ≤ length out = omega arith in
    let area : List ℕ = paste out at (record_bytes r) placement_record_size in
    let put : put_record out index r ≡ area = room out index r (omega arith) in
    let long : length area ≡ length out = ap length (sym put) ∙ put_length out index r in
    let next : placement_record_size * (index + 1) ≡ at + placement_record_size = omega arith in
    let end : placement_record_size * (index + 1 + length records) ≡ at + placement_record_size + more = omega arith in
    let whole : at + placement_record_size + more ≡ placement_record_size * (index + suc (length records)) = omega arith in
    ap (λ (l : List ℕ). stored l (index + 1) records) put
    ∙ stored_all records area (index + 1) (omega arith)
    ∙ ap (λ (l : List ℕ). l ++ all_bytes records ++ drop (placement_record_size * (index + 1 + length records)) area)
    (ap (λ (n : ℕ). take n area) next ∙ front out (record_bytes r) at more (record_length r) fits)
    ∙ ap (λ (l : List ℕ). take at out ++ record_bytes r ++ all_bytes records ++ l)
    (ap (λ (n : ℕ). drop n area) end ∙ back out (record_bytes r) at more (record_length r) fits ∙ ap (λ (n : ℕ). drop n out) whole)
    ∙ ap (λ (l : List ℕ). l ++ drop (placement_record_size * (index + suc (length records))) out) (append_assoc (take at out) (record_bytes r) (all_bytes records))

-- from the first on: the records' bytes, and behind them what stood there
pub stored_whole : (records : List Record) (out : List ℕ) → placement_record_size * length records ≤ length out
    → stored out 0 records ≡ all_bytes records ++ drop (placement_record_size * length records) out
stored_whole records out h =
    let all : placement_record_size * (0 + length records) ≡ placement_record_size * length records = omega arith in
    stored_all records out 0 (omega arith) ∙ ap (λ (n : ℕ). all_bytes records ++ drop n out) all
