-- A record written into the area, in three parts, and all of them one after the other. Assumes nothing.
use Prim.Native.Nat.{ℕ, ◌+◌, ◌-◌, ◌*◌, ◌≤◌}
use mathlib.Core.Path.{◌≡◌, sym, ap, ap₂, ◌∙◌}
use mathlib.Core.List.{List, ◌++◌, append_assoc, append-nil}
use native.Mathlib.Omega.{arith}
use lib.ListN.{length, take, drop, replicate, length-append, length-drop}
use lib.Seq.{sets, sets-eq, length-sets, length-take-le, drop-drop}
use Rattle.areas.proofs.Pasting.{sets_behind}
use Rattle.widths.specs.Table.{size_with}
use Rattle.converting.specs.Converting.{in_form}
use Rattle.converting.proofs.Forms.{form_length}

-- ---- one record

-- three parts that are pasted one behind the other
module _ (out : List ℕ) (first second third : ℕ) (x y z : List ℕ) (second_is : second ≡ first + length x) (third-is : third ≡ second + length y) (fits : third + length z ≤ length out) where
  pub three_pasted : (one two three : List ℕ) → one ≡ take first out ++ x ++ drop (first + length x) out → two ≡ take second one ++ y ++ drop (second + length y) one
      → three ≡ take third two ++ z ++ drop (third + length z) two → three ≡ sets out first (x ++ (y ++ z))
  three_pasted one two three e₁ e₂ e₃ =
      let one-is : one ≡ sets out first x = e₁ ∙ sym (sets-eq x out first (omega arith)) in
      let one-long : length one ≡ length out = ap length one-is ∙ length-sets out first x in
      let two_is : two ≡ sets out first (x ++ y) =
      e₂ ∙ sym (sets-eq y one second (omega arith)) ∙ ap₂ (λ (l : List ℕ) (n : ℕ). sets l n y) one-is second_is ∙ sets_behind out first x y in
      let two-long : length two ≡ length out = ap length two_is ∙ length-sets out first (x ++ y) in
      let place : third ≡ first + length (x ++ y) = omega (arith, length-append x y) in
      e₃ ∙ sym (sets-eq z two third (omega arith)) ∙ ap₂ (λ (l : List ℕ) (n : ℕ). sets l n z) two_is place ∙ sets_behind out first (x ++ y) z ∙ ap (sets out first) (append_assoc x y z)

-- a part of a table has its bytes
pub part_length : (table : List ℕ) (at count : ℕ) → at + count ≤ length table → length (take (at + count - at) (drop at table)) ≡ count
part_length table at count inside =
    let same : at + count - at ≡ count = omega arith in
    ap (λ (n : ℕ). length (take n (drop at table))) same ∙ length-take-le count (drop at table) (omega (arith, length-drop at table))

-- the three parts of a record in the other form, as the code takes them from the table and from zeros
pub record_parts : (from to : ℕ) (table : List ℕ) (at behind : ℕ) → behind ≡ at + 8 + from
    → take (at + 8 - at) (drop at table) ++ (replicate to 0 ++ take (behind + 8 - behind) (drop behind table)) ≡ in_form from to 1 (drop at table)
record_parts from to table at behind behind_is =
    let eight : at + 8 - at ≡ 8 = omega arith in
    let eight-more : behind + 8 - behind ≡ 8 = omega arith in
    let place : behind ≡ at + (8 + from) = omega arith in
    let rest : take (behind + 8 - behind) (drop behind table) ≡ take 8 (drop (8 + from) (drop at table)) =
    ap₂ (λ (n p : ℕ). take n (drop p table)) eight-more place ∙ ap (take 8) (sym (drop-drop (8 + from) at table)) in
    ap₂ (λ (x y : List ℕ). x ++ y) (ap (λ (n : ℕ). take n (drop at table)) eight)
    (ap (λ (y : List ℕ). replicate to 0 ++ y) (rest ∙ sym (append-nil (take 8 (drop (8 + from) (drop at table))))))

-- ---- all records

-- they stand at the area's beginning, and the rest of it is as it was
pub all_written : (from to records : ℕ) (table out : List ℕ) → records * size_with from ≤ length table → records * size_with to ≤ length out
    → sets out 0 (in_form from to records table) ≡ in_form from to records table ++ drop (records * size_with to) out
all_written from to records table out whole room =
    let long : length (in_form from to records table) ≡ records * size_with to = form_length from to records table whole in
    let end : 0 + length (in_form from to records table) ≡ records * size_with to = omega arith in
    sets-eq (in_form from to records table) out 0 (omega arith) ∙ ap (λ (n : ℕ). in_form from to records table ++ drop n out) end
