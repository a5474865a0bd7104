-- What pasting does to an area, in the words of `sets`. Assumes nothing.
use Prim.Native.Nat.{ℕ, zero, suc, ◌+◌, ◌-◌, ◌≤◌}
use mathlib.Core.Path.{◌≡◌, refl, sym, ap, ◌∙◌}
use mathlib.Core.List.{List, ◌++◌, append_assoc}
use native.Mathlib.Nat.{div-div-eq-div-mul}
use native.Mathlib.Omega.{arith}
use mir.Syntax.{w64}
use Rattle.std.specs.Int.{to_be_bytes}
use Rattle.numbers.specs.Bytes.{bytes_of}
use lib.ListN.{length, take, drop, length-drop}
use lib.Seq.{sets, sets-eq, length-take-le, drop-drop}
use borrow.Rule.Slice.PartMut.{put_mid}
use Rattle.areas.proofs.Pasting.{sets_within}
use Rattle.cutting.specs.Steps.{between}

-- bytes that fit, pasted at a place
pub pasted_sets : (out : List ℕ) (at : ℕ) (bytes after : List ℕ) → at + length bytes ≤ length out → after ≡ take at out ++ bytes ++ drop (at + length bytes) out
    → after ≡ sets out at bytes
pasted_sets out at bytes after fits e = e ∙ sym (sets-eq bytes out at fits)

-- bytes put in the place of those from one place to another
pub put_sets : (out : List ℕ) (at end : ℕ) (bytes : List ℕ) → at ≤ end → end ≤ length out → length bytes ≡ end - at → put_mid at (end - at) out bytes ≡ sets out at bytes
put_sets out at end bytes ordered inside long =
    let behind : at + (end - at) ≡ at + length bytes = omega arith in
    pasted_sets out at bytes _ (omega arith)
    (sym (append_assoc (take at out) bytes (drop (end - at) (drop at out)))
    ∙ ap (λ (l : List ℕ). take at out ++ bytes ++ l) (drop-drop (end - at) at out ∙ ap (λ (n : ℕ). drop n out) behind))

-- the bytes from a place to another are as many as there are places
pub between_length : (at next : ℕ) (file : List ℕ) → at ≤ next → next ≤ length file → length (between at next file) ≡ next - at
between_length at next file ordered inside = length-take-le (next - at) (drop at file) (simp length-drop (omega arith))

-- bytes written among others that were written before
pub written_within : (out : List ℕ) (size : ℕ) (xs : List ℕ) (at : ℕ) (ys before after : List ℕ) → before ≡ sets out size xs → after ≡ sets before (size + at) ys
    → at + length ys ≤ length xs → after ≡ sets out size (sets xs at ys)
written_within out size xs at ys before after first then fits = then ∙ ap (λ (l : List ℕ). sets l (size + at) ys) first ∙ sets_within out size xs at ys fits

-- the last bytes of eight
pub last_bytes : (count n : ℕ) → count ≤ 8 → drop (8 - count) (to_be_bytes w64 n) ≡ bytes_of count n
unfolding bytes_of
last_bytes zero n h = refl
last_bytes (suc zero) n h = refl
last_bytes (suc (suc zero)) n h = refl
last_bytes (suc (suc (suc zero))) n h = simp div-div-eq-div-mul
last_bytes (suc (suc (suc (suc zero)))) n h = simp div-div-eq-div-mul
last_bytes (suc (suc (suc (suc (suc zero))))) n h = simp div-div-eq-div-mul
last_bytes (suc (suc (suc (suc (suc (suc zero)))))) n h = simp div-div-eq-div-mul
last_bytes (suc (suc (suc (suc (suc (suc (suc zero))))))) n h = simp div-div-eq-div-mul
last_bytes (suc (suc (suc (suc (suc (suc (suc (suc zero)))))))) n h = simp div-div-eq-div-mul
last_bytes (suc (suc (suc (suc (suc (suc (suc (suc (suc count))))))))) n h = absurd (omega arith)
