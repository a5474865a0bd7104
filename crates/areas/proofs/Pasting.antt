-- Bytes written at places of an area, one after the other. Assumes nothing.
use Prim.Native.Nat.{ℕ, zero, suc, ◌+◌, ◌≤◌, ◌<◌}
use mathlib.Core.Path.{◌≡◌, refl, ap, ◌∙◌}
use mathlib.Core.List.{List, [], ◌∷◌, ◌++◌}
use native.Mathlib.Omega.{arith}
use lib.ListN.{length, set, length-set}
use lib.Seq.{sets, set-set, set_comm}

-- behind what was written
pub sets_behind : (out : List ℕ) (at : ℕ) (xs ys : List ℕ) → sets (sets out at xs) (at + length xs) ys ≡ sets out at (xs ++ ys)
sets_behind out at [] ys = let e : at + 0 ≡ at = omega arith in ap (λ (n : ℕ). sets out n ys) e
sets_behind out at (x ∷ xs) ys =
    let e : at + suc (length xs) ≡ suc at + length xs = omega arith in
    ap (λ (n : ℕ). sets (sets (set out at x) (suc at) xs) n ys) e ∙ sets_behind (set out at x) (suc at) xs ys

-- one byte apart from others
set_apart : (out : List ℕ) (i : ℕ) (x : ℕ) (at : ℕ) (ys : List ℕ) → i < at → set (sets out at ys) i x ≡ sets (set out i x) at ys
set_apart out i x at [] h = refl
set_apart out i x at (y ∷ ys) h =
    set_apart (set out at y) i x (suc at) ys (omega arith) ∙ ap (λ (l : List ℕ). sets l (suc at) ys) (set_comm out at i y x (λ e. omega arith))

-- bytes apart from others, in front of them: which are written first does not matter
pub sets_apart : (out : List ℕ) (at : ℕ) (xs : List ℕ) (behind : ℕ) (ys : List ℕ) → at + length xs ≤ behind
    → sets (sets out behind ys) at xs ≡ sets (sets out at xs) behind ys
sets_apart out at [] behind ys h = refl
sets_apart out at (x ∷ xs) behind ys h =
    ap (λ (l : List ℕ). sets l (suc at) xs) (set_apart out at x behind ys (omega arith)) ∙ sets_apart (set out at x) (suc at) xs behind ys (omega arith)

-- one byte among those that were written
set_within : (out : List ℕ) (at : ℕ) (xs : List ℕ) (i : ℕ) (y : ℕ) → i < length xs → set (sets out at xs) (at + i) y ≡ sets out at (set xs i y)
set_within out at [] i y h = absurd (omega arith)
set_within out at (x ∷ xs) zero y h =
    let e : at + 0 ≡ at = omega arith in
    ap (λ (n : ℕ). set (sets (set out at x) (suc at) xs) n y) e
    ∙ set_apart (set out at x) at y (suc at) xs (omega arith)
    ∙ ap (λ (l : List ℕ). sets l (suc at) xs) (set-set out at x y)
set_within out at (x ∷ xs) (suc i) y h =
    let e : at + suc i ≡ suc at + i = omega arith in
    ap (λ (n : ℕ). set (sets (set out at x) (suc at) xs) n y) e ∙ set_within (set out at x) (suc at) xs i y (omega arith)

-- bytes among those that were written
pub sets_within : (out : List ℕ) (at : ℕ) (xs : List ℕ) (i : ℕ) (ys : List ℕ) → i + length ys ≤ length xs
    → sets (sets out at xs) (at + i) ys ≡ sets out at (sets xs i ys)
sets_within out at xs i [] h = refl
sets_within out at xs i (y ∷ ys) h =
    let e : suc (at + i) ≡ at + suc i = omega arith in
    ap (λ (l : List ℕ). sets l (suc (at + i)) ys) (set_within out at xs i y (omega arith))
    ∙ ap (λ (n : ℕ). sets (sets out at (set xs i y)) n ys) e
    ∙ sets_within out at (set xs i y) (suc i) ys (simp length-set (omega arith))
