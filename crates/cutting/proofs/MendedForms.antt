-- A mended command's bytes are the old ones with the bytes of its numbers written over them. Assumes nothing.
use Prim.Native.Nat.{ℕ, suc, ◌+◌, ◌<◌, ◌^◌, ◌≤◌}
use mathlib.Core.Path.{◌≡◌, refl, sym, ap, ◌∙◌}
use mathlib.Core.List.{List, ◌∷◌, ◌++◌, append_assoc}
use mathlib.Core.Logic.{inl, inr}
use native.Mathlib.Nat.{mod-eq_of_lt}
use native.Mathlib.Omega.{arith}
use lib.ListN.{length, take, drop}
use lib.IntN.{pos}
use lib.Seq.{sets, sets-eq, length-sets}
use Rattle.numbers.specs.Signs.{to_twos}
use Rattle.numbers.specs.Bytes.{bytes_of}
use Rattle.numbers.proofs.Bytes.{length_bytes}
use Rattle.commands.specs.Commands.{Command, kind_of_command, Whole, form}
use Rattle.commands.proofs.ParameterLengths.{whole_plain}
use Rattle.list.specs.Past.{greatest, pages, last_bop, post_place}
use Rattle.commands.specs.Fields.{post_depth, post_pages}
use Rattle.cutting.specs.CutList.{with_unsigned, mended}
use Rattle.cutting.specs.Steps.{mended_form, mended_size}
use Rattle.cutting.proofs.Becoming.{IsMended}

-- parameters with other bytes in a field, behind an opcode
with_sets : (opcode at size n : ℕ) (params : List ℕ) → at + size ≤ length params
    → opcode ∷ (take at params ++ (bytes_of size n ++ drop (at + size) params)) ≡ sets (opcode ∷ params) (suc at) (bytes_of size n)
with_sets opcode at size n params fits =
    let long = length_bytes size n in
    let behind : suc at + length (bytes_of size n) ≡ suc (at + size) = omega (arith, long) in
    sym (sets-eq (bytes_of size n) (opcode ∷ params) (suc at) (omega (arith, long))
    ∙ append_assoc (take (suc at) (opcode ∷ params)) (bytes_of size n) (drop (suc at + length (bytes_of size n)) (opcode ∷ params))
    ∙ ap (λ (k : ℕ). opcode ∷ (take at params ++ (bytes_of size n ++ drop k (opcode ∷ params)))) behind)

-- as many as before
with_length : (at size n : ℕ) (params : List ℕ) → at + size ≤ length params → length (take at params ++ (bytes_of size n ++ drop (at + size) params)) ≡ length params
with_length at size n params fits = omega (arith, ap length (with_sets 0 at size n params fits), length-sets (0 ∷ params) (suc at) (bytes_of size n))

-- a pointer's bytes, as the code holds it
abbrev pub pointer : List Command → ℕ
pointer before = to_twos (256 ^ 4) (last_bop before)

-- post: a pointer, then depth and pages, each over what is there by then
post_form : (opcode : ℕ) (params : List ℕ) → length params ≡ 28 → (point deep count : ℕ)
    → opcode ∷ with_unsigned post_pages count (with_unsigned post_depth deep (with_unsigned (record { at = 0; size = 4 }) point params))
    ≡ sets (sets (sets (opcode ∷ params) 1 (bytes_of 4 point)) 25 (bytes_of 2 deep)) 27 (bytes_of 2 count)
post_form opcode params long point deep count =
    let pointed = with_unsigned (record { at = 0; size = 4 }) point params in
    let first = with_sets opcode 0 4 point params (omega (arith, long)) in
    let long-first : suc (length pointed) ≡ suc (length params) = ap length first ∙ length-sets (opcode ∷ params) 1 (bytes_of 4 point) in
    let second = with_sets opcode 24 2 deep pointed (omega (arith, long, long-first)) in
    let long-second : suc (length (with_unsigned post_depth deep pointed)) ≡ suc (length pointed) = ap length second ∙ length-sets (opcode ∷ pointed) 25 (bytes_of 2 deep) in
    with_sets opcode 26 2 count (with_unsigned post_depth deep pointed) (omega (arith, long, long-first, long-second))
    ∙ ap (λ (l : List ℕ). sets l 27 (bytes_of 2 count)) (second ∙ ap (λ (l : List ℕ). sets l 25 (bytes_of 2 deep)) first)

post_length : (bytes : List ℕ) (point deep count : ℕ)
    → length (sets (sets (sets bytes 1 (bytes_of 4 point)) 25 (bytes_of 2 deep)) 27 (bytes_of 2 count)) ≡ length bytes
post_length bytes point deep count =
    length-sets (sets (sets bytes 1 (bytes_of 4 point)) 25 (bytes_of 2 deep)) 27 (bytes_of 2 count)
    ∙ length-sets (sets bytes 1 (bytes_of 4 point)) 25 (bytes_of 2 deep)
    ∙ length-sets bytes 1 (bytes_of 4 point)

module _ (before : List Command) (c : Command) (w : Whole c) where
  -- how many bytes a command has that is mended
  pub mended_size_lem : IsMended (kind_of_command c) → 1 + length c.params ≡ mended_size (kind_of_command c)
  mended_size_lem (inl k) = rw k (omega (arith, whole_plain c w k refl))
  mended_size_lem (inr (inl k)) = rw k (omega (arith, whole_plain c w k refl))
  mended_size_lem (inr (inr k)) = rw k (omega (arith, whole_plain c w k refl))

  -- its bytes
  pub mended_form_lem : IsMended (kind_of_command c) → post_place before < 2 ^ 32
      → form (mended before c) ≡ mended_form (kind_of_command c) (pointer before) (post_place before) (greatest before) (pages before) (form c)
  mended_form_lem (inl k) small = rw k (with_sets c.opcode 40 4 (pointer before) c.params (omega (arith, whole_plain c w k refl)))
  mended_form_lem (inr (inl k)) small = rw k (post_form c.opcode c.params (whole_plain c w k refl) (pointer before) (greatest before) (pages before))
  mended_form_lem (inr (inr k)) small =
      let long = whole_plain c w k refl in
      let same : to_twos (256 ^ 4) (pos (post_place before)) ≡ post_place before = mod-eq_of_lt small in
      rw k (with_sets c.opcode 0 4 (to_twos (256 ^ 4) (pos (post_place before))) c.params (omega (arith, long)) ∙ ap (λ (n : ℕ). sets (form c) 1 (bytes_of 4 n)) same)

  -- it is as long as it was
  pub mended_length : IsMended (kind_of_command c) → length (mended before c).params ≡ length c.params
  mended_length (inl k) = rw k (with_length 40 4 (pointer before) c.params (omega (arith, whole_plain c w k refl)))
  mended_length (inr (inl k)) =
      let long = whole_plain c w k refl in
      rw k (omega (arith, ap length (post_form c.opcode c.params long (pointer before) (greatest before) (pages before)), post_length (form c) (pointer before) (greatest before) (pages before)))
  mended_length (inr (inr k)) = rw k (with_length 0 4 (to_twos (256 ^ 4) (pos (post_place before))) c.params (omega (arith, whole_plain c w k refl)))
