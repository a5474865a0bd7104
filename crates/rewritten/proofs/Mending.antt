-- A mended command is as long as it was, is whole, holds the numbers that the rules ask, and is not changed where it is mended once more. Assumes nothing.
use Prim.Native.Nat.{ℕ, ◌+◌, ◌^◌, ◌≤◌, ◌<◌}
use mathlib.Core.Path.{◌≡◌, refl, sym, ap, ◌∙◌}
use mathlib.Core.Bool.{Bool, true, false}
use mathlib.Core.List.{List}
use native.Mathlib.Omega.{arith}
use lib.ListN.{length}
use lib.IntN.{ℤ, pos}
use Rattle.numbers.specs.Signs.{from_twos, to_twos}
use Rattle.numbers.specs.Parts.{up, dn}
use Rattle.numbers.specs.Bytes.{signed_at}
use Rattle.numbers.proofs.Signed.{from_to, to_below}
use Rattle.commands.specs.declared.Kind.{Kind}
use Rattle.commands.specs.declared.Kind.TheVariants.{Bop, Post, PostPost}
use Rattle.commands.specs.declared.fields.UnsignedField.{UnsignedField}
use Rattle.commands.specs.declared.fields.SignedField.{SignedField}
use Rattle.commands.specs.Fields.{unsigned_in, signed_in, bop_pointer, post_pointer, post_depth, post_pages, end_pointer, end_identification}
use Rattle.commands.specs.Lengths.{size_of, fixed_length}
use Rattle.commands.specs.Commands.{Command, kind_of_command, Whole, place}
use Rattle.commands.proofs.ParameterLengths.{has_inner, inner_none, whole_plain}
use Rattle.list.specs.Past.{is_a, greatest, pages, last_bop, post_place}
use Rattle.list.proofs.Arms.{is_kind}
use Rattle.volume.proofs.Bounds.{post_small}
use Rattle.cutting.specs.CutList.{with_signed, with_unsigned, mended_params, mended}
use Rattle.rewritten.proofs.SoundLaws.{last_bop_fits}
use Rattle.rewritten.proofs.FieldLaws.{part, same_part, Held, held_reads, held_stays, with_length, with_held, with_before, with_after}

-- ---- pointers

-- the same bytes, read without a sign
abbrev plainly : SignedField → UnsignedField
plainly field = record { at = field.at; size = field.size }

-- a field has the bytes of a number with a sign
abbrev Points : SignedField → ℤ → List ℕ → Type 0
Points field z params = Held (plainly field) (to_twos (256 ^ field.size) z) params

-- a place, or −1, is read back
points_reads : (at : ℕ) (z : ℤ) (params : List ℕ) → up z < 2 ^ 31 → dn z ≤ 1 → Points (record { at = at; size = 4 }) z params → signed_at params at 4 ≡ z
points_reads at z params high low held =
    ap (from_twos (256 ^ 4)) (held_reads (record { at = at; size = 4 }) (to_twos (256 ^ 4) z) params (to_below (256 ^ 4) z (omega arith)) held)
    ∙ from_to (256 ^ 4) z (omega arith) (omega arith)

-- ---- the parameters of post

module _ (params : List ℕ) (long : length params ≡ 28) (z : ℤ) (s t : ℕ) where
  abbrev pointed : List ℕ
  pointed = with_signed post_pointer z params

  abbrev deepened : List ℕ
  deepened = with_unsigned post_depth s pointed

  abbrev counted : List ℕ
  counted = with_unsigned post_pages t deepened

  pointed_size : length pointed ≡ 28
  pointed_size = with_length (plainly post_pointer) (to_twos (256 ^ 4) z) params (omega arith) ∙ long

  deepened_size : length deepened ≡ 28
  deepened_size = with_length post_depth s pointed (omega (arith, pointed_size)) ∙ pointed_size

  counted_size : length counted ≡ 28
  counted_size = with_length post_pages t deepened (omega (arith, deepened_size)) ∙ deepened_size

  -- what stands before s, after both were written
  early_part : (from count : ℕ) → from + count ≤ 24 → part from count counted ≡ part from count pointed
  early_part from count h =
      with_before post_pages t deepened (omega (arith, deepened_size)) from count (omega arith)
      ∙ with_before post_depth s pointed (omega (arith, pointed_size)) from count h

  pointer_there : Points post_pointer z counted
  pointer_there = early_part 0 4 (omega arith) ∙ with_held (plainly post_pointer) (to_twos (256 ^ 4) z) params (omega arith)

  depth_there : Held post_depth s counted
  depth_there =
      with_before post_pages t deepened (omega (arith, deepened_size)) 24 2 (omega arith) ∙ with_held post_depth s pointed (omega (arith, pointed_size))

  pages_there : Held post_pages t counted
  pages_there = with_held post_pages t deepened (omega (arith, deepened_size))

  middle_same : (field : UnsignedField) → 4 ≤ field.at → field.at + field.size ≤ 24 → unsigned_in field counted ≡ unsigned_in field params
  middle_same field low high =
      same_part counted params field.at field.size
      (early_part field.at field.size high
      ∙ with_after (plainly post_pointer) (to_twos (256 ^ 4) z) params (omega arith) field.at field.size low)

  once_more : with_unsigned post_pages t (with_unsigned post_depth s (with_signed post_pointer z counted)) ≡ counted
  once_more =
      ap (λ (l : List ℕ). with_unsigned post_pages t (with_unsigned post_depth s l)) (held_stays (plainly post_pointer) (to_twos (256 ^ 4) z) counted pointer_there)
      ∙ ap (with_unsigned post_pages t) (held_stays post_depth s counted depth_there)
      ∙ held_stays post_pages t counted pages_there

-- ---- a command for the commands before it

module _ (before : List Command) (c : Command) (w : Whole c) where
  abbrev params : List ℕ
  params = mended_params before c

  -- a command of a kind without a length inside stays whole if it stays as long
  as_whole : {k : Kind} → kind_of_command c ≡ k → has_inner k ≡ false → length params ≡ length c.params → Whole (mended before c)
  unfolding size_of
  as_whole k plain long =
      record {
        defined = w.defined;
        exact = long ∙ w.exact ∙ ap (λ (n : ℕ). fixed_length c.opcode + n) (inner_none c.opcode c.params k plain ∙ sym (inner_none c.opcode params k plain));
      }

  module _ (short : place before < 2 ^ 31) where
    abbrev bop_there : up (last_bop before) < 2 ^ 31
    bop_there = omega (arith, (last_bop_fits before).0)

    abbrev bop_low : dn (last_bop before) ≤ 1
    bop_low = (last_bop_fits before).1

  -- ---- bop

  module _ (k : kind_of_command c ≡ Bop) where
    bop_inside : 44 ≤ length c.params
    bop_inside = omega (arith, whole_plain c w k refl)

    -- a bop has as many bytes as before
    pub bop_length : length params ≡ length c.params
    bop_length = rw k (with_length (plainly bop_pointer) (to_twos (256 ^ 4) (last_bop before)) c.params bop_inside)

    bop_held : Points bop_pointer (last_bop before) params
    bop_held = rw k (with_held (plainly bop_pointer) (to_twos (256 ^ 4) (last_bop before)) c.params bop_inside)

    -- it holds the place of the bop before
    pub bop_points : place before < 2 ^ 31 → signed_in bop_pointer params ≡ last_bop before
    bop_points short = points_reads 40 (last_bop before) params (bop_there short) (bop_low short) bop_held

    -- it is whole
    pub bop_whole : Whole (mended before c)
    bop_whole = as_whole k refl bop_length

    bop_again : mended before (mended before c) ≡ mended before c
    bop_again = ap (λ (l : List ℕ). record { opcode = c.opcode; params = l }) (rw k (held_stays (plainly bop_pointer) (to_twos (256 ^ 4) (last_bop before)) _ (rw k at bop_held)))

  -- ---- post

  module _ (k : kind_of_command c ≡ Post) where
    post_size : length c.params ≡ 28
    post_size = whole_plain c w k refl

    -- a post has as many bytes as before
    pub post_length : length params ≡ length c.params
    post_length = rw k (counted_size c.params post_size (last_bop before) (greatest before) (pages before) ∙ sym post_size)

    -- it holds the place of the last bop
    pub post_points : place before < 2 ^ 31 → signed_in post_pointer params ≡ last_bop before
    post_points short =
        points_reads 0 (last_bop before) params (bop_there short) (bop_low short) (rw k (pointer_there c.params post_size (last_bop before) (greatest before) (pages before)))

    -- what stands between the pointer and s stays
    pub post_same : (field : UnsignedField) → 4 ≤ field.at → field.at + field.size ≤ 24 → unsigned_in field params ≡ unsigned_in field c.params
    post_same field low high = rw k (middle_same c.params post_size (last_bop before) (greatest before) (pages before) field low high)

    -- s is the greatest depth
    pub post_depth_lem : greatest before < 65536 → unsigned_in post_depth params ≡ greatest before
    post_depth_lem flat =
        held_reads post_depth (greatest before) params (omega arith) (rw k (depth_there c.params post_size (last_bop before) (greatest before) (pages before)))

    -- t is the number of pages
    pub post_pages_lem : pages before < 65536 → unsigned_in post_pages params ≡ pages before
    post_pages_lem few =
        held_reads post_pages (pages before) params (omega arith) (rw k (pages_there c.params post_size (last_bop before) (greatest before) (pages before)))

    -- it is whole
    pub post_whole : Whole (mended before c)
    post_whole = as_whole k refl post_length

    post_again : mended before (mended before c) ≡ mended before c
    post_again =
        ap (λ (l : List ℕ). record { opcode = c.opcode; params = l }) (rw k (once_more c.params post_size (last_bop before) (greatest before) (pages before)))

  -- ---- post_post

  module _ (k : kind_of_command c ≡ PostPost) where
    end_inside : 4 ≤ length c.params
    end_inside = omega (arith, whole_plain c w k refl)

    -- a post_post has as many bytes as before
    pub end_length : length params ≡ length c.params
    end_length = rw k (with_length (plainly end_pointer) (to_twos (256 ^ 4) (pos (post_place before))) c.params end_inside)

    end_held : Points end_pointer (pos (post_place before)) params
    end_held = rw k (with_held (plainly end_pointer) (to_twos (256 ^ 4) (pos (post_place before))) c.params end_inside)

    -- it holds the place of post
    pub end_points : place before < 2 ^ 31 → signed_in end_pointer params ≡ pos (post_place before)
    end_points short = points_reads 0 (pos (post_place before)) params (omega (arith, post_small before)) (omega arith) end_held

    -- the identification stays
    pub end_same : unsigned_in end_identification params ≡ unsigned_in end_identification c.params
    end_same =
        rw k
        (same_part (with_signed end_pointer (pos (post_place before)) c.params) c.params 4 1
        (with_after (plainly end_pointer) (to_twos (256 ^ 4) (pos (post_place before))) c.params end_inside 4 1 (omega arith)))

    -- it is whole
    pub end_whole : Whole (mended before c)
    end_whole = as_whole k refl end_length

    end_again : mended before (mended before c) ≡ mended before c
    end_again = ap (λ (l : List ℕ). record { opcode = c.opcode; params = l }) (rw k (held_stays (plainly end_pointer) (to_twos (256 ^ 4) (pos (post_place before))) _ (rw k at end_held)))

-- a command without a pointer stays as it is
pub unmended : (before : List Command) (c : Command) → is_a Bop c ≡ false → is_a Post c ≡ false → is_a PostPost c ≡ false → mended before c ≡ c
unmended before c bop post end = rw (bop, post, end)

-- mending a mended command changes nothing
pub mended_again : (before : List Command) (c : Command) → Whole c → mended before (mended before c) ≡ mended before c
mended_again before c w = by (is_a Bop c) refl (is_a Post c) refl (is_a PostPost c) refl
  where
    by : (bop : Bool) → is_a Bop c ≡ bop → (post : Bool) → is_a Post c ≡ post → (end : Bool) → is_a PostPost c ≡ end → mended before (mended before c) ≡ mended before c
    by true b post p end e = bop_again before c w (is_kind (kind_of_command c) Bop b)
    by false b true p end e = post_again before c w (is_kind (kind_of_command c) Post p)
    by false b false p true e = end_again before c w (is_kind (kind_of_command c) PostPost e)
    by false b false p false e = unmended before (mended before c) b p e
