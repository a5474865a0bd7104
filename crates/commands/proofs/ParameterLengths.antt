-- The lengths of parameters: the table's rule by kinds, which kinds have a length inside, and that only bytes inside the parameters are looked at.
-- Assumes nothing.
use mathlib.Core.Path.{◌≡◌, refl, ap, ap₂, sym, ◌∙◌}
use mathlib.Core.Bool.{Bool, true, false, ◌&&◌, true≢false}
use mathlib.Core.List.{List, ◌++◌}
use mathlib.Core.Logic.{⊎_elim}
use Prim.Native.Nat.{ℕ, ◌+◌, ◌-◌, ◌<◌, ◌≤◌}
use native.Mathlib.Omega.{arith}
use lib.Dec.{leb}
use lib.ListN.{length, take, drop, get_or-eq_default, take-append-drop}
use lib.Seq.{length-take-le}
use borrow.Author.Tests.{le-ltb}
use Rattle.numbers.proofs.Bytes.{unsigned_front, unsigned_drop}
use Rattle.commands.specs.declared.Kind.{Kind}
use Rattle.commands.specs.declared.Kind.TheVariants.{SetCharacter, Bop, Special, Define, Pre, Undefined}
use Rattle.commands.specs.Kinds.{kind_of}
use Rattle.commands.specs.ByKind.{first, last, fixed_by}
use Rattle.commands.specs.declared.fields.UnsignedField.{UnsignedField}
use Rattle.commands.specs.Fields.{unsigned_in, bop_pointer, pre_comment_length, post_pages, end_identification, special_length, definition_number_size, definition_area_length, definition_name_length, definition_name}
use Rattle.commands.specs.Parameters.{definition}
use Rattle.commands.specs.Lengths.{lengths, fixed_length, inner_length, size_of}
use Rattle.commands.specs.Commands.{Command, Whole, kind_of_command}
use Rattle.numbers.proofs.Radix.{less_or_not}
use Rattle.commands.proofs.Ranges.{constant_on, equal_on, between_on}
use Rattle.commands.proofs.Opcodes.{range_kind, kind_from, from_250}

-- ---- the table's rule

fixed_beyond : (opcode : ℕ) → 250 ≤ opcode → fixed_length opcode ≡ 0
unfolding fixed_length lengths
fixed_beyond opcode h = rw (le-ltb opcode 128 (omega arith)) (get_or-eq_default lengths 0 {n = opcode - 128} (omega arith))

pub fixed_of : {k : Kind} (opcode : ℕ) → kind_of opcode ≡ k → fixed_length opcode ≡ fixed_by k opcode
fixed_of {k} opcode e = ⊎_elim inside beyond (less_or_not opcode 250) ∙ ap (λ (kind_is : Kind). fixed_by kind_is opcode) e
  where
    inside : opcode < 250 → fixed_length opcode ≡ fixed_by (kind_of opcode) opcode
    inside h = equal_on fixed_length (λ x. fixed_by (kind_of x) x) 0 250 (unfold fixed_length lengths kind_of in refl) (omega arith) (omega arith)

    beyond : 250 ≤ opcode → fixed_length opcode ≡ fixed_by (kind_of opcode) opcode
    beyond h = rw (from_250 opcode h) (fixed_beyond opcode h)

-- a kind's first opcode has the fewest parameter bytes, its last the most
pub fixed_between : {k : Kind} (opcode : ℕ) → opcode < 250 → kind_of opcode ≡ k → (fixed_by k (first k) ≤ fixed_length opcode) × (fixed_length opcode ≤ fixed_by k (last k))
fixed_between opcode h e =
    rw e at (between_on fixed_length (λ x. fixed_by (kind_of x) (first (kind_of x))) (λ x. fixed_by (kind_of x) (last (kind_of x))) 0 250 (unfold fixed_length lengths kind_of in refl) {x = opcode} (omega arith) (omega arith))

-- ---- lengths inside a command

-- the kinds that have one are special, define and pre, whose opcodes stand together
abbrev pub has_inner : Kind → Bool
has_inner k = leb 239 (first k) && leb (first k) 247

module _ (opcode : ℕ) (params : List ℕ) where
  inner_undefined : kind_of opcode ≡ Undefined → inner_length opcode params ≡ 0
  unfolding inner_length
  inner_undefined e = rw e

  pub inner_special : kind_of opcode ≡ Special → inner_length opcode params ≡ unsigned_in (special_length opcode) params
  unfolding inner_length
  inner_special e = rw e

  pub inner_define : kind_of opcode ≡ Define
      → inner_length opcode params ≡ unsigned_in definition_area_length (definition opcode params) + unsigned_in definition_name_length (definition opcode params)
  unfolding inner_length
  inner_define e = rw e

  pub inner_pre : kind_of opcode ≡ Pre → inner_length opcode params ≡ unsigned_in pre_comment_length params
  unfolding inner_length
  inner_pre e = rw e

  pub inner_below : opcode < 239 → inner_length opcode params ≡ 0
  inner_below l = constant_on (λ x. inner_length x params) 0 0 239 (unfold inner_length kind_of in refl) (omega arith) (omega arith)

  pub inner_above : 248 ≤ opcode → inner_length opcode params ≡ 0
  inner_above h = ⊎_elim defined (λ beyond. inner_undefined (from_250 opcode beyond)) (less_or_not opcode 250)
    where
      defined : opcode < 250 → inner_length opcode params ≡ 0
      defined l = constant_on (λ x. inner_length x params) 0 248 2 (unfold inner_length kind_of in refl) h (omega arith)

-- an opcode has no length inside, or is of one of the three kinds
data Inner (opcode : ℕ) : Type 0 where
  none : ((params : List ℕ) → inner_length opcode params ≡ 0) → Inner opcode
  special : kind_of opcode ≡ Special → Inner opcode
  define : kind_of opcode ≡ Define → Inner opcode
  pre : kind_of opcode ≡ Pre → Inner opcode

inner_cases : (opcode : ℕ) → Inner opcode
inner_cases opcode = ⊎_elim (λ l. none (λ params. inner_below opcode params l)) from-special (less_or_not opcode 239)
  where
    from-pre : 247 ≤ opcode → Inner opcode
    from-pre h = ⊎_elim (λ l. pre (range_kind Pre h (omega arith))) (λ g. none (λ params. inner_above opcode params g)) (less_or_not opcode 248)

    from-define : 243 ≤ opcode → Inner opcode
    from-define h = ⊎_elim (λ l. define (range_kind Define h (omega arith))) from-pre (less_or_not opcode 247)

    from-special : 239 ≤ opcode → Inner opcode
    from-special h = ⊎_elim (λ l. special (range_kind Special h (omega arith))) from-define (less_or_not opcode 243)

pub inner_none : {k : Kind} (opcode : ℕ) (params : List ℕ) → kind_of opcode ≡ k → has_inner k ≡ false → inner_length opcode params ≡ 0
inner_none {k} opcode params e plain = go (inner_cases opcode)
  where
    clash : {other : Kind} → kind_of opcode ≡ other → has_inner other ≡ true → inner_length opcode params ≡ 0
    clash other-is inner-there = absurd (true≢false (sym inner-there ∙ ap has_inner (sym other-is ∙ e) ∙ plain))

    go : Inner opcode → inner_length opcode params ≡ 0
    go (none zero-at) = zero-at params
    go (special s) = clash s refl
    go (define d) = clash d refl
    go (pre p) = clash p refl

-- ---- only bytes inside the parameters are looked at

module _ (opcode : ℕ) (params more : List ℕ) (long : fixed_length opcode ≤ length params) where
  field_append : (field : UnsignedField) → field.at + field.size ≤ fixed_length opcode → unsigned_in field (params ++ more) ≡ unsigned_in field params
  field_append field h = unsigned_front params more field.at field.size (omega arith)

  said_append : (field : UnsignedField) → definition_number_size opcode + (field.at + field.size) ≤ fixed_length opcode
      → unsigned_in field (definition opcode (params ++ more)) ≡ unsigned_in field (definition opcode params)
  said_append field h =
      unsigned_drop (params ++ more) (definition_number_size opcode) field.at field.size
      ∙ unsigned_front params more (definition_number_size opcode + field.at) field.size (omega arith)
      ∙ sym (unsigned_drop params (definition_number_size opcode) field.at field.size)

  inner_append : inner_length opcode (params ++ more) ≡ inner_length opcode params
  inner_append = go (inner_cases opcode)
    where
      go : Inner opcode → inner_length opcode (params ++ more) ≡ inner_length opcode params
      go (none zero-at) = zero-at (params ++ more) ∙ sym (zero-at params)
      go (special s) =
          inner_special opcode (params ++ more) s
          ∙ field_append (special_length opcode) (omega (arith, fixed_of opcode s))
          ∙ sym (inner_special opcode params s)
      go (define d) =
          inner_define opcode (params ++ more) d
          ∙ ap₂ ◌+◌ (said_append definition_area_length (omega (arith, fixed_of opcode d, kind_from opcode d))) (said_append definition_name_length (omega (arith, fixed_of opcode d, kind_from opcode d)))
          ∙ sym (inner_define opcode params d)
      go (pre p) =
          inner_pre opcode (params ++ more) p ∙ field_append pre_comment_length (omega (arith, fixed_of opcode p)) ∙ sym (inner_pre opcode params p)

  pub size_append : size_of opcode (params ++ more) ≡ size_of opcode params
  unfolding size_of
  size_append = ap (λ (inner : ℕ). fixed_length opcode + inner) inner_append

pub fixed_within : (opcode : ℕ) (params : List ℕ) → fixed_length opcode ≤ size_of opcode params
unfolding size_of
fixed_within opcode params = omega arith

-- cut where its own size says, a list keeps that size
pub size_take : (opcode : ℕ) (bytes : List ℕ) → size_of opcode bytes ≤ length bytes → size_of opcode (take (size_of opcode bytes) bytes) ≡ size_of opcode bytes
size_take opcode bytes fits =
    let cut_length : length (take (size_of opcode bytes) bytes) ≡ size_of opcode bytes = length-take-le (size_of opcode bytes) bytes fits in
    sym (size_append opcode (take (size_of opcode bytes) bytes) (drop (size_of opcode bytes) bytes) (omega (arith, fixed_within opcode bytes)))
    ∙ ap (size_of opcode) (take-append-drop (size_of opcode bytes) bytes)

-- ---- of a whole command

module _ (c : Command) (w : Whole c) where
  pub whole_size : length c.params ≡ fixed_length c.opcode + inner_length c.opcode c.params
  unfolding size_of
  whole_size = w.exact

  pub whole_fixed : fixed_length c.opcode ≤ length c.params
  whole_fixed = omega (arith, whole_size)

  module _ {k : Kind} (e : kind_of_command c ≡ k) (plain : has_inner k ≡ false) where
    pub whole_exact : length c.params ≡ fixed_length c.opcode
    whole_exact = omega (arith, whole_size, inner_none c.opcode c.params e plain)

    pub whole_plain : length c.params ≡ fixed_by k c.opcode
    whole_plain = whole_exact ∙ fixed_of c.opcode e

    pub whole_at_most : length c.params ≤ fixed_by k (last k)
    whole_at_most = omega (arith, whole_exact, fixed_between c.opcode w.defined e)

-- a character's code has at most four bytes, and a bop 44
shown : (c : Command) → Whole c → (kind_of_command c ≡ SetCharacter → length c.params ≤ 4) × (kind_of_command c ≡ Bop → length c.params ≡ 44)
shown c w = (λ e. whole_at_most c w e refl, λ e. whole_plain c w e refl)

-- the fields of bop, of fnt_def1 (of fnt_def4), of pre, of post and of post_post end where the table says
fields_fill :
    (fixed_length 139 ≡ bop_pointer.at + bop_pointer.size)
    × (fixed_length 243 ≡ definition_number_size 243 + definition_name)
    × (fixed_length 246 ≡ definition_number_size 246 + definition_name)
    × (fixed_length 247 ≡ pre_comment_length.at + pre_comment_length.size)
    × (fixed_length 248 ≡ post_pages.at + post_pages.size)
    × (fixed_length 249 ≡ end_identification.at + end_identification.size)
unfolding fixed_length lengths
fields_fill = (refl, refl, refl, refl, refl, refl)
