-- The opening, the preamble and all definitions before post, keeps the rules and defines the same fonts. Assumes nothing.
use Prim.Native.Nat.{ℕ, ◌+◌}
use mathlib.Core.Path.{◌≡◌, refl, sym, ap, ◌∙◌}
use mathlib.Core.Bool.{Bool, true, false, cond, true≢false}
use mathlib.Core.List.{List, ◌∷◌}
use native.Mathlib.Omega.{arith}
use lib.Dec.{ltb}
use lib.IntN.{ℤ}
use borrow.Author.Tests.{lt-ltb}
use Rattle.numbers.specs.Signs.{same_number}
use Rattle.commands.specs.declared.Kind.{Kind}
use Rattle.commands.specs.declared.Kind.TheVariants.{Define, Pre}
use Rattle.commands.specs.declared.fields.UnsignedField.{UnsignedField}
use Rattle.commands.specs.Commands.{Command, kind_of_command, Whole, place}
use Rattle.list.specs.declared.Stage.{Stage}
use Rattle.list.specs.declared.Stage.TheVariants.{AtStart, BeforePages}
use Rattle.list.specs.Past.{is_a, stage, stage_after, is_after_post, depth, greatest, pages, unit_in, font_number, defines, Definition, none, stands, definition_of, is_defined, font_count}
use Rattle.list.specs.Rules.{is_at_start, lawful_definition, Allowed, says}
use Rattle.list.proofs.Arms.{is_kind}
use Rattle.list.proofs.AtStages.{first_pre}
use Rattle.rewritten.proofs.Defining.{right}
use Rattle.cutting.specs.CutList.{opening}
use Rattle.rewritten.specs.Unplaced.{unplaced}
use Rattle.rewritten.proofs.Unwinding.{Sound, start, more}
use Rattle.cutting.proofs.Turning.{Inner, Turn, starts, idles, defines_early, begins, within, finishes, posts, idles_late, defines_again, ends, turn_of}

-- ---- definitions but for their places

-- whether there is one
pub defined_unplaced : (one other : Definition) → unplaced one ≡ unplaced other → is_defined one ≡ is_defined other
defined_unplaced one other e = plain one ∙ ap is_defined e ∙ sym (plain other)
  where
    plain : (d : Definition) → is_defined d ≡ is_defined (unplaced d)
    plain none = refl
    plain (stands at c) = refl

-- what it says
pub says_unplaced : (one other : Definition) (bytes : List ℕ) → unplaced one ≡ unplaced other → says one bytes ≡ says other bytes
says_unplaced one other bytes e = plain one ∙ ap (λ (d : Definition). says d bytes) e ∙ sym (plain other)
  where
    plain : (d : Definition) → says d bytes ≡ says (unplaced d) bytes
    plain none = refl
    plain (stands at c) = refl

-- ---- what the opening is

-- what holds of the opening first where the list is past
pub record Opens (past first : List Command) : Type 0 where
  pub sound : Sound first
  pub stage_is : stage first ≡ cond (is_at_start (stage past)) AtStart BeforePages
  pub fonts : (number : ℤ) → unplaced (definition_of false number first) ≡ unplaced (definition_of false number past)
  pub count : font_count false first ≡ font_count false past
  pub late : (number : ℤ) → definition_of true number first ≡ none
  pub late_count : font_count true first ≡ 0
  pub units : (field : UnsignedField) → unit_in field first ≡ unit_in field past
  pub no_pages : pages first ≡ 0
  pub flat : depth first ≡ 0
  pub flat_always : greatest first ≡ 0

-- a command that leaves it as it is
module _ {past : List Command} {c : Command} (o : Opens past (opening past)) (pre : is_a Pre c ≡ false)
    (other : defines false (stage past) (kind_of_command c) ≡ false) (begun : is_at_start (stage past) ≡ false) (still : is_at_start (stage (c ∷ past)) ≡ false) where
  passes : Opens (c ∷ past) (opening (c ∷ past))
  passes =
      rw (pre, other)
      (record {
        sound = o.sound;
        stage_is = rw still (rw begun at o.stage_is);
        fonts = λ number. rw other (o.fonts number);
        count = rw other o.count;
        late = o.late;
        late_count = o.late_count;
        units = λ field. rw pre (o.units field);
        no_pages = o.no_pages;
        flat = o.flat;
        flat_always = o.flat_always;
      })

-- one more definition
module _ {past : List Command} {c : Command} (o : Opens past (opening past)) (w : Whole c) (allowed : Allowed past c) (k : kind_of_command c ≡ Define)
    (begun : is_at_start (stage past) ≡ false) (early : is_after_post (stage past) ≡ false) where
  stage_there : stage (opening past) ≡ BeforePages
  stage_there = rw begun at o.stage_is

  lawful_there : lawful_definition (opening past) c ≡ true
  lawful_there =
      let r = right allowed k in
      let new : is_defined (definition_of false (font_number c) (opening past)) ≡ false =
      defined_unplaced (definition_of false (font_number c) (opening past)) (definition_of false (font_number c) past) (o.fonts (font_number c)) ∙ ap is_defined (r.early early).0 in
      let few : ltb (font_count false (opening past)) 64 ≡ true = lt-ltb (font_count false (opening past)) 64 (omega (arith, o.count, (r.early early).1)) in
      rw (r.number, r.scale, r.size, stage_there, new, few)

  allowed_there : Allowed (opening past) c
  allowed_there =
      record {
        preamble = rw stage_there;
        standing = rw (stage_there, k);
        depth_right = rw k;
        definition = rw (k, lawful_there);
        font = rw k;
        pointer = rw k;
        postamble = rw k;
      }

  defines_one : Opens (c ∷ past) (opening (c ∷ past))
  defines_one =
      rw (k, early)
      (record {
        sound = more o.sound w allowed_there (rw k);
        stage_is = rw (k, begun) stage_there;
        fonts = λ number. rw (k, early, stage_there) (by (same_number (font_number c) number) number);
        count = rw (k, early, stage_there) (ap (λ (n : ℕ). n + 1) o.count);
        late = λ number. rw (k, stage_there) (o.late number);
        late_count = rw (k, stage_there) o.late_count;
        units = λ field. rw k (o.units field);
        no_pages = rw k o.no_pages;
        flat = rw k o.flat;
        flat_always = rw k (omega (arith, o.flat, o.flat_always));
      })
    where
      by : (same : Bool) (number : ℤ)
          → unplaced (cond same (stands (place (opening past)) c) (definition_of false number (opening past)))
          ≡ unplaced (cond same (stands (place past) c) (definition_of false number past))
      by true number = refl
      by false number = o.fonts number

-- the preamble
module _ {past : List Command} {c : Command} (o : Opens past (opening past)) (w : Whole c) (allowed : Allowed past c) (at : stage past ≡ AtStart)
    (k : kind_of_command c ≡ Pre) where
  start_there : stage (opening past) ≡ AtStart
  start_there = rw at at o.stage_is

  begins_so : Opens (c ∷ past) (opening (c ∷ past))
  begins_so =
      rw k
      (record {
        sound = more o.sound w (record {
          preamble = rw (start_there, k, (first_pre past c allowed (rw at)).1);
          standing = rw start_there;
          depth_right = rw k;
          definition = rw k;
          font = rw k;
          pointer = rw k;
          postamble = rw k;
        }) (rw k);
        stage_is = rw k;
        fonts = λ number. rw k (o.fonts number);
        count = rw k o.count;
        late = λ number. rw k (o.late number);
        late_count = rw k o.late_count;
        units = λ field. rw k;
        no_pages = rw k o.no_pages;
        flat = rw k o.flat;
        flat_always = rw k (omega (arith, o.flat, o.flat_always));
      })

-- ---- so it is of all commands that keep the rules

-- one of a page's own commands leaves the stage
pub inner_stage : (k : Kind) → Inner k → (at : Stage) → stage_after k at ≡ at
inner_stage k inner at = rw (inner.no_pre, inner.no_bop, inner.no_eop, inner.no_post, inner.no_end)

-- the opening is so
pub opens : {past : List Command} → Sound past → Opens past (opening past)
opens start =
    record {
      sound = start;
      stage_is = refl;
      fonts = λ number. refl;
      count = refl;
      late = λ number. refl;
      late_count = refl;
      units = λ field. refl;
      no_pages = refl;
      flat = refl;
      flat_always = refl;
    }
opens (more {past = past} {c = c} sound w allowed not_last) = by (turn_of allowed) (opens sound)
  where
    by : Turn (stage past) (kind_of_command c) → Opens past (opening past) → Opens (c ∷ past) (opening (c ∷ past))
    by (starts at k) o =
        begins_so o w allowed at k
    by (idles out k) o = passes o (rw k) (rw k) out.begun (rw k out.begun)
    by (defines_early out k) o = defines_one o w allowed k out.begun out.early
    by (begins out k) o = passes o (rw k) (rw k) out.begun (rw k)
    by (within at inner) o = inside (is_a Define c) refl
      where
        inside : (t : Bool) → is_a Define c ≡ t → Opens (c ∷ past) (opening (c ∷ past))
        inside true t = defines_one o w allowed (is_kind (kind_of_command c) Define t) (rw at) (rw at)
        inside false t = passes o inner.no_pre (rw t) (rw at) (rw (inner_stage (kind_of_command c) inner (stage past), at))
    by (finishes at k) o = passes o (rw k) (rw k) (rw at) (rw k)
    by (posts at k) o = passes o (rw k) (rw k) (rw at) (rw k)
    by (idles_late at k) o = passes o (rw k) (rw k) (rw at) (rw (k, at))
    by (defines_again at k) o = passes o (rw k) (rw (k, at)) (rw at) (rw (k, at))
    by (ends at k) o = absurd (true≢false (rw k at not_last))
