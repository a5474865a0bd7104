-- What the rules ask of the commands of the new list, case by case. Assumes nothing.
use Prim.Native.Nat.{ℕ}
use mathlib.Core.Path.{◌≡◌, refl, sym, ap, ◌∙◌}
use mathlib.Core.Bool.{Bool, true, false, not, ◌&&◌, ◌||◌, true≢false, and-eq-true_iff}
use mathlib.Core.List.{List}
use native.Mathlib.Omega.{arith}
use lib.Dec.{eqb}
use lib.IntN.{ℤ, pos}
use borrow.Author.Tests.{not-false, eqb-true, eq-eqb, le-leb}
use Rattle.numbers.proofs.Signed.{same_number_refl}
use Rattle.commands.specs.declared.Kind.TheVariants.{SetCharacter, PutCharacter, Bop, Select, Define, Post, PostPost}
use Rattle.commands.specs.Fields.{unsigned_in, signed_in, bop_pointer, post_pointer, post_num, post_den, post_mag, post_depth, post_pages, end_pointer, end_identification}
use Rattle.commands.specs.Commands.{Command, kind_of_command}
use Rattle.commands.specs.Parameters.{selected_font}
use Rattle.list.specs.declared.Stage.{Stage}
use Rattle.list.specs.declared.Stage.TheVariants.{AtStart, BeforePages, OnPage, BetweenPages, AfterPost, AfterEnd}
use Rattle.list.specs.Past.{is_a, stage, depth, greatest, pages, last_bop, post_place, num, den, mag, selected, font_number, body, Definition, none, stands, definition_of, is_defined, font_count}
use Rattle.list.specs.Rules.{is_at_start, may_stand, says, lawful_definition, lawful_postamble, right_depth, Allowed}
use Rattle.rewritten.proofs.Defining.{holds, right}
use Rattle.rewritten.specs.Unplaced.{unplaced}
use Rattle.rewritten.proofs.Opening.{says_unplaced}

-- an s that is the depth reached is right
right_same : (depth : ℕ) → right_depth depth depth ≡ true
right_same depth = le-leb depth depth (omega arith)

module _ (n : List Command) (c : Command) where
  -- a bop
  pub bop_allowed : kind_of_command c ≡ Bop → is_at_start (stage n) ≡ false → may_stand (stage n) Bop ≡ true → signed_in bop_pointer c.params ≡ last_bop n → Allowed n c
  bop_allowed k begun stand points =
      record {
        preamble = rw begun;
        standing = rw (k, stand);
        depth_right = rw k;
        definition = rw k;
        font = rw k;
        pointer = rw (k, points, same_number_refl (last_bop n));
        postamble = rw k;
      }

  -- a post that is lawful
  post_lawful : kind_of_command c ≡ Post → is_at_start (stage n) ≡ false → may_stand (stage n) Post ≡ true → signed_in post_pointer c.params ≡ last_bop n
      → lawful_postamble (num n) (den n) (mag n) (greatest n) (pages n) c.params ≡ true → Allowed n c
  post_lawful k begun stand points lawful =
      record {
        preamble = rw begun;
        standing = rw (k, stand);
        depth_right = rw k;
        definition = rw k;
        font = rw k;
        pointer = rw (k, points, same_number_refl (last_bop n));
        postamble = rw (k, lawful);
      }

  -- a post that repeats the numbers of the list
  pub post_allowed : kind_of_command c ≡ Post → stage n ≡ BetweenPages → signed_in post_pointer c.params ≡ last_bop n
      → unsigned_in post_num c.params ≡ num n → unsigned_in post_den c.params ≡ den n → unsigned_in post_mag c.params ≡ mag n
      → unsigned_in post_depth c.params ≡ greatest n → unsigned_in post_pages c.params ≡ pages n → Allowed n c
  post_allowed k at points e1 e2 e3 e4 e5 =
      let right : right_depth (unsigned_in post_depth c.params) (greatest n) ≡ true = ap (λ (s : ℕ). right_depth s (greatest n)) e4 ∙ right_same (greatest n) in
      post_lawful k (rw at) (rw at) points
      (rw (
        eq-eqb (unsigned_in post_num c.params) (num n) e1,
        eq-eqb (unsigned_in post_den c.params) (den n) e2,
        eq-eqb (unsigned_in post_mag c.params) (mag n) e3,
        right,
        eq-eqb (unsigned_in post_pages c.params) (pages n) e5,
      ))

  -- a post_post
  pub end_allowed : kind_of_command c ≡ PostPost → stage n ≡ AfterPost → font_count true n ≡ font_count false n → signed_in end_pointer c.params ≡ pos (post_place n)
      → unsigned_in end_identification c.params ≡ 2 → Allowed n c
  end_allowed k at as_many points i =
      record {
        preamble = rw at;
        standing = rw (at, k);
        depth_right = rw k;
        definition = rw (k, eq-eqb (font_count true n) (font_count false n) as_many);
        font = rw k;
        pointer = rw (k, points, same_number_refl (pos (post_place n)));
        postamble = rw (k, i);
      }

  module _ (past : List Command) (allowed : Allowed past c) where
    -- a definition after post
    pub again_allowed : kind_of_command c ≡ Define → stage past ≡ AfterPost → stage n ≡ AfterPost
        → is_defined (definition_of true (font_number c) n) ≡ is_defined (definition_of true (font_number c) past)
        → (is_defined (definition_of false (font_number c) past) ≡ true → unplaced (definition_of false (font_number c) n) ≡ unplaced (definition_of false (font_number c) past))
        → Allowed n c
    again_allowed k was at late early =
        record {
          preamble = rw at;
          standing = rw (at, k);
          depth_right = rw k;
          definition = rw (k, lawful);
          font = rw k;
          pointer = rw k;
          postamble = rw k;
        }
      where
        there : (d : Definition) (bytes : List ℕ) → says d bytes ≡ true → is_defined d ≡ true
        there none bytes e = e
        there (stands place d) bytes e = refl

        lawful : lawful_definition n c ≡ true
        lawful =
            let r = right allowed k in
            let (new, same) = r.late (rw was) in
            let fresh : is_defined (definition_of true (font_number c) n) ≡ false = late ∙ ap is_defined new in
            let said : says (definition_of false (font_number c) n) (body c) ≡ true =
            says_unplaced (definition_of false (font_number c) n) (definition_of false (font_number c) past) (body c) (early (there (definition_of false (font_number c) past) (body c) same)) ∙ same in
            rw (r.number, r.scale, r.size, at, fresh, said)

    -- one of a page's own commands, or its eop
    pub own_allowed : is_a Bop c ≡ false → is_a Define c ≡ false → is_a Post c ≡ false → is_a PostPost c ≡ false → stage past ≡ OnPage → stage n ≡ OnPage
        → depth n ≡ depth past → selected n ≡ selected past
        → ((number : ℤ) → is_defined (definition_of false number past) ≡ true → is_defined (definition_of false number n) ≡ true)
        → Allowed n c
    own_allowed no_bop no_define no_post no_end was at deep chosen fonts =
        record {
          preamble = rw at;
          standing = ap (λ (there : Stage). not (may_stand there (kind_of_command c))) (at ∙ sym was) ∙ allowed.standing;
          depth_right = rw deep allowed.depth_right;
          definition = rw (no_define, no_end);
          font = rw chosen (by (is_a Select c) (is_a SetCharacter c || is_a PutCharacter c) allowed.font (fonts (selected_font c.opcode c.params)));
          pointer = rw (no_bop, no_post, no_end);
          postamble = rw (no_post, no_end);
        }
      where
        by : (select character : Bool)
            → ((select && not (is_defined (definition_of false (selected_font c.opcode c.params) past))) || (character && not (selected past))) ≡ false
            → (is_defined (definition_of false (selected_font c.opcode c.params) past) ≡ true → is_defined (definition_of false (selected_font c.opcode c.params) n) ≡ true)
            → ((select && not (is_defined (definition_of false (selected_font c.opcode c.params) n))) || (character && not (selected past))) ≡ false
        by false character e f = e
        by true character e f = selects (is_defined (definition_of false (selected_font c.opcode c.params) past)) refl e
          where
            selects : (t : Bool) → is_defined (definition_of false (selected_font c.opcode c.params) past) ≡ t → (not t || (character && not (selected past))) ≡ false
                → (not (is_defined (definition_of false (selected_font c.opcode c.params) n)) || (character && not (selected past))) ≡ false
            selects true q e = rw (f q) e
            selects false q e = absurd (true≢false e)

-- what the rules say of the old commands

module _ {past : List Command} {c : Command} (allowed : Allowed past c) where
  -- post repeats num, den, mag, and has the number of pages
  pub post_old : kind_of_command c ≡ Post
      → (unsigned_in post_num c.params ≡ num past) × (unsigned_in post_den c.params ≡ den past) × (unsigned_in post_mag c.params ≡ mag past) × (unsigned_in post_pages c.params ≡ pages past)
  post_old k =
      let rules : lawful_postamble (num past) (den past) (mag past) (greatest past) (pages past) c.params ≡ true = holds _ (rw k at allowed.postamble) in
      let from-num = (and-eq-true_iff (eqb (unsigned_in post_num c.params) (num past)) _).0 rules in
      let from-den = (and-eq-true_iff (eqb (unsigned_in post_den c.params) (den past)) _).0 from-num.1 in
      let from-mag = (and-eq-true_iff (eqb (unsigned_in post_mag c.params) (mag past)) _).0 from-den.1 in
      let from-depth = (and-eq-true_iff (right_depth (unsigned_in post_depth c.params) (greatest past)) _).0 from-mag.1 in
      (eqb-true _ _ from-num.0, eqb-true _ _ from-den.0, eqb-true _ _ from-mag.0, eqb-true _ _ from-depth.1)

  -- post_post stands after post, no font is left out, and its identification is 2
  pub end_old : kind_of_command c ≡ PostPost → (stage past ≡ AfterPost) × (font_count true past ≡ font_count false past) × (unsigned_in end_identification c.params ≡ 2)
  end_old k = (
    by (stage past) (not-false (may_stand (stage past) PostPost) (rw k at allowed.standing)) begun,
    eqb-true _ _ (not-false _ (rw k at allowed.definition)),
    eqb-true _ _ (not-false _ (rw k at allowed.postamble)),
  )
    where
      begun : is_at_start (stage past) ≡ false
      begun = first (is_at_start (stage past)) (rw k at allowed.preamble)
        where
          first : (t : Bool) → (t && true) ≡ false → t ≡ false
          first true e = e
          first false e = refl

      by : (at : Stage) → may_stand at PostPost ≡ true → is_at_start at ≡ false → at ≡ AfterPost
      by AtStart e b = absurd (true≢false b)
      by BeforePages e b = absurd (true≢false (sym e))
      by OnPage e b = absurd (true≢false (sym e))
      by BetweenPages e b = absurd (true≢false (sym e))
      by AfterPost e b = refl
      by AfterEnd e b = absurd (true≢false (sym e))
