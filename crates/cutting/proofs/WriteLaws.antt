-- What the walk that writes holds, command by command: the opening at the area's start, the other commands behind its place. Assumes nothing.
use Prim.Native.Nat.{ℕ, ◌+◌, ◌-◌, ◌≤◌, ◌<◌, ◌^◌}
use mathlib.Core.Path.{◌≡◌, refl, sym, ap, ap₂, ◌∙◌}
use mathlib.Core.Bool.{Bool, true, false, cond}
use mathlib.Core.List.{List, [], ◌∷◌, ◌++◌, append_assoc, append-nil}
use mathlib.Core.Logic.{inl, inr}
use native.Mathlib.Nat.{mod-eq_of_lt}
use native.Mathlib.Omega.{arith}
use lib.ListN.{length, take, drop, length-append}
use lib.Seq.{sets, length-sets, take-add, drop-drop, take_at}
use lib.IntN.{pos}
use Rattle.numbers.specs.Signs.{to_twos}
use Rattle.commands.specs.declared.Kind.TheVariants.{Bop, Post}
use Rattle.commands.specs.Kinds.{is}
use Rattle.commands.specs.Commands.{Command, kind_of_command, Whole, form, whole, front, place}
use Rattle.commands.proofs.Fronts.{front_sound}
use Rattle.list.specs.Past.{greatest, pages, last_bop, post_place}
use Rattle.areas.proofs.Pasting.{sets_behind, sets_apart}
use Rattle.cutting.specs.declared.Fate.{Fate}
use Rattle.cutting.specs.declared.Made.{Made}
use Rattle.cutting.specs.Chosen.{is_in}
use Rattle.cutting.specs.CutList.{opening, mended, cut_after}
use Rattle.cutting.specs.Steps.{forms_of, between, made_copied, area_copied, mended_form, made_after, area_turned}
use Rattle.cutting.proofs.Pasted.{between_length}
use Rattle.cutting.proofs.Becoming.{IsMended}
use Rattle.cutting.proofs.MendedForms.{pointer, mended_form_lem, mended_length}

-- the written forms of a list have as many bytes as the place behind it
pub forms_length : (past : List Command) → length (forms_of past) ≡ place past
forms_length [] = refl
forms_length (c ∷ past) = length-append (forms_of past) (form c) ∙ omega (arith, forms_length past)

-- bytes from a place to another, and on to a third
pub between_on : (file : List ℕ) (from at next : ℕ) → from ≤ at → at ≤ next → between from next file ≡ between from at file ++ between at next file
between_on file from at next low high =
    let far : next - from ≡ (at - from) + (next - at) = omega arith in
    let there : from + (at - from) ≡ at = omega arith in
    ap (λ (n : ℕ). take n (drop from file)) far
    ∙ take-add (at - from) (next - at) (drop from file)
    ∙ ap (λ (l : List ℕ). between from at file ++ take (next - at) l) (drop-drop (at - from) from file ∙ ap (λ (n : ℕ). drop n file) there)

-- the bytes of a command that stands at a place
pub between_form : (file : List ℕ) (at : ℕ) (c : Command) (bytes : List ℕ) → front (drop at file) ≡ whole c bytes → between at (at + (1 + length c.params)) file ≡ form c
between_form file at c bytes f =
    let size : at + (1 + length c.params) - at ≡ 1 + length c.params = omega arith in
    ap (λ (n : ℕ). take n (drop at file)) size ∙ ap (take (1 + length c.params)) (front_sound (drop at file) c bytes f).1 ∙ take_at (form c) bytes (1 + length c.params) (omega arith)

pub between_none : (file : List ℕ) (at : ℕ) → between at at file ≡ []
between_none file at = let none-there : at - at ≡ 0 = omega arith in ap (λ (n : ℕ). take n (drop at file)) none-there

module _ (file list entry : List ℕ) (first : List Command) where
  abbrev new : List Command → List Command
  new past = cut_after first (is_in list) past

  -- what was written of the commands so far, up to a place
  pub record Written (at : ℕ) (past : List Command) (met : ℕ) (m : Made) (out : List ℕ) : Type 0 where
    pub ahead : m.from ≤ at
    pub written : List ℕ
    pub forms_are : forms_of (new past) ≡ forms_of first ++ (written ++ between m.from at file)
    pub size_is : m.size ≡ place first + length written
    pub opened_is : m.opened ≡ place (opening past)
    pub bop_is : m.bop ≡ pointer (new past)
    pub post_is : m.post ≡ post_place (new past)
    pub met_is : met ≡ pages (new past)
    pub area_is : out ≡ sets (sets entry 0 (forms_of (opening past))) (place first) written

  module _ {at met : ℕ} {past : List Command} {m : Made} {out : List ℕ} (k : Written at past met m out) where
    -- where the next byte goes
    pub place_is : at ≤ length file → m.size + (at - m.from) ≡ place (new past)
    place_is inside =
        let long = between_length m.from at file k.ahead inside in
        omega (arith, k.size_is, long, forms_length (new past), forms_length first, ap length k.forms_are, length-append (forms_of first) (k.written ++ between m.from at file), length-append k.written (between m.from at file))

    pub area_length : length out ≡ length entry
    area_length =
        ap length k.area_is ∙ length-sets (sets entry 0 (forms_of (opening past))) (place first) k.written ∙ length-sets entry 0 (forms_of (opening past))

    -- all that was still to be copied is copied
    copied_on : (next : ℕ) → at ≤ length file
        → (area : List ℕ) → area ≡ area_copied file at m out
        → (forms_of (new past) ≡ forms_of first ++ (k.written ++ between m.from at file))
        × (m.size + (at - m.from) ≡ place first + length (k.written ++ between m.from at file))
        × (area ≡ sets (sets entry 0 (forms_of (opening past))) (place first) (k.written ++ between m.from at file))
    copied_on next inside area is =
        let long = between_length m.from at file k.ahead inside in (
          k.forms_are,
          omega (arith, k.size_is, long, length-append k.written (between m.from at file)),
          is
              ∙ ap₂ (λ (l : List ℕ) (n : ℕ). sets l n (between m.from at file)) k.area_is k.size_is
              ∙ sets_behind (sets entry 0 (forms_of (opening past))) (place first) k.written (between m.from at file),
        )

    -- commands that go: the next bytes begin behind them
    pub dropped : (next : ℕ) (later : List Command) → at ≤ length file → opening later ≡ opening past → new later ≡ new past
        → Written next later met (made_copied at next m) (area_copied file at m out)
    dropped next later inside same is =
        let (forms, size, area) = copied_on next inside (area_copied file at m out) refl in
        record {
          ahead = omega arith;
          written = k.written ++ between m.from at file;
          forms_are =
              rw is (forms
              ∙ ap (λ (l : List ℕ). forms_of first ++ l)
              (sym (append-nil (k.written ++ between m.from at file)) ∙ ap (λ (l : List ℕ). (k.written ++ between m.from at file) ++ l) (sym (between_none file next))));
          size_is = size;
          opened_is = rw same k.opened_is;
          bop_is = rw is k.bop_is;
          post_is = rw is k.post_is;
          met_is = rw is k.met_is;
          area_is = rw same area;
        }

    -- commands that stay as they are: there is more to copy
    pub to_copy : (next : ℕ) (later : List Command) → at ≤ next → opening later ≡ opening past → forms_of (new later) ≡ forms_of (new past) ++ between at next file
        → last_bop (new later) ≡ last_bop (new past) → post_place (new later) ≡ post_place (new past) → pages (new later) ≡ pages (new past)
        → Written next later met m out
    to_copy next later high same forms bop post count =
        record {
          ahead = omega (arith, k.ahead);
          written = k.written;
          forms_are =
              forms
              ∙ ap (λ (l : List ℕ). l ++ between at next file) k.forms_are
              ∙ append_assoc (forms_of first) (k.written ++ between m.from at file) (between at next file)
              ∙ ap (λ (l : List ℕ). forms_of first ++ l)
              (append_assoc k.written (between m.from at file) (between at next file)
              ∙ ap (λ (l : List ℕ). k.written ++ l) (sym (between_on file m.from at next k.ahead high)));
          size_is = k.size_is;
          opened_is = rw same k.opened_is;
          bop_is = rw bop k.bop_is;
          post_is = rw post k.post_is;
          met_is = rw count k.met_is;
          area_is = rw same k.area_is;
        }

    module _ (c : Command) (bytes : List ℕ) (f : front (drop at file) ≡ whole c bytes) (inside : at + (1 + length c.params) ≤ length file) where
      abbrev next : ℕ
      next = at + (1 + length c.params)

      -- a command of the opening
      pub to_opening : opening (c ∷ past) ≡ c ∷ opening past → new (c ∷ past) ≡ new past → place (opening (c ∷ past)) ≤ place first
          → Written next (c ∷ past) met (made_after Fate.Opening (kind_of_command c) at next m) (area_turned Fate.Opening (kind_of_command c) 0 0 file at next m out)
      to_opening opens is fits =
          let (forms, size, area) = copied_on next (omega (arith, inside)) (area_copied file at m out) refl in
          let more = k.written ++ between m.from at file in
          let long : place (opening past) + length (form c) ≤ place first = omega (arith, fits, ap place opens) in
          let start : place (opening past) ≡ 0 + length (forms_of (opening past)) = omega (arith, forms_length (opening past)) in
          record {
            ahead = omega arith;
            written = more;
            forms_are =
                rw is (forms ∙ ap (λ (l : List ℕ). forms_of first ++ l) (sym (append-nil more) ∙ ap (λ (l : List ℕ). more ++ l) (sym (between_none file next))));
            size_is = size;
            opened_is = rw opens (omega (arith, k.opened_is));
            bop_is = rw is k.bop_is;
            post_is = rw is k.post_is;
            met_is = rw is k.met_is;
            area_is =
                ap₂ (λ (l : List ℕ) (n : ℕ). sets l n (between at next file)) area k.opened_is
                ∙ ap (sets (sets (sets entry 0 (forms_of (opening past))) (place first) more) (place (opening past))) (between_form file at c bytes f)
                ∙ sets_apart (sets entry 0 (forms_of (opening past))) (place (opening past)) (form c) (place first) more long
                ∙ ap (λ (l : List ℕ). sets l (place first) more)
                (ap (λ (n : ℕ). sets (sets entry 0 (forms_of (opening past))) n (form c)) start ∙ sets_behind entry 0 (forms_of (opening past)) (form c))
                ∙ ap (λ (l : List Command). sets (sets entry 0 (forms_of l)) (place first) more) (sym opens);
          }

      module _ (good : Whole c) (kind : IsMended (kind_of_command c)) (deepest : ℕ) (deep : kind_of_command c ≡ Post → deepest ≡ greatest (new past)) (small : place (new past) < 2 ^ 32) (post_small : post_place (new past) < 2 ^ 32) where
        -- the bytes that the code writes
        bytes_there : mended_form (kind_of_command c) m.bop m.post deepest met (between at next file) ≡ form (mended (new past) c)
        bytes_there =
            ap₂ (λ (b p : ℕ). mended_form (kind_of_command c) b p deepest met (between at next file)) k.bop_is k.post_is
            ∙ ap₂ (λ (t : ℕ) (l : List ℕ). mended_form (kind_of_command c) (pointer (new past)) (post_place (new past)) deepest t l) k.met_is (between_form file at c bytes f)
            ∙ by kind
            ∙ sym (mended_form_lem (new past) c good kind post_small)
          where
            by : IsMended (kind_of_command c)
                → mended_form (kind_of_command c) (pointer (new past)) (post_place (new past)) deepest (pages (new past)) (form c)
                ≡ mended_form (kind_of_command c) (pointer (new past)) (post_place (new past)) (greatest (new past)) (pages (new past)) (form c)
            by (inl e) = rw e refl
            by (inr (inl e)) = ap (λ (d : ℕ). mended_form (kind_of_command c) (pointer (new past)) (post_place (new past)) d (pages (new past)) (form c)) (deep e)
            by (inr (inr e)) = rw e refl

        -- a command that is mended
        pub to_mend : (met-after : ℕ) → opening (c ∷ past) ≡ opening past → new (c ∷ past) ≡ mended (new past) c ∷ new past → met-after ≡ pages (new (c ∷ past))
            → Written next (c ∷ past) met-after (made_after Fate.Mended (kind_of_command c) at next m) (area_turned Fate.Mended (kind_of_command c) deepest met file at next m out)
        to_mend met-after same news count =
            let (forms, size, area) = copied_on next (omega (arith, inside)) (area_copied file at m out) refl in
            let more = k.written ++ between m.from at file in
            let here = place_is (omega (arith, inside)) in
            let long : next - at ≡ length (form (mended (new past) c)) = omega (arith, mended_length (new past) c good kind) in
            record {
              ahead = omega arith;
              written = more ++ form (mended (new past) c);
              forms_are =
                  rw news (ap (λ (l : List ℕ). l ++ form (mended (new past) c)) forms
                  ∙ append_assoc (forms_of first) more (form (mended (new past) c))
                  ∙ ap (λ (l : List ℕ). forms_of first ++ l)
                  (sym (append-nil (more ++ form (mended (new past) c))) ∙ ap (λ (l : List ℕ). (more ++ form (mended (new past) c)) ++ l) (sym (between_none file next))));
              size_is = omega (arith, size, long, length-append more (form (mended (new past) c)));
              opened_is = rw same k.opened_is;
              bop_is = rw news (points here (is (kind_of_command c) Bop));
              post_is = rw news (stands here (is (kind_of_command c) Post));
              met_is = count;
              area_is =
                  ap₂ (λ (l : List ℕ) (n : ℕ). sets l n (mended_form (kind_of_command c) m.bop m.post deepest met (between at next file))) area size
                  ∙ ap (sets (sets (sets entry 0 (forms_of (opening past))) (place first) more) (place first + length more)) bytes_there
                  ∙ sets_behind (sets entry 0 (forms_of (opening past))) (place first) more (form (mended (new past) c))
                  ∙ ap (λ (l : List Command). sets (sets entry 0 (forms_of l)) (place first) (more ++ form (mended (new past) c))) (sym same);
            }
          where
            points : m.size + (at - m.from) ≡ place (new past) → (t : Bool)
                → cond t (m.size + (at - m.from)) m.bop ≡ to_twos (256 ^ 4) (cond t (pos (place (new past))) (last_bop (new past)))
            points here true = here ∙ sym (mod-eq_of_lt small)
            points here false = k.bop_is

            stands : m.size + (at - m.from) ≡ place (new past) → (t : Bool) → cond t (m.size + (at - m.from)) m.post ≡ cond t (place (new past)) (post_place (new past))
            stands here true = here
            stands here false = k.post_is
