-- What the file of chosen pages is to the other entries, over their contracts: it is accepted, its pages place as before, and its fonts have their names. Assumes nothing.
use Rattle.std.proofs.Common.{Bor, MutBor}
use Prim.Native.Nat.{ℕ, ◌+◌}
use mathlib.Core.Path.{◌≡◌, refl, sym, ap, ◌∙◌, subst}
use mathlib.Core.Bool.{Bool, true, false}
use mathlib.Core.List.{List, ◌∷◌, ◌++◌}
use mathlib.Core.Logic.{◌↔◌}
use native.Mathlib.Omega.{arith}
use contract.Lifetimes.{Lfts}
use lib.Dec.{ltb}
use lib.ListN.{length, take, drop}
use lib.IntN.{ℤ}
use lib.Seq.{take_at, drop_at}
use borrow.Author.Tests.{ltb-false}
use Rattle.refusals.specs.Answer.{Answer, refused, given, refuse_if, and_then, answered}
use Rattle.refusals.proofs.Answer.{given_same, given_not_refused}
use Rattle.widths.specs.AsBytes.{Bytes}
use Rattle.volume.specs.declared.Summary.{Summary}
use Rattle.list.specs.Past.{Definition, none, stands, definition_of, post_place}
use Rattle.volume.specs.Judged.{judged}
use Rattle.volume.specs.History.{history}
use Rattle.volume.specs.Names.{name_part, named_by, name_place, part_of, name_of}
use Rattle.page.specs.Answers.{placed_page, placed_counts, area_after}
use Rattle.page.proofs.Traces.{accepted_trace}
use Rattle.cutting.specs.Chosen.{is_in, wrong_list}
use Rattle.cutting.specs.CutList.{cut_past}
use Rattle.cutting.specs.CutFile.{cut_file, cut_accepted, cut_pages, bytes_cut, cut_area}
use Rattle.rewritten.specs.OldWords.{deepest_on, new_place}
use Rattle.rewritten.specs.Renumbered.{renumbered}
use Rattle.rewritten.specs.Unplaced.{unplaced}
use Rattle.rewritten.proofs.CutAccepted.{cut_accepted_lem, cut_definitions}
use Rattle.rewritten.proofs.CutPlaces.{cut_places}
use Rattle.reader.specs.Answers.{name_answer}
use Rattle.reader.proofs.check_file.Reads as check-file
use Rattle.reader.proofs.font_name.Reads as font-name
use Rattle.reader.proofs.cut_pages.Reads as cut-pages
use Rattle.reader.proofs.place_page.Reads as place-page
use Rattle.promises.specs.Cuts.{Gives}
use Rattle.promises.proofs.NameBytes.{name_in, named_bytes}
use Rattle.std.specs.declared.result.Result.{Result}
use Rattle.std.specs.declared.result.Result.TheVariants.{Ok, Err}
use Rattle.refusals.specs.declared.Refusal.{Refusal}
use Rattle.placements.specs.declared.Counts.{Counts}
use Rattle.reader.specs.declared.FontName.{FontName}
use Rattle.std.specs.Prelude.{IfOk}
use Rattle.promises.proofs.OneToOne.{refused_same}
use Rattle.promises.specs.Named.{bytes_named}

-- ---- what a call gives

gives : (file list area : List ℕ) (bytes : ℕ) (after : List ℕ) → given bytes ≡ bytes_cut (cut_pages file list (length area)) → after ≡ cut_area area (cut_pages file list (length area))
    → Gives file list area bytes after
gives file list area bytes after said is = by (judged file) refl said is
  where
    by : (x : Answer Summary) → judged file ≡ x
        → given bytes ≡ bytes_cut (and_then x (λ found. refuse_if (wrong_list found.pages list) 23 0 (cut_accepted file list (length area))))
        → after ≡ cut_area area (and_then x (λ found. refuse_if (wrong_list found.pages list) 23 0 (cut_accepted file list (length area))))
        → Gives file list area bytes after
    by (refused number place) e said is = absurd (given_not_refused bytes number place said)
    by (given s) e said is = of_list (wrong_list s.pages list) refl (ltb (length area) (length (cut_file file list))) refl said is
      where
        of_list : (wrong : Bool) → wrong_list s.pages list ≡ wrong → (short : Bool) → ltb (length area) (length (cut_file file list)) ≡ short
            → given bytes ≡ bytes_cut (refuse_if wrong 23 0 (refuse_if short 17 0 (given (cut_file file list))))
            → after ≡ cut_area area (refuse_if wrong 23 0 (refuse_if short 17 0 (given (cut_file file list))))
            → Gives file list area bytes after
        of_list true w short t said is = absurd (given_not_refused bytes 23 0 said)
        of_list false w true t said is = absurd (given_not_refused bytes 17 0 said)
        of_list false w false t said is =
            let long = given_same bytes (length (cut_file file list)) said in
            record {
              summary = s;
              accepted = e;
              right = w;
              bytes_is = long;
              room = omega (arith, long, ltb-false (length area) (length (cut_file file list)) t);
              front = ap (take bytes) is ∙ take_at (cut_file file list) (drop (length (cut_file file list)) area) bytes (sym long);
              rest = ap (drop bytes) is ∙ drop_at (cut_file file list) (drop (length (cut_file file list)) area) bytes (sym long) ∙ ap (λ (n : ℕ). drop n area) (sym long);
            }

-- a call that gives so many bytes has written the new file in front, and left what stands behind it
pub cut_pages_gives : (κs : Lfts 3) → (file pages area : _) → (bytes : ℕ) → (x : _) → cut-pages.Post κs (file, (pages, (area, tt))) (Ok bytes) x
    → Gives file.now pages.now area.now bytes x.1.1.0.now
cut_pages_gives κs file pages area bytes x post = gives file.now pages.now area.now bytes x.1.1.0.now post.0 post.1.0

-- ---- the new file and the other entries

-- a font's name is where its definition has it
named : (file : List ℕ) (s : Summary) → judged file ≡ given s → (font : ℤ) → name_place file font ≡ named_by (definition_of false font (history file))
named file s e font = ap (λ (x : Answer Summary). and_then x (λ _. named_by (definition_of false font (history file)))) e

module _ (file list : List ℕ) (s : Summary) (accepted : judged file ≡ given s) (bytes : Bytes file) (right : wrong_list s.pages list ≡ false) where
  abbrev new : List ℕ
  new = cut_file file list

  -- its check: as many pages as were chosen, the old file's fonts, the greatest depth of the chosen pages
  pub new_file_checked : (κs : Lfts 1) → (again : Bor (List ℕ)) → (r : Result Summary Refusal) → (x : _) → again.now ≡ new → check-file.Post κs (again, tt) r x
      → answered r
      ≡ given (record {
        pages = length list;
        fonts = s.fonts;
        depth = deepest_on (is_in list) (history file);
        post = post_place (cut_past (is_in list) (history file));
      })
  new_file_checked κs again r x is post = post.0 ∙ ap judged is ∙ cut_accepted_lem file s accepted bytes list right

  -- placing its n-th page: what placing the n-th page of the list answers in the old file, with the new page number in each record, and 16 at the same command's new place
  pub new_page_placed : (front : List ℕ) (page : ℕ) (rest : List ℕ) → list ≡ front ++ (page ∷ rest) → (κs : Lfts 3) → (again table : Bor (List ℕ)) → (area : MutBor (List ℕ)) → (resolution : ℕ) → (r : Result Counts Refusal) → (x : _)
      → again.now ≡ new → place-page.Post κs (again, (table, (resolution, (length front + 1, (area, tt))))) r x
      → (answered r
      ≡ placed_counts (renumbered (length front + 1) (new_place (is_in list) (history file)) (placed_page file table.now resolution page (length area.now))))
      × (x.1.1.1.1.0.now
      ≡ area_after area.now (renumbered (length front + 1) (new_place (is_in list) (history file)) (placed_page file table.now resolution page (length area.now))))
  new_page_placed front page rest is_list κs again table area resolution r x is post =
      let same = ap (λ (f : List ℕ). placed_page f table.now resolution (length front + 1) (length area.now)) is
      ∙ cut_places file s accepted bytes list right front page rest is_list table.now resolution (length area.now) in
      (post.0 ∙ ap placed_counts same, post.1.0 ∙ ap (area_after area.now) same)

  -- a font's name is the same
  pub same_name : (font : ℤ) → name_of new font ≡ name_of file font
  same_name font =
      let again = cut_accepted_lem file s accepted bytes list right in
      spelled new _ again
      ∙ plain (definition_of false font (history new))
      ∙ ap name_in (cut_definitions file s accepted bytes list right font)
      ∙ sym (plain (definition_of false font (history file)))
      ∙ sym (spelled file s accepted)
    where
      spelled : (f : List ℕ) (found : Summary) → judged f ≡ given found → name_of f font ≡ name_in (definition_of false font (history f))
      spelled f found e = ap (part_of f) (named f found e font) ∙ named_bytes f (history f) (accepted_trace f found e) false font

      plain : (d : Definition) → name_in d ≡ name_in (unplaced d)
      plain none = refl
      plain (stands at c) = refl

  -- a name is refused in the new file exactly where it is refused in the old one, with the same number and place
  pub name_refused_same : (font : ℤ) (number place : ℕ) → (name_place file font ≡ refused number place) ↔ (name_place new font ≡ refused number place)
  name_refused_same font number place =
      let of-old = named file s accepted font in
      let of-new = named new _ (cut_accepted_lem file s accepted bytes list right) font in
      let same = cut_definitions file s accepted bytes list right font in (
        λ e. of-new ∙ refused_too (definition_of false font (history file)) (definition_of false font (history new)) (sym same) (sym of-old ∙ e),
        λ e. of-old ∙ refused_too (definition_of false font (history new)) (definition_of false font (history file)) same (sym of-new ∙ e),
      )
    where
      refused_too : (d e : Definition) → unplaced d ≡ unplaced e → named_by d ≡ refused number place → named_by e ≡ refused number place
      refused_too none none same q = q
      refused_too none (stands at c) same q = absurd (let z : ◌≡◌ {A = ℕ} 0 1 = cc in omega arith)
      refused_too (stands at c) e same q = absurd (given_not_refused (name_part at c) number place q)

  -- font_name, of the old file and of the new one: the same bytes, or the same refusal
  pub new_font_named : (κs κs' : Lfts 1) → (lent again : Bor (List ℕ)) → (font : ℤ) → (r r' : Result FontName Refusal) → (x y : _) → lent.now ≡ file → again.now ≡ new
      → font-name.Post κs (lent, (font, tt)) r x → font-name.Post κs' (again, (font, tt)) r' y
      → bytes_named r' ≡ bytes_named r
  new_font_named κs κs' lent again font r r' x y is-old is-new post post' =
      told r r' (post.0 ∙ ap (λ (f : List ℕ). name_place f font) is-old) (post'.0 ∙ ap (λ (f : List ℕ). name_place f font) is-new)
      (of_file r file is-old post.1.0) (of_file r' new is-new post'.1.0)
    where
      of_file : (r : Result FontName Refusal) (f : List ℕ) {g : List ℕ} → g ≡ f → IfOk r (λ name. name.bytes.now ≡ name_of g font) → IfOk r (λ name. name.bytes.now ≡ name_of f font)
      of_file r f is held = subst (λ (l : List ℕ). IfOk r (λ name. name.bytes.now ≡ name_of l font)) is held

      told : (r r' : Result FontName Refusal) → name_answer r ≡ name_place file font → name_answer r' ≡ name_place new font
          → IfOk r (λ name. name.bytes.now ≡ name_of file font) → IfOk r' (λ name. name.bytes.now ≡ name_of new font)
          → bytes_named r' ≡ bytes_named r
      told (Ok name) (Ok name') e q held held' = ap (λ (spelled : List ℕ). Ok spelled) (held' ∙ same_name font ∙ sym held)
      told (Ok name) (Err why) e q held held' = absurd (given_not_refused _ _ _ (e ∙ (name_refused_same font _ _).1 (sym q)))
      told (Err why) r' e q held held' = ap bytes_named (refused_same r' why (q ∙ (name_refused_same font _ _).0 (sym e)))
