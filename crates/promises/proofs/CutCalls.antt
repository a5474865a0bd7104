-- When a call of cut_pages is answered with bytes, what area always suffices, and what a second call makes of the new file. Stated of the contract itself. Assumes nothing.
use Prim.Native.Nat.{ℕ, ◌+◌, ◌≤◌}
use mathlib.Core.Path.{◌≡◌, sym, ap, ap₂, subst, ◌∙◌, refl}
use mathlib.Core.Bool.{false, true≢false}
use mathlib.Core.List.{List, [], ◌∷◌}
use mathlib.Core.Logic.{◌↔◌}
use native.Mathlib.Omega.{arith}
use contract.Lifetimes.{Lfts}
use lib.ListN.{length, take}
use borrow.Author.Tests.{le-ltb}
use Rattle.refusals.specs.Answer.{given}
use Rattle.widths.specs.AsBytes.{Bytes}
use Rattle.volume.specs.declared.Summary.{Summary}
use Rattle.volume.specs.Judged.{judged}
use Rattle.cutting.specs.Chosen.{wrong_list}
use Rattle.cutting.specs.CutFile.{cut_file, cut_pages, bytes_cut}
use Rattle.rewritten.specs.OldWords.{pages_up_to}
use Rattle.rewritten.proofs.AllPages.{up_to_right}
use Rattle.rewritten.proofs.CutAccepted.{cut_accepted_lem, cut_length, cut_again}
use Rattle.reader.proofs.cut_pages.Reads as cut-pages
use Rattle.promises.specs.Cuts.{MayCut}
use Rattle.promises.proofs.Cutting.{cut_pages_gives}
use Rattle.std.specs.declared.result.Result.{Result}
use Rattle.std.specs.declared.result.Result.TheVariants.{Ok, Err}
use Rattle.refusals.specs.declared.Refusal.{Refusal}
use Rattle.std.specs.Prelude.{IsOk}
use Rattle.promises.proofs.OneToOne.{one_to_one}

-- then the new file is given
cut_given : (file list : List ℕ) (room : ℕ) → MayCut file list room → cut_pages file list room ≡ given (cut_file file list)
cut_given file list room may = rw (may.accepted, may.right, le-ltb room (length (cut_file file list)) may.enough)

module _ (κs : Lfts 3) (file pages area : _) (r : Result ℕ Refusal) (x : _) (post : cut-pages.Post κs (file, (pages, (area, tt))) r x) where
  -- so many bytes are answered
  bytes_answered : MayCut file.now pages.now (length area.now) → r ≡ Ok (length (cut_file file.now pages.now))
  bytes_answered may =
      one_to_one r (Ok (length (cut_file file.now pages.now))) (post.0 ∙ ap bytes_cut (cut_given file.now pages.now (length area.now) may))

  -- an area with three bytes more than an accepted file suffices for every right list
  pub three_more_suffice : (s : Summary) → judged file.now ≡ given s → Bytes file.now → wrong_list s.pages pages.now ≡ false → length file.now + 3 ≤ length area.now
      → r ≡ Ok (length (cut_file file.now pages.now))
  three_more_suffice s accepted bytes right long =
      bytes_answered
      (record { summary = s; accepted = accepted; right = right; enough = omega (arith, long, (cut_length file.now s accepted bytes pages.now right).1) })

-- a call is answered with bytes exactly if the file is accepted, the list right for its pages, and the area has room for the new file
pub cut_pages_accepts : (κs : Lfts 3) → (file pages area : _) → (r : Result ℕ Refusal) → (x : _) → cut-pages.Post κs (file, (pages, (area, tt))) r x
    → IsOk r ↔ MayCut file.now pages.now (length area.now)
cut_pages_accepts κs file pages area r x post = (forth r post, λ may. subst IsOk (sym (bytes_answered κs file pages area r x post may)) refl)
  where
    forth : (r : Result ℕ Refusal) → cut-pages.Post κs (file, (pages, (area, tt))) r x → IsOk r → MayCut file.now pages.now (length area.now)
    forth (Ok bytes) post cut =
        let g = cut_pages_gives κs file pages area bytes x post in
        record { summary = g.summary; accepted = g.accepted; right = g.right; enough = omega (arith, g.room, g.bytes_is) }
    forth (Err why) post cut = absurd (true≢false (sym cut))

-- ---- the new file once more

-- a right list has a page
has_page : (last : ℕ) (list : List ℕ) → wrong_list last list ≡ false → 1 ≤ length list
has_page last [] right = absurd (true≢false right)
has_page last (p ∷ list) right = omega arith

-- of what a call gave, another call with all pages and room enough gives as many bytes, and the same ones
pub cut_again_same : (κs κs' : Lfts 3) → (file pages area : _) → (bytes : ℕ) → (x : _) → cut-pages.Post κs (file, (pages, (area, tt))) (Ok bytes) x
    → (again all area' : _) → (r : Result ℕ Refusal) → (y : _) → cut-pages.Post κs' (again, (all, (area', tt))) r y
    → Bytes file.now → again.now ≡ take bytes x.1.1.0.now → all.now ≡ pages_up_to (length pages.now) → bytes ≤ length area'.now
    → (r ≡ Ok bytes) × (take bytes y.1.1.0.now ≡ take bytes x.1.1.0.now)
cut_again_same κs κs' file pages area bytes x post again all area' r y post' are-bytes is-new is_all enough =
    let g = cut_pages_gives κs file pages area bytes x post in
    let new = cut_file file.now pages.now in
    let file_is : again.now ≡ new = is-new ∙ g.front in
    let same : cut_file again.now all.now ≡ new =
    ap₂ cut_file file_is is_all ∙ cut_again file.now g.summary g.accepted are-bytes pages.now g.right in
    let as_long : length (cut_file again.now all.now) ≡ bytes = ap length same ∙ sym g.bytes_is in
    let may : MayCut again.now all.now (length area'.now) =
    record {
      summary = _;
      accepted = ap judged file_is ∙ cut_accepted_lem file.now g.summary g.accepted are-bytes pages.now g.right;
      right = ap (wrong_list (length pages.now)) is_all ∙ up_to_right (length pages.now) (has_page g.summary.pages pages.now g.right);
      enough = omega (arith, as_long, enough);
    } in
    let answer = bytes_answered κs' again all area' r y post' may ∙ ap (λ (n : ℕ). Ok n) as_long in
    (answer, (cut_pages_gives κs' again all area' bytes y (subst (λ (s : Result ℕ Refusal). cut-pages.Post κs' (again, (all, (area', tt))) s y) answer post')).front ∙ same ∙ sym g.front)
