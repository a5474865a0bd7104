-- Wrong cutters of pages that the contract shuts out: each would contradict it at an input that is named here. Assumes nothing.
use Rattle.std.proofs.Common.{Bor, MutBor}
use Prim.Native.Nat.{ℕ}
use mathlib.Core.Path.{◌≡◌, refl, sym, ap, ap₂, subst, ◌∙◌}
use mathlib.Core.List.{List, [], ◌∷◌, ◌++◌}
use native.Mathlib.Omega.{arith}
use contract.Lifetimes.{Lfts}
use lib.ListN.{length, drop, get_or, replicate}
use Rattle.refusals.specs.Numbers.{wrong_pages}
use Rattle.refusals.specs.Answer.{Answer, refused, given}
use Rattle.refusals.proofs.Answer.{given_not_refused}
use Rattle.numbers.specs.Bytes.{unsigned_at, bytes_of}
use Rattle.commands.specs.Kinds.{kind_of}
use Rattle.commands.specs.Lengths.{lengths, fixed_length, inner_length, size_of}
use Rattle.commands.specs.Commands.{front_after}
use Rattle.list.specs.Rules.{same_bytes}
use Rattle.volume.specs.Judged.{tail, judged_from, judged}
use Rattle.volume.specs.History.{history_from, history}
use Rattle.volume.specs.Starred.{M}
use Rattle.cutting.specs.CutFile.{cut_pages, bytes_cut, cut_area}
use Rattle.cutting.specs.Starred.{three_pages, cut_to1, cut_to2, cuts_hold}
use Rattle.reader.proofs.cut_pages.Reads as cut-pages
use Rattle.promises.specs.Cuts.{IsSmallest, IsOneOfThree}
use Rattle.std.specs.declared.result.Result.{Result}
use Rattle.std.specs.declared.result.Result.TheVariants.{Ok}
use Rattle.refusals.specs.declared.Refusal.{Refusal}
use Rattle.std.specs.Prelude.{IsErr}
use mathlib.Core.Bool.{true≢false}
use Rattle.promises.proofs.OneToOne.{one_to_one}

-- ---- the smallest file

-- the smallest file cut to its one page is itself; to no page it is not cut
smallest_cut : bytes_cut (cut_pages M (1 ∷ []) 100) ≡ given 100
unfolding unsigned_at bytes_of kind_of lengths fixed_length inner_length size_of front_after same_bytes tail judged_from judged history_from history
smallest_cut = refl

smallest_area : cut_area (replicate 100 0) (cut_pages M (1 ∷ []) 100) ≡ M
unfolding unsigned_at bytes_of kind_of lengths fixed_length inner_length size_of front_after same_bytes tail judged_from judged history_from history
smallest_area = refl

no_page_cut : bytes_cut (cut_pages M [] 100) ≡ refused wrong_pages 0
unfolding unsigned_at bytes_of kind_of lengths fixed_length inner_length size_of front_after same_bytes tail judged_from judged history_from history
no_page_cut = refl

module _ (κs : Lfts 3) (file pages : Bor (List ℕ)) (area : MutBor (List ℕ)) (is : IsSmallest file.now pages.now area.now) (r : Result ℕ Refusal) (x : _) (post : cut-pages.Post κs (file, (pages, (area, tt))) r x) where
  same : cut_pages file.now pages.now (length area.now) ≡ cut_pages M (1 ∷ []) 100
  same = cc (is.file_is, is.list_is, ap length is.area_is)

  -- invented counts: a hundred bytes, and no other number
  pub not_invented_bytes : r ≡ Ok 100
  not_invented_bytes = one_to_one r (Ok 100) (post.0 ∙ ap bytes_cut same ∙ smallest_cut)

  -- refusing every list: this one must be taken
  pub not_refusing_every_list : IsErr r → ⊥
  not_refusing_every_list refuses = true≢false (sym (subst IsErr not_invented_bytes refuses))

  -- each of the bytes
  pub file_as_worked : x.1.1.0.now ≡ M
  file_as_worked = post.1.0 ∙ ap₂ cut_area is.area_is same ∙ smallest_area

  -- writing nothing: the zeros cannot stay
  pub not_writing_no_byte : x.1.1.0.now ≡ area.now → ⊥
  not_writing_no_byte stays =
      let first : ◌≡◌ {A = ℕ} 247 0 = ap (λ (l : List ℕ). get_or l 0 0) (sym file_as_worked ∙ stays ∙ is.area_is) in omega (arith, first)

-- one constant answer: this list and the empty one have not the same
pub not_one_constant_cut : (κs κs' : Lfts 3) (file pages none : Bor (List ℕ)) (area : MutBor (List ℕ)) (r : Result ℕ Refusal) (x y : _) → IsSmallest file.now pages.now area.now → none.now ≡ []
    → cut-pages.Post κs (file, (pages, (area, tt))) r x → cut-pages.Post κs' (file, (none, (area, tt))) r y → ⊥
not_one_constant_cut κs κs' file pages none area r x y is empty p q =
    let other : cut_pages file.now none.now (length area.now) ≡ cut_pages M [] 100 = cc (is.file_is, empty, ap length is.area_is) in
    let told : ◌≡◌ {A = Answer ℕ} (given 100) (refused wrong_pages 0) =
    sym (p.0 ∙ ap bytes_cut (same κs file pages area is r x p) ∙ smallest_cut) ∙ q.0 ∙ ap bytes_cut other ∙ no_page_cut in
    given_not_refused 100 wrong_pages 0 told

-- ---- a file of three pages

-- page 1 alone, as it is worked (rule 12.5)
page_1_cut : cut_pages three_pages (1 ∷ []) 297 ≡ given cut_to1
page_1_cut = ap (λ (l : List (Answer (List ℕ))). get_or l 0 (refused 0 0)) cuts_hold

-- page 2 alone (rule 12.5)
page_2_cut : cut_pages three_pages (2 ∷ []) 297 ≡ given cut_to2
page_2_cut = ap (λ (l : List (Answer (List ℕ))). get_or l 1 (refused 0 0)) cuts_hold

module _ (κs : Lfts 3) (file pages : Bor (List ℕ)) (area : MutBor (List ℕ)) (page : ℕ) (is : IsOneOfThree file.now pages.now area.now page) (new : List ℕ) (cut : cut_pages three_pages (page ∷ []) 297 ≡ given new) (r : Result ℕ Refusal) (x : _) (post : cut-pages.Post κs (file, (pages, (area, tt))) r x) where
  -- what is asked of a call is what is worked (rule 9.10)
  worked : cut_pages file.now pages.now (length area.now) ≡ given new
  worked = cc (is.file_is, is.list_is, is.room_is, cut)

  -- so many bytes it answers (rule 9.10)
  bytes_of_page : r ≡ Ok (length new)
  bytes_of_page = one_to_one r (Ok (length new)) (post.0 ∙ ap bytes_cut worked)

  -- and these it leaves in the area (rule 9.1)
  area_of_page : x.1.1.0.now ≡ new ++ drop (length new) area.now
  area_of_page = post.1.0 ∙ ap (cut_area area.now) worked

module _ (κs : Lfts 3) (file pages : Bor (List ℕ)) (area : MutBor (List ℕ)) (is : IsOneOfThree file.now pages.now area.now 2) (r : Result ℕ Refusal) (x : _) (post : cut-pages.Post κs (file, (pages, (area, tt))) r x) where
  -- answering the old file's number of bytes: page 2 alone has 188 (rule 9.10)
  pub not_counting_the_file : r ≡ Ok 188
  not_counting_the_file = bytes_of_page κs file pages area 2 is cut_to2 page_2_cut r x post

  -- each of the bytes, and behind them what stood there (rules 9.1, 12.5)
  pub page_2_as_worked : x.1.1.0.now ≡ cut_to2 ++ drop 188 area.now
  page_2_as_worked = area_of_page κs file pages area 2 is cut_to2 page_2_cut r x post

  -- copying the file: behind the preamble stands a definition, and no nop (rule 12.2)
  pub not_copying_the_file : x.1.1.0.now ≡ file.now → ⊥
  not_copying_the_file copied =
      let byte18 : ◌≡◌ {A = ℕ} 243 138 = ap (λ (l : List ℕ). get_or l 18 0) (sym page_2_as_worked ∙ copied ∙ is.file_is) in omega (arith, byte18)

-- not looking at the list: page 1 alone and page 2 alone are not the same bytes, for their counts differ (rule 12.3)
pub not_one_page_for_all : (κs κs' : Lfts 3) (file first second : Bor (List ℕ)) (area : MutBor (List ℕ)) (r s : Result ℕ Refusal) (x y : _)
    → IsOneOfThree file.now first.now area.now 1 → IsOneOfThree file.now second.now area.now 2
    → cut-pages.Post κs (file, (first, (area, tt))) r x → cut-pages.Post κs' (file, (second, (area, tt))) s y
    → x.1.1.0.now ≡ y.1.1.0.now → ⊥
not_one_page_for_all κs κs' file first second area r s x y one two p q same_area =
    let count : ◌≡◌ {A = ℕ} 11 12 =
    ap (λ (l : List ℕ). get_or l 58 0)
    (sym (area_of_page κs file first area 1 one cut_to1 page_1_cut r x p) ∙ same_area ∙ page_2_as_worked κs' file second area two s y q) in
    omega (arith, count)
