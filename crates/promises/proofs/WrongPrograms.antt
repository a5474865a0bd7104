-- Wrong programs that a contract shuts out: each would contradict it at an input that is named here. Assumes nothing.
use Rattle.std.proofs.Common.{Bor}
use Prim.Native.Nat.{ℕ, ◌≤◌}
use mathlib.Core.Path.{◌≡◌, sym, ap, ◌∙◌, subst}
use mathlib.Core.List.{List, [], ◌++◌, append-nil}
use native.Mathlib.Omega.{arith}
use contract.Lifetimes.{Lfts}
use lib.ListN.{length, drop, replicate, get_or, drop_of_length-le}
use Rattle.refusals.specs.Numbers.{file_ends}
use Rattle.refusals.specs.Answer.{Answer, refused, given, and_then}
use Rattle.refusals.proofs.Answer.{given_not_refused}
use Rattle.volume.specs.declared.Summary.{Summary}
use Rattle.list.specs.Lawful.{Lawful}
use Rattle.volume.specs.Judged.{judged}
use Rattle.volume.specs.Starred.{M, one_page, files_hold}
use Rattle.volume.proofs.Accepts.{accepts_lawful}
use Rattle.placements.specs.Records.{all_bytes}
use Rattle.page.specs.Answers.{placed_page, placed_accepted, counts_of, placed_counts, area_after}
use Rattle.page.specs.Printed.{example, printed, printed_placed, printed_bytes, printed_bytes_lem}
use Rattle.reader.proofs.check_file.Reads as check-file
use Rattle.reader.proofs.place_page.Reads as place-page
use Rattle.promises.proofs.StatedDepth.{other_s_judged}
use Rattle.promises.specs.StatedDepth.{stating}
use Rattle.promises.specs.Calls.{Arguments, file, table, resolution, page, area, meant, IsPrinted}
use Rattle.std.specs.declared.result.Result.{Result}
use Rattle.std.specs.declared.result.Result.TheVariants.{Ok, Err}
use Rattle.refusals.specs.declared.Refusal.{Refusal}
use Rattle.placements.specs.declared.Counts.{Counts}
use Rattle.std.specs.Prelude.{IsOk, IsErr}
use mathlib.Core.Bool.{true≢false}
use Rattle.promises.proofs.OneToOne.{one_to_one}

-- ---- the check of a file

-- what is printed of two starred files
M_accepted : judged M ≡ given one_page
M_accepted = ap (λ (l : List (Answer Summary)). get_or l 0 (refused 0 0)) files_hold

empty_refused : judged [] ≡ refused file_ends 0
empty_refused = ap (λ (l : List (Answer Summary)). get_or l 4 (refused 0 0)) files_hold

-- refusing all: M must be accepted
pub not_refusing_all : (κs : Lfts 1) → (file : Bor (List ℕ)) → (r : Result Summary Refusal) → (x : _) → file.now ≡ M → check-file.Post κs (file, tt) r x → IsOk r
not_refusing_all κs lent r x m p = p.1.1 (subst Lawful (sym m) (accepts_lawful M one_page M_accepted))

-- accepting all: the empty file must be refused
pub not_accepting_all : (κs : Lfts 1) → (file : Bor (List ℕ)) → (r : Result Summary Refusal) → (x : _) → file.now ≡ [] → check-file.Post κs (file, tt) r x → IsOk r → ⊥
not_accepting_all κs lent (Ok found) x m p a =
    given_not_refused _ file_ends 0 (p.0 ∙ ap judged m ∙ empty_refused)
not_accepting_all κs lent (Err why) x m p a = true≢false (sym a)

-- one constant answer: M and the empty file have not the same
pub not_constant : (κs κs' : Lfts 1) → (file empty : Bor (List ℕ)) → (r : Result Summary Refusal) → (x y : _) → file.now ≡ M → empty.now ≡ []
    → check-file.Post κs (file, tt) r x → check-file.Post κs' (empty, tt) r y → ⊥
not_constant κs κs' lent empty r x y m e p q = given_not_refused one_page file_ends 0 (sym M_accepted ∙ ap judged (sym m) ∙ sym p.0 ∙ q.0 ∙ ap judged e ∙ empty_refused)

-- asking that s is the depth, or reporting s: M with s 1 is accepted, and its depth is 0 all the same
pub not_by_the_stated_depth : (κs : Lfts 1) → (file : Bor (List ℕ)) → (r : Result Summary Refusal) → (x : _) → file.now ≡ stating 1 61 M → check-file.Post κs (file, tt) r x
    → r ≡ Ok (record { pages = 1; fonts = 0; depth = 0; post = 61 })
not_by_the_stated_depth κs lent r x m p = one_to_one r (Ok (record { pages = 1; fonts = 0; depth = 0; post = 61 })) (p.0 ∙ ap judged m ∙ other_s_judged 1 M one_page M_accepted)

-- ---- the placing of a page

-- what the contract says of it, and of the empty file
example_placed : (a : Arguments) → IsPrinted a → meant a ≡ given printed
example_placed a is =
    let same : meant a ≡ placed_page example [] 300 1 40 = cc (is.file_is, is.table_is, is.resolution_is, is.page_is, is.room_is) in
    same ∙ printed_placed

empty_not_placed : (a : Arguments) → file a ≡ [] → meant a ≡ refused file_ends 0
empty_not_placed a empty =
    ap (λ (check : Answer Summary). and_then check (λ found. placed_accepted (file a) (table a) (resolution a) (page a) (length (area a)) found.pages))
    (ap judged empty ∙ empty_refused)

module _ (κs : Lfts 3) (a x : Arguments) (is : IsPrinted a) where
  module _ (r : Result Counts Refusal) (post : place-page.Post κs a r x) where
    -- invented counts: two records, no missing character and no special, and no other
    pub not_invented_counts : r ≡ Ok (record { records = 2; missing = 0; specials = 0 })
    not_invented_counts = one_to_one r (Ok (record { records = 2; missing = 0; specials = 0 })) (post.0 ∙ ap placed_counts (example_placed a is))

    -- refusing every page: this one must be placed
    pub not_refusing_every_page : IsErr r → ⊥
    not_refusing_every_page refuses = true≢false (sym (subst IsErr not_invented_counts refuses))

    -- the area's forty bytes, each as printed
    pub area_as_printed : area x ≡ printed_bytes
    area_as_printed =
        let written = all_bytes printed.placements in
        post.1.0
        ∙ ap (area_after (area a)) (example_placed a is)
        ∙ ap (λ (rest : List ℕ). written ++ rest) (drop_of_length-le (area a) {i = 40} (omega (arith, is.room_is)))
        ∙ append-nil written
        ∙ printed_bytes_lem

    -- writing nothing: forty zero bytes cannot stay
    pub not_writing_nothing : area a ≡ replicate 40 0 → area x ≡ area a → ⊥
    not_writing_nothing zeros stays =
        let first : ◌≡◌ {A = ℕ} 2 0 = ap (λ (l : List ℕ). get_or l 0 0) (sym area_as_printed ∙ stays ∙ zeros) in omega (arith, first)

    -- writing the first record only: the second twenty bytes cannot stay
    pub not_only_the_first_record : area a ≡ replicate 40 0 → drop 20 (area x) ≡ drop 20 (area a) → ⊥
    not_only_the_first_record zeros stays =
        let first : ◌≡◌ {A = ℕ} 2 0 = ap (λ (l : List ℕ). get_or l 0 0) (ap (drop 20) (sym area_as_printed) ∙ stays ∙ ap (drop 20) zeros) in
        omega (arith, first)

  -- stopping after a first command: the example's first command makes no record, its first rule one, and both are too few
  pub not_only_the_first_command : (counts : Counts) → counts.records ≤ 1 → place-page.Post κs a (Ok counts) x → ⊥
  not_only_the_first_command counts few post =
      let many : counts.records ≡ 2 = cc (not_invented_counts (Ok counts) post) in omega (arith, many, few)

-- one constant answer: the printed example and the empty file have not the same
pub not_one_constant : (κs κs' : Lfts 3) (a b x y : Arguments) (r : Result Counts Refusal) → IsPrinted a → file b ≡ []
    → place-page.Post κs a r x → place-page.Post κs' b r y → ⊥
not_one_constant κs κs' a b x y r is empty p q =
    given_not_refused (counts_of printed) file_ends 0
    (sym (ap placed_counts (example_placed a is)) ∙ sym p.0 ∙ q.0 ∙ ap placed_counts (empty_not_placed b empty))
