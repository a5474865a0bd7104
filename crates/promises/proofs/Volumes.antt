-- What a file that is accepted looks like, rule by rule: each theorem says in plain terms what a rule comes to. Assumes nothing.
use Prim.Native.Nat.{ℕ, zero, suc, ◌+◌, ◌-◌, ◌≤◌}
use mathlib.Core.Path.{◌≡◌, refl, sym, ap, ◌∙◌, subst}
use mathlib.Core.Bool.{Bool, true, false, cond, not, ◌&&◌, ◌||◌, and-eq-true_iff, or-false, true≢false}
use mathlib.Core.List.{List, [], ◌∷◌, ◌++◌}
use native.Mathlib.Omega.{arith}
use lib.Dec.{lit<, leb, eqb}
use lib.ListN.{length, get_or, drop, length-append}
use lib.Seq.{drop_at}
use lib.IntN.{pos}
use borrow.Author.Tests.{not-false, eqb-true, leb-true, leb-false, ltb-false}
use Rattle.numbers.specs.Bytes.{unsigned_at}
use Rattle.numbers.proofs.Signed.{same_number_true}
use Rattle.commands.specs.declared.Kind.{Kind}
use Rattle.commands.specs.declared.Kind.TheVariants.{Bop, Eop, Push, Pop, Select, Define, Pre, Post, PostPost}
use Rattle.commands.specs.Kinds.{kind_of, is}
use Rattle.commands.specs.Fields.{unsigned_in, signed_in, bop_pointer, post_pointer, post_num, post_den, post_mag, post_depth, post_pages, end_pointer}
use Rattle.commands.specs.Lengths.{lengths, fixed_length, inner_length, size_of}
use Rattle.commands.specs.Commands.{Command, kind_of_command, Whole, written}
use Rattle.commands.specs.Parameters.{selected_font}
use Rattle.commands.proofs.Opcodes.{kind_range}
use Rattle.list.specs.declared.Stage.{Stage}
use Rattle.list.specs.declared.Stage.TheVariants.{AtStart, BeforePages, OnPage, BetweenPages, AfterPost, AfterEnd}
use Rattle.list.specs.Past.{is_a, stage, stage_after, is_after_post, depth, greatest, pages, last_bop, post_place, num, den, mag, font_number, Definition, none, stands, definition_of, is_defined}
use Rattle.list.specs.Rules.{is_at_start, wrong_at_depth, lawful_postamble, Allowed}
use Rattle.list.specs.Lawful.{fillers, Follows, ends, goes, Keeps, Lawful}
use Rattle.volume.specs.OfList.{up_to_last, past_of}
use Rattle.volume.specs.Starred.{M}
use Rattle.list.proofs.Arms.{on_kinds, is_kind}
use Rattle.list.proofs.FaultLaws.{all_kept}
use Rattle.list.proofs.AtStages.{first_pre, compared, does_lawfully}
use Rattle.promises.specs.Standing.{StandsAfter, first, later, StandsAmong, list_of_m}
use Rattle.rewritten.proofs.Defining.{holds, right}

-- ---- the file's two ends

-- the first command's opcode is that of pre
opens : {c : Command} → Whole c → Allowed [] c → c.opcode ≡ 247
opens {c} w allowed =
    let range = kind_range c.opcode (omega (arith, w.defined)) (is_kind (kind_of_command c) Pre (first_pre [] c allowed refl).0) in
    omega (arith, range.0, range.1)

opens_list : {cs : List Command} → Keeps cs → get_or (written cs) 0 0 ≡ 247
opens_list (ends n w allowed last enough) = opens w allowed
opens_list (goes w allowed not_last follows) = opens w allowed

-- a lawful file starts with pre (rule 3.2)
pub starts_with_247 : (file : List ℕ) → Lawful file → get_or file 0 0 ≡ 247
starts_with_247 file (short, (cs, keeps, forms)) = ap (λ (bytes : List ℕ). get_or bytes 0 0) (sym forms) ∙ opens_list keeps

abbrev four : List ℕ
four = 223 ∷ 223 ∷ 223 ∷ 223 ∷ []

-- bytes that end with four 223s
abbrev EndsSo : List ℕ → Type 0
EndsSo bytes = (front : List ℕ) × (bytes ≡ front ++ four)

ends_so : (byte : ℕ) {bytes : List ℕ} → EndsSo bytes → EndsSo (byte ∷ bytes)
ends_so byte (front, e) = (byte ∷ front, ap (λ (l : List ℕ). byte ∷ l) e)

after_all_lem : (before : List ℕ) {bytes : List ℕ} → EndsSo bytes → EndsSo (before ++ bytes)
after_all_lem [] e = e
after_all_lem (byte ∷ before) e = ends_so byte (after_all_lem before e)

fillers_end : (n : ℕ) → EndsSo (written (fillers (suc (suc (suc (suc n))))))
fillers_end zero = ([], refl)
fillers_end (suc n) = ends_so 223 (fillers_end n)

list_ends : {past cs : List Command} → Follows past cs → EndsSo (written cs)
list_ends (ends {c = c} n w allowed last enough) =
    let more : suc (suc (suc (suc (n - 4)))) ≡ n = omega arith in
    ends_so c.opcode (after_all_lem c.params (subst (λ (m : ℕ). EndsSo (written (fillers m))) more (fillers_end (n - 4))))
list_ends (goes {c = c} w allowed not_last follows) = ends_so c.opcode (after_all_lem c.params (list_ends follows))

-- the last four bytes of a lawful file (rule 3.10)
pub ends_with_four_223 : (file : List ℕ) → Lawful file → drop (length file - 4) file ≡ 223 ∷ 223 ∷ 223 ∷ 223 ∷ []
ends_with_four_223 file (short, (cs, keeps, forms)) =
    let (front, e) = list_ends keeps in
    let whole : file ≡ front ++ four = sym forms ∙ e in
    ap (drop (length file - 4)) whole ∙ drop_at front four (length file - 4) (omega (arith, ap length whole, length-append front four))

-- ---- where a command stands

-- the commands of past, the newest first, keep the rules
pub data PastKeeps : List Command → Type 0 where
  no_more : PastKeeps []
  and_one : {past : List Command} {c : Command} → PastKeeps past → Allowed past c → PastKeeps (c ∷ past)

-- what stands in a list that goes on by the rules keeps them
standing_kept : {before cs past : List Command} {c : Command} → PastKeeps before → Follows before cs → StandsAfter past c before cs → PastKeeps past × Allowed past c
standing_kept kept (ends n w allowed last enough) first = (kept, allowed)
standing_kept kept (ends n w allowed last enough) (later not_last there) = absurd (true≢false (sym last ∙ not_last))
standing_kept kept (goes w allowed not_last follows) first = (kept, allowed)
standing_kept kept (goes w allowed not_last follows) (later _ there) = standing_kept (and_one kept allowed) follows there

-- ---- the depth

-- at most 100, whatever commands keep the rules
pub deep : {past : List Command} → PastKeeps past → depth past ≤ 100
deep no_more = omega arith
deep (and_one {past = past} {c = c} kept allowed) = by (is_a Push c) refl (is_a Pop c) (deep kept)
  where
    by : (push : Bool) → is_a Push c ≡ push → (pop : Bool) → depth past ≤ 100 → cond push (depth past + 1) (cond pop (depth past - 1) (depth past)) ≤ 100
    by true e pop h =
        let right : leb 100 (depth past) ≡ false = rw (is_kind (kind_of_command c) Push e, or-false) at allowed.depth_right in
        omega (arith, leb-false 100 (depth past) right)
    by false e true h = omega arith
    by false e false h = h

-- ---- what is after the first bop, and what is no longer at the start

-- after the first bop
abbrev begun : Stage → Bool
begun AtStart = false
begun BeforePages = false
begun OnPage = true
begun BetweenPages = true
begun AfterPost = true
begun AfterEnd = true

-- what a kind does at a stage: whether a page has begun after it, whether the list is still at its start, whether it is a later pre
abbrev does : Stage → Kind → Bool × Bool × Bool
does at kind = (begun (stage_after kind at), is_at_start (stage_after kind at), is kind Pre && not (is_at_start at))

-- as it should be: a page has begun only with a bop; never; never
abbrev lawful : Stage → Kind → Bool × Bool × Bool
lawful at kind = (is kind Bop || begun at, false, false)

-- all kinds that may stand at a stage do as they should
all_lawful : (at : Stage) (kind : Kind) → compared does lawful at kind ≡ lawful at kind
all_lawful AtStart = on_kinds (compared does lawful AtStart) (lawful AtStart) refl
all_lawful BeforePages = on_kinds (compared does lawful BeforePages) (lawful BeforePages) refl
all_lawful OnPage = on_kinds (compared does lawful OnPage) (lawful OnPage) refl
all_lawful BetweenPages = on_kinds (compared does lawful BetweenPages) (lawful BetweenPages) refl
all_lawful AfterPost = on_kinds (compared does lawful AfterPost) (lawful AfterPost) refl
all_lawful AfterEnd = on_kinds (compared does lawful AfterEnd) (lawful AfterEnd) refl

-- so does a command that keeps the rules
begins_lawfully : {past : List Command} {c : Command} → Allowed past c → does (stage past) (kind_of_command c) ≡ lawful (stage past) (kind_of_command c)
begins_lawfully = does_lawfully does lawful all_lawful

-- a page has begun only where one is counted
some_page : {past : List Command} → PastKeeps past → begun (stage past) ≡ true → 1 ≤ pages past
some_page no_more e = absurd (true≢false (sym e))
some_page (and_one {past = past} {c = c} kept allowed) e =
    by (is_a Bop c) (sym (ap (λ (a : Bool × Bool × Bool). a.0) (begins_lawfully allowed)) ∙ e) (some_page kept)
  where
    by : (bop : Bool) → (bop || begun (stage past)) ≡ true → (begun (stage past) ≡ true → 1 ≤ pages past) → 1 ≤ cond bop (pages past + 1) (pages past)
    by true e before = omega arith
    by false e before = before e

-- a whole list keeps the rules, to its end
whole_kept : {before cs : List Command} → PastKeeps before → Follows before cs → PastKeeps (up_to_last before cs) × (stage (up_to_last before cs) ≡ AfterEnd)
whole_kept kept (ends {c = c} n w allowed last enough) = rw last (and_one kept allowed, rw (is_kind (kind_of_command c) PostPost last))
whole_kept kept (goes w allowed not_last follows) = rw not_last (whole_kept (and_one kept allowed) follows)

-- a list that keeps the rules has a page (rule 3.2)
pub one_page_at_least : {cs : List Command} → Keeps cs → 1 ≤ pages (past_of cs)
one_page_at_least keeps = let (kept, end) = whole_kept no_more keeps in some_page kept (ap begun end)

-- nothing stands before a pre
only_pre : {past : List Command} {c : Command} → PastKeeps past → Allowed past c → kind_of_command c ≡ Pre → past ≡ []
only_pre no_more allowed k = refl
only_pre {past} (and_one kept earlier) allowed k =
    let begun-yet : is_at_start (stage past) ≡ false = ap (λ (a : Bool × Bool × Bool). a.1) (begins_lawfully earlier) in
    absurd (true≢false (rw (k, begun-yet) at (ap (λ (a : Bool × Bool × Bool). a.2) (begins_lawfully allowed))))

-- ---- the rules of one command

-- a font with a definition has some
pub is_there : (found : Definition) → is_defined found ≡ true → (at : ℕ) × (d : Command) × (found ≡ stands at d)
is_there none e = absurd (true≢false (sym e))
is_there (stands at d) e = (at, d, refl)

-- what a post that keeps the rules says
pub repeats : {past : List Command} {c : Command} → Allowed past c → kind_of_command c ≡ Post
    → (unsigned_in post_pages c.params ≡ pages past)
    × (greatest past ≤ unsigned_in post_depth c.params)
    × (unsigned_in post_num c.params ≡ num past)
    × (unsigned_in post_den c.params ≡ den past)
    × (unsigned_in post_mag c.params ≡ mag past)
repeats {past} {c} allowed k =
    let p = c.params in
    let rules : lawful_postamble (num past) (den past) (mag past) (greatest past) (pages past) p ≡ true = holds _ (rw k at allowed.postamble) in
    let from-num = (and-eq-true_iff (eqb (unsigned_in post_num p) (num past)) _).0 rules in
    let from-den = (and-eq-true_iff (eqb (unsigned_in post_den p) (den past)) _).0 from-num.1 in
    let from-mag = (and-eq-true_iff (eqb (unsigned_in post_mag p) (mag past)) _).0 from-den.1 in
    let from-depth = (and-eq-true_iff (leb (greatest past) (unsigned_in post_depth p)) _).0 from-mag.1 in (
      eqb-true _ _ from-depth.1,
      leb-true _ _ from-depth.0,
      eqb-true _ _ from-num.0,
      eqb-true _ _ from-den.0,
      eqb-true _ _ from-mag.0,
    )

module _ {cs : List Command} (keeps : Keeps cs) {past : List Command} {c : Command} (there : StandsAmong cs past c) where
  -- the commands before it and it itself keep the rules
  pub kept_there : PastKeeps past × Allowed past c
  kept_there = standing_kept no_more keeps there

  -- nothing stands before pre, so there is one only (rule 3.2)
  pub pre_once : kind_of_command c ≡ Pre → past ≡ []
  pre_once k = only_pre kept_there.0 kept_there.1 k

  -- p of bop is the place of the bop before, or −1 (rule 3.7)
  pub bop_points_back : kind_of_command c ≡ Bop → signed_in bop_pointer c.params ≡ last_bop past
  bop_points_back k = same_number_true _ _ (holds _ (rw k at kept_there.1.pointer))

  -- p of post is the place of the last bop (rule 3.7)
  pub post_points : kind_of_command c ≡ Post → signed_in post_pointer c.params ≡ last_bop past
  post_points k = same_number_true _ _ (holds _ (rw k at kept_there.1.pointer))

  -- q of post_post is the place of post (rule 3.7)
  pub post_post_points : kind_of_command c ≡ PostPost → signed_in end_pointer c.params ≡ pos (post_place past)
  post_post_points k = same_number_true _ _ (not-false _ (rw k at kept_there.1.pointer))

  -- what is selected has a definition before it (rule 3.6)
  pub selected_is_defined : kind_of_command c ≡ Select → (at : ℕ) × (d : Command) × (definition_of false (selected_font c.opcode c.params) past ≡ stands at d)
  selected_is_defined k = is_there _ (holds _ (rw k at kept_there.1.font))

  -- a number that is defined before post was not defined until then (rule 3.5)
  pub defined_once : kind_of_command c ≡ Define → is_after_post (stage past) ≡ false → definition_of false (font_number c) past ≡ none
  defined_once k early = ((right kept_there.1 k).early early).0

  -- at eop all levels are popped (rule 3.4)
  pub depth_0_at_eop : kind_of_command c ≡ Eop → depth past ≡ 0
  depth_0_at_eop k = let right : wrong_at_depth Eop (depth past) ≡ false = rw k at kept_there.1.depth_right in omega (arith, ltb-false 0 (depth past) right)

  -- the depth, before and after each command (rule 3.4)
  pub depth_at_most_100 : (depth past ≤ 100) × (depth (c ∷ past) ≤ 100)
  depth_at_most_100 = let (kept, allowed) = kept_there in (deep kept, deep (and_one kept allowed))

  -- what post says of the list before it: s is not below the depth that was reached, the rest is the list's own (rule 3.8)
  pub post_repeats : kind_of_command c ≡ Post
      → (unsigned_in post_pages c.params ≡ pages past)
      × (greatest past ≤ unsigned_in post_depth c.params)
      × (unsigned_in post_num c.params ≡ num past)
      × (unsigned_in post_den c.params ≡ den past)
      × (unsigned_in post_mag c.params ≡ mag past)
  post_repeats k = repeats kept_there.1 k

-- ---- the printed example

-- it keeps the rules, and its written forms are M
pub M_list : Keeps list_of_m × (written list_of_m ≡ M)
unfolding unsigned_at kind_of lengths fixed_length inner_length size_of
M_list = (
  goes (record { defined = lit< tt; exact = refl }) (all_kept _ _ refl) refl
      (goes (record { defined = lit< tt; exact = refl }) (all_kept _ _ refl) refl
      (goes (record { defined = lit< tt; exact = refl }) (all_kept _ _ refl) refl
      (goes (record { defined = lit< tt; exact = refl }) (all_kept _ _ refl) refl
      (ends 4 (record { defined = lit< tt; exact = refl }) (all_kept _ _ refl) refl (omega arith))))),
  refl,
)

-- so the smallest file is lawful (rule 3.12)
pub M_is_lawful : Lawful M
M_is_lawful = (omega arith, (list_of_m, M_list.0, M_list.1))
