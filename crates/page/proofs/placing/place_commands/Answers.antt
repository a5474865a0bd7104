-- `page::placing::place_commands` meets its contract: the first walk judges and counts, the second writes. Assumes nothing.
use mathlib.Core.Path.{◌≡◌, refl, ap, ◌∙◌, subst}
use mathlib.Core.List.{List, [], ◌∷◌, ◌++◌}
use Prim.Native.Nat.{ℕ, ◌*◌, ◌<◌, ◌≤◌}
use native.Mathlib.Omega.{arith}
use lib.ListN.{length}
use Rattle.std.proofs.lemmas.Result.{err_from_is_err_and}
use Rattle.std.specs.declared.result.Result.{Result}
use Rattle.std.specs.declared.result.Result.TheVariants.{Ok, Err}
use Rattle.refusals.specs.declared.Refusal.{Refusal}
use Rattle.refusals.specs.Answer.{Answer, answered}
use Rattle.volume.specs.History.{history}
use Rattle.state.specs.Registers.{fresh_state}
use Rattle.state.specs.declared.moving.Ruler.{Ruler}
use Rattle.placements.specs.declared.Counts.{Counts}
use Rattle.placements.specs.Records.{placement_record_size}
use Rattle.page.specs.PageList.{page_of}
use Rattle.turns.specs.declared.Terms.{Terms}
use Rattle.turns.specs.Placing.{Located, Setting, Contents, placing}
use Rattle.turns.specs.Steps.{terms_setting}
use Rattle.page.specs.Steps.{zero_counts, finish, ending_of}
use Rattle.page.proofs.AnyRuler.{by_ruler, any_ruler, ends_alike}
use Rattle.page.proofs.PlaceLaws.{Through, walk_through, walk_again, left_to, short_to, all_to}
use Rattle.page.proofs.placing.place_commands.Goals as goal

-- ---- what the first walk shows, of a page by any setting

-- the ruler that the first walk counts with
abbrev counting : Ruler
counting = record { k = record { p = 0; q = 1 }; drift = 0 }

module _ (setting : Setting) (cs : List Located) where
  -- the page by a ruler
  abbrev by : Ruler → Answer Contents
  by ruler = placing (by_ruler ruler setting) fresh_state cs

  same_counts : (ruler : Ruler) → finish [] zero_counts (by counting) ≡ finish [] zero_counts (by ruler)
  same_counts ruler = ends_alike (by counting) (by ruler) (any_ruler counting ruler setting fresh_state cs)

-- an area without room stays so
nothing_written : (area : List ℕ) → length area ≡ 0 → area ≡ []
nothing_written [] e = refl
nothing_written (byte ∷ area) e = absurd (omega arith)

unchanged : (area entry : List ℕ) → length area ≡ 0 → area ++ entry ≡ entry
unchanged area entry e = ap (λ (a : List ℕ). a ++ entry) (nothing_written area e)

module _ (terms : Terms) (file area : List ℕ) where
  abbrev setting : Setting
  setting = terms_setting terms (history file)

  abbrev page : List Located
  page = page_of terms.page (history file)

  abbrev answer : Answer Contents
  answer = by setting page terms.ruler

  shows : {walked r : Result Counts Refusal} → ending_of area walked ≡ finish [] zero_counts (by setting page counting) → walked ≡ r → ending_of area r ≡ finish [] zero_counts answer
  shows told is = subst (λ (x : Result Counts Refusal). ending_of area x ≡ finish [] zero_counts answer) is (told ∙ same_counts setting page terms.ruler)

  counted : {walked : Result Counts Refusal} {counts : Counts} → ending_of area walked ≡ finish [] zero_counts (by setting page counting) → walked ≡ Ok counts → Through [] answer area counts
  counted {counts = counts} told is = walk_through [] answer area counts (shows told is)

-- ---- the goals

pub returns-in_err-counts : goal.returns-in_err-counts
returns-in_err-counts c =
    let a = c.args in
    let entry = a.out.now in
    let (passed, is, same) = err_from_is_err_and c.from_residual.result c.from_residual.ensures.1 in
    let both = left_to (answer a.terms.now a.file.now c.walk.new.out) entry _ (shows a.terms.now a.file.now c.walk.new.out c.walk.ensures.result_after c.in_err-counts.was) in
    record { result_value = ap answered (is ∙ ap Err same) ∙ both.0; out_after = unchanged c.walk.new.out entry c.walk.auto.out ∙ both.1 }

pub returns-then-out-counts : goal.returns-then-out-counts
returns-then-out-counts c =
    let a = c.args in
    let entry = a.out.now in
    let counts = c.in_ok-counts.counts in
    let same : c.walk.new.out ++ entry ≡ entry = unchanged c.walk.new.out entry c.walk.auto.out in
    let few : length entry < placement_record_size * counts.records = subst (λ (area : List ℕ). length area < placement_record_size * counts.records) same c.if-out-counts.true in
    let both = short_to (answer a.terms.now a.file.now c.walk.new.out) entry (counted a.terms.now a.file.now c.walk.new.out c.walk.ensures.result_after c.in_ok-counts.was) few in
    record { result_value = both.0; out_after = same ∙ both.1 }

pub returns : goal.returns
returns c =
    let a = c.args in
    let entry = a.out.now in
    let page = answer a.terms.now a.file.now c.walk.new.out in
    let counts = c.in_ok-counts.counts in
    let same : c.walk.new.out ++ entry ≡ entry = unchanged c.walk.new.out entry c.walk.auto.out in
    let room : placement_record_size * counts.records ≤ length entry = subst (λ (area : List ℕ). placement_record_size * counts.records ≤ length area) same c.if-out-counts.false in
    let first = counted a.terms.now a.file.now c.walk.new.out c.walk.ensures.result_after c.in_ok-counts.was in
    let ending = subst (λ (area : List ℕ). ending_of c.walk-2.new.out c.walk-2.result ≡ finish area zero_counts page) same c.walk-2.ensures.result_after in
    let (counts', is, second) = walk_again entry c.walk-2.result page c.walk-2.new.out first.answer_is ending in
    let both = all_to page entry first room c.walk-2.new.out counts' second in
    record { result_value = ap answered is ∙ both.0; out_after = both.1 }
