-- `page::placing::place_accepted` meets its contract: 12 to 15 in their order, then the page's commands. Assumes nothing.
use mathlib.Core.Path.{◌≡◌, refl, sym, ap, ap₂, ◌∙◌}
use mathlib.Core.List.{List}
use Prim.Native.Nat.{ℕ}
use native.Mathlib.Omega.{arith}
use lib.ListN.{length}
use Rattle.std.proofs.lemmas.Result.{err_from_is_err_and}
use Rattle.std.specs.declared.result.Result.{Result}
use Rattle.std.specs.declared.result.Result.TheVariants.{Err}
use Rattle.refusals.specs.declared.Refusal.{Refusal}
use Rattle.refusals.specs.Answer.{Answer, answered, and_then}
use Rattle.units.specs.declared.Ratio.{Ratio}
use Rattle.units.specs.Unit.{unit_of, drift}
use Rattle.widths.specs.Table.{checked_table}
use Rattle.list.specs.declared.Volume.{Volume}
use Rattle.list.specs.Past.{num, den, mag}
use Rattle.volume.specs.History.{history}
use Rattle.state.specs.Registers.{fresh_state}
use Rattle.page.specs.PageList.{page_of}
use Rattle.turns.specs.Placing.{look_in, Contents, placing}
use Rattle.page.specs.Answers.{with_room, placed_accepted, placed_counts, area_after}
use Rattle.page.specs.Steps.{Held}
use Rattle.page.proofs.PlaceLaws.{refused_to, unit_refused, table_refused, page_there, held_units, held_workable, held_unit, held_start, held_short, held_ready}
use Rattle.page.proofs.placing.place_accepted.Goals as goal

pub unit_of-requires : goal.unit_of-requires
unit_of-requires c = held_units c.requires (λ i. (c.type_inv.file i).fits)

-- what was judged of the unit
unit_was : {file : List ℕ} {page : ℕ} {fonts : List ℕ} {v : Volume} (held : Held file page fonts v) (resolution : ℕ) {found : Result Ratio Refusal} → answered found ≡ unit_of v.num v.den v.mag resolution
    → {r : Result Ratio Refusal} → found ≡ r → unit_of (num (history file)) (den (history file)) (mag (history file)) resolution ≡ answered r
unit_was held resolution told is = sym (told ∙ held_unit held resolution) ∙ ap answered is

pub returns-in_err-k : goal.returns-in_err-k
returns-in_err-k c =
    let s = c.args in
    let (passed, is, same) = err_from_is_err_and c.from_residual.result c.from_residual.ensures.1 in
    let both = refused_to (unit_refused s.file.now s.widths.now s.resolution s.page (length s.out.now) s.volume.pages (unit_was c.requires s.resolution c.unit_of.ensures c.in_err-k.was)) s.out.now in
    record { result_value = ap answered (is ∙ ap Err same) ∙ both.0; out_after = both.1 }

pub returns-in_err-widths : goal.returns-in_err-widths
returns-in_err-widths c =
    let s = c.args in
    let (passed, is, same) = err_from_is_err_and c.from_residual-in_err-widths.result c.from_residual-in_err-widths.ensures.1 in
    let both = refused_to (table_refused s.file.now s.widths.now s.resolution s.page (length s.out.now) s.volume.pages (unit_was c.requires s.resolution c.unit_of.ensures c.in_ok-k.was) c.in_err-widths.ensures.err) s.out.now in
    record { result_value = ap answered (is ∙ ap Err same) ∙ both.0; out_after = both.1 }

pub invariant_of-terms : goal.invariant_of-terms
invariant_of-terms c =
    record { workable = held_workable c.requires (λ i. (c.type_inv.file i).fits) c.args.resolution (sym c.unit_of.ensures ∙ ap answered c.in_ok-k.was) }

pub overflow_add-volume : goal.overflow_add-volume
overflow_add-volume c =
    omega (arith, held_start c.requires c.if-page-lt1.false c.if-volume-page.false, held_short c.requires c.if-page-lt1.false c.if-volume-page.false)

pub place_commands-requires : goal.place_commands-requires
place_commands-requires c = held_ready c.requires c.if-page-lt1.false c.if-volume-page.false _ refl c.args.resolution c.drift_of-drift.ensures

pub returns : goal.returns
returns c =
    let s = c.args in
    let widths = c.in_ok-widths.widths in
    let bytes = c.in_ok-widths.ensures.ok in
    let by : ℕ → List ℕ → Answer Contents =
    λ d table. and_then (placing (record { ruler = record { k = c.in_ok-k.k; drift = d }; look = look_in table widths.records; volume = history s.file.now; page = s.page }) fresh_state (page_of s.page (history s.file.now))) (with_room (length s.out.now)) in
    let meant : Answer Contents = placed_accepted s.file.now s.widths.now s.resolution s.page (length s.out.now) s.volume.pages in
    let there : meant ≡ by (drift s.resolution) s.widths.now =
    page_there s.file.now s.widths.now s.resolution s.page (length s.out.now) s.volume.pages (unit_was c.requires s.resolution c.unit_of.ensures c.in_ok-k.was) (ap checked_table (sym bytes) ∙ widths.right) c.if-page-lt1.false c.if-volume-page.false in
    let same : by c.drift_of-drift.result widths.bytes.now ≡ meant = ap₂ by c.drift_of-drift.ensures bytes ∙ sym there in
    let placed = c.place_commands.ensures in
    record { result_value = placed.result_value ∙ ap placed_counts same; out_after = placed.out_after ∙ ap (area_after s.out.now) same }
