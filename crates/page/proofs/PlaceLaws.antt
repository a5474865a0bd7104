-- What two walks over a page show of its placing, and the answer and the area as each judgement falls. Assumes nothing.
use mathlib.Core.Path.{◌≡◌, refl, sym, ap, ap₂, ◌∙◌, subst}
use mathlib.Core.Bool.{Bool, true, false, cond, not, ◌&&◌}
use mathlib.Core.List.{List, []}
use Prim.Native.Nat.{ℕ, ◌*◌, ◌+◌, ◌<◌, ◌≤◌}
use native.Mathlib.Nat.{zero-add}
use native.Mathlib.Omega.{arith}
use lib.Dec.{ltb, leb}
use lib.ListN.{length, get_or}
use borrow.Author.Tests.{lt-ltb, le-ltb, le-leb}
use Rattle.refusals.specs.Numbers.{number_of, no_such_page, area_too_short}
use Rattle.std.specs.declared.result.Result.{Result}
use Rattle.std.specs.declared.result.Result.TheVariants.{Ok, Err}
use Rattle.refusals.specs.declared.Refusal.{Refusal}
use Rattle.refusals.specs.Answer.{Answer, refused, given, refusal, refuse_if, and_then}
use Rattle.refusals.proofs.Answer.{given_not_refused}
use Rattle.units.specs.declared.Ratio.{Ratio}
use Rattle.units.specs.Unit.{unit_of, drift}
use Rattle.units.specs.Steps.{Units, Workable}
use Rattle.units.proofs.Unit.{accepted}
use Rattle.widths.specs.Table.{checked_table}
use Rattle.commands.specs.Reading.{longest_file}
use Rattle.list.specs.declared.Volume.{Volume}
use Rattle.list.specs.Past.{num, den, mag}
use Rattle.list.specs.Steps.{bop_of, volume_of}
use Rattle.volume.specs.Steps.{summary_of}
use Rattle.volume.specs.History.{history}
use Rattle.volume.proofs.Accepts.{accepts_lawful}
use Rattle.state.specs.Registers.{fresh_state}
use Rattle.placements.specs.declared.Counts.{Counts}
use Rattle.turns.specs.declared.Terms.{Terms}
use Rattle.placements.specs.Records.{placement_record_size}
use Rattle.page.specs.PageList.{page_of}
use Rattle.turns.specs.Placing.{Contents, placing}
use Rattle.page.specs.Answers.{page_outside, setting_of, with_room, placed_accepted, counts_of, placed_counts, area_after}
use Rattle.placements.specs.Steps.{stored}
use Rattle.page.specs.Steps.{stopped, through, zero_counts, finish, ending_of, Runs, Ready, Held}
use Rattle.placements.proofs.Areas.{stored_whole}
use Rattle.page.proofs.Traces.{accepted_trace, accepted_units, trace_scales}
use Rattle.page.proofs.PageRuns.{page_runs, bop_inside}

-- ---- the answer and the area

-- what an answer comes to: the counts or the refusal, and the area
abbrev pub ComesTo : Answer Contents → List ℕ → Answer Counts → List ℕ → Type 0
ComesTo answer entry said area = (said ≡ placed_counts answer) × (area ≡ area_after entry answer)

pub refused_to : {answer : Answer Contents} {number place : ℕ} → answer ≡ refused number place → (entry : List ℕ) → ComesTo answer entry (refused number place) entry
refused_to e entry = (sym (ap placed_counts e), sym (ap (area_after entry) e))

pub placed_to : {answer : Answer Contents} {p : Contents} → answer ≡ given p → (entry area : List ℕ) → area ≡ area_after entry (given p) → ComesTo answer entry (given (counts_of p)) area
placed_to e entry area area_is = (sym (ap placed_counts e), area_is ∙ sym (ap (area_after entry) e))

-- a refusal leaves every byte
pub refused_kept : (answer : Answer Contents) (entry : List ℕ) (number place : ℕ) → placed_counts answer ≡ refused number place → area_after entry answer ≡ entry
refused_kept (refused n p) entry number place e = refl
refused_kept (given p) entry number place e = absurd (given_not_refused (counts_of p) number place e)

-- ---- what a walk shows

module _ (out : List ℕ) where
  -- a walk that left the range
  pub walk_left : (answer : Answer Contents) (number place : ℕ) → stopped number place ≡ finish out zero_counts answer → answer ≡ refused number place
  walk_left (refused n p) number place e = let n-is : n ≡ number = cc in let p-is : p ≡ place = cc in ap₂ refused n-is p-is
  walk_left (given p) number place e = let z : ◌≡◌ {A = ℕ} 0 1 = cc in absurd (omega arith)

  -- one that went through
  pub record Through (answer : Answer Contents) (area : List ℕ) (counts : Counts) : Type 0 where
    pub p : Contents
    pub answer_is : answer ≡ given p
    pub area_is : area ≡ stored out 0 p.placements
    pub counts_are : counts ≡ counts_of p

  pub walk_through : (answer : Answer Contents) (area : List ℕ) (counts : Counts) → through area counts ≡ finish out zero_counts answer → Through answer area counts
  walk_through (refused n p) area counts e = let z : ◌≡◌ {A = ℕ} 0 1 = cc in absurd (omega arith)
  walk_through (given p) area counts e =
      record {
        p = p;
        answer_is = refl;
        area_is = cc;
        counts_are =
            (let same : counts ≡ record { records = 0 + length p.placements; missing = 0 + p.missing_characters; specials = 0 + p.specials } = cc in same)
            ∙ ap₂ (λ (r m : ℕ). record { records = r; missing = m; specials = 0 + p.specials }) (zero-add (length p.placements)) (zero-add p.missing_characters)
            ∙ ap (λ (s : ℕ). record { records = length p.placements; missing = p.missing_characters; specials = s }) (zero-add p.specials);
      }

  -- where one walk goes through, so does each other
  pub walk_again : (r : Result Counts Refusal) (answer : Answer Contents) (area : List ℕ) {p : Contents} → answer ≡ given p → ending_of area r ≡ finish out zero_counts answer
      → (counts : Counts) × (r ≡ Ok counts) × Through answer area counts
  walk_again (Ok counts) answer area a e = (counts, refl, walk_through answer area counts e)
  walk_again (Err r) answer area {p} a e = absurd (given_not_refused p (number_of r.reason) r.place (sym a ∙ walk_left answer (number_of r.reason) r.place e))

-- ---- 16 and 17, as the walks show

module _ (answer : Answer Contents) (entry : List ℕ) where
  abbrev judged_room : Answer Contents
  judged_room = and_then answer (with_room (length entry))

  -- 16
  pub left_to : (r : Refusal) → stopped (number_of r.reason) r.place ≡ finish [] zero_counts answer → ComesTo judged_room entry (refusal r) entry
  left_to r e = refused_to (ap (λ (a : Answer Contents). and_then a (with_room (length entry))) (walk_left [] answer (number_of r.reason) r.place e)) entry

  module _ {area : List ℕ} {counts : Counts} (first : Through [] answer area counts) where
    records_are : length first.p.placements ≡ counts.records
    records_are = sym (ap (λ (c : Counts). c.records) first.counts_are)

    -- 17
    pub short_to : length entry < placement_record_size * counts.records → ComesTo judged_room entry (refused area_too_short 0) entry
    short_to few =
        let test : ltb (length entry) (placement_record_size * length first.p.placements) ≡ true = lt-ltb (length entry) (placement_record_size * length first.p.placements) (omega (arith, few, records_are)) in
        refused_to (ap (λ (a : Answer Contents). and_then a (with_room (length entry))) first.answer_is ∙ ap (λ (t : Bool). refuse_if t area_too_short 0 (given first.p)) test) entry

    -- all placed
    pub all_to : placement_record_size * counts.records ≤ length entry → (area' : List ℕ) (counts' : Counts) → Through entry answer area' counts'
        → ComesTo judged_room entry (given counts') area'
    all_to room area' counts' second =
        let p = first.p in
        let fits : placement_record_size * length p.placements ≤ length entry = omega (arith, room, records_are) in
        let test : ltb (length entry) (placement_record_size * length p.placements) ≡ false = le-ltb (length entry) (placement_record_size * length p.placements) fits in
        let same : given second.p ≡ given p = sym second.answer_is ∙ first.answer_is in
        let same-p : second.p ≡ p = cc in
        let both = placed_to (ap (λ (a : Answer Contents). and_then a (with_room (length entry))) first.answer_is ∙ ap (λ (t : Bool). refuse_if t area_too_short 0 (given p)) test) entry area'
        (second.area_is ∙ ap (λ (x : Contents). stored entry 0 x.placements) same-p ∙ stored_whole p.placements entry fits) in
        (ap given second.counts_are ∙ ap (λ (x : Contents). given (counts_of x)) same-p ∙ both.0, both.1)

-- ---- 12 to 15

module _ (file table : List ℕ) (resolution page room pages : ℕ) where
  abbrev unit : Answer Ratio
  unit = unit_of (num (history file)) (den (history file)) (mag (history file)) resolution

  abbrev walked : Ratio → ℕ → Answer Contents
  walked k rows = and_then (placing (setting_of file table k resolution rows page) fresh_state (page_of page (history file))) (with_room room)

  abbrev with_page : Ratio → ℕ → Answer Contents
  with_page k rows = refuse_if (page_outside page pages) no_such_page 0 (walked k rows)

  abbrev with_table : Ratio → Answer Contents
  with_table k = and_then (checked_table table) (with_page k)

  pub unit_refused : {number place : ℕ} → unit ≡ refused number place → placed_accepted file table resolution page room pages ≡ refused number place
  unit_refused e = ap (λ (u : Answer Ratio). and_then u with_table) e

  module _ {k : Ratio} (unit_is : unit ≡ given k) where
    with_unit : placed_accepted file table resolution page room pages ≡ with_table k
    with_unit = ap (λ (u : Answer Ratio). and_then u with_table) unit_is

    pub table_refused : {number place : ℕ} → checked_table table ≡ refused number place → placed_accepted file table resolution page room pages ≡ refused number place
    table_refused e = with_unit ∙ ap (λ (t : Answer ℕ). and_then t (with_page k)) e

    module _ {rows : ℕ} (table_is : checked_table table ≡ given rows) where
      with_table_lem : placed_accepted file table resolution page room pages ≡ with_page k rows
      with_table_lem = with_unit ∙ ap (λ (t : Answer ℕ). and_then t (with_page k)) table_is

      with_page_lem : {t : Bool} → page_outside page pages ≡ t → placed_accepted file table resolution page room pages ≡ refuse_if t no_such_page 0 (walked k rows)
      with_page_lem e = with_table_lem ∙ ap (λ (t : Bool). refuse_if t no_such_page 0 (walked k rows)) e

      module _ (some : 1 ≤ page) where
        -- a page of the file
        pub page_there : page ≤ pages → placed_accepted file table resolution page room pages ≡ walked k rows
        page_there h = with_page_lem (ap₂ (λ (a b : Bool). not (a && b)) (le-leb 1 page some) (le-leb page pages h))

-- ---- what a scan holds makes a walk ready

-- D is at most 2
pub drift_bound : (resolution : ℕ) → drift resolution ≤ 2
drift_bound resolution = by (leb 200 resolution) (leb 100 resolution)
  where
    by : (fine coarse : Bool) → cond fine 2 (cond coarse 1 0) ≤ 2
    by true coarse = omega arith
    by false true = omega arith
    by false false = omega arith

module _ {file : List ℕ} {page : ℕ} {fonts : List ℕ} {v : Volume} (held : Held file page fonts v) where
  state_is : v ≡ volume_of page (history file)
  state_is = held.keeps.0

  -- the file's units
  pub held_units : ((i : ℕ) → get_or file i 0 < 256) → Units v.num v.den v.mag
  held_units bytes = subst (λ (w : Volume). Units w.num w.den w.mag) (sym state_is) (accepted_units file (summary_of v) bytes held.judgement)

  -- a K that was given is one that distances are rounded by
  pub held_workable : ((i : ℕ) → get_or file i 0 < 256) → (resolution : ℕ) {k : Ratio} → unit_of v.num v.den v.mag resolution ≡ given k → Workable k
  held_workable bytes resolution {k} unit_is = (accepted v.num v.den v.mag resolution k (held_units bytes) unit_is).1

  pub held_unit : (resolution : ℕ) → unit_of v.num v.den v.mag resolution ≡ unit_of (num (history file)) (den (history file)) (mag (history file)) resolution
  held_unit resolution = ap (λ (w : Volume). unit_of w.num w.den w.mag resolution) state_is

  module _ (low : 1 ≤ page) (high : page ≤ v.pages) where
    wanted_is : v.wanted ≡ bop_of page (history file)
    wanted_is = ap (λ (w : Volume). w.wanted) state_is

    -- the page's commands start within the file
    pub held_start : v.wanted + 45 ≤ length file
    held_start = omega (arith, wanted_is, bop_inside file (summary_of v) page held.judgement low high)

    pub held_short : length file ≤ longest_file
    held_short = (accepts_lawful file (summary_of v) held.judgement).0

    -- all that a walk over the page starts from
    pub held_ready : (terms : Terms) → terms.page ≡ page → (resolution : ℕ) → terms.ruler.drift ≡ drift resolution → Ready file fonts terms (v.wanted + 45)
    held_ready terms page_is resolution drift-is =
        record {
          short = held_short;
          drift_small = subst (λ (d : ℕ). d ≤ 2) (sym drift-is) (drift_bound resolution);
          told =
              record {
                tells = held.keeps.1;
                standing = held.keeps.2;
                lawfully = held.keeps.3;
                scales = trace_scales file (history file) (accepted_trace file (summary_of v) held.judgement);
              };
          runs =
              subst (λ (p : ℕ). Runs file (v.wanted + 45) 0 (page_of p (history file))) (sym page_is)
              (subst (λ (place : ℕ). Runs file (place + 45) 0 (page_of page (history file))) (sym wanted_is) (page_runs file (summary_of v) page held.judgement low high));
        }
