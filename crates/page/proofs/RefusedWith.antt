-- The refusals of placing a page. Assumes nothing.
use Prim.Native.Nat.{ℕ, ◌*◌, ◌<◌}
use mathlib.Core.Path.{◌≡◌, refl}
use mathlib.Core.Bool.{Bool, true, false, cond}
use mathlib.Core.List.{List, [], ◌∷◌, ◌++◌}
use mathlib.Core.Logic.{inl, inr}
use native.Mathlib.Omega.{arith}
use lib.Dec.{ltb}
use lib.ListN.{length, drop, length-drop}
use Rattle.refusals.specs.Numbers.{no_such_page, area_too_short}
use Rattle.refusals.specs.Answer.{Answer, refused, given, and_then}
use Rattle.refusals.specs.RefusedOnly.{RefusedOnly, FileRefusal, UnitRefusal, TableRefusal, PageRefusal}
use Rattle.refusals.proofs.RefusedOnly.{if_only, then_only, only_wider}
use Rattle.units.proofs.RefusedWith.{unit_refused_with}
use Rattle.widths.proofs.RefusedWith.{table_refused_with}
use Rattle.volume.proofs.RefusedWith.{file_refused_with}
use Rattle.units.specs.Unit.{unit_of}
use Rattle.widths.specs.Table.{width_record_size, checked_table}
use Rattle.commands.specs.Commands.{Command, place}
use Rattle.commands.proofs.Fronts.{front_length}
use Rattle.volume.specs.declared.Summary.{Summary}
use Rattle.list.specs.Past.{num, den, mag}
use Rattle.volume.specs.Judged.{judged}
use Rattle.volume.specs.History.{history}
use Rattle.state.specs.Registers.{State, fresh_state}
use Rattle.placements.specs.Records.{placement_record_size}
use Rattle.turns.specs.Placing.{Located, Setting, Outcome, leaves_range, continues, after, on_outcome, placing}
use Rattle.page.specs.PageList.{is_on, page_of}
use Rattle.page.specs.Answers.{page_outside, setting_of, placed_accepted, placed_page, placed_counts}
use Rattle.page.specs.Trace.{Trace, start, more}
use Rattle.page.proofs.Traces.{accepted_trace}

-- ---- where a page's own commands stand

-- each stands in front of a place
abbrev AllBelow : ℕ → List Located → Type 0
AllBelow bound [] = Unit {0}
AllBelow bound (c ∷ rest) = (c.at < bound) × AllBelow bound rest

one_more : (bound : ℕ) (cs : List Located) (c : Located) → AllBelow bound cs → c.at < bound → AllBelow bound (cs ++ (c ∷ []))
one_more bound [] c below h = (h, tt)
one_more bound (d ∷ cs) c below h = (below.0, one_more bound cs c below.1 h)

-- commands that stand in a file stand before its end
page_below : (file : List ℕ) (page : ℕ) (past : List Command) → Trace file past → AllBelow (length file) (page_of page past)
page_below file page past start = tt
page_below file page past (more {past = before} c rest t ahead allowed) = by (is_on page before c) (page_below file page before t)
  where
    by : (on : Bool) → AllBelow (length file) (page_of page before)
        → AllBelow (length file) (cond on (page_of page before ++ (record { at = place before; command = c } ∷ [])) (page_of page before))
    by true below =
        one_more (length file) (page_of page before) (record { at = place before; command = c }) below
        (omega (arith, front_length (drop (place before) file) c rest ahead, length-drop (place before) file))
    by false below = below

module _ (file table : List ℕ) where
  -- what may be of a page of the file
  abbrev May : ℕ → ℕ → Type 0
  May = PageRefusal file width_record_size table

  -- 16 at one of the commands
  placing_refused_with : (setting : Setting) (s : State) (cs : List Located) → AllBelow (length file) cs → RefusedOnly May (placing setting s cs)
  unfolding placing
  placing_refused_with setting s [] below = tt
  placing_refused_with setting s (c ∷ rest) below = by (after setting s c.command) (λ next. placing_refused_with setting next rest below.1)
    where
      by : (o : Outcome) → ((next : State) → RefusedOnly May (placing setting next rest)) → RefusedOnly May (on_outcome c.at o (λ next. placing setting next rest))
      by leaves_range onward = inr (inr (inr (inr (refl, below.0))))
      by (continues next added) onward = then_only May (placing setting next rest) _ (onward next) (λ p. tt)

  module _ (resolution page room : ℕ) where
    -- 12 to 17
    accepted_refused_with : (found : Summary) → judged file ≡ given found → RefusedOnly May (placed_accepted file table resolution page room found.pages)
    accepted_refused_with found accepted =
        let unit = unit_of (num (history file)) (den (history file)) (mag (history file)) resolution in
        then_only May unit _ (only_wider UnitRefusal May unit (λ number place may. inr (inl may)) (unit_refused_with _ _ _ resolution)) (λ k.
        then_only May (checked_table table) _ (only_wider (TableRefusal width_record_size table) May (checked_table table) (λ number place may. inr (inr (inl may))) (table_refused_with table)) (λ rows.
        if_only May (page_outside page found.pages) no_such_page 0 _ (inr (inr (inr (inl (inl refl, refl)))))
        (then_only May (placing (setting_of file table k resolution rows page) fresh_state (page_of page (history file))) _
        (placing_refused_with _ fresh_state _ (page_below file page (history file) (accepted_trace file found accepted))) (λ p.
        if_only May (ltb room (placement_record_size * length p.placements)) area_too_short 0 (given p) (inr (inr (inr (inl (inr refl, refl))))) tt))))

    -- 1 to 17, each at its place
    pub page_refused_with : RefusedOnly (PageRefusal file width_record_size table) (placed_counts (placed_page file table resolution page room))
    page_refused_with =
        then_only May (placed_page file table resolution page room) _ (by (judged file) refl (file_refused_with file)) (λ p. tt)
      where
        by : (answer : Answer Summary) → judged file ≡ answer → RefusedOnly (FileRefusal file) answer
            → RefusedOnly May (and_then answer (λ found. placed_accepted file table resolution page room found.pages))
        by (refused number at) e may = inl may
        by (given found) e may = accepted_refused_with found e
