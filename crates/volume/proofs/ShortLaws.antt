-- Push, pop and fnt_num_0 to fnt_num_63: on a page, where `may_pass` allows them, they keep every rule and change nothing but the place and the depth; of the
-- selections this is so if a font is selected already. Assumes nothing.
use mathlib.Core.Path.{◌≡◌, refl, sym, ap, ◌∙◌, subst}
use mathlib.Core.Bool.{Bool, true, false, cond, not, ◌&&◌, and-eq-true_iff}
use mathlib.Core.List.{List, []}
use mathlib.Core.Logic.{◌⊎◌, inl, inr, ⊎_elim}
use Prim.Native.Nat.{ℕ, ◌+◌, ◌-◌, ◌<◌, ◌≤◌, max}
use native.Mathlib.Omega.{arith}
use lib.Dec.{ltb, leb, eqb}
use lib.ListN.{length, get_or, drop}
use lib.IntN.{pos}
use borrow.Author.Tests.{eqb-true, ltb-true, leb-true, lt-ltb, lt-leb, le-leb, ne_eqb}
use Rattle.commands.specs.declared.Kind.{Kind}
use Rattle.commands.specs.declared.Kind.TheVariants.{Push, Pop, Select}
use Rattle.commands.specs.Kinds.{kind_of}
use Rattle.commands.specs.Lengths.{fixed_length, size_of}
use Rattle.commands.specs.Commands.{Command, kind_of_command, front, whole}
use Rattle.commands.specs.Parameters.{selected_font}
use Rattle.commands.proofs.Opcodes.{kind_range, range_kind}
use Rattle.commands.proofs.ParameterLengths.{fixed_of, inner_below}
use Rattle.commands.proofs.Fronts.{after_whole, front_at}
use Rattle.list.specs.declared.Stage.TheVariants.{OnPage}
use Rattle.list.specs.declared.Volume.{Volume}
use Rattle.list.specs.Past.{stage, depth, depth_after, is_defined, definition_of}
use Rattle.list.specs.Rules.{fault, lawful_font}
use Rattle.list.specs.Steps.{command, changed}
use Rattle.volume.specs.Steps.{may_push_or_pop, may_pass, Passes, Going, Onward}
use Rattle.list.proofs.FontTables.{told_defined}
use Rattle.volume.proofs.Going.{turn_to, passing}

-- ---- which opcodes may be passed

module _ (opcode depth : ℕ) where
  -- what may be one of the two is one of them
  pub push_or_pop : may_push_or_pop opcode depth ≡ true → ((opcode ≡ 141) × (depth < 100)) ⊎ ((opcode ≡ 142) × (0 < depth))
  push_or_pop may = by (eqb opcode 141) refl may
    where
      by : (pushes : Bool) → eqb opcode 141 ≡ pushes → cond pushes (ltb depth 100) (eqb opcode 142 && ltb 0 depth) ≡ true
          → ((opcode ≡ 141) × (depth < 100)) ⊎ ((opcode ≡ 142) × (0 < depth))
      by true e may = inl (eqb-true opcode 141 e, ltb-true depth 100 may)
      by false e may = let (pops, some) = (and-eq-true_iff (eqb opcode 142) (ltb 0 depth)).0 may in inr (eqb-true opcode 142 pops, ltb-true 0 depth some)

  -- a push that may be passed does not go too deep
  pub push_shallow : may_push_or_pop opcode depth ≡ true → kind_of opcode ≡ Push → depth < 100
  push_shallow may kind_is =
      ⊎_elim (λ pushes. pushes.1)
      (λ pops. let is = pops.0 in let (low, high) = kind_range opcode (omega arith) kind_is in absurd (omega arith))
      (push_or_pop may)

module _ (fonts : List ℕ) (opcode depth : ℕ) where
  -- what may be passed is a push or a pop, or selects
  pub passes_by : may_pass fonts opcode depth ≡ true
      → (may_push_or_pop opcode depth ≡ true) ⊎ ((171 ≤ opcode) × (opcode < 235) × (not (eqb (get_or fonts (opcode - 171) 0) 0) ≡ true))
  passes_by may = by (leb 171 opcode && ltb opcode 235) refl may
    where
      by : (selects : Bool) → (leb 171 opcode && ltb opcode 235) ≡ selects → cond selects (not (eqb (get_or fonts (opcode - 171) 0) 0)) (may_push_or_pop opcode depth) ≡ true
          → (may_push_or_pop opcode depth ≡ true) ⊎ ((171 ≤ opcode) × (opcode < 235) × (not (eqb (get_or fonts (opcode - 171) 0) 0) ≡ true))
      by true ranged may =
          let (from, below) = (and-eq-true_iff (leb 171 opcode) (ltb opcode 235)).0 ranged in
          inr (leb-true 171 opcode from, ltb-true opcode 235 below, may)
      by false ranged may = inl may

  pub pass_shallow : may_pass fonts opcode depth ≡ true → kind_of opcode ≡ Push → depth < 100
  pass_shallow may kind_is =
      ⊎_elim (λ steps. push_shallow opcode depth steps kind_is)
      (λ selects. let below = selects.1 in let low = selects.0 in let (from, upto) = kind_range opcode (omega arith) kind_is in absurd (omega arith))
      (passes_by may)

-- ---- no rule is broken

module _ (past : List Command) (on_page : stage past ≡ OnPage) (c : Command) where
  push_fault : kind_of_command c ≡ Push → depth past < 100 → fault past c ≡ 0
  push_fault e low = let t : leb 100 (depth past) ≡ false = lt-leb 100 (depth past) low in simp (e, on_page, t)

  pop_fault : kind_of_command c ≡ Pop → 0 < depth past → fault past c ≡ 0
  pop_fault e some = let t : eqb (depth past) 0 ≡ false = ne_eqb (depth past) 0 (λ z. absurd (omega arith)) in simp (e, on_page, t)

  select_fault : kind_of_command c ≡ Select → is_defined (definition_of false (selected_font c.opcode c.params) past) ≡ true → fault past c ≡ 0
  select_fault e t = simp (e, on_page, t)

-- ---- what stands there, and what follows

bare_size : (opcode : ℕ) (rest : List ℕ) → opcode < 239 → fixed_length opcode ≡ 0 → size_of opcode rest ≡ 0
unfolding size_of
bare_size opcode rest below bare = omega (arith, inner_below opcode rest below)

-- an opcode without parameters stands there as it is
pub bare_ahead : (file : List ℕ) (at opcode : ℕ) → at < length file → get_or file at 0 ≡ opcode → opcode < 239 → fixed_length opcode ≡ 0
    → front (drop at file) ≡ whole (command opcode []) (drop (at + 1) file)
bare_ahead file at opcode starts is below bare =
    let rest : List ℕ = drop (at + 1) file in
    let size : size_of opcode rest ≡ 0 = bare_size opcode rest below bare in
    front_at file at starts ∙ rw is (rw size at (after_whole opcode rest (omega arith) (omega (arith, size))))

module _ {file : List ℕ} {page : ℕ} {v : Volume} {fonts again : List ℕ} (g : Going file page v fonts again)
    (on_page : v.stage ≡ OnPage) (starts : v.at < length file) where
  abbrev deeper : Kind → Volume
  deeper kind = changed v v.stage (v.at + 1) (depth_after kind v.depth) (max v.greatest (depth_after kind v.depth))

  stage_is : stage g.past ≡ OnPage
  stage_is = sym (ap (λ (w : Volume). w.stage) g.agrees.state) ∙ on_page

  depth_is : v.depth ≡ depth g.past
  depth_is = ap (λ (w : Volume). w.depth) g.agrees.state

  module _ (opcode : ℕ) (is : get_or file v.at 0 ≡ opcode) where
    push_turn : opcode ≡ 141 → v.depth < 100 → Going file page (deeper Push) fonts again
    push_turn e low =
        let kind_is : kind_of opcode ≡ Push = range_kind Push (omega arith) (omega arith) in
        let ahead = bare_ahead file v.at opcode starts is (omega arith) (fixed_of opcode kind_is) in
        turn_to g (command opcode []) _ ahead (push_fault g.past stage_is (command opcode []) kind_is (omega (arith, depth_is))) (rw kind_is) (rw kind_is) (rw kind_is) (rw kind_is)

    pop_turn : opcode ≡ 142 → 0 < v.depth → Going file page (deeper Pop) fonts again
    pop_turn e some =
        let kind_is : kind_of opcode ≡ Pop = range_kind Pop (omega arith) (omega arith) in
        let ahead = bare_ahead file v.at opcode starts is (omega arith) (fixed_of opcode kind_is) in
        turn_to g (command opcode []) _ ahead (pop_fault g.past stage_is (command opcode []) kind_is (omega (arith, depth_is))) (rw kind_is) (rw kind_is) (rw kind_is) (rw kind_is)

    select_turn : v.selected ≡ true → 171 ≤ opcode → opcode < 235 → not (eqb (get_or fonts (opcode - 171) 0) 0) ≡ true → Going file page (deeper Select) fonts again
    select_turn with-font low high there =
        let kind_is : kind_of opcode ≡ Select = range_kind Select low (omega arith) in
        let bare : fixed_length opcode ≡ 0 = omega (arith, fixed_of opcode kind_is) in
        let ahead = bare_ahead file v.at opcode starts is (omega arith) bare in
        let lawful : lawful_font (pos (opcode - 171)) ≡ true = rw (le-leb 0 (opcode - 171) (omega arith), le-leb (opcode - 171) 255 (omega arith)) in
        let defined : is_defined (definition_of false (pos (opcode - 171)) g.past) ≡ true = sym (told_defined g.agrees.early (pos (opcode - 171)) lawful) ∙ there in
        let number_is : selected_font opcode [] ≡ pos (opcode - 171) = rw (lt-ltb opcode 235 high) in
        turn_to g (command opcode []) _ ahead (select_fault g.past stage_is (command opcode []) kind_is (rw number_is defined)) (rw kind_is) (rw (kind_is, with-font)) (rw kind_is) (rw kind_is)

  abbrev opcode : ℕ
  opcode = get_or file v.at 0

  abbrev Next : Kind → Type 0
  Next kind = Going file page (deeper kind) fonts again

  -- a push or a pop
  pub depth_turn : may_push_or_pop opcode v.depth ≡ true → Next (kind_of opcode)
  depth_turn may =
      ⊎_elim
      (λ pushes. let at = pushes.0 in subst Next (sym (range_kind Push {opcode = opcode} (omega arith) (omega arith))) (push_turn opcode refl at pushes.1))
      (λ pops. let at = pops.0 in subst Next (sym (range_kind Pop {opcode = opcode} (omega arith) (omega arith))) (pop_turn opcode refl at pops.1))
      (push_or_pop opcode v.depth may)

  -- whatever may be passed
  pub short_turn : v.selected ≡ true → may_pass fonts opcode v.depth ≡ true → Next (kind_of opcode)
  short_turn with-font may =
      ⊎_elim depth_turn
      (λ selects. let high = selects.1 in subst Next (sym (range_kind Select {opcode = opcode} selects.0 (omega arith))) (select_turn opcode refl with-font selects.0 high selects.2))
      (passes_by fonts opcode v.depth may)

-- ---- the scan may go on

module _ {file fonts : List ℕ} {v : Volume} (on_page : v.stage ≡ OnPage) {at depth greatest : ℕ}
    (onward : Onward file fonts v (changed v v.stage at depth greatest)) where
  -- over plain commands
  pub onward_plain : v.selected ≡ true → {next : ℕ} → Passes file at next → Onward file fonts v (changed v v.stage next depth greatest)
  onward_plain with-font passes = λ page again g. passing (onward page again g) on_page with-font passes

  module _ (starts : at < length file) {kind : Kind} {after most : ℕ}
      (kind_is : kind ≡ kind_of (get_or file at 0)) (after_is : after ≡ depth_after kind depth) (most-is : most ≡ max greatest after) where
    -- over a push or a pop
    pub onward_depth : may_push_or_pop (get_or file at 0) depth ≡ true → Onward file fonts v (changed v v.stage (at + 1) after most)
    onward_depth may = λ page again g. rw (most-is, after_is, kind_is) (depth_turn (onward page again g) on_page starts may)

    -- over one that may be passed
    pub onward_short : v.selected ≡ true → may_pass fonts (get_or file at 0) depth ≡ true → Onward file fonts v (changed v v.stage (at + 1) after most)
    onward_short with-font may = λ page again g. rw (most-is, after_is, kind_is) (short_turn (onward page again g) on_page starts with-font may)
