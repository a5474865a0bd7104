-- `cutting::writing::write` meets its contract. Assumes nothing.
use Rattle.std.proofs.Common.{◌≡◌, refl, sym, ap, ◌∙◌, subst, false, cond, arith, length, ℕ, ◌+◌, List}
use Rattle.std.proofs.lemmas.List.Edits.{sets}
use Rattle.commands.specs.declared.Kind.{Kind}
use Rattle.commands.specs.declared.Kind.TheVariants.{PostPost}
use Rattle.commands.specs.Kinds.{is}
use Rattle.commands.specs.Commands.{Command, kind_of_command}
use Rattle.refusals.specs.Answer.{answered}
use Rattle.commands.proofs.Readings.{command_at}
use Rattle.volume.specs.History.{history}
use Rattle.cutting.specs.declared.Spot.{Spot}
use Rattle.cutting.specs.declared.Run.{Run}
use Rattle.cutting.specs.declared.Fate.{Fate}
use Rattle.cutting.specs.declared.Step.{Step}
use Rattle.cutting.specs.declared.Made.{Made}
use Rattle.cutting.specs.declared.Counted.{Counted}
use Rattle.cutting.specs.Chosen.{is_in}
use Rattle.cutting.specs.CutList.{cut_past}
use Rattle.cutting.specs.Steps.{spot_after, fate_of, run_at, RunTo, forms_of, made_copied, area_copied, made_after, area_turned, RoomToTurn, Writable}
use Rattle.cutting.proofs.Standing.{spot_small}
use Rattle.cutting.proofs.Walks.{inside}
use Rattle.cutting.proofs.Stepped.{Stepped, stepped, never_out}
use Rattle.cutting.proofs.Others.{same_kind, other_kind}
use Rattle.cutting.proofs.IdleRuns.{run_ahead}
use Rattle.cutting.proofs.WriteTurns.{Writing, writing_first, room_to_copy, room_to_turn, writing_run, writing_on, writing_last, writing_same, room_same, made_same, area_same}
use Rattle.cutting.proofs.writing.write.Goals as goal

module _ (file list entry : List ℕ) (counted : Counted) (w : Writable file list counted (length entry)) where
  -- behind a run
  held : {at : ℕ} {p : Spot} {m : Made} {out : List ℕ} → Writing file list entry at p m out → (end : Run) → RunTo file p.on (run_at at 0 0) end → (n : Made) (area : List ℕ)
      → n ≡ cond p.here m (made_copied at end.at m) → area ≡ cond p.here out (area_copied file at m out) → Writing file list entry end.at p n area
  held k end run n area n_is area_is = writing_same file list counted entry w refl refl n_is area_is (writing_run file list counted entry w k _ _ end run)

  -- the command there
  module _ {there : ℕ} {p : Spot} {m : Made} {out : List ℕ} {s : Step} (k : Writing file list entry there p m out) (t : Stepped file list there p s) where
    abbrev command : Command
    command = command_at file t.reading

    abbrev is_kind : Kind
    is_kind = kind_of_command command

    abbrev is_fate : Fate
    is_fate = fate_of is_kind (spot_after list is_kind p).here p

    abbrev next : ℕ
    next = there + (1 + length command.params)

    ends_there : s.next ≡ next
    ends_there = omega (arith, t.next_is, t.reads.starts, t.reads.nexts)

    room : RoomToTurn s.fate s.kind file s.at s.next m (length out)
    room =
        subst (λ (at : ℕ). RoomToTurn s.fate s.kind file at s.next m (length out)) (sym t.at_is)
        (room_same list file p s.after s.kind is_kind s.fate there s.next next m t.kind_is t.spot_is t.fate_is ends_there (length out)
        (room_to_turn file list counted entry w k command _ t.reads.ahead))

    -- and what is written of it
    module _ {made : Made} {area : List ℕ} (made_is : made ≡ made_after s.fate s.kind s.at s.next m)
        (area_is : area ≡ area_turned s.fate s.kind counted.greatest p.met file s.at s.next m out) where
      made_there : made ≡ made_after is_fate is_kind there next m
      made_there =
          made_same list file p s.after s.kind is_kind s.fate there s.next next m t.kind_is t.spot_is t.fate_is ends_there made
          (made_is ∙ ap (λ (at : ℕ). made_after s.fate s.kind at s.next m) t.at_is)

      area_there : area ≡ area_turned is_fate is_kind counted.greatest p.met file there next m out
      area_there =
          area_same list file p s.after s.kind is_kind s.fate there s.next next m t.kind_is t.spot_is t.fate_is ends_there counted.greatest p.met out area
          (area_is ∙ ap (λ (at : ℕ). area_turned s.fate s.kind counted.greatest p.met file at s.next m out) t.at_is)

      at_last : s.kind ≡ PostPost → area ≡ sets entry 0 (forms_of (cut_past (is_in list) (history file)))
      at_last last = area_there ∙ writing_last file list counted entry w k command _ t.reads.ahead (sym t.kind_is ∙ last)

      onward : is s.kind PostPost ≡ false → Writing file list entry s.next s.after made area
      onward not_last =
          writing_same file list counted entry w ends_there (t.spot_is ∙ ap (λ (k : Kind). spot_after list k p) t.kind_is) made_there area_there
          (writing_on file list counted entry w k command _ t.reads.ahead (ap (λ (k : Kind). is k PostPost) (sym t.kind_is) ∙ not_last))

pub loop-step-init : goal.loop-step-init
loop-step-init c =
    writing_same c.args.file.now c.args.list.now c.args.counted c.args.out.now c.requires refl c.start-p.ensures refl refl
    (writing_first c.args.file.now c.args.list.now c.args.counted c.args.out.now c.requires)

pub run_passed-m-requires : goal.run_passed-m-requires
run_passed-m-requires c = room_to_copy c.args.file.now c.args.list.now c.args.counted c.args.out.now c.requires c.loop-step.invariant

pub step_at-requires : goal.step_at-requires
step_at-requires c =
    let h = held c.args.file.now c.args.list.now c.args.out.now c.args.counted c.requires c.loop-step.invariant c.run_from-run.result c.run_from-run.ensures c.run_passed-m.result c.run_passed-m.new.out c.run_passed-m.ensures.value c.run_passed-m.ensures.out_after in
    let small = spot_small h.stands in
    (omega (arith, small.0, h.walk.at_is, inside h.walk, c.requires.lawful.0), omega (arith, small.1, h.walk.at_is, inside h.walk, c.requires.lawful.0))

pub returns-in_default : goal.returns-in_default
returns-in_default c =
    let h = held c.args.file.now c.args.list.now c.args.out.now c.args.counted c.requires c.loop-step.invariant c.run_from-run.result c.run_from-run.ensures c.run_passed-m.result c.run_passed-m.new.out c.run_passed-m.ensures.value c.run_passed-m.ensures.out_after in
    absurd (never_out c.args.file.now c.args.list.now c.run_from-run.result.at c.loop-step.p h.walk _ _ (sym c.step_at.ensures ∙ ap answered c.in_default.is))

pub turn-m-requires : goal.turn-m-requires
turn-m-requires c =
    let h = held c.args.file.now c.args.list.now c.args.out.now c.args.counted c.requires c.loop-step.invariant c.run_from-run.result c.run_from-run.ensures c.run_passed-m.result c.run_passed-m.new.out c.run_passed-m.ensures.value c.run_passed-m.ensures.out_after in
    let t = stepped c.args.file.now c.args.list.now c.run_from-run.result.at c.loop-step.p c.in-Ok.step (sym c.step_at.ensures ∙ ap answered c.in-Ok.is) in
    room c.args.file.now c.args.list.now c.args.out.now c.args.counted c.requires h t

pub returns-then-eq : goal.returns-then-eq
returns-then-eq c =
    let h = held c.args.file.now c.args.list.now c.args.out.now c.args.counted c.requires c.loop-step.invariant c.run_from-run.result c.run_from-run.ensures c.run_passed-m.result c.run_passed-m.new.out c.run_passed-m.ensures.value c.run_passed-m.ensures.out_after in
    let t = stepped c.args.file.now c.args.list.now c.run_from-run.result.at c.loop-step.p c.in-Ok.step (sym c.step_at.ensures ∙ ap answered c.in-Ok.is) in
    at_last c.args.file.now c.args.list.now c.args.out.now c.args.counted c.requires h t c.turn-m.ensures.value c.turn-m.ensures.out_after (same_kind c.in-Ok.step.kind PostPost c.if-eq.ensures)

pub loop-step-smaller : goal.loop-step-smaller
loop-step-smaller c =
    let t = stepped c.args.file.now c.args.list.now c.run_from-run.result.at c.loop-step.p c.in-Ok.step (sym c.step_at.ensures ∙ ap answered c.in-Ok.is) in
    omega (arith, run_ahead c.args.file.now c.loop-step.p.on _ c.run_from-run.result c.run_from-run.ensures, t.next_is, t.reads.starts, t.reads.nexts, t.reads.inside)

pub loop-step-preserved : goal.loop-step-preserved
loop-step-preserved c =
    let h = held c.args.file.now c.args.list.now c.args.out.now c.args.counted c.requires c.loop-step.invariant c.run_from-run.result c.run_from-run.ensures c.run_passed-m.result c.run_passed-m.new.out c.run_passed-m.ensures.value c.run_passed-m.ensures.out_after in
    let t = stepped c.args.file.now c.args.list.now c.run_from-run.result.at c.loop-step.p c.in-Ok.step (sym c.step_at.ensures ∙ ap answered c.in-Ok.is) in
    onward c.args.file.now c.args.list.now c.args.out.now c.args.counted c.requires h t c.turn-m.ensures.value c.turn-m.ensures.out_after (other_kind c.in-Ok.step.kind PostPost c.if-eq.ensures)
