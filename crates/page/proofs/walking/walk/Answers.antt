-- `page::walking::walk` meets its contract: each turn keeps what is still to come, and the page's end leaves nothing. Assumes nothing.
use mathlib.Core.Path.{refl, sym, subst}
use native.Mathlib.Omega.{arith}
use Rattle.state.specs.declared.moving.Direction.TheVariants as Direction
use Rattle.state.specs.Registers.{State, direction_of}
use Rattle.state.specs.Steps.{Bounded}
use Rattle.turns.specs.declared.Turn.TheVariants as Turn
use Rattle.turns.specs.Steps.{KeptFor}
use Rattle.turns.proofs.Words.{small_word}
use Rattle.page.specs.Steps.{zero_seen}
use Rattle.page.proofs.Remembered.{none_kept, nothing_seen}
use Rattle.page.proofs.WalkLaws.{starting, few, ended, left}
use Rattle.page.proofs.Turned.{asks, ruled, safe, less, all_small, handed, stays, moves_sideways, moves_down, moves_by_register, moves_past, room, level_stored, pushes, below, pops, selects}
use Rattle.page.proofs.walking.walk.Goals as goal

pub loop-stride-init : goal.loop-stride-init
loop-stride-init c =
    let fresh = c.fresh-page in
    let widths = c.args.terms.now.widths in (
      starting c.requires c.args.out.now fresh.result fresh.ensures.0 fresh.ensures.1 fresh.ensures.2 fresh.ensures.3,
      subst (λ (x : State). KeptFor widths x.font zero_seen.kept) (sym fresh.ensures.0) (none_kept widths),
      nothing_seen c.args.file.now c.args.fonts.now widths,
    )

pub invariant_of-scene : goal.invariant_of-scene
invariant_of-scene c =
    let w = c.loop-stride.invariant.0 in
    record { bounded = subst Bounded (sym c.level_of.ensures) w.sound.bounded; known = w.sound.known; kept_is = ∣ c.loop-stride.invariant.1 ∣₁ }

pub note-counts-requires : goal.note-counts-requires
note-counts-requires c = all_small c.loop-stride.invariant.0 c.step_at-step.result c.level_of.ensures c.step_at-step.ensures

pub loop-stride-smaller-in-Stay : goal.loop-stride-smaller-in-Stay
loop-stride-smaller-in-Stay c = less c.loop-stride.invariant.0 c.step_at-step.result c.level_of.ensures c.step_at-step.ensures

pub loop-stride-smaller-in-Sideways : goal.loop-stride-smaller-in-Sideways
loop-stride-smaller-in-Sideways c = less c.loop-stride.invariant.0 c.step_at-step.result c.level_of.ensures c.step_at-step.ensures

pub loop-stride-smaller-in-Down : goal.loop-stride-smaller-in-Down
loop-stride-smaller-in-Down c = less c.loop-stride.invariant.0 c.step_at-step.result c.level_of.ensures c.step_at-step.ensures

pub loop-stride-smaller-in-ByRegister : goal.loop-stride-smaller-in-ByRegister
loop-stride-smaller-in-ByRegister c = less c.loop-stride.invariant.0 c.step_at-step.result c.level_of.ensures c.step_at-step.ensures

pub loop-stride-smaller-in-PastCharacter : goal.loop-stride-smaller-in-PastCharacter
loop-stride-smaller-in-PastCharacter c = less c.loop-stride.invariant.0 c.step_at-step.result c.level_of.ensures c.step_at-step.ensures

pub loop-stride-smaller-in-Push : goal.loop-stride-smaller-in-Push
loop-stride-smaller-in-Push c = less c.loop-stride.invariant.0 c.step_at-step.result c.level_of.ensures c.step_at-step.ensures

pub loop-stride-smaller-in-Pop : goal.loop-stride-smaller-in-Pop
loop-stride-smaller-in-Pop c = less c.loop-stride.invariant.0 c.step_at-step.result c.level_of.ensures c.step_at-step.ensures

pub loop-stride-smaller : goal.loop-stride-smaller
loop-stride-smaller c = less c.loop-stride.invariant.0 c.step_at-step.result c.level_of.ensures c.step_at-step.ensures

pub loop-stride-preserved-in-Stay : goal.loop-stride-preserved-in-Stay
loop-stride-preserved-in-Stay c = stays c.loop-stride.invariant.0 c.step_at-step.result c.level_of.ensures c.step_at-step.ensures c.loop-stride.seen c.loop-stride.invariant.1 c.loop-stride.invariant.2 c.note-counts.ensures.value c.note-counts.ensures.out_after c.in-Stay.is

pub sideways-page-requires : goal.sideways-page-requires
sideways-page-requires c =
    record { ruled = (ruled c.loop-stride.invariant.0 c.step_at-step.result c.level_of.ensures c.step_at-step.ensures, c.loop-stride.invariant.0.sound.bounded, c.loop-stride.invariant.0.sound.rounds Direction.Sideways); n_bound = handed c.loop-stride.invariant.0 c.step_at-step.result c.level_of.ensures c.step_at-step.ensures Direction.Sideways c.in-Sideways.n (safe c.loop-stride.invariant.0 c.step_at-step.result c.level_of.ensures c.step_at-step.ensures (Turn.Sideways c.in-Sideways.stride c.in-Sideways.n) c.in-Sideways.is) }

pub loop-stride-preserved-in-Sideways : goal.loop-stride-preserved-in-Sideways
loop-stride-preserved-in-Sideways c = moves_sideways c.loop-stride.invariant.0 c.step_at-step.result c.level_of.ensures c.step_at-step.ensures c.loop-stride.seen c.loop-stride.invariant.1 c.loop-stride.invariant.2 c.note-counts.ensures.value c.note-counts.ensures.out_after c.in-Sideways.is c.sideways-page.ensures.value

pub down-page-requires : goal.down-page-requires
down-page-requires c =
    record { ruled = (ruled c.loop-stride.invariant.0 c.step_at-step.result c.level_of.ensures c.step_at-step.ensures, c.loop-stride.invariant.0.sound.bounded, c.loop-stride.invariant.0.sound.rounds Direction.Down); n_bound = handed c.loop-stride.invariant.0 c.step_at-step.result c.level_of.ensures c.step_at-step.ensures Direction.Down c.in-Down.n (safe c.loop-stride.invariant.0 c.step_at-step.result c.level_of.ensures c.step_at-step.ensures (Turn.Down c.in-Down.n) c.in-Down.is) }

pub loop-stride-preserved-in-Down : goal.loop-stride-preserved-in-Down
loop-stride-preserved-in-Down c = moves_down c.loop-stride.invariant.0 c.step_at-step.result c.level_of.ensures c.step_at-step.ensures c.loop-stride.seen c.loop-stride.invariant.1 c.loop-stride.invariant.2 c.note-counts.ensures.value c.note-counts.ensures.out_after c.in-Down.is c.down-page.ensures.value

pub moved_by_register-next-requires : goal.moved_by_register-next-requires
moved_by_register-next-requires c =
    record { ruled = (ruled c.loop-stride.invariant.0 c.step_at-step.result c.level_of.ensures c.step_at-step.ensures, c.loop-stride.invariant.0.sound.bounded, c.loop-stride.invariant.0.sound.rounds (direction_of c.in-ByRegister.register)); n_bound = handed c.loop-stride.invariant.0 c.step_at-step.result c.level_of.ensures c.step_at-step.ensures (direction_of c.in-ByRegister.register) c.in-ByRegister.n (safe c.loop-stride.invariant.0 c.step_at-step.result c.level_of.ensures c.step_at-step.ensures (Turn.ByRegister c.in-ByRegister.register c.in-ByRegister.n) c.in-ByRegister.is) }

pub loop-stride-preserved-in-ByRegister : goal.loop-stride-preserved-in-ByRegister
loop-stride-preserved-in-ByRegister c = moves_by_register c.loop-stride.invariant.0 c.step_at-step.result c.level_of.ensures c.step_at-step.ensures c.loop-stride.seen c.loop-stride.invariant.1 c.loop-stride.invariant.2 c.note-counts.ensures.value c.note-counts.ensures.out_after c.in-ByRegister.is c.moved_by_register-next.ensures.value c.moved_to-page.ensures

pub past_character-page-requires : goal.past_character-page-requires
past_character-page-requires c =
    let v = c.in-PastCharacter in
    let ok = safe c.loop-stride.invariant.0 c.step_at-step.result c.level_of.ensures c.step_at-step.ensures (Turn.PastCharacter v.width v.escapement) v.is in
    let by = handed c.loop-stride.invariant.0 c.step_at-step.result c.level_of.ensures c.step_at-step.ensures Direction.Sideways v.width ok.0 in
    record { ruled = (ruled c.loop-stride.invariant.0 c.step_at-step.result c.level_of.ensures c.step_at-step.ensures, c.loop-stride.invariant.0.sound.bounded, c.loop-stride.invariant.0.sound.rounds Direction.Sideways); width_bound = (by.0, small_word v.escapement ok.1, by.1) }

pub loop-stride-preserved-in-PastCharacter : goal.loop-stride-preserved-in-PastCharacter
loop-stride-preserved-in-PastCharacter c = moves_past c.loop-stride.invariant.0 c.step_at-step.result c.level_of.ensures c.step_at-step.ensures c.loop-stride.seen c.loop-stride.invariant.1 c.loop-stride.invariant.2 c.note-counts.ensures.value c.note-counts.ensures.out_after c.in-PastCharacter.is c.past_character-page.ensures.value

pub offset_bounds-page-page : goal.offset_bounds-page-page
offset_bounds-page-page c = omega (arith, room c.loop-stride.invariant.0 c.step_at-step.result c.level_of.ensures c.step_at-step.ensures c.loop-stride.seen c.loop-stride.invariant.1 c.loop-stride.invariant.2 c.note-counts.ensures.value c.note-counts.ensures.out_after c.in-Push.is)

pub bounds-page-page : goal.bounds-page-page
bounds-page-page c = room c.loop-stride.invariant.0 c.step_at-step.result c.level_of.ensures c.step_at-step.ensures c.loop-stride.seen c.loop-stride.invariant.1 c.loop-stride.invariant.2 c.note-counts.ensures.value c.note-counts.ensures.out_after c.in-Push.is

pub push-page-requires : goal.push-page-requires
push-page-requires c = (room c.loop-stride.invariant.0 c.step_at-step.result c.level_of.ensures c.step_at-step.ensures c.loop-stride.seen c.loop-stride.invariant.1 c.loop-stride.invariant.2 c.note-counts.ensures.value c.note-counts.ensures.out_after c.in-Push.is, (level_stored c.loop-stride.invariant.0 c.step_at-step.result c.level_of.ensures c.step_at-step.ensures c.loop-stride.seen c.loop-stride.invariant.1 c.loop-stride.invariant.2 c.note-counts.ensures.value c.note-counts.ensures.out_after c.in-Push.is).1)

pub loop-stride-preserved-in-Push : goal.loop-stride-preserved-in-Push
loop-stride-preserved-in-Push c = pushes c.loop-stride.invariant.0 c.step_at-step.result c.level_of.ensures c.step_at-step.ensures c.loop-stride.seen c.loop-stride.invariant.1 c.loop-stride.invariant.2 c.note-counts.ensures.value c.note-counts.ensures.out_after c.in-Push.is c.push-page.ensures

pub overflow_sub-last : goal.overflow_sub-last
overflow_sub-last c = below c.loop-stride.invariant.0 c.step_at-step.result c.level_of.ensures c.step_at-step.ensures c.loop-stride.seen c.loop-stride.invariant.1 c.loop-stride.invariant.2 c.note-counts.ensures.value c.note-counts.ensures.out_after c.in-Pop.is

pub offset_bounds-page-page-in-Pop : goal.offset_bounds-page-page-in-Pop
offset_bounds-page-page-in-Pop c = omega (arith, c.loop-stride.invariant.0.sound.shallow)

pub bounds-page-page-in-Pop : goal.bounds-page-page-in-Pop
bounds-page-page-in-Pop c = omega (arith, below c.loop-stride.invariant.0 c.step_at-step.result c.level_of.ensures c.step_at-step.ensures c.loop-stride.seen c.loop-stride.invariant.1 c.loop-stride.invariant.2 c.note-counts.ensures.value c.note-counts.ensures.out_after c.in-Pop.is, c.loop-stride.invariant.0.sound.shallow)

pub pop-page-requires : goal.pop-page-requires
pop-page-requires c = (below c.loop-stride.invariant.0 c.step_at-step.result c.level_of.ensures c.step_at-step.ensures c.loop-stride.seen c.loop-stride.invariant.1 c.loop-stride.invariant.2 c.note-counts.ensures.value c.note-counts.ensures.out_after c.in-Pop.is, refl)

pub loop-stride-preserved-in-Pop : goal.loop-stride-preserved-in-Pop
loop-stride-preserved-in-Pop c = pops c.loop-stride.invariant.0 c.step_at-step.result c.level_of.ensures c.step_at-step.ensures c.loop-stride.seen c.loop-stride.invariant.1 c.loop-stride.invariant.2 c.note-counts.ensures.value c.note-counts.ensures.out_after c.in-Pop.is c.pop-page.ensures

pub recalled-found-requires : goal.recalled-found-requires
recalled-found-requires c = record { told = c.loop-stride.invariant.0.ready.told; seen_is = c.loop-stride.invariant.2 }

pub loop-stride-preserved : goal.loop-stride-preserved
loop-stride-preserved c = selects c.loop-stride.invariant.0 c.step_at-step.result c.level_of.ensures c.step_at-step.ensures c.loop-stride.seen c.loop-stride.invariant.1 c.loop-stride.invariant.2 c.note-counts.ensures.value c.note-counts.ensures.out_after c.recalled-found.new.seen c.in-Select.is c.recalled-found.ensures.value c.recalled-found.ensures.seen_after c.select-page.ensures

pub returns-in-End : goal.returns-in-End
returns-in-End c =
    let w = c.loop-stride.invariant.0 in
    let a = asks c.loop-stride.invariant.0 c.step_at-step.result c.level_of.ensures c.step_at-step.ensures in
    let r = c.step_at-step.result in
    record {
      result_after = ended w r a c.in-End.is _ c.note-counts.ensures.out_after c.note-counts.result c.note-counts.ensures.value;
      few = few w r a c.note-counts.result c.note-counts.ensures.value;
    }

pub returns-in-Leave : goal.returns-in-Leave
returns-in-Leave c = record { result_after = left c.loop-stride.invariant.0 c.step_at-step.result (asks c.loop-stride.invariant.0 c.step_at-step.result c.level_of.ensures c.step_at-step.ensures) c.in-Leave.is; few = tt }
