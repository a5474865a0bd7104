-- `turns::steps::Scene::step_at` meets its contract: what the command that stands at a place asks. Assumes nothing.
use mathlib.Core.Path.{◌≡◌, sym, ap, ◌∙◌, subst}
use mathlib.Core.List.{List}
use Prim.Native.Nat.{ℕ, ◌+◌}
use native.Mathlib.Omega.{arith}
use lib.ListN.{length, drop}
use Rattle.commands.specs.Commands.{Command, whole}
use Rattle.commands.specs.Reading.{read_at}
use Rattle.commands.specs.declared.Reading.{Reading}
use Rattle.std.specs.declared.result.Result.{Result}
use Rattle.std.specs.declared.result.Result.TheVariants.{Ok}
use Rattle.refusals.specs.declared.Refusal.{Refusal}
use Rattle.refusals.specs.Answer.{answered}
use Rattle.commands.proofs.Readings.{command_at, Reads, given_reads}
use Rattle.turns.specs.Steps.{terms_setting, CommandAsks}
use Rattle.turns.proofs.steps.Scene.step_at.Goals as goal

-- the command that was read
read : (file : List ℕ) (at : ℕ) {answer : Result Reading Refusal} (r : Reading) → answered answer ≡ read_at file at → answer ≡ Ok r → Reads file at r
read file at r told is = given_reads file at r (sym told ∙ ap answered is)

pub slice_bounds-asked_by-end : goal.slice_bounds-asked_by-end
slice_bounds-asked_by-end c = omega (arith, (read c.args.file.now c.args.at c.in-Ok.reading c.read.ensures c.in-Ok.is).inside)

pub asked_by-asked-requires : goal.asked_by-asked-requires
asked_by-asked-requires c = (read c.args.file.now c.args.at c.in-Ok.reading c.read.ensures c.in-Ok.is).good

pub returns : goal.returns
returns c volume command rest stands =
    let r = c.in-Ok.reading in
    let file = c.args.file.now in
    let reads = read file c.args.at r c.read.ensures c.in-Ok.is in
    let same : command_at file r ≡ command =
    (let e : whole (command_at file r) (drop r.next file) ≡ whole command rest = sym reads.ahead ∙ stands in cc) in (
      subst (λ (read-command : Command). CommandAsks (terms_setting c.args.self.now.terms volume) c.args.self.now.level c.args.self.now.font read-command c.asked_by-asked.result) same (c.asked_by-asked.ensures volume),
      subst (λ (read-command : Command). r.next ≡ c.args.at + (1 + length read-command.params)) same (omega (arith, reads.nexts, reads.starts)),
    )
