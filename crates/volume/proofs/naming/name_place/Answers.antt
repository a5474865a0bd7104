-- `volume::naming::name_place` meets its contract: the file is judged, then the table of its definitions is asked. Assumes nothing.
use mathlib.Core.Path.{sym, ap, ◌∙◌, subst}
use mathlib.Core.Bool.{false}
use mathlib.Core.List.{List}
use Prim.Native.Nat.{ℕ}
use lib.ListN.{length}
use lib.IntN.{ℤ}
use mir.Syntax.{w64}
use mir.Facts.{to_z-of_z}
use Rattle.std.proofs.lemmas.Result.{err_from_is_err_and}
use Rattle.std.specs.declared.result.Result.TheVariants.{Err}
use Rattle.refusals.specs.Answer.{Answer, answered, and_then}
use Rattle.list.specs.declared.Part.{Part}
use Rattle.list.specs.Past.{definition_of}
use Rattle.volume.specs.declared.Summary.{Summary}
use Rattle.volume.specs.History.{history}
use Rattle.volume.specs.Names.{named_by}
use Rattle.volume.specs.Steps.{Inside}
use Rattle.volume.proofs.naming.name_place.Goals as goal

-- what follows the judgement of a file
next : List ℕ → ℤ → Summary → Answer Part
next file number found = named_by (definition_of false number (history file))

pub returns-in_err-scan : goal.returns-in_err-scan
unfolding next
returns-in_err-scan c =
    let (passed, is, same) = err_from_is_err_and c.from_residual.result c.from_residual.ensures.1 in (
      ap answered (is ∙ ap Err same) ∙ ap (λ (a : Answer Summary). and_then a (next c.args.file.now c.args.number)) c.in_err-scan.ensures.result_value,
      subst (Inside (length c.args.file.now)) (sym is) tt,
    )

pub returns : goal.returns
unfolding next
returns c =
    let file = c.args.file.now in
    let kept = c.in_ok-scan.ensures.scan_keeps in
    let named = c.named_by.ensures (history file) kept.1 kept.2 kept.3 in (
      named.0
          ∙ ap (λ (z : ℤ). named_by (definition_of false z (history file))) (to_z-of_z {w = w64} c.ranges.number)
          ∙ ap (λ (a : Answer Summary). and_then a (next file c.args.number)) c.in_ok-scan.ensures.result_value,
      named.1,
    )
