-- What is accepted is exactly what is lawful. Assumes nothing.
use mathlib.Core.Path.{◌≡◌, refl, sym, ◌∙◌}
use mathlib.Core.Bool.{true≢false}
use mathlib.Core.List.{List}
use mathlib.Core.Logic.{◌↔◌}
use Prim.Native.Nat.{ℕ}
use Rattle.std.specs.Prelude.{IsOk}
use Rattle.std.specs.declared.result.Result.{Result}
use Rattle.std.specs.declared.result.Result.TheVariants.{Ok, Err}
use Rattle.refusals.specs.declared.Refusal.{Refusal}
use Rattle.refusals.specs.Answer.{answered}
use Rattle.refusals.proofs.Answer.{given_not_refused}
use Rattle.list.specs.Lawful.{Lawful}
use Rattle.volume.specs.declared.Summary.{Summary}
use Rattle.volume.specs.Judged.{judged}
use Rattle.volume.proofs.Accepts.{accepts_lawful, lawful_accepted}

-- an answer that says the judgement has counts exactly if the file is lawful
pub accepted_lawful : (file : List ℕ) (r : Result Summary Refusal) → answered r ≡ judged file → IsOk r ↔ Lawful file
accepted_lawful file (Ok found) e = (λ ok. accepts_lawful file found (sym e), λ lawful. refl)
accepted_lawful file (Err why) e = (
  λ ok. absurd (true≢false (sym ok)),
  λ lawful. let accepted = lawful_accepted file lawful in absurd (given_not_refused accepted.0 _ _ (sym accepted.1 ∙ sym e)),
)
