-- `list::fonts::same_definition` meets its contract: the part that is compared holds what the definition says. Assumes nothing.
use mathlib.Core.Path.{ap, ◌∙◌}
use mathlib.Core.List.{List}
use Prim.Native.Nat.{ℕ, ◌-◌}
use lib.ListN.{take, drop}
use Rattle.list.specs.declared.Part.{Part}
use Rattle.list.specs.Rules.{same_bytes}
use Rattle.list.proofs.SameBytes.{same_pointwise}
use Rattle.list.proofs.Sayings.{part_says}
use Rattle.list.proofs.fonts.same_definition.Goals as goal

pub returns-in-Some : goal.returns-in-Some
returns-in-Some c = λ d rest ahead define.
    let a = c.args in
    c.eq.ensures ∙ same_pointwise _ _
    ∙ ap (λ (part : Part). same_bytes (take (part.end - part.start) (drop part.start a.file.now)) a.said.now) (c.in-Some.ensures.2 d rest ahead define)
    ∙ ap (λ (bytes : List ℕ). same_bytes bytes a.said.now) (part_says a.file.now a.at ahead define)
