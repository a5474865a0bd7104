-- What holds of every kind that may stand at a stage, by one table over stages and kinds, holds of each command that keeps the rules. Assumes nothing.
use mathlib.Core.Path.{◌≡◌, refl}
use mathlib.Core.Bool.{Bool, true, false, cond, not, ◌&&◌, and-eq-true_iff}
use mathlib.Core.List.{List}
use borrow.Author.Tests.{not-false}
use Rattle.commands.specs.declared.Kind.{Kind}
use Rattle.commands.specs.declared.Kind.TheVariants.{Pre}
use Rattle.commands.specs.Kinds.{is}
use Rattle.commands.specs.Commands.{Command, kind_of_command}
use Rattle.list.specs.declared.Stage.{Stage}
use Rattle.list.specs.Past.{is_a, stage}
use Rattle.list.specs.Rules.{is_at_start, lawful_preamble, may_stand, Allowed}

-- the first command is a lawful pre
pub first_pre : (past : List Command) (c : Command) → Allowed past c → is_at_start (stage past) ≡ true → (is_a Pre c ≡ true) × (lawful_preamble c.params ≡ true)
first_pre past c allowed e =
    let broken : (is_at_start (stage past) && not (is_a Pre c && lawful_preamble c.params)) ≡ false = allowed.preamble in
    (and-eq-true_iff (is_a Pre c) (lawful_preamble c.params)).0 (not-false _ (rw e at broken))

-- what a kind does at a stage where it may stand, only pre at the start; elsewhere what it should do
abbrev pub compared : {A : Type 0} → (Stage → Kind → A) → (Stage → Kind → A) → Stage → Kind → A
compared does lawful at kind = cond (cond (is_at_start at) (is kind Pre) (may_stand at kind)) (does at kind) (lawful at kind)

-- where all kinds do as they should wherever they may stand, a command that keeps the rules does
pub does_lawfully : {A : Type 0} (does lawful : Stage → Kind → A) → ((at : Stage) (kind : Kind) → compared does lawful at kind ≡ lawful at kind)
    → {past : List Command} {c : Command} → Allowed past c → does (stage past) (kind_of_command c) ≡ lawful (stage past) (kind_of_command c)
does_lawfully does lawful all {past} {c} allowed = rw (by (is_at_start (stage past)) refl) at (all (stage past) (kind_of_command c))
  where
    by : (start : Bool) → is_at_start (stage past) ≡ start → cond start (is_a Pre c) (may_stand (stage past) (kind_of_command c)) ≡ true
    by true e = (first_pre past c allowed e).0
    by false e = not-false (may_stand (stage past) (kind_of_command c)) allowed.standing
