-- A command that a walk comes to, as the code holds it. Assumes nothing.
use mathlib.Core.Path.{◌≡◌, refl, sym}
use mathlib.Core.List.{List}
use Prim.Native.Nat.{ℕ}
use Rattle.refusals.specs.Answer.{Answer, refused, given, and_then}
use Rattle.refusals.proofs.Answer.{given_same, given_not_refused, then_given}
use Rattle.commands.specs.declared.Reading.{Reading}
use Rattle.commands.specs.Commands.{Command, kind_of_command}
use Rattle.commands.specs.Reading.{read_at}
use Rattle.commands.proofs.Readings.{command_at, Reads, given_reads}
use Rattle.cutting.specs.declared.Spot.{Spot}
use Rattle.cutting.specs.declared.Step.{Step}
use Rattle.cutting.specs.Steps.{spot_after, fate_of, step_of}
use Rattle.cutting.proofs.Walks.{Walk, never_refused}

-- the reading that it was made from, and what it says of it
pub record Stepped (file list : List ℕ) (at : ℕ) (p : Spot) (s : Step) : Type 0 where
  pub reading : Reading
  pub reads : Reads file at reading
  pub at_is : s.at ≡ at
  pub next_is : s.next ≡ reading.next
  pub kind_is : s.kind ≡ kind_of_command (command_at file reading)
  pub spot_is : s.after ≡ spot_after list s.kind p
  pub fate_is : s.fate ≡ fate_of s.kind s.after.here p

module _ (file list : List ℕ) (at : ℕ) (p : Spot) where
  abbrev asked : Answer Step
  asked = and_then (read_at file at) (λ reading. given (step_of list at p reading))

  pub stepped : (s : Step) → asked ≡ given s → Stepped file list at p s
  stepped s e =
      let (reading, read, made) = then_given (read_at file at) (λ reading. given (step_of list at p reading)) s e in
      let is : s ≡ step_of list at p reading = sym (given_same (step_of list at p reading) s made) in
      rw is (
      record {
        reading = reading;
        reads = given_reads file at reading read;
        at_is = refl;
        next_is = refl;
        kind_is = refl;
        spot_is = refl;
        fate_is = refl;
      }
      )

  -- in an accepted file there is one
  pub never_out : {past : List Command} → Walk file at past → (number place : ℕ) → asked ≡ refused number place → ⊥
  never_out w number place = go (read_at file at) refl
    where
      go : (a : Answer Reading) → read_at file at ≡ a → and_then a (λ reading. given (step_of list at p reading)) ≡ refused number place → ⊥
      go (refused n there) read e = never_refused w n there read
      go (given reading) read e = given_not_refused (step_of list at p reading) number place e
