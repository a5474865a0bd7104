-- What the output area and the counts come to as a walk goes on. Assumes nothing.
use Prim.Native.Nat.{ℕ, ◌+◌}
use native.Mathlib.Omega.{arith}
use mathlib.Core.Path.{◌≡◌, refl, ap}
use mathlib.Core.List.{List, ◌∷◌}
use lib.ListN.{length}
use Rattle.refusals.specs.Answer.{Answer, refused, given, and_then}
use Rattle.placements.specs.declared.Counts.{Counts}
use Rattle.placements.specs.Records.{Added, nothing, placed, missing, special}
use Rattle.placements.specs.Steps.{area_noted, count_noted, stored}
use Rattle.turns.specs.Placing.{Contents, adding}
use Rattle.page.specs.Steps.{Ending, through, finish}

-- the end with these three counts
abbrev ended : List ℕ → ℕ → ℕ → ℕ → Ending
ended area r m s = through area (record { records = r; missing = m; specials = s })

module _ (out : List ℕ) (counts : Counts) where
  -- what a command adds is noted, then what follows is finished: the same as to finish both
  pub finish_adding : (added : Added) (answer : Answer Contents)
      → finish out counts (and_then answer (λ p. given (adding added p))) ≡ finish (area_noted out counts.records added) (count_noted counts added) answer
  finish_adding added (refused number place) = refl
  finish_adding nothing (given p) = refl
  finish_adding (placed r) (given p) =
      ap (λ (n : ℕ). ended (stored out counts.records (r ∷ p.placements)) n (counts.missing + p.missing_characters) (counts.specials + p.specials)) (omega arith)
  finish_adding missing (given p) =
      ap (λ (n : ℕ). ended (stored out counts.records p.placements) (counts.records + length p.placements) n (counts.specials + p.specials)) (omega arith)
  finish_adding special (given p) =
      ap (λ (n : ℕ). ended (stored out counts.records p.placements) (counts.records + length p.placements) (counts.missing + p.missing_characters) n) (omega arith)
