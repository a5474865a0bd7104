-- Runs of plain commands, pushes, pops and selections: they leave the spot of a walk as it is, stay on a chosen page and go from any other. Assumes nothing.
use Prim.Native.Nat.{ℕ, ◌+◌, ◌-◌, ◌≤◌, ◌<◌, max}
use mathlib.Core.Path.{◌≡◌, refl, ap, ap₂, ◌∙◌, subst}
use mathlib.Core.Bool.{Bool, true, false, cond, ◌&&◌, ◌||◌, false≢true, and-eq-true_iff}
use mathlib.Core.List.{List, []}
use native.Mathlib.Omega.{arith}
use lib.Dec.{ltb, leb}
use lib.ListN.{length, get_or, drop}
use borrow.Author.Tests.{ltb-true, leb-true}
use Rattle.commands.specs.declared.Kind.{Kind}
use Rattle.commands.specs.declared.Kind.TheVariants.{SetCharacter, SetRule, PutCharacter, PutRule, Nop, Bop, Eop, Push, Pop, Right, W, X, Down, Y, Z, Select, Special, Define, Pre, Post, PostPost, Undefined}
use Rattle.commands.specs.Kinds.{kind_of, is}
use Rattle.commands.specs.Lengths.{fixed_length, lengths}
use Rattle.commands.specs.Commands.{kind_of_command}
use Rattle.commands.proofs.Ranges.{constant_on}
use Rattle.list.specs.Past.{depth_after}
use Rattle.list.specs.Steps.{command}
use Rattle.volume.specs.Steps.{is_plain, Passes, none_more, one_more}
use Rattle.volume.proofs.PlainLaws.{plain_cases}
use Rattle.volume.proofs.ShortLaws.{bare_ahead}
use Rattle.cutting.specs.declared.Spot.{Spot}
use Rattle.cutting.specs.declared.Run.{Run}
use Rattle.cutting.specs.declared.Fate.{Fate}
use Rattle.cutting.specs.Steps.{is_idle, is_short, run_at, Runs, runs_none, runs_on, RunTo, spot_after, fate_of}

-- ---- what one of their kinds does to a walk

pub record Idle (list : List ℕ) (p : Spot) (kind : Kind) : Type 0 where
  pub same_spot : spot_after list kind p ≡ p
  pub same_fate : (chosen : Bool) → fate_of kind chosen p ≡ cond (p.on && chosen) Fate.Copied Fate.Dropped
  pub not_last : is kind PostPost ≡ false

pub idle : (list : List ℕ) (p : Spot) (kind : Kind) → is_idle kind ≡ true → Idle list p kind
idle list p SetCharacter t = record { same_spot = refl; same_fate = λ chosen. refl; not_last = refl }
idle list p SetRule t = record { same_spot = refl; same_fate = λ chosen. refl; not_last = refl }
idle list p PutCharacter t = record { same_spot = refl; same_fate = λ chosen. refl; not_last = refl }
idle list p PutRule t = record { same_spot = refl; same_fate = λ chosen. refl; not_last = refl }
idle list p Nop t = record { same_spot = refl; same_fate = λ chosen. refl; not_last = refl }
idle list p Bop t = absurd (false≢true t)
idle list p Eop t = absurd (false≢true t)
idle list p Push t = record { same_spot = refl; same_fate = λ chosen. refl; not_last = refl }
idle list p Pop t = record { same_spot = refl; same_fate = λ chosen. refl; not_last = refl }
idle list p Right t = record { same_spot = refl; same_fate = λ chosen. refl; not_last = refl }
idle list p W t = record { same_spot = refl; same_fate = λ chosen. refl; not_last = refl }
idle list p X t = record { same_spot = refl; same_fate = λ chosen. refl; not_last = refl }
idle list p Down t = record { same_spot = refl; same_fate = λ chosen. refl; not_last = refl }
idle list p Y t = record { same_spot = refl; same_fate = λ chosen. refl; not_last = refl }
idle list p Z t = record { same_spot = refl; same_fate = λ chosen. refl; not_last = refl }
idle list p Select t = record { same_spot = refl; same_fate = λ chosen. refl; not_last = refl }
idle list p Special t = absurd (false≢true t)
idle list p Define t = absurd (false≢true t)
idle list p Pre t = absurd (false≢true t)
idle list p Post t = absurd (false≢true t)
idle list p PostPost t = absurd (false≢true t)
idle list p Undefined t = absurd (false≢true t)

-- ---- plain commands and short ones

-- a plain command is one of a run
plain_idle : (kind : Kind) → is_plain kind ≡ true → is_idle kind ≡ true
plain_idle kind t = rw t refl

-- it leaves the depth
plain_depth : (n : ℕ) (kind : Kind) → is_plain kind ≡ true → depth_after kind n ≡ n
plain_depth n = plain_cases (λ kind. depth_after kind n ≡ n) refl refl refl refl refl refl refl refl refl refl refl

-- any command goes at most one deeper
pub depth_after_lem : (kind : Kind) (n : ℕ) → depth_after kind n ≤ n + 1
depth_after_lem kind n = by (is kind Push) (is kind Pop)
  where
    by : (push pop : Bool) → cond push (n + 1) (cond pop (n - 1) n) ≤ n + 1
    by true pop = omega arith
    by false true = omega arith
    by false false = omega arith

-- a short command has no parameters and is one of a run
short_bare : (opcode : ℕ) → is_short opcode ≡ true → (opcode < 239) × (fixed_length opcode ≡ 0) × (is_idle (kind_of opcode) ≡ true)
short_bare opcode t = by (leb 141 opcode && ltb opcode 143) refl t
  where
    by : (steps : Bool) → (leb 141 opcode && ltb opcode 143) ≡ steps → (steps || (leb 171 opcode && ltb opcode 235)) ≡ true
        → (opcode < 239) × (fixed_length opcode ≡ 0) × (is_idle (kind_of opcode) ≡ true)
    by true ranged _ =
        let (from, below) = (and-eq-true_iff (leb 141 opcode) (ltb opcode 143)).0 ranged in
        let low = leb-true 141 opcode from in
        let high = ltb-true opcode 143 below in (
          omega arith,
          constant_on fixed_length 0 141 2 (unfold fixed_length lengths in refl) low (omega arith),
          constant_on (λ x. is_idle (kind_of x)) true 141 2 (unfold kind_of in refl) low (omega arith),
        )
    by false _ ranged =
        let (from, below) = (and-eq-true_iff (leb 171 opcode) (ltb opcode 235)).0 ranged in
        let low = leb-true 171 opcode from in
        let high = ltb-true opcode 235 below in (
          omega arith,
          constant_on fixed_length 0 171 64 (unfold fixed_length lengths in refl) low (omega arith),
          constant_on (λ x. is_idle (kind_of x)) true 171 64 (unfold kind_of in refl) low (omega arith),
        )

-- ---- runs

-- a run ends where it starts or behind
pub runs_ahead : {file : List ℕ} {from r : Run} → Runs file from r → from.at ≤ r.at
runs_ahead runs_none = omega arith
runs_ahead (runs_on c rest run f t) = omega (arith, runs_ahead run)

-- its depth is at most its place
pub runs_shallow : {file : List ℕ} {from r : Run} → from.depth ≤ from.at → Runs file from r → r.depth ≤ r.at
runs_shallow h runs_none = h
runs_shallow h (runs_on {r = r} c rest run f t) = omega (arith, runs_shallow h run, depth_after_lem (kind_of_command c) r.depth)

-- and at most its greatest depth
pub runs_reached : {file : List ℕ} {from r : Run} → from.depth ≤ from.greatest → Runs file from r → r.depth ≤ r.greatest
runs_reached h runs_none = h
runs_reached h (runs_on c rest run f t) = omega arith

module _ {file : List ℕ} {from : Run} {depth greatest : ℕ} where
  -- over plain commands
  pub runs_plain : {at next : ℕ} → Runs file from (run_at at depth greatest) → depth ≤ greatest → Passes file at next → Runs file from (run_at next depth greatest)
  runs_plain run deep none_more = run
  runs_plain run deep (one_more {at = middle} c rest passed f t) =
      let same = plain_depth depth (kind_of_command c) t in
      let reached : max greatest depth ≡ greatest = omega arith in
      subst (Runs file from) (ap₂ (run_at (middle + (1 + length c.params))) same (ap (max greatest) same ∙ reached))
      (runs_on c rest (runs_plain run deep passed) f (plain_idle (kind_of_command c) t))

  -- over a push, a pop or a short selection
  pub runs_short : {at : ℕ} → Runs file from (run_at at depth greatest) → at < length file → is_short (get_or file at 0) ≡ true
      → {kind : Kind} {after most : ℕ} → kind ≡ kind_of (get_or file at 0) → after ≡ depth_after kind depth → most ≡ max greatest after
      → Runs file from (run_at (at + 1) after most)
  runs_short {at} run starts short kind_is after_is most-is =
      let (below, bare, t) = short_bare (get_or file at 0) short in
      rw (most-is, after_is, kind_is) (runs_on (command (get_or file at 0) []) (drop (at + 1) file) run (bare_ahead file at (get_or file at 0) starts refl below bare) t)

-- so too outside pages, where there is none
pub run_ahead : (file : List ℕ) (on : Bool) (from r : Run) → RunTo file on from r → from.at ≤ r.at
run_ahead file true from r run = runs_ahead run
run_ahead file false from r same = omega (arith, ap (λ (q : Run). q.at) same)
