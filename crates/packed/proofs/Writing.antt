-- The loop that writes the table: what it keeps. Assumes nothing.
use mathlib.Core.Path.{◌≡◌, sym, ap, subst, ◌∙◌}
use mathlib.Core.Bool.{true, cond}
use mathlib.Core.List.{List, [], ◌∷◌, ◌++◌, map}
use Prim.Native.Nat.{ℕ, ◌+◌, ◌-◌, ◌*◌, ◌≤◌, ◌<◌}
use native.Mathlib.Omega.{arith}
use lib.Dec.{ltb}
use lib.ListN.{length, take, drop, get_or, length-append}
use Rattle.refusals.specs.Answer.{given}
use Rattle.refusals.proofs.Answer.{given_same}
use Rattle.commands.specs.Commands.{Command}
use Rattle.widths.specs.Table.{width_record_size}
use Rattle.packed.specs.Rules.{ended, places}
use Rattle.packed.specs.Judged.{font_judged}
use Rattle.widths.specs.Entries.{Entry, entry_bytes}
use Rattle.packed.specs.Table.{font_checksum, entry_of, packets_for, packets_from, font_table}
use Rattle.packed.specs.Steps.{entry_at, Puttable, Writable, WrittenBy}
use Rattle.packed.proofs.Says.{clash}
use Rattle.packed.proofs.Standing.{Standing, judged_stands}
use Rattle.packed.specs.Noting.{NotedAt, none, one}
use Rattle.packed.proofs.Noted.{noted_at}
use Rattle.packed.proofs.Preambles.{Preambled, preambled}
use Rattle.packed.proofs.Written.{area_with, area_length, Below, below_start, fewer, below_next, below_all}

-- the preamble of a file that was judged
nonempty : (pk : List ℕ) (past : List Command) → Standing pk past → ended past ≡ true → Preambled pk (font_checksum past)
nonempty pk [] stand e = absurd (let z = clash (sym e) in omega arith)
nonempty pk (c ∷ past) stand e = preambled pk c past stand

pub judged_preambled : (pk : List ℕ) (past : List Command) → font_judged pk ≡ given past → Preambled pk (font_checksum past)
judged_preambled pk past e = let j = judged_stands pk past e in nonempty pk past j.stand j.end

-- the records below a code are written
pub record Writing (pk : List ℕ) (scale : ℕ) (noted entry : List ℕ) (checksum : ℕ) (out : List ℕ) (written code : ℕ) : Type 0 where
  pub can : Writable pk scale noted (length entry)
  pub sum : checksum ≡ font_checksum can.past
  pub below : Below scale checksum can.past entry code written out

pub writing_start : (pk : List ℕ) (scale : ℕ) (noted entry : List ℕ) (checksum : ℕ) (can : Writable pk scale noted (length entry)) → checksum ≡ font_checksum can.past
    → Writing pk scale noted entry checksum entry 0 0
writing_start pk scale noted entry checksum can sum = record { can = can; sum = sum; below = below_start scale checksum can.past entry }

module _ (pk : List ℕ) (scale : ℕ) (noted entry : List ℕ) (checksum : ℕ) (out : List ℕ) (written code : ℕ) (w : Writing pk scale noted entry checksum out written code) where
  abbrev past : List Command
  past = w.can.past

  abbrev make : Command → Entry
  make = entry_of checksum scale

  enough : width_record_size * length (map make (packets_from 256 0 past)) ≤ length entry
  enough = subst (λ (n : ℕ). width_record_size * length (map (entry_of n scale) (packets_from 256 0 past)) ≤ length entry) (sym w.sum) w.can.enough

  at_is : (code : ℕ) → get_or noted code 0 ≡ get_or (places past) code 0
  at_is code = ap (λ (l : List ℕ). get_or l code 0) w.can.places_are

  stand : Standing pk past
  stand = (judged_stands pk past w.can.judged).stand

  pub writing_length : length out ≡ length entry
  writing_length =
      let later = map make (packets_from (256 - code) code past) in
      let within : width_record_size * length w.below.done ≤ length entry = omega (arith, ap length w.below.all, length-append w.below.done later, enough) in
      ap length w.below.area ∙ area_length w.below.done entry within

  module _ (more : code < 256) where
    at_least : length w.below.done + length (packets_for code past) ≤ length (map make (packets_from 256 0 past))
    at_least = fewer scale checksum past pk entry code written out w.below more

    pub putting : 0 < get_or noted code 0 → Puttable pk (get_or noted code 0) written (length out)
    putting some = go (noted_at pk past stand code)
      where
        go : NotedAt pk past code → Puttable pk (get_or noted code 0) written (length out)
        go (none blank empty) = absurd (omega (arith, some, at_is code, blank))
        go (one c only is) =
            rw (at_is code) (
            record {
              inside = is.inside;
              fields_there = is.room;
              space = omega (arith, w.below.ends, at_least, ap length only, enough, writing_length);
            }
            )

    pub writing_on : Writing
        pk
        scale
        noted
        entry
        checksum
        (cond (ltb 0 (get_or noted code 0)) (take written out ++ entry_bytes (entry_at checksum scale pk (get_or noted code 0)) ++ drop (written + width_record_size) out) out)
        (cond (ltb 0 (get_or noted code 0)) (written + width_record_size) written)
        (code + 1)
    writing_on =
        record {
          can = w.can;
          sum = w.sum;
          below = rw (at_is code) (below_next scale checksum past pk entry code written out w.below more (noted_at pk past stand code));
        }

  pub writing_end : 256 ≤ code → WrittenBy pk scale entry out
  writing_end h other judged =
      let same : past ≡ other = given_same past other (sym w.can.judged ∙ judged) in
      below_all scale checksum past entry code written out w.below h
      ∙ ap (λ (n : ℕ). area_with (map (entry_of n scale) (packets_from 256 0 past)) entry) w.sum
      ∙ ap (λ (l : List Command). area_with (font_table scale l) entry) same
