-- What reading at a place tells: a reading is the whole command that stands there, and a refusal names the place and why nothing was read.
-- Assumes nothing.
use mathlib.Core.Path.{◌≡◌, refl, ap, sym, ◌∙◌}
use mathlib.Core.List.{List, ◌++◌}
use Prim.Native.Nat.{ℕ, ◌+◌, ◌-◌, ◌<◌, ◌≤◌}
use native.Mathlib.Omega.{arith}
use lib.ListN.{length, get_or, take, drop, length-drop}
use lib.Seq.{take_at, drop_at, drop-drop, length-take-le}
use Rattle.refusals.specs.Numbers.{file_ends, undefined_opcode}
use Rattle.refusals.specs.Answer.{refused, given}
use Rattle.commands.specs.declared.Reading.{Reading}
use Rattle.commands.specs.Lengths.{size_of}
use Rattle.commands.specs.Commands.{Command, Whole, form, Front, cut, undefined, whole, front}
use Rattle.commands.specs.Reading.{reading, read_at}
use Rattle.commands.proofs.Fronts.{after_undefined, after_cut, after_whole, front_at, front_sound, front_length}

-- ---- the answer, case by case

module _ (file : List ℕ) (at : ℕ) where
  -- where a byte stands, as a look at it says
  module _ {opcode : ℕ} (stands : (at < length file) × ((otherwise : ℕ) → opcode ≡ get_or file at otherwise)) where
    pub read_undefined : 250 ≤ opcode → refused undefined_opcode at ≡ read_at file at
    read_undefined h = rw (front_at file at stands.0, ← stands.1 0, after_undefined opcode (drop (at + 1) file) h)

    module _ (defined : opcode < 250) where
      pub read_cut : length file < at + 1 + size_of opcode (drop (at + 1) file) → refused file_ends at ≡ read_at file at
      read_cut h =
          let short : length (drop (at + 1) file) < size_of opcode (drop (at + 1) file) = simp length-drop (omega arith) in
          rw (front_at file at stands.0, ← stands.1 0, after_cut opcode (drop (at + 1) file) defined short)

      pub read_whole : {next : ℕ} → next ≡ at + 1 + size_of opcode (drop (at + 1) file) → next ≤ length file
          → given (record { opcode = opcode; start = at + 1; next = next }) ≡ read_at file at
      read_whole e h =
          let fits : size_of opcode (drop (at + 1) file) ≤ length (drop (at + 1) file) = simp length-drop (omega arith) in
          rw (
            front_at file at stands.0,
            ← stands.1 0,
            after_whole opcode (drop (at + 1) file) defined fits,
            length-take-le (size_of opcode (drop (at + 1) file)) (drop (at + 1) file) fits,
            e,
          )

-- ---- what an answer tells

-- the command that a reading of a file names
abbrev pub command_at : List ℕ → Reading → Command
command_at file r = record { opcode = r.opcode; params = take (r.next - r.start) (drop r.start file) }

-- what the reading at a place of a file tells
pub record Reads (file : List ℕ) (at : ℕ) (r : Reading) : Type 0 where
  pub starts : r.start ≡ at + 1
  pub nexts : r.next ≡ r.start + length (command_at file r).params
  pub inside : r.next ≤ length file
  pub good : Whole (command_at file r)
  pub stands : drop at file ≡ form (command_at file r) ++ drop r.next file
  pub ahead : front (drop at file) ≡ whole (command_at file r) (drop r.next file)

module _ (file : List ℕ) (at : ℕ) where
  whole_reads : (c : Command) (rest : List ℕ) → front (drop at file) ≡ whole c rest
      → Reads file at (record { opcode = c.opcode; start = at + 1; next = at + 1 + length c.params })
  whole_reads c rest e =
      let (good, stands) = front_sound (drop at file) c rest e in
      let after : drop (at + 1) file ≡ c.params ++ rest = sym (drop-drop 1 at file) ∙ ap (drop 1) stands in
      let count : at + 1 + length c.params - (at + 1) ≡ length c.params = omega arith in
      let params_are : take (at + 1 + length c.params - (at + 1)) (drop (at + 1) file) ≡ c.params = rw (after, count) (take_at c.params rest _ refl) in
      let rest_is : drop (at + 1 + length c.params) file ≡ rest =
      sym (drop-drop (length c.params) (at + 1) file) ∙ ap (drop (length c.params)) after ∙ drop_at c.params rest _ refl in
      record {
        starts = refl;
        nexts = rw params_are;
        inside = omega (arith, front_length (drop at file) c rest e, length-drop at file);
        good = rw params_are good;
        stands = rw (params_are, rest_is) stands;
        ahead = rw (params_are, rest_is) e;
      }

  pub given_reads : (r : Reading) → read_at file at ≡ given r → Reads file at r
  given_reads r e = go (front (drop at file)) refl e
    where
      go : (x : Front) → front (drop at file) ≡ x → reading at x ≡ given r → Reads file at r
      go cut f e = let z : ◌≡◌ {A = ℕ} 0 1 = cc in absurd (omega arith)
      go undefined f e = let z : ◌≡◌ {A = ℕ} 0 1 = cc in absurd (omega arith)
      go (whole c rest) f e =
          let reading-is : record { opcode = c.opcode; start = at + 1; next = at + 1 + length c.params } ≡ r = cc in
          rw (← reading-is) (whole_reads c rest f)
