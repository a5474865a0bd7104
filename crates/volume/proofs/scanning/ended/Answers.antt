-- `volume::scanning::ended` meets its contract: up to the first byte that is no 223 the tail goes on, and there or at the end it is judged. Assumes nothing.
use mathlib.Core.Path.{◌≡◌, sym, ap, ◌∙◌}
use mathlib.Core.Bool.{Bool, true, false, not}
use Rattle.std.proofs.Math.Bool.{not-not}
use mathlib.Core.List.{List}
use Prim.Native.Nat.{ℕ, ◌+◌, ◌-◌, ◌<◌, ◌≤◌}
use native.Mathlib.Omega.{arith}
use borrow.Author.Tests.{eqb-true, eqb-false}
use lib.Dec.{eqb}
use lib.ListN.{length, get_or, drop, take, length-drop}
use lib.Seq.{take_all}
use Rattle.std.specs.List.{position}
use Rattle.std.specs.declared.option.Option.{Option}
use Rattle.std.specs.declared.option.Option.TheVariants.{None}
use Rattle.std.proofs.lemmas.List.{get_or-drop}
use Rattle.std.proofs.lemmas.List.Quantifiers.{position-Some}
use Rattle.volume.specs.declared.Summary.{Summary}
use Rattle.volume.specs.Judged.{tail}
use Rattle.volume.specs.Steps.{summary_of}
use Rattle.volume.proofs.RunLaws.{none_passes}
use Rattle.volume.proofs.Tails.{tail_on, tail_wrong, tail_short, tail_done}
use Rattle.volume.proofs.scanning.ended.Goals as goal

found_from : (file : List ℕ) (at : ℕ) {found r : Option ℕ} → found ≡ position (λ (byte : ℕ). not (eqb byte 223)) (take (length file - at) (drop at file)) → found ≡ r
    → position (λ (byte : ℕ). not (eqb byte 223)) (drop at file) ≡ r
found_from file at is e =
    ap (position (λ (byte : ℕ). not (eqb byte 223))) (sym (take_all (length file - at) (drop at file) (omega (arith, length-drop at file)))) ∙ sym is ∙ e

-- the test of a byte from the place on is that of the file's byte
tested : (file : List ℕ) (at k : ℕ) (b : Bool) → not (eqb (get_or (drop at file) k 0) 223) ≡ b → eqb (get_or file (at + k) 0) 223 ≡ not b
tested file at k b e =
    ap (λ (byte : ℕ). eqb byte 223) (sym (get_or-drop at file k 0)) ∙ sym (not-not (eqb (get_or (drop at file) k 0) 223)) ∙ ap not e

filler_at : (file : List ℕ) (at k : ℕ) → not (eqb (get_or (drop at file) k 0) 223) ≡ false → get_or file (at + k) 0 ≡ 223
filler_at file at k e = eqb-true (get_or file (at + k) 0) 223 (tested file at k false e)

other_at : (file : List ℕ) (at k : ℕ) → not (eqb (get_or (drop at file) k 0) 223) ≡ true → get_or file (at + k) 0 ≡ 223 → ⊥
other_at file at k e = eqb-false (get_or file (at + k) 0) 223 (tested file at k true e)

-- all from the place on are 223s
all_filled : (file : List ℕ) (at : ℕ) → at ≤ length file → position (λ (byte : ℕ). not (eqb byte 223)) (drop at file) ≡ None → (found : Summary)
    → tail found at 0 (drop at file) ≡ tail found (length file) (length file - at) (drop (length file) file)
all_filled file at h e found =
    let whole : at + (length file - at) ≡ length file = omega arith in
    tail_on found file at (length file - at) (omega arith) (λ k below. filler_at file at k (none_passes (λ (byte : ℕ). not (eqb byte 223)) (drop at file) e k (omega (arith, length-drop at file))))
    ∙ ap (λ (m : ℕ). tail found m (length file - at) (drop m file)) whole

pub returns-in-Some-clause-result_value : goal.returns-in-Some-clause-result_value
returns-in-Some-clause-result_value c =
    let file = c.args.file.now in
    let at = c.args.at in
    let n = c.in-Some.fillers in
    let found = position-Some (λ (byte : ℕ). not (eqb byte 223)) (drop at file) n 0 (found_from file at c.first_unfilled.ensures c.in-Some.is) in
    let inside : at + n < length file = omega (arith, found.0, length-drop at file) in
    sym (tail_on (summary_of c.args.v) file at n (omega arith) (λ k h. filler_at file at k (found.2 k h))
    ∙ tail_wrong (summary_of c.args.v) file (at + n) n inside (other_at file at n found.1))

pub returns-then-file-at-lt4-clause-result_value : goal.returns-then-file-at-lt4-clause-result_value
returns-then-file-at-lt4-clause-result_value c =
    let file = c.args.file.now in
    let at = c.args.at in
    sym (all_filled file at c.requires (found_from file at c.first_unfilled.ensures c.in_default.is) (summary_of c.args.v)
    ∙ tail_short (summary_of c.args.v) file (length file) (length file - at) (omega arith) (omega arith))

pub returns-clause-result_value : goal.returns-clause-result_value
returns-clause-result_value c =
    let file = c.args.file.now in
    let at = c.args.at in
    sym (all_filled file at c.requires (found_from file at c.first_unfilled.ensures c.in_default.is) (summary_of c.args.v)
    ∙ tail_done (summary_of c.args.v) file (length file) (length file - at) (omega arith) (omega arith))
