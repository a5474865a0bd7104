-- `volume::plain::pass_characters` meets its contract: up to the first byte above 127 stand characters of one byte. Assumes nothing.
use mathlib.Core.Path.{◌≡◌, sym, ap, subst, ◌∙◌}
use mathlib.Core.Bool.{false}
use mathlib.Core.List.{List}
use Prim.Native.Nat.{ℕ, ◌+◌, ◌-◌, ◌<◌}
use native.Mathlib.Omega.{arith}
use lib.Dec.{leb}
use lib.ListN.{length, get_or, drop, take, length-drop}
use lib.Seq.{take_all}
use Rattle.std.specs.List.{position}
use Rattle.std.specs.declared.option.Option.{Option}
use Rattle.std.proofs.lemmas.List.{get_or-drop}
use Rattle.std.proofs.lemmas.Bool.{leb-false}
use Rattle.std.proofs.lemmas.List.Quantifiers.{position-Some}
use Rattle.volume.specs.Steps.{Passes, none_more}
use Rattle.volume.proofs.RunLaws.{characters_run, none_passes}
use Rattle.volume.proofs.plain.pass_characters.Goals as goal

-- the part that is searched is all from the place on
all_from : (file : List ℕ) (at : ℕ) → take (length file - at) (drop at file) ≡ drop at file
all_from file at = take_all (length file - at) (drop at file) (omega (arith, length-drop at file))

low_at : (file : List ℕ) (at k : ℕ) → leb 128 (get_or (drop at file) k 0) ≡ false → get_or file (at + k) 0 < 128
low_at file at k e = leb-false 128 _ (ap (leb 128) (sym (get_or-drop at file k 0)) ∙ e)

pub returns-then-file-at : goal.returns-then-file-at
returns-then-file-at c = none_more

-- what was found of the part is found of all from the place on
found_from : (file : List ℕ) (at : ℕ) {found r : Option ℕ} → found ≡ position (λ (byte : ℕ). leb 128 byte) (take (length file - at) (drop at file)) → found ≡ r
    → position (λ (byte : ℕ). leb 128 byte) (drop at file) ≡ r
found_from file at is e = ap (position (λ (byte : ℕ). leb 128 byte)) (sym (all_from file at)) ∙ sym is ∙ e

pub overflow_add-result : goal.overflow_add-result
overflow_add-result c =
    let file = c.args.file.now in
    let at = c.args.at in
    let found = position-Some (λ (byte : ℕ). leb 128 byte) (drop at file) c.in-Some.characters 0 (found_from file at c.first_long.ensures c.in-Some.is) in
    omega (arith, found.0, length-drop at file)

pub returns-in-Some : goal.returns-in-Some
returns-in-Some c =
    let file = c.args.file.now in
    let at = c.args.at in
    let found = position-Some (λ (byte : ℕ). leb 128 byte) (drop at file) c.in-Some.characters 0 (found_from file at c.first_long.ensures c.in-Some.is) in
    characters_run file at c.in-Some.characters (omega (arith, found.0, length-drop at file)) (λ k h. low_at file at k (found.2 k h))

pub returns-in-None : goal.returns-in-None
returns-in-None c =
    let file = c.args.file.now in
    let at = c.args.at in
    let none = none_passes (λ (byte : ℕ). leb 128 byte) (drop at file) (found_from file at c.first_long.ensures c.in-None.is) in
    subst (Passes file at) (omega arith)
    (characters_run file at (length file - at) (omega arith) (λ k h. low_at file at k (none k (omega (arith, length-drop at file)))))
