-- What width_table makes, case by case. Assumes nothing.
use mathlib.Core.Path.{◌≡◌, refl, ap, ◌∙◌}
use mathlib.Core.Bool.{true}
use mathlib.Core.List.{List}
use Prim.Native.Nat.{ℕ, ◌*◌, ◌≤◌, ◌<◌}
use native.Mathlib.Omega.{arith}
use lib.ListN.{length}
use borrow.Author.Tests.{lt-ltb, le-ltb}
use Rattle.refusals.specs.Answer.{Answer, refused, given, and_then}
use Rattle.refusals.proofs.Answer.{given_same}
use Rattle.numbers.specs.Sizes.{lawful_size}
use Rattle.commands.specs.Commands.{Command}
use Rattle.widths.specs.Table.{width_record_size}
use Rattle.packed.specs.declared.Note.{Note}
use Rattle.packed.specs.Rules.{places, packets}
use Rattle.packed.specs.Judged.{font_judged, note_of, noted}
use Rattle.packed.specs.Table.{font_table, table_made}
use Rattle.packed.proofs.Standing.{judged_stands}
use Rattle.packed.proofs.Counting.{records_counted}

-- ---- the area, of a file that was judged

module _ (pk : List ℕ) (scale room : ℕ) (right : lawful_size scale ≡ true) (past : List Command) (judged : font_judged pk ≡ given past) where
  pub made_short : room < width_record_size * length (font_table scale past) → table_made pk scale room ≡ refused 17 0
  made_short h = rw (right, judged, lt-ltb room (width_record_size * length (font_table scale past)) h) refl

  pub made_given : width_record_size * length (font_table scale past) ≤ room → table_made pk scale room ≡ given (font_table scale past)
  made_given h = rw (right, judged, le-ltb room (width_record_size * length (font_table scale past)) h) refl

-- ---- what the scan tells

module _ (pk : List ℕ) where
  -- the commands whose note it is
  pub record Told (n : Note) : Type 0 where
    pub past : List Command
    pub judged : font_judged pk ≡ given past
    pub places_are : n.places ≡ places past
    pub packets_are : n.packets ≡ packets past

  pub told_noted : (n : Note) → given n ≡ noted pk → Told n
  told_noted n says = go (font_judged pk) refl
    where
      go : (a : Answer (List Command)) → font_judged pk ≡ a → Told n
      go (refused number place) e =
          let same : ◌≡◌ {A = Answer Note} (given n) (refused number place) = says ∙ ap (λ (a : Answer (List Command)). and_then a (λ past. given (note_of past))) e in
          absurd (let z : ◌≡◌ {A = ℕ} 0 1 = cc in omega arith)
      go (given past) e =
          let same : ◌≡◌ {A = Answer Note} (given n) (given (note_of past)) = says ∙ ap (λ (a : Answer (List Command)). and_then a (λ past. given (note_of past))) e in
          let notes : n ≡ note_of past = given_same n (note_of past) same in
          record { past = past; judged = e; places_are = ap (λ (m : Note). m.places) notes; packets_are = ap (λ (m : Note). m.packets) notes }

-- as many records as packets
pub records_are : (pk : List ℕ) (scale : ℕ) (past : List Command) → font_judged pk ≡ given past → length (font_table scale past) ≡ packets past
records_are pk scale past e = records_counted pk scale past (judged_stands pk past e).stand
