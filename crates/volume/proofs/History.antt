-- The history of a file whose list keeps the rules is that list up to post_post, the newest first, and an accepted file's counts are its history's.
-- Assumes nothing.
use Prim.Native.Nat.{ℕ, zero, suc, ◌<◌}
use mathlib.Core.Path.{◌≡◌, ap, sym, ◌∙◌}
use mathlib.Core.List.{List, ◌∷◌}
use native.Mathlib.Omega.{arith}
use lib.ListN.{length, length-append}
use Rattle.refusals.specs.Answer.{given}
use Rattle.commands.specs.Commands.{Command, written}
use Rattle.commands.proofs.Fronts.{front_written}
use Rattle.volume.specs.declared.Summary.{Summary}
use Rattle.list.specs.Lawful.{fillers, Follows, ends, goes, Lawful}
use Rattle.volume.specs.Judged.{summary, judged}
use Rattle.volume.specs.History.{history_from, history}
use Rattle.volume.proofs.Turns.{history_start, history_last, history_onward}
use Rattle.volume.specs.OfList.{up_to_last, past_of, counts}
use Rattle.volume.proofs.Accepts.{accepts_lawful, lawful_counts}

pub history_of : {past cs : List Command} → Follows past cs → (left : ℕ) → length (written cs) < left
    → history_from left past (written cs) ≡ up_to_last past cs
history_of (ends n w allowed last enough) zero h = absurd (omega arith)
history_of (ends {past = past} {c = c} n w allowed last enough) (suc left) h =
    rw last (history_last left past (written (c ∷ fillers n)) c (written (fillers n)) (front_written c (written (fillers n)) w) last)
history_of (goes w allowed not_last follows) zero h = absurd (omega arith)
history_of (goes {past = past} {c = c} {cs = cs} w allowed not_last follows) (suc left) h =
    rw not_last
    (history_onward left past (written (c ∷ cs)) c (written cs) (front_written c (written cs) w) not_last
    ∙ history_of follows left (omega (arith, length-append c.params (written cs))))

pub lawful_history : (file : List ℕ) → (lawful : Lawful file) → history file ≡ past_of lawful.1.0
lawful_history file (short, (cs, keeps, forms)) =
    history_start file ∙ rw (← forms) (history_of keeps (suc (length (written cs))) (omega arith))

-- the counts of an accepted file are those of its history
pub history_counts : (file : List ℕ) (s : Summary) → judged file ≡ given s → summary (history file) ≡ s
history_counts file s e =
    let lawful = accepts_lawful file s e in
    let answer : given (counts lawful.1.0) ≡ given s = sym (lawful_counts file lawful) ∙ e in
    ap summary (lawful_history file lawful) ∙ (cc)
