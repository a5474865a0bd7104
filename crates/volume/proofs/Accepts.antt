-- The check accepts a file exactly if it is lawful, that is, if its bytes are the written forms of a list of commands that keeps the rules; and the
-- counts that it gives are this list's own. Assumes nothing.
use Prim.Native.Nat.{ℕ, zero, suc, ◌<◌, ◌≤◌}
use mathlib.Core.Path.{◌≡◌, refl, sym, ◌∙◌}
use mathlib.Core.List.{List, [], ◌∷◌}
use mathlib.Core.Logic.{◌↔◌, ⊎_elim}
use native.Mathlib.Omega.{arith}
use lib.ListN.{length, length-append}
use Rattle.refusals.specs.Answer.{Answer, refused, given}
use Rattle.commands.specs.Commands.{Command, written, place}
use Rattle.commands.specs.Reading.{longest_file}
use Rattle.numbers.proofs.Radix.{less_or_not}
use Rattle.commands.proofs.Fronts.{front_written, front_sound}
use Rattle.volume.specs.declared.Summary.{Summary}
use Rattle.list.specs.Lawful.{fillers, Follows, ends, goes, Keeps, Lawful}
use Rattle.volume.specs.Judged.{summary, tail, judged_from, judged}
use Rattle.volume.specs.OfList.{up_to_last, counts}
use Rattle.volume.proofs.Turns.{judged_long, judged_short, judged_cut, judged_undefined, judged_faulty, judged_last, judged_onward, Turn, at_cut, at_undefined, at_fault, at_last, onward, turn}
use Rattle.volume.proofs.Tails.{fillers_few, fillers_enough, fillers_wrong, Ending, ended, other, ending}
use Rattle.list.proofs.FaultLaws.{none_broken, all_kept}

-- ---- a list that goes on by the rules is accepted, with its own counts

pub complete : {past cs : List Command} → Follows past cs → (left : ℕ) → length (written cs) < left
    → judged_from left past (written cs) ≡ given (summary (up_to_last past cs))
complete (ends n w allowed last enough) zero h = absurd (omega arith)
complete (ends {past = past} {c = c} n w allowed last enough) (suc left) h =
    rw last
    (judged_last left past (written (c ∷ fillers n)) c (written (fillers n)) (front_written c (written (fillers n)) w) (none_broken past c allowed) last
    ∙ fillers_enough (summary (c ∷ past)) (place (c ∷ past)) n refl enough)
complete (goes w allowed not_last follows) zero h = absurd (omega arith)
complete (goes {past = past} {c = c} {cs = cs} w allowed not_last follows) (suc left) h =
    rw not_last
    (judged_onward left past (written (c ∷ cs)) c (written cs) (front_written c (written cs) w) (none_broken past c allowed) not_last
    ∙ complete follows left (omega (arith, length-append c.params (written cs))))

-- ---- what is accepted is the written form of a list that goes on by the rules

-- no answer is both
pub refused_given : {number at : ℕ} {s : Summary} {x : Answer Summary} → x ≡ refused number at → x ≡ given s → ⊥
refused_given e q = let z : ◌≡◌ {A = ℕ} 0 1 = cc in omega arith

tail_sound : (found : Summary) (at : ℕ) (bytes : List ℕ) (s : Summary) → tail found at 0 bytes ≡ given s
    → (n : ℕ) × (bytes ≡ written (fillers n)) × (4 ≤ n)
tail_sound found at bytes s e = go (ending bytes)
  where
    go : Ending bytes → (n : ℕ) × (bytes ≡ written (fillers n)) × (4 ≤ n)
    go (ended n q) = (n, q, ⊎_elim (λ few. absurd (refused_given (fillers_few found at n q few) e)) (λ enough. enough) (less_or_not n 4))
    go (other n byte rest q h) = absurd (refused_given (fillers_wrong found at n byte rest q h) e)

-- the bytes are the written form of a list that goes on by the rules
abbrev pub GoesOn : List Command → List ℕ → Type 0
GoesOn past bytes = (cs : List Command) × Follows past cs × (written cs ≡ bytes)

pub sound : (left : ℕ) (past : List Command) (bytes : List ℕ) (s : Summary) → judged_from left past bytes ≡ given s → GoesOn past bytes
unfolding judged_from
sound zero past bytes s e = absurd (refused_given refl e)
sound (suc left) past bytes s e = go (turn past bytes) (λ c rest. sound left (c ∷ past) rest s)
  where
    go : Turn past bytes → ((c : Command) (rest : List ℕ) → judged_from left (c ∷ past) rest ≡ given s → GoesOn (c ∷ past) rest) → GoesOn past bytes
    go (at_cut f) onwards = absurd (refused_given (judged_cut left past bytes f) e)
    go (at_undefined f) onwards = absurd (refused_given (judged_undefined left past bytes f) e)
    go (at_fault c rest n f broken) onwards = absurd (refused_given (judged_faulty left past bytes c rest f (suc n) broken (λ z. omega arith)) e)
    go (at_last c rest f kept last) onwards =
        let (n, q, enough) = tail_sound (summary (c ∷ past)) (place (c ∷ past)) rest s (sym (judged_last left past bytes c rest f kept last) ∙ e) in
        let (w, forms) = front_sound bytes c rest f in
        (c ∷ fillers n, ends n w (all_kept past c kept) last enough, cc)
    go (onward c rest f kept not_last) onwards =
        let (cs, follows, q) = onwards c rest (sym (judged_onward left past bytes c rest f kept not_last) ∙ e) in
        let (w, forms) = front_sound bytes c rest f in
        (c ∷ cs, goes w (all_kept past c kept) not_last follows, cc)

-- ---- whole files

-- the answer to a lawful file: the counts of its list
pub lawful_counts : (file : List ℕ) → (lawful : Lawful file) → judged file ≡ given (counts lawful.1.0)
lawful_counts file (short, (cs, keeps, forms)) =
    judged_short file short ∙ rw (← forms) (complete keeps (suc (length (written cs))) (omega arith))

pub lawful_accepted : (file : List ℕ) → Lawful file → (s : Summary) × (judged file ≡ given s)
lawful_accepted file lawful = (counts lawful.1.0, lawful_counts file lawful)

pub accepts_lawful : (file : List ℕ) (s : Summary) → judged file ≡ given s → Lawful file
accepts_lawful file s e = ⊎_elim long short (less_or_not longest_file (length file))
  where
    long : longest_file < length file → Lawful file
    long h = absurd (refused_given (judged_long file h) e)

    short : length file ≤ longest_file → Lawful file
    short h = (h, sound (suc (length file)) [] file s (sym (judged_short file h) ∙ e))

-- the counts that are given are those of any list whose written form the file is
pub counts_own : (file : List ℕ) (s : Summary) → judged file ≡ given s → (cs : List Command) → Keeps cs → written cs ≡ file → s ≡ counts cs
counts_own file s e cs keeps forms =
    let lawful : Lawful file = ((accepts_lawful file s e).0, (cs, keeps, forms)) in
    let same : given s ≡ given (counts cs) = sym e ∙ lawful_counts file lawful in
    cc

-- a file is accepted exactly if it is lawful
pub accepted_iff : (file : List ℕ) → ((s : Summary) × (judged file ≡ given s)) ↔ Lawful file
accepted_iff file = (λ accepted. accepts_lawful file accepted.0 accepted.1, lawful_accepted file)
