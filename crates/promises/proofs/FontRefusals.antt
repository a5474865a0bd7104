-- Where a PK file is refused, and with which number, said of the list of its commands. Assumes nothing.
use Prim.Native.Nat.{ℕ, zero, suc, ◌<◌}
use mathlib.Core.Path.{◌≡◌, refl, sym, ap, subst, ◌∙◌}
use mathlib.Core.Bool.{Bool, true, false, not}
use mathlib.Core.List.{List, [], ◌∷◌, ◌++◌, append_assoc}
use mathlib.Core.Logic.{◌↔◌}
use native.Mathlib.Omega.{arith}
use lib.Dec.{ltb}
use lib.ListN.{length, take, drop, length-append, take-append-drop, length-drop}
use borrow.Author.Tests.{lt-ltb, le-ltb, ltb-true, ltb-false}
use Rattle.refusals.specs.Answer.{Answer, refused, given, refuse_if}
use Rattle.refusals.proofs.Answer.{given_not_refused}
use Rattle.commands.specs.Commands.{Command, written, place}
use Rattle.packed.specs.Commands.{param_bytes}
use Rattle.packed.specs.Rules.{ended, font_fault}
use Rattle.packed.specs.Lawful.{WholeInFont}
use Rattle.packed.specs.Judged.{taken, font_judged_from, font_judged}
use Rattle.packed.proofs.Faults.{taken_length, counted_taken}
use Rattle.promises.specs.Fonts.{upon, KeptInFont, none_kept, one_kept, DueInFont, no_postamble, cut, broken, FontRefused}
use Rattle.promises.proofs.FontLists.{one_step}

-- ---- where a number is due, it is the answer

due_refused : (left : ℕ) (past : List Command) (rest : List ℕ) (number : ℕ) → DueInFont past rest number → font_judged_from (suc left) past rest ≡ refused number (place past)
unfolding font_judged_from
due_refused left past rest number (no_postamble e) = rw e refl
due_refused left past rest number (cut {opcode = opcode} {rest = bytes} h) = rw (lt-ltb (length bytes) (param_bytes opcode bytes) h) refl
due_refused left past rest number (broken {opcode = opcode} {rest = bytes} fits some) =
    rw (le-ltb (length bytes) (param_bytes opcode bytes) fits, lt-ltb 0 (font_fault past (taken opcode bytes)) some) refl

after_kept : {past cs : List Command} → KeptInFont past cs → (rest : List ℕ) (number : ℕ) → DueInFont (upon past cs) rest number → (left : ℕ) → length (written cs ++ rest) < left
    → font_judged_from left past (written cs ++ rest) ≡ refused number (place (upon past cs))
after_kept none_kept rest number due zero h = absurd (omega arith)
after_kept (none_kept {past = past}) rest number due (suc left) h = due_refused left past rest number due
after_kept (one_kept whole right kept) rest number due zero h = absurd (omega arith)
after_kept (one_kept {past = past} {c = c} {cs = cs} whole right kept) rest number due (suc left) h =
    let split : (c.params ++ written cs) ++ rest ≡ c.params ++ (written cs ++ rest) = append_assoc c.params (written cs) rest in
    ap (λ (l : List ℕ). font_judged_from (suc left) past (c.opcode ∷ l)) split
    ∙ one_step left past c (written cs ++ rest) whole right
    ∙ after_kept kept rest number due left (omega (arith, ap length split, length-append c.params (written cs ++ rest)))

-- ---- what is refused begins with commands that keep the rules, and a number is due behind them

abbrev Begins : List Command → List ℕ → ℕ → ℕ → Type 0
Begins past bytes number at =
    (cs : List Command) × KeptInFont past cs × ((rest : List ℕ) × (written cs ++ rest ≡ bytes) × DueInFont (upon past cs) rest number × (at ≡ place (upon past cs)))

same_refusal : (number place n p : ℕ) → ◌≡◌ {A = Answer (List Command)} (refused number place) (refused n p) → (number ≡ n) × (place ≡ p)
same_refusal number place n p e = (cc, cc)

here : (past : List Command) (rest : List ℕ) (due number at : ℕ) → DueInFont past rest due → ◌≡◌ {A = Answer (List Command)} (refused due (place past)) (refused number at) → Begins past rest number at
here past rest due number at is e =
    let (same, there) = same_refusal due (place past) number at e in
    ([], none_kept, (rest, refl, subst (DueInFont past rest) same is, sym there))

refused_from : (left : ℕ) (past : List Command) (bytes : List ℕ) (number at : ℕ) → length bytes < left → font_judged_from left past bytes ≡ refused number at → Begins past bytes number at
unfolding font_judged_from
refused_from zero past bytes number at h e = absurd (omega arith)
refused_from (suc left) past [] number at h e = go (ended past) refl e
  where
    go : (b : Bool) → ended past ≡ b → refuse_if (not b) 18 (place past) (given past) ≡ refused number at → Begins past [] number at
    go true f e = absurd (given_not_refused past number at e)
    go false f e = here past [] 18 number at (no_postamble f) e
refused_from (suc left) past (opcode ∷ rest) number at h e =
    go (ltb (length rest) (param_bytes opcode rest)) (ltb 0 (font_fault past (taken opcode rest))) refl refl e (refused_from left (taken opcode rest ∷ past) (drop (param_bytes opcode rest) rest) number at)
  where
    go : (a b : Bool) → ltb (length rest) (param_bytes opcode rest) ≡ a → ltb 0 (font_fault past (taken opcode rest)) ≡ b
        → refuse_if a 18 (place past) (refuse_if b (font_fault past (taken opcode rest)) (place past) (font_judged_from left (taken opcode rest ∷ past) (drop (param_bytes opcode rest) rest))) ≡ refused number at
        → (length (drop (param_bytes opcode rest) rest) < left → font_judged_from left (taken opcode rest ∷ past) (drop (param_bytes opcode rest) rest) ≡ refused number at
        → Begins (taken opcode rest ∷ past) (drop (param_bytes opcode rest) rest) number at)
        → Begins past (opcode ∷ rest) number at
    go true b p q e onward = here past (opcode ∷ rest) 18 number at (cut (ltb-true (length rest) (param_bytes opcode rest) p)) e
    go false true p q e onward =
        here past (opcode ∷ rest) (font_fault past (taken opcode rest)) number at
        (broken (ltb-false (length rest) (param_bytes opcode rest) p) (ltb-true 0 (font_fault past (taken opcode rest)) q)) e
    go false false p q e onward =
        let fits = ltb-false (length rest) (param_bytes opcode rest) p in
        let right : font_fault past (taken opcode rest) ≡ 0 = omega (arith, ltb-false 0 (font_fault past (taken opcode rest)) q) in
        let (cs, kept, (behind, forms, due, there)) = onward (omega (arith, length-drop (param_bytes opcode rest) rest)) e in
        let whole : WholeInFont (taken opcode rest) = omega (arith, taken_length opcode rest fits, counted_taken opcode rest fits) in
        let params = take (param_bytes opcode rest) rest in
        let bytes_are : (opcode ∷ (params ++ written cs)) ++ behind ≡ opcode ∷ rest =
        ap (λ (l : List ℕ). opcode ∷ l) (append_assoc params (written cs) behind ∙ ap (λ (l : List ℕ). params ++ l) forms ∙ take-append-drop (param_bytes opcode rest) rest) in
        (taken opcode rest ∷ cs, one_kept whole right kept, (behind, bytes_are, due, there))

-- ---- the theorem

pub font_refused_iff : (pk : List ℕ) (number at : ℕ) → (font_judged pk ≡ refused number at) ↔ FontRefused pk number at
unfolding font_judged
font_refused_iff pk number at = (forth, back)
  where
    forth : font_judged pk ≡ refused number at → FontRefused pk number at
    forth e =
        let (cs, kept, (rest, forms, due, there)) = refused_from (suc (length pk)) [] pk number at (omega arith) e in
        record { list = cs; kept = kept; rest = rest; forms = forms; due = due; there = there }

    back : FontRefused pk number at → font_judged pk ≡ refused number at
    back r =
        subst (λ (l : List ℕ). font_judged_from (suc (length l)) [] l ≡ refused number (place (upon [] r.list))) r.forms
        (after_kept r.kept r.rest number r.due (suc (length (written r.list ++ r.rest))) (omega arith))
        ∙ ap (refused number) (sym r.there)
