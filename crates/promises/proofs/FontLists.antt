-- A PK file is accepted exactly if it is the written form of a list of commands that keeps the rules, and it is that of no other list. Assumes nothing.
use Prim.Native.Nat.{ℕ, zero, suc, ◌+◌, ◌<◌}
use mathlib.Core.Path.{◌≡◌, refl, sym, ap, ◌∙◌}
use mathlib.Core.Bool.{true}
use mathlib.Core.List.{List, [], ◌∷◌, ◌++◌, append-nil}
use mathlib.Core.Logic.{◌↔◌}
use native.Mathlib.Omega.{arith}
use lib.ListN.{length, take, drop, length-append, take-append-drop}
use lib.Seq.{take_at, drop_at}
use borrow.Author.Tests.{le-ltb}
use Rattle.refusals.specs.Answer.{given}
use Rattle.refusals.proofs.Answer.{given_same}
use Rattle.commands.specs.Commands.{Command, written}
use Rattle.packed.specs.Commands.{fixed_bytes, param_bytes}
use Rattle.packed.specs.Rules.{ended, font_fault}
use Rattle.packed.specs.Lawful.{WholeInFont, FollowsInFont, ends, goes, LawfulFont}
use Rattle.packed.specs.Judged.{taken, font_judged_from, font_judged}
use Rattle.packed.proofs.Fields.{counted_front}
use Rattle.packed.proofs.Faults.{taken_length, counted_taken}
use Rattle.packed.proofs.Standing.{never, at_end, goes_on}
use Rattle.promises.specs.Fonts.{upon}

-- ---- a list that goes on by the rules is judged as that list

-- a whole command's written form reads back as that command, whatever follows
module _ (c : Command) (rest : List ℕ) (whole : WholeInFont c) where
  size : param_bytes c.opcode (c.params ++ rest) ≡ length c.params
  size =
      let counted = counted_front c.opcode c.params rest (omega (arith, whole)) in
      ap (λ (n : ℕ). fixed_bytes c.opcode + n) counted ∙ sym whole

  reads_back : taken c.opcode (c.params ++ rest) ≡ c
  reads_back = rw size (ap (λ (l : List ℕ). record { opcode = c.opcode; params = l }) (take_at c.params rest (length c.params) refl))

  rest_back : drop (param_bytes c.opcode (c.params ++ rest)) (c.params ++ rest) ≡ rest
  rest_back = rw size (drop_at c.params rest (length c.params) refl)

pub one_step : (left : ℕ) (past : List Command) (c : Command) (rest : List ℕ) → WholeInFont c → font_fault past c ≡ 0
    → font_judged_from (suc left) past (c.opcode ∷ (c.params ++ rest)) ≡ font_judged_from left (c ∷ past) rest
unfolding font_judged_from
one_step left past c rest whole right =
    let fits = le-ltb (length (c.params ++ rest)) (param_bytes c.opcode (c.params ++ rest)) (omega (arith, size c rest whole, length-append c.params rest)) in
    rw (fits, reads_back c rest whole, right, rest_back c rest whole) refl

at_last : (left : ℕ) (past : List Command) → ended past ≡ true → font_judged_from (suc left) past [] ≡ given past
unfolding font_judged_from
at_last left past e = rw e refl

complete : {past cs : List Command} → FollowsInFont past cs → (left : ℕ) → length (written cs) < left → font_judged_from left past (written cs) ≡ given (upon past cs)
complete (ends e) zero h = absurd (omega arith)
complete (ends {past = past} e) (suc left) h = at_last left past e
complete (goes whole right follows) zero h = absurd (omega arith)
complete (goes {past = past} {c = c} {cs = cs} whole right follows) (suc left) h =
    one_step left past c (written cs) whole right ∙ complete follows left (omega (arith, length-append c.params (written cs)))

-- ---- what is accepted is the written form of a list that goes on by the rules

-- the bytes are the written form of such a list, and these are all commands
abbrev GoesOn : List Command → List ℕ → List Command → Type 0
GoesOn past bytes all = (cs : List Command) × FollowsInFont past cs × (written cs ≡ bytes) × (all ≡ upon past cs)

sound : (left : ℕ) (past : List Command) (bytes : List ℕ) (all : List Command) → font_judged_from left past bytes ≡ given all → GoesOn past bytes all
sound zero past bytes all e = absurd (never past bytes all e)
sound (suc left) past [] all e = let (end, same) = at_end left past all e in ([], ends end, refl, sym same)
sound (suc left) past (opcode ∷ rest) all e =
    let goes-here = goes_on left past opcode rest all e in
    let fits = goes-here.fits in
    let (cs, follows, forms, same) = sound left (taken opcode rest ∷ past) (drop (param_bytes opcode rest) rest) all goes-here.onward in
    let whole : WholeInFont (taken opcode rest) = omega (arith, taken_length opcode rest fits, counted_taken opcode rest fits) in
    let bytes_are : written (taken opcode rest ∷ cs) ≡ opcode ∷ rest =
    ap (λ (l : List ℕ). opcode ∷ (take (param_bytes opcode rest) rest ++ l)) forms ∙ ap (λ (l : List ℕ). opcode ∷ l) (take-append-drop (param_bytes opcode rest) rest) in
    (taken opcode rest ∷ cs, goes whole goes-here.right follows, bytes_are, same)

-- ---- whole files

-- the judging gives the commands of the list whose written form the file is
pub lawful_judged : (pk : List ℕ) → (lawful : LawfulFont pk) → font_judged pk ≡ given (upon [] lawful.0)
unfolding font_judged
lawful_judged pk (cs, keeps, forms) = rw (← forms) (complete keeps (suc (length (written cs))) (omega arith))

pub judged_lawful : (pk : List ℕ) (all : List Command) → font_judged pk ≡ given all → (lawful : LawfulFont pk) × (all ≡ upon [] lawful.0)
unfolding font_judged
judged_lawful pk all e = let (cs, keeps, forms, same) = sound (suc (length pk)) [] pk all e in ((cs, keeps, forms), same)

-- a PK file is accepted exactly if it is lawful
pub font_accepted_iff : (pk : List ℕ) → ((all : List Command) × (font_judged pk ≡ given all)) ↔ LawfulFont pk
font_accepted_iff pk = (λ accepted. (judged_lawful pk accepted.0 accepted.1).0, λ lawful. (upon [] lawful.0, lawful_judged pk lawful))

-- ---- one list

-- what is put upon something twice stands as at first
twice : (cs past more : List Command) → upon more (upon past cs) ≡ upon (cs ++ more) past
twice [] past more = refl
twice (c ∷ cs) past more = twice cs (c ∷ past) more

back : (cs : List Command) → upon [] (upon [] cs) ≡ cs
back cs = twice cs [] [] ∙ append-nil cs

pub one_font_list : (cs ds : List Command) → FollowsInFont [] cs → FollowsInFont [] ds → written cs ≡ written ds → cs ≡ ds
one_font_list cs ds keeps also-keeps e =
    let pk = written ds in
    let same : upon [] cs ≡ upon [] ds = given_same _ _ (sym (lawful_judged pk (cs, keeps, e)) ∙ lawful_judged pk (ds, also-keeps, refl)) in
    sym (back cs) ∙ ap (upon []) same ∙ back ds
