-- `list::faults::fault_of` meets its contract: at the start, and then in the arm of its kind, the answer is the lowest fault. Assumes nothing.
use mathlib.Core.Bool.{Bool, true, false, cond, not}
use mathlib.Core.List.{List}
use mathlib.Core.Logic.{⊎_elim}
use mathlib.Core.Path.{◌≡◌, sym, refl, ap, ◌∙◌}
use Prim.Native.Nat.{ℕ}
use native.Mathlib.Omega.{arith}
use Rattle.commands.proofs.ParameterLengths.{fixed_of}
use Rattle.commands.specs.Commands.{Command}
use Rattle.commands.specs.Kinds.{kind_of}
use Rattle.commands.specs.declared.Kind.{Kind}
use Rattle.commands.specs.declared.Kind.TheVariants.{SetCharacter, SetRule, PutCharacter, PutRule, Nop, Bop, Eop, Push, Pop, Right, W, X, Down, Y, Z, Select, Special, Define, Pre, Post, PostPost, Undefined}
use Rattle.list.specs.declared.Volume.{Volume}
use Rattle.refusals.specs.Numbers.{misplaced_command}
use Rattle.list.specs.Rules.{is_at_start, may_stand, fault}
use Rattle.list.specs.Steps.{fault_number, command, depth_fault, Agrees}
use Rattle.list.proofs.FaultLaws.{later_fault, held_at_start, held_later}
use Rattle.list.proofs.faults.fault_of.Goals as goal

-- no rule after 5 speaks of a kind that has no arm of its own
nothing_later : (v : Volume) (past : List Command) (c : Command) (k : Kind)
    → (k ≡ SetCharacter → ⊥) → (k ≡ PutCharacter → ⊥) → (k ≡ Bop → ⊥) → (k ≡ Eop → ⊥) → (k ≡ Push → ⊥) → (k ≡ Pop → ⊥) → (k ≡ Select → ⊥) → (k ≡ Define → ⊥) → (k ≡ Post → ⊥) → (k ≡ PostPost → ⊥) → later_fault v past c k ≡ 0
nothing_later v past c SetCharacter set put bop eop push pop select define post end = absurd (set refl)
nothing_later v past c SetRule set put bop eop push pop select define post end = refl
nothing_later v past c PutCharacter set put bop eop push pop select define post end = absurd (put refl)
nothing_later v past c PutRule set put bop eop push pop select define post end = refl
nothing_later v past c Nop set put bop eop push pop select define post end = refl
nothing_later v past c Bop set put bop eop push pop select define post end = absurd (bop refl)
nothing_later v past c Eop set put bop eop push pop select define post end = absurd (eop refl)
nothing_later v past c Push set put bop eop push pop select define post end = absurd (push refl)
nothing_later v past c Pop set put bop eop push pop select define post end = absurd (pop refl)
nothing_later v past c Right set put bop eop push pop select define post end = refl
nothing_later v past c W set put bop eop push pop select define post end = refl
nothing_later v past c X set put bop eop push pop select define post end = refl
nothing_later v past c Down set put bop eop push pop select define post end = refl
nothing_later v past c Y set put bop eop push pop select define post end = refl
nothing_later v past c Z set put bop eop push pop select define post end = refl
nothing_later v past c Select set put bop eop push pop select define post end = absurd (select refl)
nothing_later v past c Special set put bop eop push pop select define post end = refl
nothing_later v past c Define set put bop eop push pop select define post end = absurd (define refl)
nothing_later v past c Pre set put bop eop push pop select define post end = refl
nothing_later v past c Post set put bop eop push pop select define post end = absurd (post refl)
nothing_later v past c PostPost set put bop eop push pop select define post end = absurd (end refl)
nothing_later v past c Undefined set put bop eop push pop select define post end = refl

-- of whatever commands the code stands for: at the start no more, and the command may stand there
as_kind : {file fonts again : List ℕ} {v : Volume} {kind : Kind} {starts may : Bool} (opcode : ℕ) → kind ≡ kind_of opcode → (params : List ℕ)
    → starts ≡ is_at_start v.stage → starts ≡ false → may ≡ may_stand v.stage kind → may ≡ true → {k : Kind} → kind ≡ k → (page : ℕ) (past : List Command)
    → Agrees file page v fonts again past → later_fault v past (command opcode params) k ≡ fault past (command opcode params)
as_kind {v = v} {kind = kind} opcode kind_is params starts_is begun may_is stands e page past agrees =
    ap (later_fault v past (command opcode params)) (sym e)
    ∙ ap (λ (t : Bool). cond (not t) misplaced_command (later_fault v past (command opcode params) kind)) (sym stands ∙ may_is)
    ∙ sym (held_later page past agrees.state opcode kind_is params starts_is begun)

pub first_fault-requires : goal.first_fault-requires
first_fault-requires c = λ pre. omega (arith, fixed_of c.args.next.opcode (sym c.args.next.right.0 ∙ pre), c.args.next.right.1)

pub returns-then-at_start : goal.returns-then-at_start
returns-then-at_start c page past agrees = c.first_fault.ensures ∙ sym (held_at_start page past agrees.state _ c.args.next.right.0 c.args.next.params.now c.at_start.ensures c.if-at_start.true)

pub returns-then-not-may_stand : goal.returns-then-not-may_stand
returns-then-not-may_stand c page past agrees =
    ap (λ (t : Bool). cond (not t) misplaced_command (later_fault c.args.v past (command c.args.next.opcode c.args.next.params.now) c.args.next.kind)) (sym c.if-not-may_stand.true ∙ c.may_stand.ensures)
    ∙ sym (held_later page past agrees.state c.args.next.opcode c.args.next.right.0 c.args.next.params.now c.at_start.ensures c.if-at_start.false)

pub bop_fault-requires : goal.bop_fault-requires
bop_fault-requires c = omega (arith, fixed_of c.args.next.opcode (sym c.args.next.right.0 ∙ c.in-Bop.is), c.args.next.right.1)

pub post_fault-requires : goal.post_fault-requires
post_fault-requires c = omega (arith, fixed_of c.args.next.opcode (sym c.args.next.right.0 ∙ c.in-Post.is), c.args.next.right.1)

pub end_fault-requires : goal.end_fault-requires
end_fault-requires c = (omega (arith, fixed_of c.args.next.opcode (sym c.args.next.right.0 ∙ c.in-PostPost.is), c.args.next.right.1), c.requires.1)

pub returns-in-Define : goal.returns-in-Define
returns-in-Define c page past agrees =
    c.definition_fault.ensures page past agrees
    ∙ as_kind c.args.next.opcode c.args.next.right.0 c.args.next.params.now c.at_start.ensures c.if-at_start.false c.may_stand.ensures c.if-not-may_stand.false c.in-Define.is page past agrees

pub returns-in-Select : goal.returns-in-Select
returns-in-Select c page past agrees =
    c.selection_fault.ensures past agrees.early agrees.lawfully
    ∙ as_kind c.args.next.opcode c.args.next.right.0 c.args.next.params.now c.at_start.ensures c.if-at_start.false c.may_stand.ensures c.if-not-may_stand.false c.in-Select.is page past agrees

pub returns-in-SetCharacter : goal.returns-in-SetCharacter
returns-in-SetCharacter c page past agrees =
    let by : (k : Kind) → c.args.next.kind ≡ k → later_fault c.args.v past (command c.args.next.opcode c.args.next.params.now) k ≡ fault past (command c.args.next.opcode c.args.next.params.now) =
    λ k e. as_kind c.args.next.opcode c.args.next.right.0 c.args.next.params.now c.at_start.ensures c.if-at_start.false c.may_stand.ensures c.if-not-may_stand.false e page past agrees in
    c.character_fault.ensures ∙ ⊎_elim (by SetCharacter) (by PutCharacter) c.in-SetCharacter.is

pub returns-in-Push : goal.returns-in-Push
returns-in-Push c page past agrees =
    let by : (k : Kind) → c.args.next.kind ≡ k → depth_fault k c.args.v.depth ≡ later_fault c.args.v past (command c.args.next.opcode c.args.next.params.now) k
    → fault_number c.depth_fault.result ≡ fault past (command c.args.next.opcode c.args.next.params.now) =
    λ k e same. c.depth_fault.ensures ∙ ap (λ (j : Kind). depth_fault j c.args.v.depth) e ∙ same
    ∙ as_kind c.args.next.opcode c.args.next.right.0 c.args.next.params.now c.at_start.ensures c.if-at_start.false c.may_stand.ensures c.if-not-may_stand.false e page past agrees in
    ⊎_elim (λ e. by Push e refl) (λ h. ⊎_elim (λ e. by Pop e refl) (λ e. by Eop e refl) h) c.in-Push.is

pub returns-in-Bop : goal.returns-in-Bop
returns-in-Bop c page past agrees =
    c.bop_fault.ensures
    ∙ as_kind c.args.next.opcode c.args.next.right.0 c.args.next.params.now c.at_start.ensures c.if-at_start.false c.may_stand.ensures c.if-not-may_stand.false c.in-Bop.is page past agrees

pub returns-in-Post : goal.returns-in-Post
returns-in-Post c page past agrees =
    c.post_fault.ensures
    ∙ as_kind c.args.next.opcode c.args.next.right.0 c.args.next.params.now c.at_start.ensures c.if-at_start.false c.may_stand.ensures c.if-not-may_stand.false c.in-Post.is page past agrees

pub returns-in_default : goal.returns-in_default
returns-in_default c page past agrees =
    let d = c.in_default in
    sym (nothing_later c.args.v past (command c.args.next.opcode c.args.next.params.now) c.args.next.kind d.not-SetCharacter d.not-PutCharacter d.not-Bop d.not-Eop d.not-Push d.not-Pop d.not-Select d.not-Define d.not-Post d.not-PostPost)
    ∙ as_kind c.args.next.opcode c.args.next.right.0 c.args.next.params.now c.at_start.ensures c.if-at_start.false c.may_stand.ensures c.if-not-may_stand.false refl page past agrees
