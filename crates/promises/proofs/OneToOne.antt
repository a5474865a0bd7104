-- What an answer says settles the answer: the definitions that say it are one-to-one. Assumes nothing.
use mathlib.Core.Path.{◌≡◌, refl, sym, ap, ◌∙◌}
use mathlib.Core.List.{List, [], ◌∷◌}
use Prim.Native.Nat.{ℕ}
use lib.ListN.{get_or}
use Rattle.refusals.specs.Numbers.{number_of}
use Rattle.refusals.specs.Answer.{Answer, refused, given, answered}
use Rattle.refusals.proofs.Answer.{given_same, given_not_refused}
use Rattle.widths.specs.LookUp.{LookUp, found, absent}
use Rattle.reader.specs.Answers.{name_answer, looked_answer}
use Rattle.std.specs.declared.result.Result.{Result}
use Rattle.std.specs.declared.result.Result.TheVariants.{Ok, Err}
use Rattle.std.specs.declared.option.Option.{Option}
use Rattle.std.specs.declared.option.Option.TheVariants.{None, Some}
use Rattle.refusals.specs.declared.Reason.{Reason}
use Rattle.refusals.specs.declared.Refusal.{Refusal}
use Rattle.widths.specs.declared.Metric.{Metric}
use Rattle.list.specs.declared.Part.{Part}
use Rattle.reader.specs.declared.FontName.{FontName}
use Rattle.std.specs.Prelude.{IfOk}
use Rattle.promises.specs.Named.{part_named, start_named}

-- the reasons in the order of their numbers; 0 is no reason's
abbrev reasons : List Reason
reasons =
    Reason.FileTooLong
    ∷ Reason.FileTooLong
    ∷ Reason.FileEnds
    ∷ Reason.UndefinedOpcode
    ∷ Reason.WrongPreamble
    ∷ Reason.MisplacedCommand
    ∷ Reason.WrongDepth
    ∷ Reason.WrongFontDefinition
    ∷ Reason.NoFont
    ∷ Reason.WrongPointer
    ∷ Reason.WrongPostamble
    ∷ Reason.WrongTail
    ∷ Reason.WrongResolution
    ∷ Reason.UnitOutOfRange
    ∷ Reason.WrongWidthTable
    ∷ Reason.NoSuchPage
    ∷ Reason.PositionOutOfRange
    ∷ Reason.AreaTooShort
    ∷ Reason.FontEnds
    ∷ Reason.MisplacedInFont
    ∷ Reason.PacketTooShort
    ∷ Reason.WrongPacket
    ∷ Reason.WrongScale
    ∷ Reason.WrongPages
    ∷ Reason.NamedRecord
    ∷ []

abbrev reason_of : ℕ → Reason
reason_of number = get_or reasons number Reason.FileTooLong

reason_back : (r : Reason) → reason_of (number_of r) ≡ r
reason_back Reason.FileTooLong = refl
reason_back Reason.FileEnds = refl
reason_back Reason.UndefinedOpcode = refl
reason_back Reason.WrongPreamble = refl
reason_back Reason.MisplacedCommand = refl
reason_back Reason.WrongDepth = refl
reason_back Reason.WrongFontDefinition = refl
reason_back Reason.NoFont = refl
reason_back Reason.WrongPointer = refl
reason_back Reason.WrongPostamble = refl
reason_back Reason.WrongTail = refl
reason_back Reason.WrongResolution = refl
reason_back Reason.UnitOutOfRange = refl
reason_back Reason.WrongWidthTable = refl
reason_back Reason.NoSuchPage = refl
reason_back Reason.PositionOutOfRange = refl
reason_back Reason.AreaTooShort = refl
reason_back Reason.FontEnds = refl
reason_back Reason.MisplacedInFont = refl
reason_back Reason.PacketTooShort = refl
reason_back Reason.WrongPacket = refl
reason_back Reason.WrongScale = refl
reason_back Reason.WrongPages = refl
reason_back Reason.NamedRecord = refl

-- the code's answer, from what it says
abbrev outcome : {A : Type 0} → Answer A → Result A Refusal
outcome (refused number place) = Err (record { reason = reason_of number; place = place })
outcome (given a) = Ok a

refusal_back : {A : Type 0} (r : Refusal) → outcome (answered {A = A} (Err r)) ≡ Err r
refusal_back r = ap (λ (reason : Reason). Err (record { reason = reason; place = r.place })) (reason_back r.reason)

outcome_back : {A : Type 0} (r : Result A Refusal) → outcome (answered r) ≡ r
outcome_back (Ok a) = refl
outcome_back (Err r) = refusal_back r

-- every entry but two
pub one_to_one : {A : Type 0} (r s : Result A Refusal) → answered r ≡ answered s → r ≡ s
one_to_one r s e = sym (outcome_back r) ∙ ap outcome e ∙ outcome_back s

-- look_up: what a look-up that was not refused says
abbrev looked : Result LookUp Refusal → Result (Option Metric) Refusal
looked (Ok (found metric)) = Ok (Some metric)
looked (Ok absent) = Ok None
looked (Err r) = Err r

looked_back : (r : Result (Option Metric) Refusal) → looked (outcome (looked_answer r)) ≡ r
looked_back (Ok (Some metric)) = refl
looked_back (Ok None) = refl
looked_back (Err r) = ap looked (refusal_back r)

pub looked_one_to_one : (r s : Result (Option Metric) Refusal) → looked_answer r ≡ looked_answer s → r ≡ s
looked_one_to_one r s e = sym (looked_back r) ∙ ap (λ (answer : Answer LookUp). looked (outcome answer)) e ∙ looked_back s

-- font_name: a refusal that is said is the one that is given
abbrev as_name : Refusal → Result Part Refusal → Result FontName Refusal
as_name other (Ok part) = Err other
as_name other (Err r) = Err r

pub refused_same : (r : Result FontName Refusal) (why : Refusal) → name_answer r ≡ refused (number_of why.reason) why.place → r ≡ Err why
refused_same (Ok name) why e = absurd (given_not_refused _ _ _ e)
refused_same (Err r) why e = ap (as_name r) (one_to_one (Err r) (Err why) e)

-- a name: the part that is said, with its bytes and their place in memory
module _ (bytes : List ℕ) (from : ℕ × ℕ) where
  abbrev pub Lent : Result FontName Refusal → Type 0
  Lent r = IfOk r (λ name. name.bytes.now ≡ bytes) × IfOk r (λ name. name.bytes.ref_ptr ≡ from)

  pub name_one_to_one : (r s : Result FontName Refusal) → name_answer r ≡ name_answer s → Lent r → Lent s → r ≡ s
  name_one_to_one (Ok name) (Ok other) e (held, lent) (held', lent') =
      let starts = ap (λ (part : Part). part.start) (given_same _ _ e) in
      λ i. Ok (record { bytes = record { ref_ptr = (lent ∙ sym lent') i; now = (held ∙ sym held') i }; start = starts i })
  name_one_to_one (Ok name) (Err r) e p q = absurd (given_not_refused _ _ _ e)
  name_one_to_one (Err r) s e p q = sym (refused_same s r (sym e))

-- without the place in memory
pub part_one_to_one : (bytes : List ℕ) (r s : Result FontName Refusal) → name_answer r ≡ name_answer s
    → IfOk r (λ name. name.bytes.now ≡ bytes) → IfOk s (λ name. name.bytes.now ≡ bytes) → part_named r ≡ part_named s
part_one_to_one bytes (Ok name) (Ok other) e held held' =
    let starts = ap (λ (part : Part). part.start) (given_same _ _ e) in
    λ i. Ok (starts i, (held ∙ sym held') i)
part_one_to_one bytes (Ok name) (Err r) e held held' = absurd (given_not_refused _ _ _ e)
part_one_to_one bytes (Err r) s e held held' = ap part_named (sym (refused_same s r (sym e)))

-- without the bytes
pub start_one_to_one : (r s : Result FontName Refusal) → name_answer r ≡ name_answer s → start_named r ≡ start_named s
start_one_to_one (Ok name) (Ok other) e = ap (λ (part : Part). Ok part.start) (given_same _ _ e)
start_one_to_one (Ok name) (Err r) e = absurd (given_not_refused _ _ _ e)
start_one_to_one (Err r) s e = ap start_named (sym (refused_same s r (sym e)))
