-- What a command that keeps the rules may be where it stands: ten cases. Assumes nothing.
use mathlib.Core.Path.{◌≡◌, refl, sym}
use mathlib.Core.Bool.{Bool, true, false, not, ◌||◌, true≢false}
use mathlib.Core.List.{List}
use borrow.Author.Tests.{not-false}
use Rattle.commands.specs.declared.Kind.{Kind}
use Rattle.commands.specs.declared.Kind.TheVariants.{Nop, Bop, Eop, Define, Pre, Post, PostPost}
use Rattle.commands.specs.Kinds.{is}
use Rattle.commands.specs.Commands.{Command, kind_of_command}
use Rattle.list.specs.declared.Stage.{Stage}
use Rattle.list.specs.declared.Stage.TheVariants.{AtStart, BeforePages, OnPage, BetweenPages, AfterPost, AfterEnd}
use Rattle.list.specs.Past.{stage, is_on_page, is_after_post}
use Rattle.list.specs.Rules.{is_at_start, may_stand, Allowed}
use Rattle.list.proofs.Arms.{is_kind}
use Rattle.list.proofs.AtStages.{first_pre}

-- before the first page, between pages and before post
pub record Outside (at : Stage) : Type 0 where
  pub begun : is_at_start at ≡ false
  pub closed : is_on_page at ≡ false
  pub early : is_after_post at ≡ false

-- one of a page's commands between bop and eop
pub record Inner (k : Kind) : Type 0 where
  pub no_bop : is k Bop ≡ false
  pub no_eop : is k Eop ≡ false
  pub no_pre : is k Pre ≡ false
  pub no_post : is k Post ≡ false
  pub no_end : is k PostPost ≡ false

pub data Turn (at : Stage) (k : Kind) : Type 0 where
  starts : at ≡ AtStart → k ≡ Pre → Turn at k
  idles : Outside at → k ≡ Nop → Turn at k
  defines_early : Outside at → k ≡ Define → Turn at k
  begins : Outside at → k ≡ Bop → Turn at k
  within : at ≡ OnPage → Inner k → Turn at k
  finishes : at ≡ OnPage → k ≡ Eop → Turn at k
  posts : at ≡ BetweenPages → k ≡ Post → Turn at k
  idles_late : at ≡ AfterPost → k ≡ Nop → Turn at k
  defines_again : at ≡ AfterPost → k ≡ Define → Turn at k
  ends : at ≡ AfterPost → k ≡ PostPost → Turn at k

-- one of three tests holds
three : {A : Type 0} (a b c : Bool) → (a || (b || c)) ≡ true → (a ≡ true → A) → (b ≡ true → A) → (c ≡ true → A) → A
three true b c e f g h = f refl
three false true c e f g h = g refl
three false false c e f g h = h e

-- one of four
four : {A : Type 0} (a b c d : Bool) → (a || (b || (c || d))) ≡ true → (a ≡ true → A) → (b ≡ true → A) → (c ≡ true → A) → (d ≡ true → A) → A
four true b c d e f g h i = f refl
four false b c d e f g h i = three b c d e g h i

-- none of four
no_four : (a b c d : Bool) → not (a || (b || (c || d))) ≡ true → (a ≡ false) × (b ≡ false) × (c ≡ false) × (d ≡ false)
no_four true b c d e = absurd (true≢false (sym e))
no_four false true c d e = absurd (true≢false (sym e))
no_four false false true d e = absurd (true≢false (sym e))
no_four false false false true e = absurd (true≢false (sym e))
no_four false false false false e = (refl, refl, refl, refl)

turn_at : (at : Stage) (k : Kind) → (is_at_start at ≡ true → is k Pre ≡ true) → may_stand at k ≡ true → Turn at k
turn_at AtStart k first e = starts refl (is_kind k Pre (first refl))
turn_at BeforePages k first e =
    let out : Outside BeforePages = record { begun = refl; closed = refl; early = refl } in
    three (is k Nop) (is k Define) (is k Bop) e (λ t. idles out (is_kind k Nop t)) (λ t. defines_early out (is_kind k Define t)) (λ t. begins out (is_kind k Bop t))
turn_at OnPage k first e = by (is k Eop) refl (no_four (is k Bop) (is k Pre) (is k Post) (is k PostPost) e)
  where
    by : (eop : Bool) → is k Eop ≡ eop → (is k Bop ≡ false) × (is k Pre ≡ false) × (is k Post ≡ false) × (is k PostPost ≡ false) → Turn OnPage k
    by true t others = finishes refl (is_kind k Eop t)
    by false t (bop, pre, post, end) = within refl (record { no_bop = bop; no_eop = t; no_pre = pre; no_post = post; no_end = end })
turn_at BetweenPages k first e =
    let out : Outside BetweenPages = record { begun = refl; closed = refl; early = refl } in
    four (is k Nop) (is k Define) (is k Bop) (is k Post) e (λ t. idles out (is_kind k Nop t)) (λ t. defines_early out (is_kind k Define t)) (λ t. begins out (is_kind k Bop t))
    (λ t. posts refl (is_kind k Post t))
turn_at AfterPost k first e =
    three (is k Nop) (is k Define) (is k PostPost) e (λ t. idles_late refl (is_kind k Nop t)) (λ t. defines_again refl (is_kind k Define t)) (λ t. ends refl (is_kind k PostPost t))
turn_at AfterEnd k first e = absurd (true≢false (sym e))

-- so it is of a command that keeps the rules
pub turn_of : {past : List Command} {c : Command} → Allowed past c → Turn (stage past) (kind_of_command c)
turn_of {past} {c} allowed =
    turn_at (stage past) (kind_of_command c) (λ t. (first_pre past c allowed t).0) (not-false (may_stand (stage past) (kind_of_command c)) allowed.standing)
