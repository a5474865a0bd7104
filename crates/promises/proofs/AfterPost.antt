-- Where post stands in a list that keeps the rules, and that what follows it changes neither the greatest depth nor its place. Assumes nothing.
use Prim.Native.Nat.{◌≤◌}
use mathlib.Core.Path.{◌≡◌, refl, sym, ap, ◌∙◌}
use mathlib.Core.Bool.{Bool, true, false, cond, not, ◌&&◌, ◌||◌, or-true, true≢false}
use mathlib.Core.List.{List, [], ◌∷◌}
use native.Mathlib.Omega.{arith}
use Rattle.commands.specs.declared.Kind.{Kind}
use Rattle.commands.specs.declared.Kind.TheVariants.{Push, Pop, Post, PostPost}
use Rattle.commands.specs.Kinds.{is}
use Rattle.commands.specs.Commands.{Command, kind_of_command, place}
use Rattle.list.specs.declared.Stage.{Stage}
use Rattle.list.specs.declared.Stage.TheVariants.{AtStart, BeforePages, OnPage, BetweenPages, AfterPost, AfterEnd}
use Rattle.list.specs.Past.{is_a, stage, stage_after, is_on_page, is_after_post, depth, greatest, post_place}
use Rattle.list.specs.Rules.{Allowed}
use Rattle.list.specs.Lawful.{Follows, ends, goes}
use Rattle.list.proofs.Arms.{on_kinds}
use Rattle.volume.specs.OfList.{up_to_last}
use Rattle.list.proofs.AtStages.{compared, does_lawfully}

-- what a kind does at a stage: whether post has passed after it; whether it is a post on a page or after another, a post_post before post, a push or pop after it
abbrev does : Stage → Kind → Bool × Bool × Bool × Bool
does at kind =
    (is_after_post (stage_after kind at), is kind Post && (is_on_page at || is_after_post at), is kind PostPost && not (is_after_post at), is_after_post at && (is kind Push || is kind Pop))

-- as it should be: post has passed only with a post; never; never; never
abbrev lawful : Stage → Kind → Bool × Bool × Bool × Bool
lawful at kind = (is kind Post || is_after_post at, false, false, false)

all_lawful : (at : Stage) (kind : Kind) → compared does lawful at kind ≡ lawful at kind
all_lawful AtStart = on_kinds (compared does lawful AtStart) (lawful AtStart) refl
all_lawful BeforePages = on_kinds (compared does lawful BeforePages) (lawful BeforePages) refl
all_lawful OnPage = on_kinds (compared does lawful OnPage) (lawful OnPage) refl
all_lawful BetweenPages = on_kinds (compared does lawful BetweenPages) (lawful BetweenPages) refl
all_lawful AfterPost = on_kinds (compared does lawful AfterPost) (lawful AfterPost) refl
all_lawful AfterEnd = on_kinds (compared does lawful AfterEnd) (lawful AfterEnd) refl

module _ {past : List Command} {c : Command} (allowed : Allowed past c) where
  so : does (stage past) (kind_of_command c) ≡ lawful (stage past) (kind_of_command c)
  so = does_lawfully does lawful all_lawful allowed

  pub passes_post : is_after_post (stage (c ∷ past)) ≡ is_a Post c || is_after_post (stage past)
  passes_post = ap (λ (a : Bool × Bool × Bool × Bool). a.0) so

  pub post_between : is_a Post c ≡ true → (is_on_page (stage past) ≡ false) × (is_after_post (stage past) ≡ false)
  post_between e = split _ _ (rw e at (ap (λ (a : Bool × Bool × Bool × Bool). a.1) so))
    where
      split : (a b : Bool) → (a || b) ≡ false → (a ≡ false) × (b ≡ false)
      split false b h = (refl, h)
      split true b h = absurd (true≢false h)

  pub end_after : is_a PostPost c ≡ true → is_after_post (stage past) ≡ false → ⊥
  end_after e f = true≢false (rw (e, f) at (ap (λ (a : Bool × Bool × Bool × Bool). a.2) so))

  still_after : is_after_post (stage past) ≡ true → (is_a Push c || is_a Pop c) ≡ false
  still_after e = rw e at (ap (λ (a : Bool × Bool × Bool × Bool). a.3) so)

-- no command leads deeper than the greatest depth
never_deeper : (past : List Command) → depth past ≤ greatest past
never_deeper [] = omega arith
never_deeper (c ∷ past) = omega arith

module _ (past : List Command) (c : Command) where
  -- one that is no push and no pop leaves it
  pub greatest_stays : (push pop : Bool) → is_a Push c ≡ push → is_a Pop c ≡ pop → (push || pop) ≡ false → greatest (c ∷ past) ≡ greatest past
  greatest_stays true pop e f h = absurd (true≢false h)
  greatest_stays false true e f h = absurd (true≢false h)
  greatest_stays false false e f h = rw (e, f) (omega (arith, never_deeper past))

  -- a command after post leaves the greatest depth and the place of post
  stays : Allowed past c → is_after_post (stage past) ≡ true → (greatest (c ∷ past) ≡ greatest past) × (post_place (c ∷ past) ≡ post_place past)
  stays allowed e = (greatest_stays (is_a Push c) (is_a Pop c) refl refl (still_after allowed e), no_post (is_a Post c) refl)
    where
      no_post : (post : Bool) → is_a Post c ≡ post → cond post (place past) (post_place past) ≡ post_place past
      no_post false f = refl
      no_post true f = absurd (true≢false (sym e ∙ (post_between allowed f).1))

-- so do all that follow post
pub after_post : {past cs : List Command} → Follows past cs → is_after_post (stage past) ≡ true
    → (greatest (up_to_last past cs) ≡ greatest past) × (post_place (up_to_last past cs) ≡ post_place past)
after_post (ends {past = past} {c = c} n w allowed last enough) e = rw last (stays past c allowed e)
after_post (goes {past = past} {c = c} w allowed not_last follows) e =
    let (g, p) = stays past c allowed e in
    let (gs, ps) = after_post follows (passes_post allowed ∙ rw e (or-true (is_a Post c))) in
    rw not_last (gs ∙ g, ps ∙ p)
