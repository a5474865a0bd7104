-- A kind that is not another. Assumes nothing.
use Rattle.std.proofs.Common.{rules, ◌≡◌, refl, sym, Bool, true, false}
use denote.Enum.Bare.{sameb, same_true, same_false}
use Rattle.commands.specs.contracts.Kind.{the_type}
use Rattle.commands.specs.declared.Kind.{Kind}
use Rattle.commands.specs.Kinds.{is}
use Rattle.list.proofs.Arms.{is_kind}

pub not_of_kind : (k other : Kind) → (k ≡ other → ⊥) → is k other ≡ false
not_of_kind k other differ = by (is k other) refl
  where
    by : (t : Bool) → is k other ≡ t → is k other ≡ false
    by true e = absurd (differ (is_kind k other e))
    by false e = e

-- what a test of equality tells
pub same_kind : (k other : Kind) → true ≡ sameb the_type k other → k ≡ other
same_kind k other e = same_true the_type (search rules) k other (sym e)

pub other_kind : (k other : Kind) → false ≡ sameb the_type k other → is k other ≡ false
other_kind k other e = not_of_kind k other (same_false the_type k other (sym e))
