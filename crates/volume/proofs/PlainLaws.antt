-- Plain commands: on a page, with a font selected, none is at fault, and none changes anything but the place. Assumes nothing.
use mathlib.Core.Path.{◌≡◌, refl, ap, ◌∙◌}
use mathlib.Core.Bool.{Bool, true, false, false≢true}
use mathlib.Core.List.{List}
use Prim.Native.Nat.{ℕ, ◌+◌, ◌≤◌, max}
use native.Mathlib.Omega.{arith}
use lib.ListN.{length}
use Rattle.commands.specs.declared.Kind.{Kind}
use Rattle.commands.specs.declared.Kind.TheVariants.{SetCharacter, SetRule, PutCharacter, PutRule, Nop, Bop, Eop, Push, Pop, Right, W, X, Down, Y, Z, Select, Special, Define, Pre, Post, PostPost, Undefined}
use Rattle.commands.specs.Commands.{Command, kind_of_command}
use Rattle.list.specs.declared.Stage.{Stage}
use Rattle.list.specs.declared.Stage.TheVariants.{OnPage}
use Rattle.list.specs.declared.Volume.{Volume}
use Rattle.list.specs.Past.{is_a, stage, selected}
use Rattle.list.specs.Rules.{fault}
use Rattle.list.specs.Steps.{after_of, changed, table_after}
use Rattle.volume.specs.Steps.{is_plain}

-- what holds of each plain kind holds of any
pub plain_cases : (P : Kind → Type 0) → P SetCharacter → P SetRule → P PutCharacter → P PutRule → P Nop → P Right → P W → P X → P Down → P Y → P Z
    → (kind : Kind) → is_plain kind ≡ true → P kind
plain_cases P a b c d e f g h i j k SetCharacter t = a
plain_cases P a b c d e f g h i j k SetRule t = b
plain_cases P a b c d e f g h i j k PutCharacter t = c
plain_cases P a b c d e f g h i j k PutRule t = d
plain_cases P a b c d e f g h i j k Nop t = e
plain_cases P a b c d e f g h i j k Bop t = absurd (false≢true t)
plain_cases P a b c d e f g h i j k Eop t = absurd (false≢true t)
plain_cases P a b c d e f g h i j k Push t = absurd (false≢true t)
plain_cases P a b c d e f g h i j k Pop t = absurd (false≢true t)
plain_cases P a b c d e f g h i j k Right t = f
plain_cases P a b c d e f g h i j k W t = g
plain_cases P a b c d e f g h i j k X t = h
plain_cases P a b c d e f g h i j k Down t = i
plain_cases P a b c d e f g h i j k Y t = j
plain_cases P a b c d e f g h i j k Z t = k
plain_cases P a b c d e f g h i j k Select t = absurd (false≢true t)
plain_cases P a b c d e f g h i j k Special t = absurd (false≢true t)
plain_cases P a b c d e f g h i j k Define t = absurd (false≢true t)
plain_cases P a b c d e f g h i j k Pre t = absurd (false≢true t)
plain_cases P a b c d e f g h i j k Post t = absurd (false≢true t)
plain_cases P a b c d e f g h i j k PostPost t = absurd (false≢true t)
plain_cases P a b c d e f g h i j k Undefined t = absurd (false≢true t)

-- the same volume at another place
abbrev pub placed_at : Volume → ℕ → Volume
placed_at v at = changed v v.stage at v.depth v.greatest

module _ (page : ℕ) (v : Volume) (params : List ℕ) where
  abbrev next : ℕ
  next = v.at + (1 + length params)

  plain_compared : (kind : Kind) → is_plain kind ≡ true → after_of page v kind params ≡ changed v v.stage next v.depth (max v.greatest v.depth)
  plain_compared =
      plain_cases (λ kind. after_of page v kind params ≡ changed v v.stage next v.depth (max v.greatest v.depth))
      refl refl refl refl refl refl refl refl refl refl refl

  pub plain_after : (kind : Kind) → is_plain kind ≡ true → v.depth ≤ v.greatest → after_of page v kind params ≡ placed_at v next
  plain_after kind t h =
      let e : max v.greatest v.depth ≡ v.greatest = omega arith in
      plain_compared kind t ∙ ap (changed v v.stage next v.depth) e

pub plain_table : (after : Bool) (at_stage : Stage) (kind : Kind) → is_plain kind ≡ true → (opcode : ℕ) (params : List ℕ) (at : ℕ) (table : List ℕ)
    → table_after after at_stage kind opcode params at table ≡ table
plain_table after at_stage kind t opcode params at table =
    plain_cases (λ kind. table_after after at_stage kind opcode params at table ≡ table) refl refl refl refl refl refl refl refl refl refl refl kind t

-- on a page, with a font selected, a plain command keeps every rule
module _ (past : List Command) (c : Command) (on_page : stage past ≡ OnPage) (with-font : selected past ≡ true) where
  pub plain_fault : is_plain (kind_of_command c) ≡ true → fault past c ≡ 0
  plain_fault t = by (kind_of_command c) refl t
    where
      by : (kind : Kind) → kind_of_command c ≡ kind → is_plain kind ≡ true → fault past c ≡ 0
      by kind e t =
          plain_cases (λ kind. kind_of_command c ≡ kind → fault past c ≡ 0)
          (λ e. simp (e, on_page, with-font)) (λ e. simp (e, on_page)) (λ e. simp (e, on_page, with-font)) (λ e. simp (e, on_page)) (λ e. simp (e, on_page))
          (λ e. simp (e, on_page)) (λ e. simp (e, on_page)) (λ e. simp (e, on_page)) (λ e. simp (e, on_page)) (λ e. simp (e, on_page)) (λ e. simp (e, on_page))
          kind t e

  pub plain_not_last : is_plain (kind_of_command c) ≡ true → is_a PostPost c ≡ false
  plain_not_last t =
      plain_cases (λ kind. Rattle.commands.specs.Kinds.is kind PostPost ≡ false) refl refl refl refl refl refl refl refl refl refl refl (kind_of_command c) t
