-- Laws on decimal numbers in words. Assumes nothing.
use mathlib.Core.Path.{◌≡◌, refl, sym, ap, ◌∙◌}
use mathlib.Core.Bool.{Bool, true, false, cond}
use mathlib.Core.List.{List}
use Prim.Native.Nat.{ℕ, ◌+◌, ◌≤◌, ◌<◌}
use native.Mathlib.Numerals.{add-one}
use lib.ListN.{length, get_or, drop, drop_of_length-le}
use lib.Seq.{drop-cons}
use Rattle.std.specs.declared.option.Option.{Option}
use Rattle.std.specs.declared.option.Option.TheVariants.{Some, None}
use Rattle.asking.specs.Decimal.{appended, may_follow, decimal_from}

-- a digit more, as the code answers it
abbrev pub Answers : ℕ → ℕ → ℕ → Option ℕ → Type 0
Answers most value byte answer = answer ≡ cond (may_follow most value byte) (Some (appended value byte)) None

off : (follows : Bool) (more : ℕ) (rest : Option ℕ) → cond follows (Some more) None ≡ None → cond follows rest None ≡ None
off true more rest e = cc
off false more rest e = refl

on : (follows : Bool) (more value : ℕ) (rest : Option ℕ) → cond follows (Some more) None ≡ Some value → (more ≡ value) × (cond follows rest None ≡ rest)
on true more value rest e = (cc, refl)
on false more value rest e = absurd cc

-- the first byte of what is left of a word, and the others
abbrev Rest : ℕ → ℕ → ℕ → List ℕ → Option ℕ
Rest most value i word = decimal_from most value (drop i word)

next : (most value i : ℕ) (word : List ℕ) → i < length word
    → Rest most value i word ≡ cond (may_follow most value (get_or word i 0)) (Rest most (appended value (get_or word i 0)) (i + 1) word) None
unfolding decimal_from
next most value i word inside = rw (add-one, drop-cons word i 0)

module _ (most value i : ℕ) (word : List ℕ) (inside : i < length word) (answer : Option ℕ) (said : Answers most value (get_or word i 0) answer) where
  abbrev more : ℕ
  more = appended value (get_or word i 0)

  pub stops : answer ≡ None → Rest most value i word ≡ None
  stops none = next most value i word inside ∙ off (may_follow most value (get_or word i 0)) more (Rest most more (i + 1) word) (sym said ∙ none)

  pub goes : (given : ℕ) → answer ≡ Some given → Rest most value i word ≡ Rest most given (i + 1) word
  goes given is =
      let e = on (may_follow most value (get_or word i 0)) more given (Rest most more (i + 1) word) (sym said ∙ is) in
      next most value i word inside ∙ e.1 ∙ ap (λ (n : ℕ). Rest most n (i + 1) word) e.0

pub ends : (most value i : ℕ) (word : List ℕ) → length word ≤ i → Rest most value i word ≡ Some value
unfolding decimal_from
ends most value i word all = ap (decimal_from most value) (drop_of_length-le word all)
