-- A walk over the commands of an accepted file: what stands at a place is the next command of its list. Assumes nothing.
use Prim.Native.Nat.{ℕ, ◌+◌, ◌<◌}
use mathlib.Core.Path.{◌≡◌, refl, sym, ap, ◌∙◌}
use mathlib.Core.Bool.{Bool, true, false}
use mathlib.Core.List.{List, [], ◌∷◌, ◌++◌}
use native.Mathlib.Omega.{arith}
use lib.ListN.{length, drop, length-drop}
use lib.Seq.{drop-drop, drop_at}
use Rattle.refusals.specs.Answer.{refused}
use Rattle.commands.specs.declared.Kind.TheVariants.{PostPost}
use Rattle.commands.specs.Commands.{Command, Whole, form, written, whole, front, place}
use Rattle.commands.specs.Reading.{read_at}
use Rattle.commands.proofs.Fronts.{front_written}
use Rattle.list.specs.Past.{is_a}
use Rattle.list.specs.Rules.{Allowed}
use Rattle.list.specs.Lawful.{fillers, Follows, ends, goes, Lawful}
use Rattle.volume.specs.History.{history}
use Rattle.volume.specs.OfList.{up_to_last}
use Rattle.volume.proofs.History.{lawful_history}

-- the commands so far, and those that follow, which the bytes from the place on are
pub record Walk (file : List ℕ) (at : ℕ) (past : List Command) : Type 0 where
  pub rest : List Command
  pub follows : Follows past rest
  pub left : drop at file ≡ written rest
  pub at_is : at ≡ place past
  pub told : history file ≡ up_to_last past rest

pub starting : (file : List ℕ) → Lawful file → Walk file 0 []
starting file lawful =
    record { rest = lawful.1.0; follows = lawful.1.1; left = sym lawful.1.2; at_is = refl; told = lawful_history file lawful }

-- a command that was met: it keeps the rules, and the walk goes on behind it or is at its end
pub record Met (file : List ℕ) (at : ℕ) (past : List Command) (c : Command) : Type 0 where
  pub is_whole : Whole c
  pub allowed : Allowed past c
  pub onward : is_a PostPost c ≡ false → Walk file (at + (1 + length c.params)) (c ∷ past)
  pub at_last : is_a PostPost c ≡ true → history file ≡ c ∷ past

-- no answer is both
differ : {t : Bool} {A : Type 0} → t ≡ true → t ≡ false → A
differ e f = let z : ◌≡◌ {A = ℕ} 0 1 = cc in absurd (omega arith)

module _ {file : List ℕ} {at : ℕ} {past : List Command} (w : Walk file at past) where
  -- at the front stands the first of those that follow
  ahead : (c : Command) (cs : List Command) → Whole c → w.rest ≡ c ∷ cs → front (drop at file) ≡ whole c (written cs)
  ahead c cs good same = ap front (w.left ∙ ap written same) ∙ front_written c (written cs) good

  -- so reading there is not refused
  pub never_refused : (number there : ℕ) → read_at file at ≡ refused number there → ⊥
  never_refused number there e = by w.follows refl
    where
      clash : (c : Command) (cs : List Command) → Whole c → w.rest ≡ c ∷ cs → ⊥
      clash c cs good same = let f = ahead c cs good same in let z : ◌≡◌ {A = ℕ} 0 1 = cc in omega arith

      by : {before cs : List Command} → Follows before cs → w.rest ≡ cs → ⊥
      by (ends {c = c} n good allowed last enough) same = clash c (fillers n) good same
      by (goes {c = c} {cs = cs} good allowed not_last follows) same = clash c cs good same

  -- and what is read there is that command
  pub met : (c : Command) (bytes : List ℕ) → front (drop at file) ≡ whole c bytes → Met file at past c
  met c bytes f = by w.follows refl refl
    where
      there : (d : Command) (cs : List Command) → Whole d → w.rest ≡ d ∷ cs → c ≡ d
      there d cs good same = let e : whole c bytes ≡ whole d (written cs) = sym f ∙ ahead d cs good same in cc

      behind : (cs : List Command) → drop at file ≡ form c ++ written cs → drop (at + (1 + length c.params)) file ≡ written cs
      behind cs e = sym (drop-drop (1 + length c.params) at file) ∙ ap (drop (1 + length c.params)) e ∙ drop_at (form c) (written cs) (1 + length c.params) (omega arith)

      by : {before cs : List Command} → Follows before cs → past ≡ before → w.rest ≡ cs → Met file at past c
      by (ends {c = d} n good allowed last enough) e same =
          let is = there d (fillers n) good same in
          rw (is, e) (record {
            is_whole = good;
            allowed = allowed;
            onward = λ not_last. differ last not_last;
            at_last = λ _. w.told ∙ rw (same, e, last) refl;
          })
      by (goes {c = d} {cs = cs} good allowed not_last follows) e same =
          let is = there d cs good same in
          rw (is, e) (record {
            is_whole = good;
            allowed = allowed;
            onward = λ _. record {
              rest = cs;
              follows = follows;
              left = rw (← is) (behind cs (w.left ∙ ap written same ∙ rw is refl));
              at_is = omega (arith, w.at_is, ap place e);
              told = w.told ∙ rw (same, e, not_last) refl;
            };
            at_last = λ last. differ last not_last;
          })

  -- the place is in the file
  pub inside : at < length file
  inside = by w.follows refl
    where
      some : (c : Command) (cs : List Command) → w.rest ≡ c ∷ cs → at < length file
      some c cs same = omega (arith, length-drop at file, ap length (w.left ∙ ap written same))

      by : {before cs : List Command} → Follows before cs → w.rest ≡ cs → at < length file
      by (ends {c = c} n good allowed last enough) same = some c (fillers n) same
      by (goes {c = c} {cs = cs} good allowed not_last follows) same = some c cs same
