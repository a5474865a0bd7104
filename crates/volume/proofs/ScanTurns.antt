-- What the scan's loop cites: one turn, by what the code read, judged and noted. Assumes nothing.
use mathlib.Core.Path.{◌≡◌, refl, sym, ap, ◌∙◌, subst}
use mathlib.Core.Bool.{true, false}
use mathlib.Core.List.{List, ◌∷◌}
use Prim.Native.Nat.{ℕ, ◌+◌, ◌<◌, ◌≤◌, ◌^◌}
use native.Mathlib.Omega.{arith}
use lib.ListN.{length, drop}
use Rattle.refusals.specs.Answer.{refused}
use Rattle.commands.specs.declared.Kind.{Kind}
use Rattle.commands.specs.declared.Kind.TheVariants.{Define, PostPost}
use Rattle.commands.specs.declared.Reading.{Reading}
use Rattle.commands.specs.Kinds.{kind_of, is}
use Rattle.commands.specs.Lengths.{fixed_length}
use Rattle.commands.specs.Commands.{Command, kind_of_command, place}
use Rattle.commands.proofs.ParameterLengths.{fixed_of, whole_fixed}
use Rattle.commands.proofs.Readings.{command_at, Reads}
use Rattle.list.specs.declared.Volume.{Volume}
use Rattle.std.specs.Result.{MatchResult, IsErrAnd}
use Rattle.std.specs.declared.result.Result.{Result}
use Rattle.std.specs.declared.result.Result.TheVariants.{Ok, Err}
use Rattle.refusals.specs.declared.Reason.{Reason}
use Rattle.refusals.specs.declared.Refusal.{Refusal}
use Rattle.list.specs.Past.{is_a}
use Rattle.list.specs.Rules.{fault}
use Rattle.volume.specs.Judged.{tail, judged}
use Rattle.volume.specs.History.{history}
use Rattle.list.specs.Steps.{volume_of, after_of, table_after, Tells, AllStanding, Lawfully, Agrees, WithRoom, LawfullyNumbered, FaultIs}
use Rattle.volume.specs.Steps.{Going, summary_of, ScanKeeps, Same}
use Rattle.volume.proofs.Bounds.{depth_small, pages_small, fonts_small, post_small}
use Rattle.volume.proofs.Going.{lawful_number, at_is, turn_faulty, turn_last, told_last, agrees_after, turn_onward}

-- what a turn leads to: the next place, the commands so far with one more, or at post_post what is judged and kept
pub record Turned (file : List ℕ) (page : ℕ) (kind : Kind) (next : ℕ) (w : Volume) (fonts again : List ℕ) : Type 0 where
  pub place_held : w.at ≡ next
  pub onward : is kind PostPost ≡ false → Going file page w fonts again
  pub judgement : is kind PostPost ≡ true → tail (summary_of w) next 0 (drop next file) ≡ judged file
  pub keeping : is kind PostPost ≡ true → (s : Result Volume Refusal) → Same w s → ScanKeeps file page fonts s

-- ---- what the fault that `map_err` gave a place tells

pub placed_fault : (r : Result (Unit {0}) Reason) (m : Result (Unit {0}) Refusal) (Post : Reason → Refusal → Type 0) → MatchResult r (λ x. m ≡ Ok x) (λ e. IsErrAnd m (Post e))
    → (q : Refusal) → m ≡ Err q → (e : Reason) × (r ≡ Err e) × Post e q
placed_fault (Ok x) m Post told q is = let z : Ok x ≡ Err q = sym told ∙ is in let y : ◌≡◌ {A = ℕ} 0 1 = cc in absurd (omega arith)
placed_fault (Err e) m Post told q is = (e, refl, subst (λ (n : Result (Unit {0}) Refusal). IsErrAnd n (Post e)) is told)

-- the counts are at most the place
pub record Small (v : Volume) : Type 0 where
  pub depth_is : v.depth ≤ v.at
  pub pages_are : v.pages ≤ v.at
  pub fonts_are : v.fonts ≤ v.at
  pub again_are : v.again ≤ v.at
  pub post_is : v.post ≤ v.at

pub small : {file : List ℕ} {page : ℕ} {v : Volume} {fonts again : List ℕ} → Going file page v fonts again → Small v
small {page = page} g =
    let p = g.past in
    subst Small (sym g.agrees.state) (
    record { depth_is = depth_small p; pages_are = pages_small p; fonts_are = fonts_small false p; again_are = fonts_small true p; post_is = post_small p }
    )

module _ {file : List ℕ} {page : ℕ} {v : Volume} {fonts again : List ℕ} (g : Going file page v fonts again) (r : Reading) (read : Reads file v.at r) where
  abbrev c : Command
  c = command_at file r

  -- the place after the command
  pub next_is : r.next ≡ v.at + (1 + length c.params)
  next_is = omega (arith, read.nexts, read.starts)

  pub next_small : v.at + (1 + length c.params) < 2 ^ 32
  next_small = omega (arith, next_is, read.inside, g.short)

  pub fixed_fits : fixed_length r.opcode ≤ length c.params
  fixed_fits = whole_fixed c read.good

  pub opcode_defined : r.opcode < 250
  opcode_defined = read.good.defined

  place_is : place (c ∷ g.past) ≡ r.next
  place_is = omega (arith, next_is, at_is g)

  module _ (kind : Kind) (kind_is : kind ≡ kind_of r.opcode) where
    pub with_room_lem : WithRoom kind c.params
    with_room_lem e = omega (arith, fixed_of r.opcode (sym kind_is ∙ e), fixed_fits)

    -- what was judged
    module _ (n : ℕ) (judgement : FaultIs file v fonts again r.opcode c.params n) where
      fault_is : n ≡ fault g.past c
      fault_is = judgement page g.past g.agrees

      pub scan_stops : (n ≡ 0 → ⊥) → refused n v.at ≡ judged file
      scan_stops h = sym (turn_faulty g c (drop r.next file) read.ahead n (sym fault_is) h)

      module _ (none : n ≡ 0) where
        clean : fault g.past c ≡ 0
        clean = sym fault_is ∙ none

        pub lawfully_numbered : LawfullyNumbered r.opcode c.params
        lawfully_numbered e = lawful_number g.past c clean (ap (λ (k : Kind). is k Define) e)

        -- what the code holds after the command
        module _ (w : Volume) (w-is : w ≡ after_of page v kind c.params) (fonts' again' : List ℕ)
            (fonts-is : fonts' ≡ table_after false v.stage kind r.opcode c.params v.at fonts)
            (again-is : again' ≡ table_after true v.stage kind r.opcode c.params v.at again) where
          -- a statement of the three, from the same of what they are
          as_held : (P : Volume → List ℕ → List ℕ → Type 0)
              → P (after_of page v (kind_of_command c) c.params) (table_after false v.stage (kind_of_command c) r.opcode c.params v.at fonts) (table_after true v.stage (kind_of_command c) r.opcode c.params v.at again)
              → P w fonts' again'
          as_held P p =
              subst (λ (x : Volume). P x fonts' again') (sym w-is)
              (subst (λ (t : List ℕ). P (after_of page v kind c.params) t again') (sym fonts-is)
              (subst (P (after_of page v kind c.params) (table_after false v.stage kind r.opcode c.params v.at fonts)) (sym again-is)
              (subst (λ (k : Kind). P (after_of page v k c.params) (table_after false v.stage k r.opcode c.params v.at fonts) (table_after true v.stage k r.opcode c.params v.at again)) (sym kind_is) p)))

          agrees : Agrees file page w fonts' again' (c ∷ g.past)
          agrees = as_held (λ x t u. Agrees file page x t u (c ∷ g.past)) (agrees_after g c (drop r.next file) read.ahead clean)

          held_at : w.at ≡ r.next
          held_at = ap (λ (x : Volume). x.at) agrees.state ∙ place_is

          scan_goes : is kind PostPost ≡ false → Going file page w fonts' again'
          scan_goes l =
              as_held (Going file page)
              (turn_onward g c (drop r.next file) read.ahead clean (subst (λ (k : Kind). is k PostPost ≡ false) kind_is l) (ap (λ (n : ℕ). drop n file) (sym place_is)) (subst (λ (n : ℕ). n ≤ length file) (sym place_is) read.inside))

          module _ (l : is kind PostPost ≡ true) where
            last : is_a PostPost c ≡ true
            last = subst (λ (k : Kind). is k PostPost ≡ true) kind_is l

            scan_ends : tail (summary_of w) r.next 0 (drop r.next file) ≡ judged file
            scan_ends =
                sym (turn_last g c (drop r.next file) read.ahead clean last
                ∙ ap (λ (n : ℕ). tail (summary_of (volume_of page (c ∷ g.past))) n 0 (drop r.next file)) place_is
                ∙ ap (λ (x : Volume). tail (summary_of x) r.next 0 (drop r.next file)) (sym agrees.state))

            history_is : history file ≡ c ∷ g.past
            history_is = told_last g c (drop r.next file) read.ahead clean last

            scan_keeps : (s : Result Volume Refusal) → Same w s → ScanKeeps file page fonts' s
            scan_keeps (Ok x) same =
                let back = sym history_is in (
                  sym same ∙ agrees.state ∙ ap (volume_of page) back,
                  subst (Tells false fonts') back agrees.early,
                  subst (AllStanding file) back agrees.standing,
                  subst Lawfully back agrees.lawfully,
                )
            scan_keeps (Err x) same = tt

          pub turned : Turned file page kind r.next w fonts' again'
          turned = record { place_held = held_at; onward = scan_goes; judgement = scan_ends; keeping = scan_keeps }
