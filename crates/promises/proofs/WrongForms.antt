-- Wrong makers of tables in their other form that the contracts shut out: each would contradict one at an input that is named here. Assumes nothing.
use Rattle.std.proofs.Common.{Bor, MutBor}
use Prim.Native.Nat.{ℕ}
use mathlib.Core.Path.{◌≡◌, refl, sym, ap, ap₂, subst, ◌∙◌}
use mathlib.Core.List.{List, []}
use native.Mathlib.Omega.{arith}
use contract.Lifetimes.{Lfts}
use lib.ListN.{length, get_or, replicate}
use Rattle.refusals.specs.Numbers.{named_record}
use Rattle.refusals.specs.Answer.{Answer, refused, given}
use Rattle.refusals.proofs.Answer.{given_same}
use Rattle.numbers.specs.Bytes.{unsigned_at}
use Rattle.widths.specs.Table.{record_in, checked_from}
use Rattle.converting.specs.Converting.{unnamed_from, widen_table, narrow_table, widened_area, narrowed_area}
use Rattle.reader.proofs.widen_table.Reads as widen-table
use Rattle.reader.proofs.narrow_table.Reads as narrow-table
use Rattle.promises.specs.TwoFonts.{named_table, spliced_table, any_table, IsOldOne, IsNewOne, IsNamed}
use Rattle.std.specs.declared.result.Result.{Result}
use Rattle.std.specs.declared.result.Result.TheVariants.{Ok, Err}
use Rattle.refusals.specs.declared.Reason.{Reason}
use Rattle.refusals.specs.declared.Refusal.{Refusal}
use Rattle.std.specs.Prelude.{IsErr}
use mathlib.Core.Bool.{true≢false}
use Rattle.promises.proofs.OneToOne.{one_to_one}

-- ---- the examples, worked by hand

old_widened : widen_table spliced_table 32 ≡ given 1
unfolding unsigned_at record_in checked_from
old_widened = refl

none_widened : widen_table [] 32 ≡ given 0
unfolding checked_from
none_widened = refl

new_narrowed : narrow_table any_table 16 ≡ given 1
unfolding unsigned_at record_in checked_from unnamed_from
new_narrowed = refl

named_refused : narrow_table named_table 0 ≡ refused named_record 0
unfolding unsigned_at record_in checked_from unnamed_from
named_refused = refl

-- ---- widen_table

module _ (κs : Lfts 2) (old : Bor (List ℕ)) (area : MutBor (List ℕ)) (is : IsOldOne old.now area.now) (r : Result ℕ Refusal) (x : _) (post : widen-table.Post κs (old, (area, tt)) r x) where
  widened_same : widen_table old.now (length area.now) ≡ widen_table spliced_table 32
  widened_same = ap₂ widen_table is.old_is (ap length is.area_is)

  -- invented counts: one record, and no other number
  pub not_invented_widened : r ≡ Ok 1
  not_invented_widened = one_to_one r (Ok 1) (post.0 ∙ widened_same ∙ old_widened)

  -- refusing every table: this one must be taken
  pub not_refusing_every_old_table : IsErr r → ⊥
  not_refusing_every_old_table refuses = true≢false (sym (subst IsErr not_invented_widened refuses))

  -- the bytes of the record in the new form, each as worked by hand
  pub widened_as_worked : x.1.0.now ≡ any_table
  widened_as_worked =
      post.1.0 ∙ ap₂ (λ (t e : List ℕ). widened_area t e (widen_table old.now (length area.now))) is.old_is is.area_is ∙ ap (widened_area spliced_table (replicate 32 7)) (widened_same ∙ old_widened)

  -- writing nothing: the sevens cannot stay
  pub not_writing_no_new_record : x.1.0.now ≡ area.now → ⊥
  not_writing_no_new_record stays =
      let first : ◌≡◌ {A = ℕ} 0 7 = ap (λ (l : List ℕ). get_or l 0 0) (sym widened_as_worked ∙ stays ∙ is.area_is) in omega (arith, first)

-- one constant answer: this table and the empty one have not the same
pub not_one_constant_form : (κs κs' : Lfts 2) (old none : Bor (List ℕ)) (area : MutBor (List ℕ)) (r : Result ℕ Refusal) (x y : _) → IsOldOne old.now area.now → none.now ≡ []
    → widen-table.Post κs (old, (area, tt)) r x → widen-table.Post κs' (none, (area, tt)) r y → ⊥
not_one_constant_form κs κs' old none area r x y is empty p q =
    let told : ◌≡◌ {A = Answer ℕ} (given 1) (given 0) =
    sym (p.0 ∙ widened_same κs old area is r x p ∙ old_widened) ∙ q.0 ∙ ap₂ widen_table empty (ap length is.area_is) ∙ none_widened in
    absurd (omega (arith, given_same 1 0 told))

-- ---- narrow_table

module _ (κs : Lfts 2) (table : Bor (List ℕ)) (area : MutBor (List ℕ)) (is : IsNewOne table.now area.now) (r : Result ℕ Refusal) (x : _) (post : narrow-table.Post κs (table, (area, tt)) r x) where
  narrowed_same : narrow_table table.now (length area.now) ≡ narrow_table any_table 16
  narrowed_same = ap₂ narrow_table is.table_is (ap length is.area_is)

  -- one record, and no other number
  pub not_invented_narrowed : r ≡ Ok 1
  not_invented_narrowed = one_to_one r (Ok 1) (post.0 ∙ narrowed_same ∙ new_narrowed)

  -- this table must be taken
  pub not_refusing_every_new_table : IsErr r → ⊥
  not_refusing_every_new_table refuses = true≢false (sym (subst IsErr not_invented_narrowed refuses))

  -- the bytes of the record in the old form, each as worked by hand
  pub narrowed_as_worked : x.1.0.now ≡ spliced_table
  narrowed_as_worked =
      post.1.0 ∙ ap₂ (λ (t e : List ℕ). narrowed_area t e (narrow_table table.now (length area.now))) is.table_is is.area_is ∙ ap (narrowed_area any_table (replicate 16 7)) (narrowed_same ∙ new_narrowed)

  -- the sevens cannot stay
  pub not_writing_no_old_record : x.1.0.now ≡ area.now → ⊥
  not_writing_no_old_record stays =
      let first : ◌≡◌ {A = ℕ} 0 7 = ap (λ (l : List ℕ). get_or l 0 0) (sym narrowed_as_worked ∙ stays ∙ is.area_is) in omega (arith, first)

-- losing names: a table of names is refused with 24, and before the area is judged; so one constant answer is shut out too
pub not_losing_names : (κs : Lfts 2) (table : Bor (List ℕ)) (area : MutBor (List ℕ)) (r : Result ℕ Refusal) (x : _) → IsNamed table.now area.now → narrow-table.Post κs (table, (area, tt)) r x → r ≡ Err (record { reason = Reason.NamedRecord; place = 0 })
not_losing_names κs table area r x is post =
    one_to_one r (Err (record { reason = Reason.NamedRecord; place = 0 })) (post.0 ∙ ap₂ narrow_table is.table_is (ap length is.area_is) ∙ named_refused)
