-- Wrong makers of width tables that the contract shuts out: each would contradict it at an input that is named here. Assumes nothing.
use Rattle.std.proofs.Common.{Bor, MutBor}
use Prim.Native.Nat.{ℕ}
use mathlib.Core.Path.{◌≡◌, refl, sym, ap, ap₂, subst, ◌∙◌}
use mathlib.Core.List.{List, [], ◌∷◌, ◌++◌}
use native.Mathlib.Omega.{arith}
use contract.Lifetimes.{Lfts}
use lib.ListN.{length, get_or, replicate}
use Rattle.refusals.specs.Numbers.{font_ends}
use Rattle.refusals.specs.Answer.{Answer, refused, given}
use Rattle.refusals.proofs.Answer.{given_not_refused}
use Rattle.numbers.specs.Bytes.{unsigned_at, bytes_of}
use Rattle.packed.specs.Commands.{form_of, fixed_bytes, counted_bytes}
use Rattle.packed.specs.Packets.{code_in, width_in, escapement_in}
use Rattle.packed.specs.Rules.{font_fault}
use Rattle.packed.specs.Judged.{font_judged_from, font_judged}
use Rattle.widths.specs.Table.{width_record_size}
use Rattle.widths.specs.Entries.{entry_bytes}
use Rattle.packed.specs.Table.{table_made, records_made, table_area}
use Rattle.packed.specs.Starred.{opening, xi, record_for}
use Rattle.reader.proofs.width_table.Reads as width-table
use Rattle.promises.specs.Fonts.{IsXi}
use Rattle.std.specs.declared.result.Result.{Result}
use Rattle.std.specs.declared.result.Result.TheVariants.{Ok}
use Rattle.refusals.specs.declared.Refusal.{Refusal}
use Rattle.std.specs.Prelude.{IsErr}
use mathlib.Core.Bool.{true≢false}
use Rattle.promises.proofs.OneToOne.{one_to_one}

-- the font with the one packet of appendix C, and its table
abbrev xi_font : List ℕ
xi_font = opening ++ xi ++ (245 ∷ 246 ∷ [])

abbrev xi_record : List ℕ
xi_record = record_for (4 ∷ 0 ∷ 0 ∷ 25 ∷ 0 ∷ 9 ∷ 199 ∷ 28 ∷ [])

xi_made : records_made (table_made xi_font 655360 width_record_size) ≡ given 1
unfolding unsigned_at form_of fixed_bytes counted_bytes code_in width_in escapement_in font_fault font_judged_from font_judged
xi_made = refl

xi_area : table_area (replicate width_record_size 0) (table_made xi_font 655360 width_record_size) ≡ xi_record
unfolding unsigned_at bytes_of form_of fixed_bytes counted_bytes code_in width_in escapement_in font_fault font_judged_from font_judged entry_bytes
xi_area = refl

empty_refused : records_made (table_made [] 655360 width_record_size) ≡ refused font_ends 0
unfolding font_judged_from font_judged
empty_refused = refl

module _ (κs : Lfts 2) (pk : Bor (List ℕ)) (scale : ℕ) (area : MutBor (List ℕ)) (is : IsXi pk.now scale area.now) (r : Result ℕ Refusal) (x : _) (post : width-table.Post κs (pk, (scale, (area, tt))) r x) where
  same : table_made pk.now scale (length area.now) ≡ table_made xi_font 655360 width_record_size
  same = cc (is.pk_is, is.scale_is, ap length is.area_is)

  -- invented counts: one record, and no other number
  pub not_invented_records : r ≡ Ok 1
  not_invented_records = one_to_one r (Ok 1) (post.0 ∙ ap records_made same ∙ xi_made)

  -- refusing every font: this one must be taken
  pub not_refusing_every_font : IsErr r → ⊥
  not_refusing_every_font refuses = true≢false (sym (subst IsErr not_invented_records refuses))

  -- the bytes of the record, each as worked by hand
  pub record_as_worked : x.1.1.0.now ≡ record_for (4 ∷ 0 ∷ 0 ∷ 25 ∷ 0 ∷ 9 ∷ 199 ∷ 28 ∷ [])
  record_as_worked = post.1.0 ∙ ap₂ table_area is.area_is same ∙ xi_area

  -- writing nothing: the zeros cannot stay
  pub not_writing_no_record : x.1.1.0.now ≡ area.now → ⊥
  not_writing_no_record stays =
      let first : ◌≡◌ {A = ℕ} 1 0 = ap (λ (l : List ℕ). get_or l 0 0) (sym record_as_worked ∙ stays ∙ is.area_is) in omega (arith, first)

-- one constant answer: this font and the empty file have not the same
pub not_one_constant_table : (κs κs' : Lfts 2) (pk none : Bor (List ℕ)) (scale : ℕ) (area : MutBor (List ℕ)) (r : Result ℕ Refusal) (x y : _) → IsXi pk.now scale area.now → none.now ≡ []
    → width-table.Post κs (pk, (scale, (area, tt))) r x → width-table.Post κs' (none, (scale, (area, tt))) r y → ⊥
not_one_constant_table κs κs' pk none scale area r x y is empty p q =
    let other : table_made none.now scale (length area.now) ≡ table_made [] 655360 width_record_size = cc (empty, is.scale_is, ap length is.area_is) in
    let told : ◌≡◌ {A = Answer ℕ} (given 1) (refused font_ends 0) =
    sym (p.0 ∙ ap records_made (same κs pk scale area is r x p) ∙ xi_made) ∙ q.0 ∙ ap records_made other ∙ empty_refused in
    given_not_refused 1 font_ends 0 told
