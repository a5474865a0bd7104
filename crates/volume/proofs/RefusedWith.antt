-- The refusals of the check of a file, and of a font's name. Assumes nothing.
use Prim.Native.Nat.{ℕ, zero, suc, ◌+◌, ◌≤◌}
use mathlib.Core.Path.{◌≡◌, refl}
use mathlib.Core.Bool.{Bool, true, false, cond}
use mathlib.Core.List.{List, [], ◌∷◌}
use mathlib.Core.Logic.{◌⊎◌, inl, inr}
use native.Mathlib.Omega.{arith}
use lib.Dec.{ltb, eqb}
use lib.IntN.{ℤ}
use lib.ListN.{length}
use Rattle.refusals.specs.Numbers.{file_too_long, wrong_preamble, misplaced_command, wrong_depth, wrong_font_definition, no_font, wrong_pointer, wrong_postamble, wrong_tail}
use Rattle.refusals.specs.Answer.{Answer, refused, given}
use Rattle.refusals.specs.RefusedOnly.{RefusedOnly, FileRefusal, NameRefusal}
use Rattle.refusals.proofs.RefusedOnly.{if_only, then_only, only_wider}
use Rattle.commands.specs.declared.Kind.TheVariants.{PostPost}
use Rattle.commands.specs.Commands.{Command, Front, cut, undefined, whole, front, place}
use Rattle.commands.specs.Reading.{longest_file}
use Rattle.commands.proofs.Fronts.{front_length, undefined_first}
use Rattle.volume.specs.declared.Summary.{Summary}
use Rattle.list.specs.Past.{is_a, Definition, none, stands, definition_of}
use Rattle.list.specs.Rules.{preamble_wrong, misplaced, depth_wrong, definition_wrong, font_missing, pointer_wrong, postamble_wrong, fault}
use Rattle.volume.specs.Judged.{summary, tail, on_front, on_fault, on_end, judged_from, judged}
use Rattle.volume.specs.History.{history}
use Rattle.volume.specs.Names.{named_by, name_place}

-- ---- the rules' numbers

-- no rule is broken, or the lowest that is has a number from 4 to 10
abbrev RuleNumber : ℕ → Type 0
RuleNumber n = (n ≡ 0) ⊎ ((wrong_preamble ≤ n) × (n ≤ wrong_postamble))

fault_number : (past : List Command) (c : Command) → RuleNumber (fault past c)
fault_number past c =
    by (preamble_wrong past c) wrong_preamble _ (omega arith, omega arith)
    (by (misplaced past c) misplaced_command _ (omega arith, omega arith)
    (by (depth_wrong past c) wrong_depth _ (omega arith, omega arith)
    (by (definition_wrong past c) wrong_font_definition _ (omega arith, omega arith)
    (by (font_missing past c) no_font _ (omega arith, omega arith)
    (by (pointer_wrong past c) wrong_pointer _ (omega arith, omega arith) (by (postamble_wrong past c) wrong_postamble 0 (omega arith, omega arith) (inl refl)))))))
  where
    by : (broken : Bool) (n next : ℕ) → (wrong_preamble ≤ n) × (n ≤ wrong_postamble) → RuleNumber next → RuleNumber (cond broken n next)
    by true n next h rest = inr h
    by false n next h rest = rest

-- ---- the check

module _ (file : List ℕ) where
  -- what may be of the file
  abbrev May : ℕ → ℕ → Type 0
  May = FileRefusal file

  -- a command that may break a rule, and what follows it
  on_fault_lem : (at n : ℕ) (next : Unit {0} → Answer Summary) → RuleNumber n → suc at ≤ length file → RefusedOnly May (next tt) → RefusedOnly May (on_fault at n next)
  on_fault_lem at zero next number inside rest = rest
  on_fault_lem at (suc n) next (inl none_broken) inside rest = absurd (omega (arith, none_broken))
  on_fault_lem at (suc n) next (inr (low, high)) inside rest = inr (inr (inl (omega (arith, low), high, inside)))

  -- the bytes after post_post
  tail_refused_with : (found : Summary) (at passed : ℕ) (bytes : List ℕ) → at + length bytes ≡ length file → RefusedOnly May (tail found at passed bytes)
  unfolding tail
  tail_refused_with found at passed [] ends = if_only May (ltb passed 4) wrong_tail at (given found) (inr (inr (inr (refl, omega arith)))) tt
  tail_refused_with found at passed (byte ∷ bytes) ends = by (eqb byte 223) (tail_refused_with found (suc at) (suc passed) bytes (omega arith))
    where
      by : (filler : Bool) → RefusedOnly May (tail found (suc at) (suc passed) bytes)
          → RefusedOnly {A = Summary} May (elim filler [ true ↦ tail found (suc at) (suc passed) bytes | false ↦ refused wrong_tail at ])
      by true rest = rest
      by false rest = inr (inr (inr (refl, omega arith)))

  -- the bytes after the commands before
  from_refused_with : (left : ℕ) (past : List Command) (bytes : List ℕ) → place past + length bytes ≡ length file → RefusedOnly May (judged_from left past bytes)
  unfolding judged_from
  from_refused_with zero past bytes ends = inr (inl (refl, omega arith))
  from_refused_with (suc left) past bytes ends = by (front bytes) refl (λ c rest. from_refused_with left (c ∷ past) rest)
    where
      on_end_lem : (c : Command) (rest : List ℕ) (last : Bool) → place (c ∷ past) + length rest ≡ length file → RefusedOnly May (judged_from left (c ∷ past) rest)
          → RefusedOnly May (on_end last (λ _. tail (summary (c ∷ past)) (place (c ∷ past)) 0 rest) (λ _. judged_from left (c ∷ past) rest))
      on_end_lem c rest true ends onward = tail_refused_with (summary (c ∷ past)) (place (c ∷ past)) 0 rest ends
      on_end_lem c rest false ends onward = onward

      by : (f : Front) → front bytes ≡ f
          → ((c : Command) (rest : List ℕ) → place (c ∷ past) + length rest ≡ length file → RefusedOnly May (judged_from left (c ∷ past) rest))
          → RefusedOnly May (on_front (place past) f (λ c rest.
          on_fault (place past) (fault past c) (λ _.
          on_end (is_a PostPost c) (λ _. tail (summary (c ∷ past)) (place (c ∷ past)) 0 rest) (λ _. judged_from left (c ∷ past) rest))))
      by cut e onward = inr (inl (refl, omega arith))
      by undefined e onward = inr (inr (inl (omega arith, omega arith, omega (arith, (undefined_first bytes e).0))))
      by (whole c rest) e onward =
          let long = front_length bytes c rest e in
          let after : place (c ∷ past) + length rest ≡ length file = omega (arith, long) in
          on_fault_lem (place past) (fault past c) _ (fault_number past c) (omega (arith, long)) (on_end_lem c rest (is_a PostPost c) after (onward c rest after))

  -- 1 to 11, each at its place
  pub file_refused_with : RefusedOnly (FileRefusal file) (judged file)
  unfolding judged
  file_refused_with =
      if_only May (ltb longest_file (length file)) file_too_long 0 _ (inl (refl, refl)) (from_refused_with (suc (length file)) [] file (omega arith))

  -- ---- a font's name

  -- 1 to 11, each at its place, or 8 at 0
  pub name_refused_with : (font : ℤ) → RefusedOnly (NameRefusal file) (name_place file font)
  name_refused_with font =
      then_only (NameRefusal file) (judged file) _ (only_wider May (NameRefusal file) (judged file) (λ number place may. inl may) file_refused_with)
      (λ found. by (definition_of false font (history file)))
    where
      by : (d : Definition) → RefusedOnly (NameRefusal file) (named_by d)
      by none = inr (refl, refl)
      by (stands at c) = tt
