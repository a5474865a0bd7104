-- How the refusals that may be go through a chain of judgements, and which numbers they have. Assumes nothing.
use Prim.Native.Nat.{ℕ, ◌≤◌}
use mathlib.Core.Path.{◌≡◌, subst}
use mathlib.Core.Bool.{Bool, true, false}
use mathlib.Core.List.{List}
use mathlib.Core.Logic.{inl, inr}
use native.Mathlib.Omega.{arith}
use Rattle.refusals.specs.Answer.{Answer, refused, given, refuse_if, and_then}
use Rattle.refusals.specs.RefusedOnly.{RefusedOnly, FileRefusal, NameRefusal, UnitRefusal, PageRefusal, MadeRefusal, CutRefusal}

module _ {A : Type 0} (May : ℕ → ℕ → Type 0) where
  -- a test whose refusal may be, and what follows it
  pub if_only : (test : Bool) (number place : ℕ) (next : Answer A) → May number place → RefusedOnly May next → RefusedOnly May (refuse_if test number place next)
  if_only true number place next may rest = may
  if_only false number place next may rest = rest

  -- an answer, and what follows its result
  pub then_only : {B : Type 0} (answer : Answer B) (next : B → Answer A) → RefusedOnly May answer → ((b : B) → RefusedOnly May (next b))
      → RefusedOnly May (and_then answer next)
  then_only (refused number place) next may rest = may
  then_only (given b) next may rest = rest b

  -- where more may be
  pub only_wider : (More : ℕ → ℕ → Type 0) (answer : Answer A) → ((number place : ℕ) → May number place → More number place) → RefusedOnly May answer
      → RefusedOnly More answer
  only_wider More (refused number place) wider may = wider number place may
  only_wider More (given a) wider may = tt

  -- one that is so refused may be
  pub only_refused : (answer : Answer A) {number place : ℕ} → answer ≡ refused number place → RefusedOnly May answer → May number place
  only_refused answer e only = subst (RefusedOnly May) e only

-- ---- the numbers

module _ {number place : ℕ} where
  -- 1 to 11
  pub file_numbers_lem : (file : List ℕ) → FileRefusal file number place → (1 ≤ number) × (number ≤ 11)
  file_numbers_lem file (inl (is, at)) = (omega (arith, is), omega (arith, is))
  file_numbers_lem file (inr (inl (is, at))) = (omega (arith, is), omega (arith, is))
  file_numbers_lem file (inr (inr (inl (low, high, at)))) = (omega (arith, low), omega (arith, high))
  file_numbers_lem file (inr (inr (inr (is, at)))) = (omega (arith, is), omega (arith, is))

  pub name_numbers_lem : (file : List ℕ) → NameRefusal file number place → (1 ≤ number) × (number ≤ 11)
  name_numbers_lem file (inl of_file) = file_numbers_lem file of_file
  name_numbers_lem file (inr (is, at)) = (omega (arith, is), omega (arith, is))

  -- 12 or 13
  pub unit_numbers : UnitRefusal number place → (12 ≤ number) × (number ≤ 13)
  unit_numbers (inl is, at) = (omega (arith, is), omega (arith, is))
  unit_numbers (inr is, at) = (omega (arith, is), omega (arith, is))

  -- 1 to 17
  pub page_numbers : (file : List ℕ) (size : ℕ) (table : List ℕ) → PageRefusal file size table number place → (1 ≤ number) × (number ≤ 17)
  page_numbers file size table (inl of_file) = let (low, high) = file_numbers_lem file of_file in (low, omega arith)
  page_numbers file size table (inr (inl of_unit)) = let (low, high) = unit_numbers of_unit in (omega arith, omega arith)
  page_numbers file size table (inr (inr (inl (is, at, below)))) = (omega (arith, is), omega (arith, is))
  page_numbers file size table (inr (inr (inr (inl (inl is, at))))) = (omega (arith, is), omega (arith, is))
  page_numbers file size table (inr (inr (inr (inl (inr is, at))))) = (omega (arith, is), omega (arith, is))
  page_numbers file size table (inr (inr (inr (inr (is, at))))) = (omega (arith, is), omega (arith, is))

  -- 17 to 22
  pub made_numbers : (pk : List ℕ) → MadeRefusal pk number place → (17 ≤ number) × (number ≤ 22)
  made_numbers pk (inl (is, at)) = (omega (arith, is), omega (arith, is))
  made_numbers pk (inr (inl (inl (is, at)))) = (omega (arith, is), omega (arith, is))
  made_numbers pk (inr (inl (inr (low, high, at)))) = (omega (arith, low), omega (arith, high))
  made_numbers pk (inr (inr (is, at))) = (omega (arith, is), omega (arith, is))

  -- 1 to 23
  pub cut_numbers_lem : (file : List ℕ) → CutRefusal file number place → (1 ≤ number) × (number ≤ 23)
  cut_numbers_lem file (inl of_file) = let (low, high) = file_numbers_lem file of_file in (low, omega arith)
  cut_numbers_lem file (inr (inl is, at)) = (omega (arith, is), omega (arith, is))
  cut_numbers_lem file (inr (inr is, at)) = (omega (arith, is), omega (arith, is))
