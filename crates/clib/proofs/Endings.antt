-- What is told of an answer is told of what the answer says, where the array has room. Assumes nothing.
use Prim.Native.Nat.{ℕ, ◌≤◌}
use mathlib.Core.Path.{◌≡◌, sym, ap, ◌∙◌}
use mathlib.Core.Bool.{Bool, cond}
use mathlib.Core.List.{List}
use borrow.Author.Tests.{le-ltb}
use lib.ListN.{length}
use Rattle.refusals.specs.Answer.{Answer}
use Rattle.clib.specs.Answers.{if_room, number_of, code, numbers_of, in_front, array_after}

module _ {A : Type 0} (least : ℕ) (array : List ℕ) (answer meant : Answer A) (says : answer ≡ meant) (enough : least ≤ length array) where
  told : {B : Type 0} (of : Answer A → B) (short : B) → of answer ≡ if_room least array (of meant) short
  told of short = ap of says ∙ sym (ap (λ (b : Bool). cond b short (of meant)) (le-ltb (length array) least enough))

  -- the code
  pub code_told : number_of answer ≡ code least array meant
  code_told = told number_of 255

  -- the array
  pub array_told : (result : A → List ℕ) → in_front (numbers_of result answer) array ≡ array_after least result array meant
  array_told result = told (λ a. in_front (numbers_of result a) array) array
