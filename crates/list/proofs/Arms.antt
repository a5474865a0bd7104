-- What holds of each kind, one after the other, holds of every kind; the test of a kind; the arm of some kinds in a match. Assumes nothing.
use mathlib.Core.Path.{◌≡◌, refl, ap, ap₂, sym, ◌∙◌}
use mathlib.Core.Bool.{true}
use mathlib.Core.List.{List, [], ◌∷◌, map}
use mathlib.Core.Logic.{◌⊎◌, inl, ⊎_elim}
use Prim.Native.Nat.{ℕ}
use lib.ListN.{get_or, get_or-map}
use borrow.Author.Tests.{eqb-true}
use types.Run.{OneOf}
use denote.Enum.Declared.{tag_of}
use Rattle.commands.specs.declared.Kind.{Kind}
use Rattle.commands.specs.declared.Kind.TheVariants.{SetCharacter, SetRule, PutCharacter, PutRule, Nop, Bop, Eop, Push, Pop, Right, W, X, Down, Y, Z, Select, Special, Define, Pre, Post, PostPost, Undefined}
use Rattle.commands.specs.Kinds.{kind_of, first_opcode, is}
use Rattle.commands.specs.contracts.Kind.{the_type as kind-type}

abbrev kinds : List Kind
kinds = SetCharacter ∷ SetRule ∷ PutCharacter ∷ PutRule ∷ Nop ∷ Bop ∷ Eop ∷ Push ∷ Pop ∷ Right ∷ W ∷ X ∷ Down ∷ Y ∷ Z ∷ Select ∷ Special ∷ Define ∷ Pre ∷ Post ∷ PostPost ∷ Undefined ∷ []

kind_back : (k : Kind) → get_or kinds (tag_of kind-type k) Undefined ≡ k
kind_back SetCharacter = refl
kind_back SetRule = refl
kind_back PutCharacter = refl
kind_back PutRule = refl
kind_back Nop = refl
kind_back Bop = refl
kind_back Eop = refl
kind_back Push = refl
kind_back Pop = refl
kind_back Right = refl
kind_back W = refl
kind_back X = refl
kind_back Down = refl
kind_back Y = refl
kind_back Z = refl
kind_back Select = refl
kind_back Special = refl
kind_back Define = refl
kind_back Pre = refl
kind_back Post = refl
kind_back PostPost = refl
kind_back Undefined = refl

-- two functions that agree on all kinds, one after the other, agree
pub on_kinds : {A : Type 0} (f g : Kind → A) → map f kinds ≡ map g kinds → (k : Kind) → f k ≡ g k
on_kinds f g e k =
    let last : f Undefined ≡ g Undefined = ap (λ (l : List _). get_or l 21 (f Undefined)) e in
    ap f (sym (kind_back k))
    ∙ sym (get_or-map f kinds (tag_of kind-type k) Undefined)
    ∙ ap₂ (λ (l : List _) (d : _). get_or l (tag_of kind-type k) d) e last
    ∙ get_or-map g kinds (tag_of kind-type k) Undefined
    ∙ ap g (kind_back k)

kind_first : (k : Kind) → kind_of (first_opcode k) ≡ k
kind_first k = on_kinds (λ j. kind_of (first_opcode j)) (λ j. j) (unfold kind_of in refl) k

pub is_kind : (k other : Kind) → is k other ≡ true → k ≡ other
is_kind k other e = sym (kind_first k) ∙ ap kind_of (eqb-true (first_opcode k) (first_opcode other) e) ∙ kind_first other

same_kind : (x y : Kind) → tag_of kind-type x ≡ tag_of kind-type y → x ≡ y
same_kind x y e = sym (kind_back x) ∙ ap (λ (t : ℕ). get_or kinds t Undefined) e ∙ kind_back y

first_or_later : (key : ℕ) (keys : List ℕ) (x : ℕ) → OneOf (key ∷ keys) x → (x ≡ key) ⊎ OneOf keys x
first_or_later key [] x o = inl o
first_or_later key (next ∷ keys) x o = o

-- an arm of these kinds: two functions that agree on them agree where it is taken
pub kind_arm : {A : Type 0} (f g : Kind → A) (ks : List Kind) → map f ks ≡ map g ks
    → (k : Kind) → OneOf (map (tag_of kind-type) ks) (tag_of kind-type k) → f k ≡ g k
kind_arm f g [] e k o = absurd o
kind_arm f g (first ∷ ks) e k o =
    let here : tag_of kind-type k ≡ tag_of kind-type first → f k ≡ g k = λ same. ap f (same_kind k first same) ∙ (cc) ∙ ap g (sym (same_kind k first same)) in
    ⊎_elim here (kind_arm f g ks (cc) k) (first_or_later (tag_of kind-type first) (map (tag_of kind-type) ks) (tag_of kind-type k) o)
