-- Plain commands in a file, one after the other. Assumes nothing.
use mathlib.Core.Path.{◌≡◌, refl, sym, ◌∙◌, subst}
use mathlib.Core.Bool.{Bool, true, false, true≢false}
use mathlib.Core.List.{List}
use mathlib.Core.Logic.{⊎_elim}
use Prim.Native.Nat.{ℕ, zero, suc, ◌+◌, ◌-◌, ◌<◌, ◌≤◌}
use native.Mathlib.Omega.{arith}
use lib.ListN.{length, get_or, take, drop, length-drop}
use lib.Seq.{length-take-le}
use Rattle.std.specs.List.{position, position_or_len}
use Rattle.std.specs.declared.option.Option.TheVariants.{None}
use Rattle.std.proofs.lemmas.Grind.{common_steps}
use Rattle.std.proofs.lemmas.List.Sums.{fails_before_first}
use borrow.Author.Tests.{lt-ltb}
use Rattle.commands.specs.Kinds.{kind_of}
use Rattle.commands.specs.Lengths.{fixed_length, size_of}
use Rattle.commands.specs.Commands.{front, whole}
use Rattle.numbers.proofs.Radix.{less_or_not}
use Rattle.commands.proofs.Ranges.{constant_on}
use Rattle.commands.proofs.Opcodes.{from_250}
use Rattle.commands.proofs.ParameterLengths.{inner_below}
use Rattle.commands.proofs.Fronts.{after_whole, front_at}
use Rattle.list.specs.Steps.{command}
use Rattle.volume.specs.Steps.{is_plain, Passes, none_more, one_more}

-- a plain opcode is below those with a length inside
pub plain_below : (opcode : ℕ) → is_plain (kind_of opcode) ≡ true → opcode < 171
plain_below opcode e = ⊎_elim (λ h. h) (λ above. absurd (true≢false (sym e ∙ ⊎_elim (defined above) beyond (less_or_not opcode 250)))) (less_or_not opcode 171)
  where
    defined : 171 ≤ opcode → opcode < 250 → is_plain (kind_of opcode) ≡ false
    defined low high = constant_on (λ x. is_plain (kind_of x)) false 171 79 (unfold kind_of in refl) low (omega arith)

    beyond : 250 ≤ opcode → is_plain (kind_of opcode) ≡ false
    beyond h = rw (from_250 opcode h)

size_plain : (opcode : ℕ) (rest : List ℕ) → is_plain (kind_of opcode) ≡ true → size_of opcode rest ≡ fixed_length opcode
unfolding size_of
size_plain opcode rest e = omega (arith, plain_below opcode e, inner_below opcode rest (omega (arith, plain_below opcode e)))

-- one more plain command
pub pass_one : {file : List ℕ} {from at : ℕ} → Passes file from at → at < length file → is_plain (kind_of (get_or file at 0)) ≡ true
    → (count : ℕ) → count ≡ fixed_length (get_or file at 0) → count < length file - at → Passes file from (at + (1 + count))
pass_one {file} {from} {at} passed starts plain count is fits =
    let opcode : ℕ = get_or file at 0 in
    let rest : List ℕ = drop (at + 1) file in
    let size : size_of opcode rest ≡ count = size_plain opcode rest plain ∙ sym is in
    let room : count ≤ length rest = simp length-drop (omega arith) in
    let ahead : front (drop at file) ≡ whole (command opcode (take count rest)) (drop count rest) =
    front_at file at starts ∙ (rw size at (after_whole opcode rest (omega (arith, plain_below opcode plain)) (omega (arith, size)))) in
    subst (λ (n : ℕ). Passes file from (at + (1 + n))) (length-take-le count rest room) (one_more (command opcode (take count rest)) (drop count rest) passed ahead plain)

-- a character of one byte
pub pass_character : {file : List ℕ} {from at : ℕ} → Passes file from at → at < length file → get_or file at 0 < 128 → Passes file from (at + 1)
unfolding fixed_length
pass_character {file} {from} {at} passed starts low =
    let opcode : ℕ = get_or file at 0 in
    let plain : is_plain (kind_of opcode) ≡ true = constant_on (λ x. is_plain (kind_of x)) true 0 128 (unfold kind_of in refl) (omega arith) (omega arith) in
    pass_one passed starts plain 0 (rw (lt-ltb opcode 128 low)) (omega arith)

-- where no place passes, each byte fails
pub none_passes : (p : ℕ → Bool) (xs : List ℕ) → position p xs ≡ None → (k : ℕ) → k < length xs → p (get_or xs k 0) ≡ false
none_passes p xs e k h =
    let all : length xs ≤ position_or_len p xs = grind (arith, common_steps) in
    fails_before_first p xs k 0 (omega arith)

-- characters of one byte, so many of them
pub characters_run : (file : List ℕ) (at n : ℕ) → at + n ≤ length file → ((k : ℕ) → k < n → get_or file (at + k) 0 < 128) → Passes file at (at + n)
characters_run file at zero fits low = subst (λ (m : ℕ). Passes file at m) (omega arith) none_more
characters_run file at (suc n) fits low =
    subst (λ (m : ℕ). Passes file at m) (omega arith)
    (pass_character (characters_run file at n (omega arith) (λ k h. low k (omega arith))) (omega arith) (low n (omega arith)))

-- two runs, one after the other
pub passes_on : {file : List ℕ} {from middle at : ℕ} → Passes file from middle → Passes file middle at → Passes file from at
passes_on first none_more = first
passes_on first (one_more c rest passed ahead t) = one_more c rest (passes_on first passed) ahead t
