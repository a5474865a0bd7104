-- The check refuses a file with a number and a place exactly where a list of commands that keeps the rules cannot go on, for the reason that the
-- number names. Assumes nothing.
use Prim.Native.Nat.{ℕ, zero, suc, ◌<◌, ◌≤◌}
use mathlib.Core.Path.{◌≡◌, refl, ap, sym, ◌∙◌}
use mathlib.Core.Bool.{true}
use mathlib.Core.List.{List, [], ◌∷◌, ◌++◌}
use mathlib.Core.Logic.{◌↔◌, inl, inr, ⊎_elim}
use native.Mathlib.Omega.{arith}
use lib.ListN.{length, get_or, length-append}
use Rattle.refusals.specs.Numbers.{file_too_long, undefined_opcode}
use Rattle.refusals.specs.Answer.{Answer, refused}
use Rattle.commands.specs.declared.Kind.TheVariants.{PostPost}
use Rattle.commands.specs.Commands.{Command, Whole, form, written, Front, cut, undefined, whole, front, place}
use Rattle.commands.specs.Reading.{longest_file}
use Rattle.numbers.proofs.Radix.{less_or_not}
use Rattle.commands.proofs.Fronts.{after_undefined, front_written, front_sound, front_length, undefined_first}
use Rattle.volume.specs.declared.Summary.{Summary}
use Rattle.list.specs.Past.{is_a}
use Rattle.list.specs.Rules.{Allowed}
use Rattle.list.specs.Lawful.{fillers}
use Rattle.volume.specs.Judged.{summary, tail, judged_from, judged}
use Rattle.volume.specs.Refusing.{RefusesAt, ends_early, strange, breaks, other_byte, too_few, later, FileRefuses}
use Rattle.volume.proofs.Turns.{judged_long, judged_short, judged_cut, judged_undefined, judged_faulty, judged_last, judged_onward, Turn, at_cut, at_undefined, at_fault, at_last, onward, turn}
use Rattle.volume.proofs.Tails.{fillers_few, fillers_enough, fillers_wrong, Ending, ended, other, ending}
use Rattle.list.proofs.FaultLaws.{none_broken, all_kept}
use Rattle.volume.proofs.Accepts.{refused_given}

-- ---- what cannot go on is refused

no_front : (bytes : List ℕ) → ((c : Command) (rest : List ℕ) → Whole c → bytes ≡ form c ++ rest → ⊥) → get_or bytes 0 0 < 250 → front bytes ≡ cut
no_front bytes none-whole low = go (front bytes) refl
  where
    go : (x : Front) → front bytes ≡ x → x ≡ cut
    go cut e = refl
    go undefined e = absurd (omega (arith, (undefined_first bytes e).1))
    go (whole c rest) e = let (w, forms) = front_sound bytes c rest e in absurd (none-whole c rest w forms)

pub refused_is : {past : List Command} {bytes : List ℕ} {number at : ℕ} → RefusesAt past bytes number at → (left : ℕ) → length bytes < left
    → judged_from left past bytes ≡ refused number at
refused_is r zero h = absurd (omega arith)
refused_is (ends_early {past = past} {bytes = bytes} none-whole low) (suc left) h = judged_cut left past bytes (no_front bytes none-whole low)
refused_is (strange {past = past} opcode rest high) (suc left) h = judged_undefined left past (opcode ∷ rest) (after_undefined opcode rest high)
refused_is (breaks {past = past} {number = number} c rest w broken positive) (suc left) h =
    judged_faulty left past (form c ++ rest) c rest (front_written c rest w) number broken (λ z. omega arith)
refused_is (other_byte {past = past} c n byte rest w allowed last h) (suc left) l =
    let bytes : List ℕ = written (fillers n) ++ (byte ∷ rest) in
    judged_last left past (form c ++ bytes) c bytes (front_written c bytes w) (none_broken past c allowed) last
    ∙ fillers_wrong (summary (c ∷ past)) (place (c ∷ past)) n byte rest refl h
refused_is (too_few {past = past} c n w allowed last few) (suc left) h =
    let bytes : List ℕ = written (fillers n) in
    judged_last left past (form c ++ bytes) c bytes (front_written c bytes w) (none_broken past c allowed) last
    ∙ fillers_few (summary (c ∷ past)) (place (c ∷ past)) n refl few
refused_is (later {past = past} c rest w allowed not_last r) (suc left) h =
    judged_onward left past (form c ++ rest) c rest (front_written c rest w) (none_broken past c allowed) not_last
    ∙ refused_is r left (omega (arith, length-append c.params rest))

-- ---- what is refused cannot go on

cut_low : (bytes : List ℕ) → front bytes ≡ cut → get_or bytes 0 0 < 250
cut_low [] e = omega arith
cut_low (opcode ∷ rest) e = ⊎_elim (λ low. low) high (less_or_not opcode 250)
  where
    high : 250 ≤ opcode → opcode < 250
    high h = let z : ◌≡◌ {A = ℕ} 0 1 = cc (after_undefined opcode rest h) in absurd (omega arith)

-- one answer has one number and one place
same_refusal : {past : List Command} {bytes : List ℕ} {number at number' at' : ℕ} {x : Answer Summary}
    → x ≡ refused number at → x ≡ refused number' at' → RefusesAt past bytes number at → RefusesAt past bytes number' at'
same_refusal {number = number} {at = at} {number' = number'} {at' = at'} e q r =
    let numbers : number ≡ number' = cc in
    let places : at ≡ at' = cc in
    rw (← numbers, ← places) r

module _ {past : List Command} (number at : ℕ) (c : Command) (rest : List ℕ) (w : Whole c) (allowed : Allowed past c) (last : is_a PostPost c ≡ true)
    (e : tail (summary (c ∷ past)) (place (c ∷ past)) 0 rest ≡ refused number at) where
  abbrev found : Summary
  found = summary (c ∷ past)

  abbrev after : ℕ
  after = place (c ∷ past)

  by_ending : Ending rest → RefusesAt past (form c ++ rest) number at
  by_ending (ended n q) = ⊎_elim few enough (less_or_not n 4)
    where
      few : n < 4 → RefusesAt past (form c ++ rest) number at
      few h = same_refusal (fillers_few found after n q h) e (rw q (too_few c n w allowed last h))

      enough : 4 ≤ n → RefusesAt past (form c ++ rest) number at
      enough h = absurd (refused_given e (fillers_enough found after n q h))
  by_ending (other n byte bytes q h) = same_refusal (fillers_wrong found after n byte bytes q h) e (rw q (other_byte c n byte bytes w allowed last h))

  tail_refuses : RefusesAt past (form c ++ rest) number at
  tail_refuses = by_ending (ending rest)

pub is_refused : (left : ℕ) (past : List Command) (bytes : List ℕ) (number at : ℕ) → length bytes < left → judged_from left past bytes ≡ refused number at
    → RefusesAt past bytes number at
is_refused zero past bytes number at h e = absurd (omega arith)
is_refused (suc left) past bytes number at h e = go (turn past bytes) (λ c rest. is_refused left (c ∷ past) rest number at)
  where
    none-whole : front bytes ≡ cut → (c : Command) (rest : List ℕ) → Whole c → bytes ≡ form c ++ rest → ⊥
    none-whole f c rest w forms = let z : ◌≡◌ {A = ℕ} 0 1 = cc (ap front forms ∙ front_written c rest w) in omega arith

    undefined-stands : (bytes : List ℕ) → front bytes ≡ undefined → RefusesAt past bytes undefined_opcode (place past)
    undefined-stands [] f = let z : ◌≡◌ {A = ℕ} 0 1 = cc in absurd (omega arith)
    undefined-stands (opcode ∷ rest) f = strange opcode rest (undefined_first (opcode ∷ rest) f).1

    go : Turn past bytes → ((c : Command) (rest : List ℕ) → length rest < left → judged_from left (c ∷ past) rest ≡ refused number at → RefusesAt (c ∷ past) rest number at)
        → RefusesAt past bytes number at
    go (at_cut f) onwards = same_refusal (judged_cut left past bytes f) e (ends_early (none-whole f) (cut_low bytes f))
    go (at_undefined f) onwards = same_refusal (judged_undefined left past bytes f) e (undefined-stands bytes f)
    go (at_fault c rest n f broken) onwards =
        let (w, forms) = front_sound bytes c rest f in
        same_refusal (judged_faulty left past bytes c rest f (suc n) broken (λ z. omega arith)) e
        (rw forms (breaks c rest w broken (omega arith)))
    go (at_last c rest f kept last) onwards =
        let (w, forms) = front_sound bytes c rest f in
        rw forms (tail_refuses number at c rest w (all_kept past c kept) last (sym (judged_last left past bytes c rest f kept last) ∙ e))
    go (onward c rest f kept not_last) onwards =
        let (w, forms) = front_sound bytes c rest f in
        let shorter : length rest < left = omega (arith, front_length bytes c rest f) in
        rw forms (later c rest w (all_kept past c kept) not_last (onwards c rest shorter (sym (judged_onward left past bytes c rest f kept not_last) ∙ e)))

-- ---- whole files

module _ (file : List ℕ) (number at : ℕ) where
  pub refuses_file : FileRefuses file number at → judged file ≡ refused number at
  refuses_file (inl (long, n, p)) = rw (n, p) (judged_long file long)
  refuses_file (inr (short, r)) = judged_short file short ∙ refused_is r (suc (length file)) (omega arith)

  pub file_refuses : judged file ≡ refused number at → FileRefuses file number at
  file_refuses e = ⊎_elim long short (less_or_not longest_file (length file))
    where
      long : longest_file < length file → FileRefuses file number at
      long h = let same : refused file_too_long 0 ≡ refused number at = sym (judged_long file h) ∙ e in inl (h, cc, cc)

      short : length file ≤ longest_file → FileRefuses file number at
      short h = inr (h, is_refused (suc (length file)) [] file number at (omega arith) (sym (judged_short file h) ∙ e))

  pub refused_iff : judged file ≡ refused number at ↔ FileRefuses file number at
  refused_iff = (file_refuses, refuses_file)
