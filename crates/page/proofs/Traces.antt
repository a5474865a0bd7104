-- The commands of an accepted file stand in it one after the other and keep the rules; so fonts have scales and the units sizes in range. Assumes nothing.
use mathlib.Core.Path.{◌≡◌, refl, sym, ap, ◌∙◌, subst}
use mathlib.Core.Bool.{Bool, true, false, cond, not, ◌&&◌, ◌||◌, and-eq-true_iff, true≢false}
use mathlib.Core.List.{List, [], ◌∷◌}
use mathlib.Core.Logic.{⊎_elim}
use Prim.Native.Nat.{ℕ, zero, suc, ◌+◌, ◌≤◌, ◌<◌, ◌^◌}
use native.Mathlib.Omega.{arith}
use lib.Dec.{ltb, leb, eqb}
use lib.ListN.{length, get_or, drop, get_or-append, get_or-eq_default}
use lib.Seq.{get_or-drop}
use lib.IntN.{ℤ, pos, ◌-ℤ◌}
use lib.Signed.{lt_z}
use borrow.Author.Tests.{ltb-true, leb-true, not-false}
use Rattle.refusals.specs.Answer.{given}
use Rattle.numbers.specs.Signs.{same_number, positive}
use Rattle.numbers.specs.Bytes.{unsigned_at, signed_at}
use Rattle.numbers.proofs.Signed.{diff, lt_yes}
use Rattle.units.specs.Steps.{Units}
use Rattle.numbers.specs.Sizes.{lawful_size}
use Rattle.commands.specs.declared.Kind.TheVariants.{Define, Pre, PostPost}
use Rattle.commands.specs.Fields.{unsigned_in, pre_identification, pre_num, pre_den, pre_mag}
use Rattle.commands.specs.Commands.{Command, kind_of_command, whole, front, place}
use Rattle.commands.specs.Parameters.{font_scale}
use Rattle.numbers.proofs.Radix.{less_or_not}
use Rattle.commands.proofs.Fronts.{front_sound}
use Rattle.list.specs.declared.Stage.{Stage}
use Rattle.list.specs.declared.Stage.TheVariants.{AtStart, BeforePages, OnPage, BetweenPages, AfterPost, AfterEnd}
use Rattle.volume.specs.declared.Summary.{Summary}
use Rattle.list.specs.Past.{is_a, stage, num, den, mag, font_number, body, defines, stands, definition_of}
use Rattle.list.specs.Rules.{is_at_start, lawful_preamble, positive_unit, may_stand, lawful_font, lawful_definition, font_left_out, Allowed}
use Rattle.volume.specs.Judged.{judged_from, judged}
use Rattle.volume.specs.History.{history_from, history}
use Rattle.list.proofs.Arms.{is_kind}
use Rattle.list.proofs.FaultLaws.{all_kept}
use Rattle.list.proofs.FontTables.{defines_kind}
use Rattle.list.proofs.AtStages.{first_pre}
use Rattle.volume.proofs.Turns.{judged_short, judged_cut, judged_undefined, judged_faulty, judged_onward, history_start, history_last, history_onward, Turn, at_cut, at_undefined, at_fault, at_last, onward, turn}
use Rattle.volume.proofs.Accepts.{refused_given, accepts_lawful}
use Rattle.volume.proofs.Going.{after_command}
use Rattle.page.specs.Steps.{InScale}
use Rattle.page.specs.Trace.{Trace, start, more}

-- ---- the history of an accepted file

-- so they stand, up to post_post
abbrev Ended : List ℕ → List Command → Type 0
Ended file past = Trace file past × (stage past ≡ AfterEnd)

-- after post_post nothing more stands
last_stage : (past : List Command) (c : Command) → is_a PostPost c ≡ true → stage (c ∷ past) ≡ AfterEnd
last_stage past c last = rw (is_kind (kind_of_command c) PostPost last)

-- from the commands so far on, what is accepted goes on to post_post
goes_on : (file : List ℕ) (s : Summary) (left : ℕ) (past : List Command) → Trace file past → judged_from left past (drop (place past) file) ≡ given s
    → Ended file (history_from left past (drop (place past) file))
unfolding judged_from
goes_on file s zero past t e = absurd (refused_given refl e)
goes_on file s (suc left) past t e = by (turn past (drop (place past) file)) (λ c. goes_on file s left (c ∷ past))
  where
    by : Turn past (drop (place past) file)
        → ((c : Command) → Trace file (c ∷ past) → judged_from left (c ∷ past) (drop (place (c ∷ past)) file) ≡ given s
        → Ended file (history_from left (c ∷ past) (drop (place (c ∷ past)) file)))
        → Ended file (history_from (suc left) past (drop (place past) file))
    by (at_cut f) next = absurd (refused_given (judged_cut left past (drop (place past) file) f) e)
    by (at_undefined f) next = absurd (refused_given (judged_undefined left past (drop (place past) file) f) e)
    by (at_fault c rest n f broken) next = absurd (refused_given (judged_faulty left past (drop (place past) file) c rest f (suc n) broken (λ z. omega arith)) e)
    by (at_last c rest f kept last) next =
        rw (history_last left past (drop (place past) file) c rest f last) (more c rest t f (all_kept past c kept), last_stage past c last)
    by (onward c rest f kept not_last) next =
        let after = (after_command file (place past) c rest f).0 in
        subst (Ended file) (sym (history_onward left past (drop (place past) file) c rest f not_last ∙ ap (history_from left (c ∷ past)) after))
        (next c (more c rest t f (all_kept past c kept)) (sym (judged_onward left past (drop (place past) file) c rest f kept not_last ∙ ap (judged_from left (c ∷ past)) after) ∙ e))

-- the commands of an accepted file stand in it and keep the rules, up to post_post
accepted_ended : (file : List ℕ) (s : Summary) → judged file ≡ given s → Ended file (history file)
accepted_ended file s e =
    rw (history_start file) (goes_on file s (suc (length file)) [] start (sym (judged_short file (accepts_lawful file s e).0) ∙ e))

-- the commands of an accepted file stand in it and keep the rules
pub accepted_trace : (file : List ℕ) (s : Summary) → judged file ≡ given s → Trace file (history file)
accepted_trace file s e = (accepted_ended file s e).0

-- the history of an accepted file ends with post_post
pub accepted_end : (file : List ℕ) (s : Summary) → judged file ≡ given s → stage (history file) ≡ AfterEnd
accepted_end file s e = (accepted_ended file s e).1

-- ---- scales

-- a test that is asked for holds where the rule is not broken
kept : (asked holds other : Bool) → ((asked && not holds) || other) ≡ false → asked ≡ true → holds ≡ true
kept true true other e t = refl
kept true false other e t = sym e
kept false holds other e t = cc

-- a definition that keeps the rules has a scale in its range
lawful_scale : (past : List Command) (c : Command) → Allowed past c → is_a Define c ≡ true → font_scale (body c) ≤ 134217727
lawful_scale past c allowed t =
    let lawful = kept (is_a Define c) (lawful_definition past c) (is_a PostPost c && font_left_out past) allowed.definition t in
    let size = ((and-eq-true_iff (lawful_size (font_scale (body c))) _).0 ((and-eq-true_iff (lawful_font (font_number c)) _).0 lawful).1).0 in
    leb-true (font_scale (body c)) 134217727 ((and-eq-true_iff (leb 1 (font_scale (body c))) _).0 size).1

-- the fonts of commands that keep the rules have scales in their range
pub trace_scales : (file : List ℕ) (past : List Command) → Trace file past → (number : ℤ) → InScale (definition_of false number past)
trace_scales file past start number = tt
trace_scales file past (more {past = before} c rest t f allowed) number =
    by (defines false (stage before) (kind_of_command c)) refl (same_number (font_number c) number) (trace_scales file before t number)
  where
    by : (defining : Bool) → defines false (stage before) (kind_of_command c) ≡ defining → (same : Bool) → InScale (definition_of false number before)
        → InScale (cond (defining && same) (stands (place before) c) (definition_of false number before))
    by true e true earlier = lawful_scale before c allowed (rw (defines_kind false (stage before) c.opcode e))
    by true e false earlier = earlier
    by false e same earlier = earlier

-- ---- units

module _ (params : List ℕ) (bytes : (i : ℕ) → get_or params i 0 < 256) where
  -- four bytes are below 2^32
  four_below : (at : ℕ) → unsigned_at params at 4 < 256 ^ 4
  unfolding unsigned_at
  four_below at = omega (arith, bytes (at + 0), bytes (at + 1), bytes (at + 2), bytes (at + 3))

  -- and where they are positive as a signed number, below 2^31
  positive_four : (at : ℕ) → positive (signed_at params at 4) ≡ true → (0 < unsigned_at params at 4) × (unsigned_at params at 4 < 2 ^ 31)
  positive_four at e = by (ltb (unsigned_at params at 4 + unsigned_at params at 4) (256 ^ 4)) refl e
    where
      by : (low : Bool) → ltb (unsigned_at params at 4 + unsigned_at params at 4) (256 ^ 4) ≡ low
          → lt_z (pos 0) (cond low (pos (unsigned_at params at 4)) (pos (unsigned_at params at 4) -ℤ pos (256 ^ 4))) ≡ true
          → (0 < unsigned_at params at 4) × (unsigned_at params at 4 < 2 ^ 31)
      by true t q =
          (omega (arith, lt_yes (pos 0) (pos (unsigned_at params at 4)) q), omega (arith, ltb-true (unsigned_at params at 4 + unsigned_at params at 4) (256 ^ 4) t))
      by false t q =
          absurd (omega (arith, four_below at, lt_yes (pos 0) (pos (unsigned_at params at 4) -ℤ pos (256 ^ 4)) q, diff (pos (unsigned_at params at 4)) (pos (256 ^ 4))))

  -- the units of a preamble that keeps the rules
  preamble_units : lawful_preamble params ≡ true → Units (unsigned_in pre_num params) (unsigned_in pre_den params) (unsigned_in pre_mag params)
  preamble_units e =
      let from-num = ((and-eq-true_iff (eqb (unsigned_in pre_identification params) 2) _).0 e).1 in
      let from-den = (and-eq-true_iff (positive_unit pre_num params) _).0 from-num in
      let both = (and-eq-true_iff (positive_unit pre_den params) (positive_unit pre_mag params)).0 from-den.1 in
      let (num_positive, num_below) = positive_four pre_num.at from-den.0 in
      let (den_positive, den_below) = positive_four pre_den.at both.0 in
      let (mag_positive, mag_below) = positive_four pre_mag.at both.1 in
      record {
        num_positive = num_positive;
        num_below = num_below;
        den_positive = den_positive;
        den_below = den_below;
        mag_positive = mag_positive;
        mag_below = mag_below;
      }

-- the parameters of a command that stands in a file are bytes, as the file is
params_bytes : (file : List ℕ) → ((i : ℕ) → get_or file i 0 < 256) → (at : ℕ) (c : Command) (rest : List ℕ) → front (drop at file) ≡ whole c rest
    → (i : ℕ) → get_or c.params i 0 < 256
params_bytes file bytes at c rest f i = ⊎_elim inside beyond (less_or_not i (length c.params))
  where
    inside : i < length c.params → get_or c.params i 0 < 256
    inside h =
        let same : get_or c.params i 0 ≡ get_or file (at + suc i) 0 =
        sym (get_or-append c.params rest 0 i h) ∙ ap (λ (l : List ℕ). get_or l (suc i) 0) (sym (front_sound (drop at file) c rest f).1) ∙ get_or-drop at file (suc i) 0 in
        rw same (bytes (at + suc i))

    beyond : length c.params ≤ i → get_or c.params i 0 < 256
    beyond h = rw (get_or-eq_default c.params 0 h) (omega arith)

-- pre stands at the start only
only_first : (at_stage : Stage) → is_at_start at_stage ≡ false → may_stand at_stage Pre ≡ false
only_first AtStart e = e
only_first BeforePages e = refl
only_first OnPage e = refl
only_first BetweenPages e = refl
only_first AfterPost e = refl
only_first AfterEnd e = refl

module _ (past : List Command) (c : Command) (allowed : Allowed past c) where
  -- a command that is not the first is no pre
  later_other : is_at_start (stage past) ≡ false → is_a Pre c ≡ false
  later_other e = by (is_a Pre c) refl
    where
      by : (pre : Bool) → is_a Pre c ≡ pre → pre ≡ false
      by true q =
          sym (not-false (may_stand (stage past) (kind_of_command c)) allowed.standing)
          ∙ ap (may_stand (stage past)) (is_kind (kind_of_command c) Pre q)
          ∙ only_first (stage past) e
      by false q = refl

-- commands that keep the rules, one at least, have lawful units
trace_units : (file : List ℕ) (past : List Command) → ((i : ℕ) → get_or file i 0 < 256) → Trace file past → is_at_start (stage past) ≡ false
    → Units (num past) (den past) (mag past)
trace_units file past bytes start e = absurd (true≢false e)
trace_units file past bytes (more {past = before} c rest t f allowed) e = by (is_at_start (stage before)) refl (trace_units file before bytes t)
  where
    by : (first : Bool) → is_at_start (stage before) ≡ first → (is_at_start (stage before) ≡ false → Units (num before) (den before) (mag before))
        → Units (num (c ∷ before)) (den (c ∷ before)) (mag (c ∷ before))
    by true q earlier =
        let (is-pre, lawful) = first_pre before c allowed q in
        rw is-pre (preamble_units c.params (params_bytes file bytes (place before) c rest f) lawful)
    by false q earlier = rw (later_other before c allowed q) (earlier q)

-- the units of an accepted file, whose elements are bytes, are lawful
pub accepted_units : (file : List ℕ) (s : Summary) → ((i : ℕ) → get_or file i 0 < 256) → judged file ≡ given s
    → Units (num (history file)) (den (history file)) (mag (history file))
accepted_units file s bytes e = trace_units file (history file) bytes (accepted_trace file s e) (rw (accepted_end file s e))
