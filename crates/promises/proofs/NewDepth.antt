-- The s that post of the file of chosen pages states is the greatest depth of these pages, though the check would take a larger one. Assumes nothing.
use Prim.Native.Nat.{ℕ, ◌+◌, ◌≤◌, max}
use mathlib.Core.Path.{◌≡◌, refl, sym, ap, subst, ◌∙◌}
use mathlib.Core.Bool.{Bool, true, false, cond, ◌||◌, true≢false, false≢true}
use mathlib.Core.List.{List, [], ◌∷◌}
use native.Mathlib.Omega.{arith}
use lib.ListN.{drop}
use lib.Seq.{drop-drop}
use Rattle.refusals.specs.Answer.{given}
use Rattle.widths.specs.AsBytes.{Bytes}
use Rattle.numbers.proofs.Bytes.{unsigned_front}
use Rattle.commands.specs.declared.Kind.TheVariants.{Pre, Post}
use Rattle.commands.specs.Fields.{unsigned_in, post_depth}
use Rattle.commands.specs.Commands.{Command, kind_of_command, Whole, whole, front, place}
use Rattle.commands.proofs.ParameterLengths.{whole_plain}
use Rattle.commands.proofs.Fronts.{front_sound}
use Rattle.list.specs.Past.{is_a, stage, is_after_post, depth, greatest, post_place, defines}
use Rattle.list.specs.Rules.{Allowed}
use Rattle.list.proofs.Arms.{is_kind}
use Rattle.list.proofs.FontTables.{defines_kind}
use Rattle.volume.specs.declared.Summary.{Summary}
use Rattle.volume.specs.Judged.{judged}
use Rattle.volume.specs.History.{history}
use Rattle.volume.proofs.History.{history_counts}
use Rattle.volume.proofs.Bounds.{depth_reached}
use Rattle.page.specs.Trace.{Trace, start, more}
use Rattle.page.proofs.Traces.{accepted_trace, accepted_end}
use Rattle.cutting.specs.Chosen.{is_in, wrong_list}
use Rattle.cutting.specs.CutList.{opening, stays, mended, cut_after, cut_past}
use Rattle.cutting.specs.CutFile.{cut_file}
use Rattle.cutting.proofs.Turning.{Turn, starts, idles, defines_early, begins, within, finishes, posts, idles_late, defines_again, ends, turn_of}
use Rattle.rewritten.specs.OldWords.{deepest_on}
use Rattle.rewritten.proofs.Opening.{inner_stage}
use Rattle.rewritten.proofs.Mending.{post_length, post_depth_lem}
use Rattle.rewritten.proofs.CutAccepted.{cut_accepted_lem, cut_history}
use Rattle.promises.specs.StatedDepth.{stated_depth}
use Rattle.promises.proofs.Volumes.{PastKeeps, no_more, and_one, deep}

-- ---- depths

-- commands that stand in a file keep the rules
kept : {file : List ℕ} {past : List Command} → Trace file past → PastKeeps past
kept start = no_more
kept (more c rest t f allowed) = and_one (kept t) allowed

-- so they go no deeper than 100
deepest_there : {past : List Command} → PastKeeps past → greatest past ≤ 100
deepest_there no_more = omega arith
deepest_there (and_one keeps allowed) = omega (arith, deepest_there keeps, deep (and_one keeps allowed))

-- and a command at which the depth stays goes no deeper than those before it
no_deeper : (past : List Command) → greatest past ≡ max (greatest past) (depth past)
no_deeper past = omega (arith, depth_reached past)

-- ---- stages

-- what opens the new list is before post
opening_early : (past : List Command) → is_after_post (stage (opening past)) ≡ false
opening_early [] = refl
opening_early (c ∷ past) = by (is_a Pre c) refl (defines false (stage past) (kind_of_command c)) refl (opening_early past)
  where
    by : (pre : Bool) → is_a Pre c ≡ pre → (defining : Bool) → defines false (stage past) (kind_of_command c) ≡ defining → is_after_post (stage (opening past)) ≡ false
        → is_after_post (stage (cond (pre || defining) (c ∷ opening past) (opening past))) ≡ false
    by true p defining d earlier = rw (is_kind (kind_of_command c) Pre p)
    by false p true d earlier = rw (defines_kind false (stage past) c.opcode d) earlier
    by false p false d earlier = earlier

-- ---- s

module _ (new : List ℕ) (first : List Command) (chosen : ℕ → Bool) (early : is_after_post (stage first) ≡ false) where
  -- the last post of some commands states their greatest depth
  abbrev States : List Command → Type 0
  States past = stated_depth new (post_place past) ≡ greatest past

  -- a post that is mended for the commands before it
  post_states : (before : List Command) (c : Command) (rest : List ℕ) → Whole c → Trace new before → front (drop (place before) new) ≡ whole (mended before c) rest
      → kind_of_command c ≡ Post → States (mended before c ∷ before)
  post_states before c rest w t f k =
      let there : drop (place before + 1) new ≡ drop 1 (drop (place before) new) = sym (drop-drop 1 (place before) new) in
      let bytes = ap (drop 1) (front_sound (drop (place before) new) (mended before c) rest f).1 in
      let size = post_length before c w k ∙ whole_plain c w k refl in
      let stated : stated_depth new (place before) ≡ greatest before =
      ap (unsigned_in post_depth) (there ∙ bytes)
      ∙ unsigned_front (mended before c).params rest 24 2 (omega (arith, size))
      ∙ post_depth_lem before c w k (omega (arith, deepest_there (kept t))) in
      rw k (stated ∙ no_deeper before)

  -- so do the commands with one more that is a post or stands behind it
  later_states : (before : List Command) (c : Command) → Allowed before c → (is_a Post c ≡ true → States (c ∷ before)) → (is_after_post (stage before) ≡ true → States before)
      → is_after_post (stage (c ∷ before)) ≡ true → States (c ∷ before)
  later_states before c allowed here earlier late = by (turn_of allowed)
    where
      by : Turn (stage before) (kind_of_command c) → States (c ∷ before)
      by (starts at k) = absurd (false≢true (rw k at late))
      by (idles out k) = absurd (true≢false (sym (rw k at late) ∙ out.early))
      by (defines_early out k) = absurd (true≢false (sym (rw k at late) ∙ out.early))
      by (begins out k) = absurd (false≢true (rw k at late))
      by (within at inner) = absurd (false≢true (rw (inner_stage (kind_of_command c) inner (stage before), at) at late))
      by (finishes at k) = absurd (false≢true (rw k at late))
      by (posts at k) = here (rw k)
      by (idles_late at k) = rw k (earlier (rw at) ∙ no_deeper before)
      by (defines_again at k) = rw k (earlier (rw at) ∙ no_deeper before)
      by (ends at k) = rw k (earlier (rw at) ∙ no_deeper before)

  -- so does the new list once post has passed
  states : {file : List ℕ} {past : List Command} → Trace file past → Trace new (cut_after first chosen past) → is_after_post (stage (cut_after first chosen past)) ≡ true
      → States (cut_after first chosen past)
  states start new-trace late = absurd (true≢false (sym late ∙ early))
  states {file} (more {past = past} c rest t f allowed) new-trace late = by (stays chosen past c) new-trace late (states t)
    where
      before : List Command
      before = cut_after first chosen past

      by : (stay : Bool) → Trace new (cond stay (mended before c ∷ before) before) → is_after_post (stage (cond stay (mended before c ∷ before) before)) ≡ true
          → (Trace new before → is_after_post (stage before) ≡ true → States before)
          → States (cond stay (mended before c ∷ before) before)
      by true (more d rest-new t-new f-new allowed-new) late earlier =
          later_states before (mended before c) allowed-new
          (λ post. post_states before c rest-new (front_sound (drop (place past) file) c rest f).0 t-new f-new (is_kind (kind_of_command c) Post post))
          (earlier t-new) late
      by false new-trace late earlier = earlier new-trace late

-- s of the new file is the greatest depth of the chosen pages
pub new_file_states : (file list : List ℕ) (s : Summary) → judged file ≡ given s → Bytes file → wrong_list s.pages list ≡ false
    → stated_depth (cut_file file list) (post_place (cut_past (is_in list) (history file))) ≡ deepest_on (is_in list) (history file)
new_file_states file list s accepted bytes right =
    let again = cut_accepted_lem file s accepted bytes list right in
    let same = cut_history file s accepted bytes list right in
    let new = cut_file file list in
    states new (opening (history file)) (is_in list) (opening_early (history file)) (accepted_trace file s accepted)
    (subst (Trace new) same (accepted_trace new _ again)) (ap (λ (l : List Command). is_after_post (stage l)) (sym same) ∙ rw (accepted_end new _ again))
    ∙ ap greatest (sym same) ∙ ap (λ (found : Summary). found.depth) (history_counts new _ again)
