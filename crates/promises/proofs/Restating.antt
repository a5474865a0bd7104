-- A list that keeps the rules, with another s in its post: where s is not too small it keeps them still and comes to the same; else 10 is due at post.
-- Assumes nothing.
use Prim.Native.Nat.{ℕ, zero, suc, ◌+◌, ◌*◌, ◌^◌, ◌<◌, ◌≤◌}
use mathlib.Core.Path.{◌≡◌, refl, sym, ap, ◌∙◌, subst}
use mathlib.Core.Bool.{Bool, true, false, not, or-false, and-true}
use mathlib.Core.List.{List, [], ◌∷◌, ◌++◌}
use mathlib.Core.Logic.{◌⊎◌, inl, inr, ⊎_elim}
use native.Mathlib.Omega.{arith}
use lib.Dec.{leb}
use lib.ListN.{length, set, length-set}
use lib.Seq.{get_or-set_same, get_or-set_other, set-append_left}
use borrow.Author.Tests.{eq-eqb, le-leb, lt-leb}
use Rattle.refusals.specs.Numbers.{wrong_postamble}
use Rattle.numbers.specs.Bytes.{unsigned_at}
use Rattle.numbers.specs.Signs.{from_twos}
use Rattle.commands.specs.declared.Kind.TheVariants.{Push, Pop, Post, PostPost}
use Rattle.commands.specs.Kinds.{kind_of}
use Rattle.commands.specs.declared.fields.UnsignedField.{UnsignedField}
use Rattle.commands.specs.Fields.{unsigned_in, signed_in, post_pointer, post_num, post_den, post_mag, post_depth, post_pages}
use Rattle.commands.specs.Lengths.{lengths, fixed_length, inner_length, size_of}
use Rattle.commands.specs.Commands.{Command, kind_of_command, Whole, form, written, place}
use Rattle.commands.proofs.Opcodes.{kind_range}
use Rattle.list.specs.Past.{is_a, stage, is_on_page, is_after_post, greatest, pages, post_place, num, den, mag}
use Rattle.list.specs.Rules.{lawful_postamble, preamble_wrong, definition_wrong, font_missing, pointer_wrong, postamble_wrong, fault, Allowed}
use Rattle.list.specs.Lawful.{Follows, ends, goes}
use Rattle.list.proofs.Arms.{is_kind}
use Rattle.volume.specs.OfList.{up_to_last}
use Rattle.volume.specs.Refusing.{RefusesAt, breaks, later}
use Rattle.promises.proofs.Agreeing.{Agree, agree_follows}
use Rattle.promises.proofs.Volumes.{repeats}
use Rattle.promises.proofs.AfterPost.{passes_post, post_between, end_after, greatest_stays, after_post}

-- a byte that is stored outside of a number's bytes does not change it
unsigned_elsewhere : (bytes : List ℕ) (i byte at count : ℕ) → ((j : ℕ) → j < count → at + j ≡ i → ⊥) → unsigned_at (set bytes i byte) at count ≡ unsigned_at bytes at count
unfolding unsigned_at
unsigned_elsewhere bytes i byte at zero h = refl
unsigned_elsewhere bytes i byte at (suc count) h =
    rw (get_or-set_other bytes i (at + count) byte 0 (h count (omega arith)), unsigned_elsewhere bytes i byte at count (λ j l. h j (omega arith)))

-- the two bytes
module _ (high low : ℕ) where
  abbrev pub stated : ℕ
  stated = high * 256 + low

  -- in the place of s of the post at a place
  abbrev pub storing : ℕ → List ℕ → List ℕ
  storing post file = set (set file (post + 1 + 24) high) (post + 1 + 24 + 1) low

  abbrev other : List ℕ → List ℕ
  other params = set (set params 24 high) 25 low

  -- a field that ends before s or starts behind it
  kept_field : (field : UnsignedField) (params : List ℕ) → (field.at + field.size ≤ post_depth.at) ⊎ (post_depth.at + post_depth.size ≤ field.at)
      → unsigned_in field (other params) ≡ unsigned_in field params
  kept_field field params apart =
      unsigned_elsewhere (set params 24 high) 25 low field.at field.size (λ j l e. ⊎_elim (λ h. omega arith) (λ h. omega arith) apart)
      ∙ unsigned_elsewhere params 24 high field.at field.size (λ j l e. ⊎_elim (λ h. omega arith) (λ h. omega arith) apart)

  -- and s
  other_s : (params : List ℕ) → length params ≡ 28 → unsigned_in post_depth (other params) ≡ stated
  unfolding unsigned_at
  other_s params l =
      rw (
        get_or-set_other (set params 24 high) 25 24 low 0 (λ e. omega arith),
        get_or-set_same params 24 high 0 (omega arith),
        get_or-set_same (set params 24 high) 25 low 0 (omega (arith, length-set params 24 high)),
      ) (omega arith)

  abbrev restated : Command → Command
  restated c = record { opcode = c.opcode; params = other c.params }

  module _ (c : Command) (w : Whole c) (k : kind_of_command c ≡ Post) where
    is_248 : c.opcode ≡ 248
    is_248 = let range = kind_range c.opcode (omega (arith, w.defined)) k in omega (arith, range.0, range.1)

    has_28 : length c.params ≡ 28
    unfolding lengths fixed_length inner_length size_of kind_of
    has_28 = w.exact ∙ ap (λ (opcode : ℕ). size_of opcode c.params) is_248

    still_28 : length (other c.params) ≡ 28
    still_28 = length-set (set c.params 24 high) 25 low ∙ length-set c.params 24 high ∙ has_28

    restated_whole : Whole (restated c)
    unfolding lengths fixed_length inner_length size_of kind_of
    restated_whole = record { defined = w.defined; exact = still_28 ∙ sym (ap (λ (opcode : ℕ). size_of opcode (other c.params)) is_248) }

    module _ (past : List Command) (allowed : Allowed past c) where
      outside : is_on_page (stage past) ≡ false
      outside = (post_between allowed (rw k)).0

      agrees : Agree (c ∷ past) (restated c ∷ past)
      agrees =
          record {
            same_place = ap (λ (l : ℕ). place past + (1 + l)) (has_28 ∙ sym still_28);
            same_stage = refl;
            same_depth = refl;
            same_greatest = refl;
            same_pages = refl;
            same_bop = refl;
            same_post = refl;
            same_unit = λ field. rw k;
            same_selected = refl;
            same_definition = λ after number. rw k;
            same_count = λ after. refl;
            same_page = λ page. rw outside;
          }

      -- its p, and what it says of the list, where s is enough or not
      pointer_kept : signed_in post_pointer (other c.params) ≡ signed_in post_pointer c.params
      pointer_kept = ap (from_twos (256 ^ 4)) (kept_field (record { at = post_pointer.at; size = post_pointer.size }) c.params (inl (omega arith)))

      says : (enough : Bool) → leb (greatest past) stated ≡ enough
          → lawful_postamble (num past) (den past) (mag past) (greatest past) (pages past) (other c.params) ≡ enough
      says enough e =
          let (pages_is, _, num-is, den-is, mag_is) = repeats allowed k in
          let p = c.params in
          rw (
            eq-eqb (unsigned_in post_num (other p)) (num past) (kept_field post_num p (inl (omega arith)) ∙ num-is),
            eq-eqb (unsigned_in post_den (other p)) (den past) (kept_field post_den p (inl (omega arith)) ∙ den-is),
            eq-eqb (unsigned_in post_mag (other p)) (mag past) (kept_field post_mag p (inl (omega arith)) ∙ mag_is),
            other_s p has_28,
            e,
            eq-eqb (unsigned_in post_pages (other p)) (pages past) (kept_field post_pages p (inr (omega arith)) ∙ pages_is),
          ) (and-true enough)

      ten : (enough : Bool) → leb (greatest past) stated ≡ enough → postamble_wrong past (restated c) ≡ not enough
      ten enough e = rw (k, says enough e) (or-false (not enough))

      -- it breaks no other rule than that of s
      four : preamble_wrong past (restated c) ≡ false
      four = rw k (rw k at allowed.preamble)

      seven : definition_wrong past (restated c) ≡ false
      seven = rw k

      eight : font_missing past (restated c) ≡ false
      eight = rw k

      nine : pointer_wrong past (restated c) ≡ false
      nine = rw (k, pointer_kept) (rw k at allowed.pointer)

      large_enough : greatest past ≤ stated → Allowed past (restated c)
      large_enough h =
          record {
            preamble = four;
            standing = allowed.standing;
            depth_right = allowed.depth_right;
            definition = seven;
            font = eight;
            pointer = nine;
            postamble = ten true (le-leb (greatest past) stated h);
          }

      too_small : stated < greatest past → fault past (restated c) ≡ wrong_postamble
      too_small h = rw (four, allowed.standing, allowed.depth_right, seven, eight, nine, ten false (lt-leb (greatest past) stated h))

  -- ---- a list with such a post

  -- bytes that are stored beyond the first ones leave these
  set_beyond : (front rest : List ℕ) (i at byte : ℕ) → at ≡ length front + i → set (front ++ rest) at byte ≡ front ++ set rest i byte
  set_beyond [] rest i at byte e = ap (λ (n : ℕ). set rest n byte) (omega (arith, e))
  set_beyond (x ∷ front) rest i zero byte e = absurd (omega (arith, e))
  set_beyond (x ∷ front) rest i (suc at) byte e = ap (λ (l : List ℕ). x ∷ l) (set_beyond front rest i at byte (omega (arith, e)))

  storing_beyond : (front rest : List ℕ) (skip at : ℕ) → at ≡ length front + skip → storing at (front ++ rest) ≡ front ++ storing skip rest
  storing_beyond front rest skip at e =
      ap (λ (l : List ℕ). set l (at + 1 + 24 + 1) low) (set_beyond front rest (skip + 1 + 24) (at + 1 + 24) high (omega (arith, e)))
      ∙ set_beyond front (set rest (skip + 1 + 24) high) (skip + 1 + 24 + 1) (at + 1 + 24 + 1) low (omega (arith, e))

  -- what commands up to post and behind it become: the list, how many bytes stand before post, its written form, that it keeps the rules where s is enough, and that 10 is due where not
  pub record Restated (past cs : List Command) : Type 0 where
    pub list : List Command
    pub skip : ℕ
    pub post_at : post_place (up_to_last past cs) ≡ place past + skip
    pub forms : written list ≡ storing skip (written cs)
    pub goes_on : greatest (up_to_last past cs) ≤ stated → Follows past list × Agree (up_to_last past cs) (up_to_last past list)
    pub is_refused : stated < greatest (up_to_last past cs) → RefusesAt past (written list) wrong_postamble (place past + skip)

  module _ {past cs : List Command} {c : Command} (w : Whole c) (allowed : Allowed past c) (not_last : is_a PostPost c ≡ false) where
    -- at post itself
    at_post : is_a Post c ≡ true → Follows (c ∷ past) cs → Restated past (c ∷ cs)
    at_post e follows =
        let k : kind_of_command c ≡ Post = is_kind (kind_of_command c) Post e in
        let long : length c.params ≡ 28 = has_28 c w k in
        let (deep, place_is) = after_post follows (passes_post allowed ∙ rw e) in
        let reached : greatest (c ∷ past) ≡ greatest past = greatest_stays past c (is_a Push c) (is_a Pop c) refl refl (rw k) in
        record {
          list = restated c ∷ cs;
          skip = 0;
          post_at = rw not_last (place_is ∙ rw e (omega arith));
          forms =
              ap (λ (l : List ℕ). c.opcode ∷ l)
              (sym (ap (λ (l : List ℕ). set l 25 low) (set-append_left c.params (written cs) 24 high (omega arith))
              ∙ set-append_left (set c.params 24 high) (written cs) 25 low (omega (arith, length-set c.params 24 high))));
          goes_on = λ h.
              let enough : greatest past ≤ stated = omega (arith, rw not_last at h, deep, reached) in
              let (onwards, at_end) = agree_follows (agrees c w k past allowed) follows in
              (goes (restated_whole c w k) (large_enough c w k past allowed enough) not_last onwards, rw not_last at_end);
          is_refused = λ h.
              let less : stated < greatest past = omega (arith, rw not_last at h, deep, reached) in
              subst (RefusesAt past (written (restated c ∷ cs)) wrong_postamble) (omega arith)
              (breaks (restated c) (written cs) (restated_whole c w k) (too_small c w k past allowed less) (omega arith));
        }

    -- before it
    before_post : Restated (c ∷ past) cs → Restated past (c ∷ cs)
    before_post r =
        record {
          list = c ∷ r.list;
          skip = 1 + length c.params + r.skip;
          post_at = rw not_last (r.post_at ∙ omega arith);
          forms = ap (λ (l : List ℕ). form c ++ l) r.forms ∙ sym (storing_beyond (form c) (written cs) r.skip (1 + length c.params + r.skip) (omega arith));
          goes_on = λ h. let (onwards, at_end) = r.goes_on (rw not_last at h) in (goes w allowed not_last onwards, rw not_last at_end);
          is_refused = λ h.
              subst (RefusesAt past (written (c ∷ r.list)) wrong_postamble) (omega arith)
              (later c (written r.list) w allowed not_last (r.is_refused (rw not_last at h)));
        }

  pub restate : {past cs : List Command} → Follows past cs → is_after_post (stage past) ≡ false → Restated past cs
  restate (ends n w allowed last enough) e = absurd (end_after allowed last e)
  restate (goes {past = past} {c = c} {cs = cs} w allowed not_last follows) e = by (is_a Post c) refl (λ f. restate follows (passes_post allowed ∙ rw (f, e)))
    where
      by : (post : Bool) → is_a Post c ≡ post → (is_a Post c ≡ false → Restated (c ∷ past) cs) → Restated past (c ∷ cs)
      by true f onwards = at_post w allowed not_last f follows
      by false f onwards = before_post w allowed not_last (onwards f)
