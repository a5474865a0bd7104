-- A list that keeps the rules, taken from its end, goes over into the order of a file, whose bytes are a lawful file with this history. Assumes nothing.
use Prim.Native.Nat.{ℕ, zero, suc, ◌+◌, ◌≤◌}
use mathlib.Core.Path.{◌≡◌, refl, sym, ap, ◌∙◌}
use mathlib.Core.Bool.{true, false}
use mathlib.Core.List.{List, [], ◌∷◌}
use native.Mathlib.Omega.{arith}
use lib.ListN.{length, length-append}
use Rattle.refusals.specs.Answer.{given}
use Rattle.commands.specs.declared.Kind.TheVariants.{PostPost}
use Rattle.commands.specs.Commands.{Command, Whole, written, place}
use Rattle.commands.specs.Reading.{longest_file}
use Rattle.volume.specs.declared.Summary.{Summary}
use Rattle.list.specs.Past.{is_a}
use Rattle.list.specs.Rules.{Allowed}
use Rattle.list.specs.Lawful.{fillers, Follows, ends, goes, Keeps, Lawful}
use Rattle.volume.specs.Judged.{summary, judged}
use Rattle.volume.specs.History.{history}
use Rattle.volume.specs.OfList.{up_to_last}
use Rattle.volume.proofs.Accepts.{accepts_lawful, lawful_counts}
use Rattle.volume.proofs.History.{lawful_history}
use Rattle.cutting.specs.CutList.{onto}

-- commands before post_post that keep the rules, the newest first
pub data Sound : List Command → Type 0 where
  start : Sound []
  more : {past : List Command} {c : Command} → Sound past → Whole c → Allowed past c → is_a PostPost c ≡ false → Sound (c ∷ past)

-- such commands with their post_post
pub record Closed (past : List Command) (c : Command) : Type 0 where
  pub sound : Sound past
  pub is_whole : Whole c
  pub allowed : Allowed past c
  pub last : is_a PostPost c ≡ true

-- ---- from the end to the order of the file

unwound : {past cs : List Command} → Sound past → Follows past cs → Keeps (onto past cs)
unwound start follows = follows
unwound (more sound w allowed not_last) follows = unwound sound (goes w allowed not_last follows)

up_to : {past : List Command} → Sound past → (cs : List Command) → up_to_last [] (onto past cs) ≡ up_to_last past cs
up_to start cs = refl
up_to (more {c = c} sound w allowed not_last) cs = up_to sound (c ∷ cs) ∙ rw not_last

written_length : (past cs : List Command) → length (written (onto past cs)) ≡ place past + length (written cs)
written_length [] cs = omega arith
written_length (c ∷ past) cs = omega (arith, written_length past (c ∷ cs), length-append c.params (written cs))

fillers_length : (n : ℕ) → length (written (fillers n)) ≡ n
fillers_length zero = refl
fillers_length (suc n) = ap suc (fillers_length n)

module _ (past : List Command) (c : Command) (closed : Closed past c) (n : ℕ) (enough : 4 ≤ n) where
  abbrev whole_list : List Command
  whole_list = onto (c ∷ past) (fillers n)

  -- it keeps the rules
  pub list_keeps : Keeps whole_list
  list_keeps = unwound closed.sound (ends n closed.is_whole closed.allowed closed.last enough)

  -- the newest first it is what it was
  list_history : up_to_last [] whole_list ≡ c ∷ past
  list_history = up_to closed.sound (c ∷ fillers n) ∙ rw closed.last

  -- its bytes
  pub list_length : length (written whole_list) ≡ place (c ∷ past) + n
  list_length = written_length (c ∷ past) (fillers n) ∙ ap (λ (k : ℕ). place (c ∷ past) + k) (fillers_length n)

  module _ (short : place (c ∷ past) + n ≤ longest_file) where
    -- are a lawful file
    list_lawful : Lawful (written whole_list)
    list_lawful = (omega (arith, list_length), (whole_list, list_keeps, refl))

    -- that is accepted with its own counts
    pub list_judged : judged (written whole_list) ≡ given (summary (c ∷ past))
    unfolding list_lawful
    list_judged = lawful_counts (written whole_list) list_lawful ∙ ap (λ (l : List Command). given (summary l)) list_history

    -- and has this history
    pub written_history : history (written whole_list) ≡ c ∷ past
    unfolding list_lawful
    written_history = lawful_history (written whole_list) list_lawful ∙ list_history

-- ---- from an accepted file to its commands, the newest first

-- what an accepted file's history is
pub record Old (file : List ℕ) : Type 0 where
  pub past : List Command
  pub end : Command
  pub closed : Closed past end
  pub is_history : history file ≡ end ∷ past
  pub fits : place (end ∷ past) + 4 ≤ longest_file
  pub count : ℕ
  pub enough : 4 ≤ count
  pub long : length file ≡ place (end ∷ past) + count
  pub as_file : written (onto (end ∷ past) (fillers count)) ≡ file

-- a list that goes on by the rules ends so
record Wound (before cs : List Command) : Type 0 where
  wound_past : List Command
  wound_end : Command
  fill : ℕ
  wound_closed : Closed wound_past wound_end
  as_list : onto before cs ≡ onto (wound_end ∷ wound_past) (fillers fill)
  enough_there : 4 ≤ fill

wound : {before cs : List Command} → Sound before → Follows before cs → Wound before cs
wound sound (ends {past = past} {c = c} n w allowed last enough) =
    record {
      wound_past = past;
      wound_end = c;
      fill = n;
      wound_closed = record { sound = sound; is_whole = w; allowed = allowed; last = last };
      as_list = refl;
      enough_there = enough;
    }
wound sound (goes w allowed not_last follows) =
    let deep = wound (more sound w allowed not_last) follows in
    record {
      wound_past = deep.wound_past;
      wound_end = deep.wound_end;
      fill = deep.fill;
      wound_closed = deep.wound_closed;
      as_list = deep.as_list;
      enough_there = deep.enough_there;
    }

-- it is so
pub old_commands : (file : List ℕ) (s : Summary) → judged file ≡ given s → Old file
old_commands file s e =
    let lawful : Lawful file = accepts_lawful file s e in
    let w = wound start lawful.1.1 in
    let past = w.wound_past in
    let end = w.wound_end in
    let long : length file ≡ place (end ∷ past) + w.fill =
    ap length (sym lawful.1.2 ∙ ap written w.as_list) ∙ list_length past end w.wound_closed w.fill w.enough_there in
    record {
      past = past;
      end = end;
      closed = w.wound_closed;
      is_history = lawful_history file lawful ∙ ap (up_to_last []) w.as_list ∙ list_history past end w.wound_closed w.fill w.enough_there;
      fits = omega (arith, long, w.enough_there, lawful.0);
      count = w.fill;
      enough = w.enough_there;
      long = long;
      as_file = sym (ap written w.as_list) ∙ lawful.1.2;
    }
