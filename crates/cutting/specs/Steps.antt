-- What the code holds of the commands so far, and what it makes of one more; no promise cites this. Assumes nothing.
use Rattle.std.specs.Prelude.{ℕ, ◌+◌, ◌-◌, ◌≤◌, max, ◌≡◌, Bool, true, false, cond, ◌&&◌, ◌||◌, List, [], ◌∷◌, ◌++◌, ltb, leb, eqb, length, get_or, take, drop}
use Rattle.std.proofs.lemmas.List.Edits.{sets}
use Rattle.numbers.specs.Bytes.{bytes_of}
use Rattle.commands.specs.declared.Kind.{Kind}
use Rattle.commands.specs.declared.Kind.TheVariants.{Bop, Eop, Push, Pop, Select, Define, Pre, Post, PostPost}
use Rattle.commands.specs.declared.Reading.{Reading}
use Rattle.commands.specs.Kinds.{kind_of, is}
use Rattle.commands.specs.Fields.{bop_pointer, post_pointer, post_depth, post_pages, end_pointer, end_identification}
use Rattle.commands.specs.Commands.{Command, kind_of_command, form, whole, front, place}
use Rattle.list.specs.Past.{depth_after, greatest, pages}
use Rattle.list.specs.Lawful.{Lawful}
use Rattle.volume.specs.History.{history}
use Rattle.volume.specs.Steps.{is_plain}
use Rattle.cutting.specs.declared.Spot.{Spot}
use Rattle.cutting.specs.declared.Run.{Run}
use Rattle.cutting.specs.declared.Fate.{Fate}
use Rattle.cutting.specs.declared.Step.{Step}
use Rattle.cutting.specs.declared.Counted.{Counted}
use Rattle.cutting.specs.declared.Made.{Made}
use Rattle.cutting.specs.Chosen.{is_in, rises_from}
use Rattle.cutting.specs.CutList.{opening, cut_past}

-- ---- the list of chosen pages

-- whether the page after these is the next of a list of which so many are met
abbrev pub next_chosen : List ℕ → ℕ → ℕ → Bool
next_chosen list met pages = ltb met (length list) && eqb (get_or list met 0) (pages + 1)

-- ---- where a walk stands

abbrev pub at_start : Spot
at_start = record { pages = 0; met = 0; on = false; here = false; late = false }

-- after one more command
abbrev pub spot_after : List ℕ → Kind → Spot → Spot
spot_after list kind p =
    let next = next_chosen list p.met p.pages in
    cond (is kind Bop) (record { pages = p.pages + 1; met = cond next (p.met + 1) p.met; on = true; here = next; late = p.late })
    (cond (is kind Eop) (record { pages = p.pages; met = p.met; on = false; here = p.here; late = p.late })
    (cond (is kind Post) (record { pages = p.pages; met = p.met; on = p.on; here = p.here; late = true }) p))

-- what becomes of a command, by the spot before it and whether its page is chosen
abbrev pub fate_of : Kind → Bool → Spot → Fate
fate_of kind chosen p =
    cond (is kind Bop) (cond chosen Fate.Mended Fate.Dropped)
    (cond (is kind Post || is kind PostPost) Fate.Mended
    (cond (is kind Pre) Fate.Opening (cond (is kind Define) (cond p.late Fate.Copied Fate.Opening) (cond (p.on && chosen) Fate.Copied Fate.Dropped))))

-- the command that is read at a place, where a walk stands that has come so far
abbrev pub step_of : List ℕ → ℕ → Spot → Reading → Step
step_of list at p reading =
    let kind = kind_of reading.opcode in
    let after = spot_after list kind p in
    record { at = at; next = reading.next; kind = kind; fate = fate_of kind after.here p; after = after }

-- ---- runs of commands that on a page change at most the depth

-- their kinds
abbrev pub is_idle : Kind → Bool
is_idle kind = is_plain kind || (is kind Push || (is kind Pop || is kind Select))

-- push, pop, and fnt_num_0 to fnt_num_63
abbrev pub is_short : ℕ → Bool
is_short opcode = (leb 141 opcode && ltb opcode 143) || (leb 171 opcode && ltb opcode 235)

-- a place and depths
abbrev pub run_at : ℕ → ℕ → ℕ → Run
run_at at depth greatest = record { at = at; depth = depth; greatest = greatest }

-- after one more command of so many bytes
abbrev pub run_after : Kind → ℕ → Run → Run
run_after kind size r = run_at (r.at + size) (depth_after kind r.depth) (max r.greatest (depth_after kind r.depth))

-- from one place to another stand such commands, end to end
pub data Runs (file : List ℕ) (from : Run) : Run → Type 0 where
  runs_none : Runs file from from
  runs_on : {r : Run} (c : Command) (rest : List ℕ) → Runs file from r → front (drop r.at file) ≡ whole c rest → is_idle (kind_of_command c) ≡ true
      → Runs file from (run_after (kind_of_command c) (1 + length c.params) r)

-- outside pages there is no run
abbrev pub RunTo : List ℕ → Bool → Run → Run → Type 0
RunTo file true from r = Runs file from r
RunTo file false from r = r ≡ from

-- ---- the walk that counts

-- a command that stays, of so many bytes
abbrev pub one_kept : Kind → ℕ → Counted → Counted
one_kept kind size m =
    record { opened = m.opened; kept = m.kept + size; depth = depth_after kind m.depth; greatest = max m.greatest (depth_after kind m.depth) }

-- after a run from a place, on a page that is chosen or not
abbrev pub run_counted : Bool → ℕ → Run → Counted → Counted
run_counted here at r m = cond here (record { opened = m.opened; kept = m.kept + (r.at - at); depth = r.depth; greatest = r.greatest }) m

-- after one more command of so many bytes
abbrev pub counted_after : Fate → Kind → ℕ → Counted → Counted
counted_after Fate.Opening kind size m = record { opened = m.opened + size; kept = m.kept; depth = m.depth; greatest = m.greatest }
counted_after Fate.Copied kind size m = one_kept kind size m
counted_after Fate.Mended kind size m = one_kept kind size m
counted_after Fate.Dropped kind size m = m

-- what is counted of the whole file
pub record CountsAll (file list : List ℕ) (r : Counted) : Type 0 where
  pub opened_is : r.opened ≡ place (opening (history file))
  pub all_is : r.opened + r.kept ≡ place (cut_past (is_in list) (history file))
  pub greatest_is : r.greatest ≡ greatest (cut_past (is_in list) (history file))
  pub small : place (cut_past (is_in list) (history file)) ≤ length file

-- ---- the walk that writes

-- the written forms of a list with the newest first
abbrev pub forms_of : List Command → List ℕ
forms_of [] = []
forms_of (c ∷ past) = forms_of past ++ form c

-- the bytes of a file from a place to another
abbrev pub between : ℕ → ℕ → List ℕ → List ℕ
between at next file = take (next - at) (drop at file)

-- with what was still to be copied up to a place, the next begins at another
abbrev pub made_copied : ℕ → ℕ → Made → Made
made_copied at next m = record { from = next; opened = m.opened; size = m.size + (at - m.from); bop = m.bop; post = m.post }

-- the area with it
abbrev pub area_copied : List ℕ → ℕ → Made → List ℕ → List ℕ
area_copied file at m out = sets out m.size (between m.from at file)

-- after a command of the opening, of so many bytes
abbrev pub made_opened : ℕ → Made → Made
made_opened size m = record { from = m.from; opened = m.opened + size; size = m.size; bop = m.bop; post = m.post }

-- a command's bytes with other numbers in them: pointers to a bop or to post, depth and pages
abbrev pub mended_form : Kind → ℕ → ℕ → ℕ → ℕ → List ℕ → List ℕ
mended_form kind bop post greatest pages bytes =
    cond (is kind Bop) (sets bytes (1 + bop_pointer.at) (bytes_of 4 bop))
    (cond (is kind Post)
    (sets (sets (sets bytes (1 + post_pointer.at) (bytes_of 4 bop)) (1 + post_depth.at) (bytes_of 2 greatest)) (1 + post_pages.at) (bytes_of 2 pages))
    (sets bytes (1 + end_pointer.at) (bytes_of 4 post)))

-- how many bytes such a command has: up to the end of its last field
abbrev pub mended_size : Kind → ℕ
mended_size kind =
    cond (is kind Bop) (1 + bop_pointer.at + bop_pointer.size)
    (cond (is kind Post) (1 + post_pages.at + post_pages.size) (1 + end_identification.at + end_identification.size))

-- after a command that is mended, of so many bytes
abbrev pub made_mended : Kind → ℕ → Made → Made
made_mended kind size m =
    record {
      from = m.from;
      opened = m.opened;
      size = m.size + size;
      bop = cond (is kind Bop) m.size m.bop;
      post = cond (is kind Post) m.size m.post;
    }

-- after one more command, from a place to another
abbrev pub made_after : Fate → Kind → ℕ → ℕ → Made → Made
made_after Fate.Opening kind at next m = made_opened (next - at) (made_copied at next m)
made_after Fate.Copied kind at next m = m
made_after Fate.Mended kind at next m = made_mended kind (next - at) (made_copied at next m)
made_after Fate.Dropped kind at next m = made_copied at next m

-- the area after it
abbrev pub area_turned : Fate → Kind → ℕ → ℕ → List ℕ → ℕ → ℕ → Made → List ℕ → List ℕ
area_turned Fate.Opening kind greatest pages file at next m out = sets (area_copied file at m out) m.opened (between at next file)
area_turned Fate.Copied kind greatest pages file at next m out = out
area_turned Fate.Mended kind greatest pages file at next m out =
    sets (area_copied file at m out) (m.size + (at - m.from)) (mended_form kind m.bop m.post greatest pages (between at next file))
area_turned Fate.Dropped kind greatest pages file at next m out = area_copied file at m out

-- there is room for what is still to be copied
pub record RoomToCopy (file : List ℕ) (at : ℕ) (m : Made) (room : ℕ) : Type 0 where
  pub ahead : m.from ≤ at
  pub inside : at ≤ length file
  pub fits : m.size + (at - m.from) ≤ room

-- there is room for one more command, from a place to another
abbrev pub RoomToTurn : Fate → Kind → List ℕ → ℕ → ℕ → Made → ℕ → Type 0
RoomToTurn Fate.Opening kind file at next m room = RoomToCopy file at m room × (at ≤ next) × (next ≤ length file) × (m.opened + (next - at) ≤ room)
RoomToTurn Fate.Copied kind file at next m room = Unit {0}
RoomToTurn Fate.Mended kind file at next m room =
    RoomToCopy file at m room × (next ≤ length file) × (next ≡ at + mended_size kind) × (m.size + (at - m.from) + mended_size kind ≤ room)
RoomToTurn Fate.Dropped kind file at next m room = RoomToCopy file at m room

-- what the second walk starts from: the counts of the first, and room for all
pub record Writable (file list : List ℕ) (m : Counted) (room : ℕ) : Type 0 where
  pub lawful : Lawful file
  pub rising : rises_from 0 (pages (history file)) list ≡ true
  pub counts : CountsAll file list m
  pub fits : place (cut_past (is_in list) (history file)) ≤ room
