-- What an accepted call of width_table makes, when a call is accepted, and that it goes by the list of commands. What is said of a call is stated of the contract itself. Assumes nothing.
use Prim.Native.Nat.{ℕ, ◌+◌, ◌*◌, ◌^◌, ◌≤◌, ◌<◌}
use mathlib.Core.Path.{◌≡◌, refl, sym, ap, subst, ◌∙◌}
use mathlib.Core.Bool.{true, not, true≢false}
use mathlib.Core.List.{List, [], ◌∷◌, ◌++◌, map}
use mathlib.Core.Logic.{◌↔◌}
use native.Mathlib.Omega.{arith}
use contract.Lifetimes.{Lfts}
use lib.Dec.{ltb}
use lib.ListN.{length, take, drop}
use lib.Seq.{take_at}
use borrow.Author.Tests.{ltb-false}
use Rattle.refusals.specs.Answer.{Answer, refused, given, refuse_if, and_then, answered}
use Rattle.refusals.proofs.Answer.{given_same, given_next, given_not_refused}
use Rattle.numbers.specs.Bytes.{unsigned_at}
use Rattle.numbers.specs.Sizes.{lawful_size}
use Rattle.numbers.proofs.Bytes.{unsigned_drop, unsigned_below, read_back}
use Rattle.widths.specs.AsBytes.{Bytes}
use Rattle.widths.specs.Table.{width_record_size, record_of, checked_table}
use Rattle.commands.specs.Commands.{Command, written}
use Rattle.packed.specs.Commands.{is_packet}
use Rattle.packed.specs.Rules.{packets}
use Rattle.packed.specs.Lawful.{FollowsInFont}
use Rattle.packed.specs.Judged.{taken, font_judged}
use Rattle.widths.specs.Entries.{Entry, table_bytes}
use Rattle.packed.specs.Table.{font_checksum, entry_of, packets_from, font_table, with_room, table_made, records_made, table_area}
use Rattle.packed.proofs.Says.{not_true}
use Rattle.packed.proofs.Faults.{packet_right}
use Rattle.packed.proofs.Standing.{Standing, judged_stands}
use Rattle.packed.proofs.Standing as standing
use Rattle.packed.proofs.Written.{table_length}
use Rattle.packed.proofs.MadeLaws.{made_given}
use Rattle.packed.proofs.Writing.{judged_preambled}
use Rattle.reader.proofs.width_table.Reads as width-table
use Rattle.promises.specs.Fonts.{Taken, made_by, upon, Among, first, later, OneForOne, Fits, Reads, Makes}
use Rattle.promises.proofs.FontLists.{judged_lawful, lawful_judged}
use Rattle.promises.proofs.FontPackets.{from_all, one_for_one}
use Rattle.promises.proofs.FontTables.{Alike, no_entry, an_entry, alike_checks, record_reads}
use Rattle.std.specs.declared.result.Result.{Result}
use Rattle.std.specs.declared.result.Result.TheVariants.{Ok, Err}
use Rattle.refusals.specs.declared.Refusal.{Refusal}
use Rattle.refusals.specs.Numbers.{number_of}
use Rattle.std.specs.Prelude.{IsOk}

-- ---- the entries of a font's packets fit

fits_among : (pk : List ℕ) (past : List Command) → Standing pk past → (checksum scale : ℕ) → lawful_size scale ≡ true → (c : Command) → Among c past → is_packet c.opcode ≡ true
    → Fits (entry_of checksum scale c)
fits_among pk [] _ checksum scale lawful c a flag = elim a [ ]
fits_among pk (d ∷ past) (standing.more opcode rest stand here fits right) checksum scale lawful c first flag =
    let whole = packet_right past (taken opcode rest) right flag in
    record { scale_right = lawful; code_is_byte = whole.code_small; first_right = whole.first_right; escapement_right = whole.escapement_right }
fits_among pk (d ∷ past) (standing.more opcode rest stand here fits right) checksum scale lawful c (later a) flag = fits_among pk past stand checksum scale lawful c a flag

alike_map : (checksum scale : ℕ) (cs : List Command) → ((c : Command) → Among c cs → Fits (entry_of checksum scale c)) → Alike checksum scale (map (entry_of checksum scale) cs)
alike_map checksum scale [] all = no_entry
alike_map checksum scale (c ∷ cs) all = an_entry (entry_of checksum scale c) refl refl (all c first) (alike_map checksum scale cs (λ d a. all d (later a)))

module _ (pk : List ℕ) (scale : ℕ) (past : List Command) (lawful : lawful_size scale ≡ true) (judged : font_judged pk ≡ given past) where
  all_fit : (c : Command) → Among c (packets_from 256 0 past) → Fits (entry_of (font_checksum past) scale c)
  all_fit c a =
      let r = from_all c past 256 0 a in
      fits_among pk past (judged_stands pk past judged).stand (font_checksum past) scale lawful c r.0 r.1

  -- the table check finds the table right
  pub table_checks : checked_table (table_bytes (font_table scale past)) ≡ given (length (font_table scale past))
  table_checks = alike_checks (font_checksum past) scale (font_table scale past) (alike_map (font_checksum past) scale (packets_from 256 0 past) all_fit) (one_for_one pk scale past judged).rising

  alike_all : Alike (font_checksum past) scale (font_table scale past)
  alike_all = alike_map (font_checksum past) scale (packets_from 256 0 past) all_fit

  -- an entry of the table fits, and has the font's check sum
  in_alike : (entries : List Entry) → Alike (font_checksum past) scale entries → (front : List Entry) (e : Entry) (back : List Entry) → entries ≡ front ++ (e ∷ back) → Fits e × (e.checksum ≡ font_checksum past)
  in_alike entries alike front e back split = alike_at front e back (subst (Alike (font_checksum past) scale) split alike)
    where
      alike_at : (front : List Entry) (e : Entry) (back : List Entry) → Alike (font_checksum past) scale (front ++ (e ∷ back)) → Fits e × (e.checksum ≡ font_checksum past)
      alike_at [] e back (an_entry d sum_is scale_is fits alike) = (fits, sum_is)
      alike_at (x ∷ front) e back (an_entry d sum_is scale_is fits alike) = alike_at front e back alike

  pub entry_sum : (front : List Entry) (e : Entry) (back : List Entry) → font_table scale past ≡ front ++ (e ∷ back) → e.checksum ≡ font_checksum past
  entry_sum front e back split = (in_alike (font_table scale past) alike_all front e back split).1

  -- each of its records reads as its entry
  pub entry_reads : (front : List Entry) (e : Entry) (back : List Entry) → font_table scale past ≡ front ++ (e ∷ back) → Reads (record_of (table_bytes (font_table scale past)) (length front)) e
  entry_reads front e back split = rw split (record_reads front e back (in_alike (font_table scale past) alike_all front e back split).0)

-- the check sum of a file of bytes has four bytes
sum_small : (pk : List ℕ) (past : List Command) → font_judged pk ≡ given past → Bytes pk → font_checksum past < 2 ^ 32
sum_small pk past judged bytes =
    let preamble = judged_preambled pk past judged in
    let at : ℕ = 1 + (6 + unsigned_at (drop 1 pk) 1 1) in
    let comment : unsigned_at (drop 1 pk) 1 1 ≡ unsigned_at pk 2 1 = unsigned_drop pk 1 1 1 in
    let value : font_checksum past ≡ unsigned_at pk at 4 = preamble.sum ∙ unsigned_drop pk 1 (6 + unsigned_at (drop 1 pk) 1 1) 4 in
    let small : unsigned_at pk at 4 < 256 ^ 4 = unsigned_below pk at 4 (λ i h. bytes (at + i) (omega (arith, preamble.there, comment))) in
    omega (arith, value, small)

-- ---- a call

-- what a table that was made was made of
record Grounds (pk : List ℕ) (scale room : ℕ) (entries : List Entry) : Type 0 where
  past : List Command
  lawful : lawful_size scale ≡ true
  judged : font_judged pk ≡ given past
  enough : width_record_size * length entries ≤ room
  entries_are : font_table scale past ≡ entries

grounds : (pk : List ℕ) (scale room : ℕ) (entries : List Entry) → table_made pk scale room ≡ given entries → Grounds pk scale room entries
grounds pk scale room entries e =
    let scaled = given_next (not (lawful_size scale)) 22 0 (and_then (font_judged pk) (λ past. with_room room (font_table scale past))) entries e in
    go (font_judged pk) refl (not_true (lawful_size scale) scaled.0) scaled.1
  where
    go : (a : Answer (List Command)) → font_judged pk ≡ a → lawful_size scale ≡ true → and_then a (λ past. with_room room (font_table scale past)) ≡ given entries → Grounds pk scale room entries
    go (refused number place) judged lawful made = absurd (let z : ◌≡◌ {A = ℕ} 0 1 = cc in omega arith)
    go (given past) judged lawful made =
        let roomy = given_next (ltb room (width_record_size * length (font_table scale past))) 17 0 (given (font_table scale past)) entries made in
        let same : font_table scale past ≡ entries = given_same (font_table scale past) entries roomy.1 in
        record {
          past = past;
          lawful = lawful;
          judged = judged;
          enough = omega (arith, ltb-false room (width_record_size * length (font_table scale past)) roomy.0, ap length same);
          entries_are = same;
        }

-- an accepted call
module _ (pk : List ℕ) (scale room records : ℕ) (before after : List ℕ) where
  makes_by : (entries : List Entry) → Grounds pk scale room entries → records ≡ length entries → after ≡ table_area before (given entries) → Makes pk scale records before after
  makes_by entries g count area =
      let lawful = judged_lawful pk g.past g.judged in
      let size : length (table_bytes entries) ≡ width_record_size * records = omega (arith, table_length entries, count) in
      let front : take (width_record_size * records) after ≡ table_bytes entries =
      ap (take (width_record_size * records)) area ∙ take_at (table_bytes entries) (drop (width_record_size * length entries) before) (width_record_size * records) size in
      let table_is : take (width_record_size * records) after ≡ table_bytes (font_table scale g.past) = front ∙ ap table_bytes (sym g.entries_are) in
      let packets_are : packets g.past ≡ records = sym (one_for_one pk scale g.past g.judged).as_many ∙ ap length g.entries_are ∙ sym count in
      record {
        list = lawful.0.0;
        keeps = lawful.0.1;
        forms = lawful.0.2;
        entries = entries;
        records_are = sym packets_are ∙ ap packets lawful.1;
        one_for_one =
            subst (λ (l : List Command). OneForOne scale l entries) lawful.1 (subst (OneForOne scale g.past) g.entries_are (one_for_one pk scale g.past g.judged));
        area = area ∙ ap (λ (n : ℕ). table_bytes entries ++ drop (width_record_size * n) before) (sym count);
        checks = ap checked_table table_is ∙ table_checks pk scale g.past g.lawful g.judged ∙ ap given (ap length g.entries_are ∙ sym count);
        record_reads = λ first-ones e back split. rw table_is (entry_reads pk scale g.past g.lawful g.judged first-ones e back (g.entries_are ∙ split));
        check_sums = λ bytes first-ones e back split.
            let reads = entry_reads pk scale g.past g.lawful g.judged first-ones e back (g.entries_are ∙ split) in
            let own = entry_sum pk scale g.past g.lawful g.judged first-ones e back (g.entries_are ∙ split) in
            rw table_is (reads.sum_is ∙ read_back 4 e.checksum (omega (arith, own, sum_small pk g.past g.judged bytes)));
      }

  makes_of : (answer : Answer (List Entry)) → table_made pk scale room ≡ answer → given records ≡ records_made answer → after ≡ table_area before answer → Makes pk scale records before after
  makes_of (refused number place) e said area = absurd (let z : ◌≡◌ {A = ℕ} 0 1 = cc in omega arith)
  makes_of (given entries) e said area = makes_by entries (grounds pk scale room entries e) (given_same records (length entries) said) area

pub width_table_makes : (κs : Lfts 2) → (pk : _) → (scale : ℕ) → (area : _) → (records : ℕ) → (x : _) → width-table.Post κs (pk, (scale, (area, tt))) (Ok records) x
    → Makes pk.now scale records area.now x.1.1.0.now
width_table_makes κs pk scale area records x post =
    makes_of pk.now scale (length area.now) records area.now x.1.1.0.now (table_made pk.now scale (length area.now)) refl post.0 post.1.0

-- a call is accepted exactly if the scale is lawful, the file is a lawful PK file, and the area has room for a record a packet
pub font_table_iff : (pk : List ℕ) (scale room : ℕ)
    → ((entries : List Entry) × (table_made pk scale room ≡ given entries)) ↔ Taken pk scale room
font_table_iff pk scale room = (forth, back)
  where
    forth : (entries : List Entry) × (table_made pk scale room ≡ given entries) → Taken pk scale room
    forth (entries, e) =
        let g = grounds pk scale room entries e in
        let lawful = judged_lawful pk g.past g.judged in
        let count : packets (upon [] lawful.0.0) ≡ length entries =
        ap packets (sym lawful.1) ∙ sym (one_for_one pk scale g.past g.judged).as_many ∙ ap length g.entries_are in
        (g.lawful, (lawful.0, omega (arith, g.enough, count)))

    back : Taken pk scale room → (entries : List Entry) × (table_made pk scale room ≡ given entries)
    back (right, (lawful, enough)) =
        let past = upon [] lawful.0 in
        let judged = lawful_judged pk lawful in
        let count = (one_for_one pk scale past judged).as_many in
        (font_table scale past, made_given pk scale room right past judged (omega (arith, enough, count)))

-- the same of the contract
pub width_table_accepts : (κs : Lfts 2) → (pk : _) → (scale : ℕ) → (area : _) → (r : Result ℕ Refusal) → (x : _) → width-table.Post κs (pk, (scale, (area, tt))) r x
    → IsOk r ↔ Taken pk.now scale (length area.now)
width_table_accepts κs pk scale area r x post = (forth r post.0, back r post.0)
  where
    answer : Answer (List Entry)
    answer = table_made pk.now scale (length area.now)

    given_by : (records : ℕ) (a : Answer (List Entry)) → answer ≡ a → given records ≡ records_made a → Taken pk.now scale (length area.now)
    given_by records (refused number place) e said = absurd (let z : ◌≡◌ {A = ℕ} 0 1 = cc in omega arith)
    given_by records (given entries) e said = (font_table_iff pk.now scale (length area.now)).0 (entries, e)

    forth : (r : Result ℕ Refusal) → answered r ≡ records_made (table_made pk.now scale (length area.now)) → IsOk r → Taken pk.now scale (length area.now)
    forth (Ok records) said made = given_by records answer refl said
    forth (Err why) said made = absurd (true≢false (sym made))

    back : (r : Result ℕ Refusal) → answered r ≡ records_made (table_made pk.now scale (length area.now)) → Taken pk.now scale (length area.now) → IsOk r
    back (Ok records) said taken = refl
    back (Err why) said taken =
        let (entries, e) = (font_table_iff pk.now scale (length area.now)).1 taken in
        absurd (given_not_refused (length entries) (number_of why.reason) why.place (sym (said ∙ ap records_made e)))

-- for every list that keeps the rules and is written as the file, answer and area are those of this list
pub width_table_by_the_list : (κs : Lfts 2) → (pk : _) → (scale : ℕ) → (area : _) → (r : Result ℕ Refusal) → (x : _) → width-table.Post κs (pk, (scale, (area, tt))) r x
    → (list : List Command) → FollowsInFont [] list → written list ≡ pk.now
    → (answered r ≡ records_made (made_by list scale (length area.now))) × (x.1.1.0.now ≡ table_area area.now (made_by list scale (length area.now)))
width_table_by_the_list κs pk scale area r x post list keeps forms =
    let judged = lawful_judged pk.now (list, keeps, forms) in
    let same : table_made pk.now scale (length area.now) ≡ made_by list scale (length area.now) =
    ap (λ (a : Answer (List Command)). refuse_if (not (lawful_size scale)) 22 0 (and_then a (λ past. with_room (length area.now) (font_table scale past)))) judged in
    (post.0 ∙ ap records_made same, post.1.0 ∙ ap (table_area area.now) same)
