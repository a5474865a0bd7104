-- A font's packets and the records of its table, one for the other, when a call makes a table, and where a PK file is refused: what the theorems on width tables are stated with. Assumes nothing.
use Rattle.std.specs.Prelude.{ℕ, suc, ◌+◌, ◌*◌, ◌/◌, ◌%◌, ◌≤◌, ◌<◌, ◌≡◌, true, false, not, List, [], ◌∷◌, ◌++◌, length, take, drop, replicate, ℤ}
use Rattle.refusals.specs.Numbers.{font_ends, wrong_scale}
use Rattle.refusals.specs.Answer.{Answer, given, refuse_if}
use Rattle.numbers.specs.Parts.{up, dn}
use Rattle.numbers.specs.Bytes.{unsigned_at, bytes_of}
use Rattle.numbers.specs.Sizes.{lawful_size}
use Rattle.names.specs.Names.{name_size}
use Rattle.scaling.specs.Scaling.{fix_word, lawful_first}
use Rattle.widths.specs.Table.{width_record_size, WidthRecord, record_of, checked_table}
use Rattle.widths.specs.Entries.{Entry, table_bytes}
use Rattle.widths.specs.AsBytes.{Bytes}
use Rattle.commands.specs.Commands.{Command, written, place}
use Rattle.packed.specs.Commands.{is_packet, param_bytes}
use Rattle.packed.specs.Rules.{ended, lawful_escapement, font_fault, packets}
use Rattle.packed.specs.Lawful.{WholeInFont, FollowsInFont, LawfulFont}
use Rattle.packed.specs.Judged.{taken}
use Rattle.packed.specs.Table.{font_checksum, entry_of, font_table, with_room}
use Rattle.packed.specs.Starred.{opening, xi}

-- the commands of a list upon those before, the newest first (rule 11.9)
abbrev pub upon : List Command → List Command → List Command
upon past [] = past
upon past (c ∷ cs) = upon (c ∷ past) cs

-- one of a list (rule 11.12)
pub data Among {A : Type 0} (x : A) : List A → Type 0 where
  first : {xs : List A} → Among x (x ∷ xs)
  later : {y : A} {xs : List A} → Among x xs → Among x (y ∷ xs)

-- codes rise from entry to entry and are bytes; the first is not below this number (rule 11.12)
pub data Rising : ℕ → List Entry → Type 0 where
  none : {least : ℕ} → Rising least []
  more : {least : ℕ} (e : Entry) {entries : List Entry} → least ≤ e.code → e.code < 256 → Rising (suc e.code) entries → Rising least (e ∷ entries)

-- the packets of a list of commands and the records of a table, one for the other: as many of these as of those, for each packet its record, for each record its packet, and the codes rise (rule 11.12)
pub record OneForOne (scale : ℕ) (past : List Command) (entries : List Entry) : Type 0 where
  pub as_many : length entries ≡ packets past
  pub its_record : (c : Command) → Among c past → is_packet c.opcode ≡ true → Among (entry_of (font_checksum past) scale c) entries
  pub its_packet : (e : Entry) → Among e entries → (c : Command) × Among c past × (is_packet c.opcode ≡ true) × (e ≡ entry_of (font_checksum past) scale c)
  pub rising : Rising 0 entries

-- an entry whose scale, code, width's first byte and escapement a width record may have (rules 6.1, 6.4, 6.5)
pub record Fits (e : Entry) : Type 0 where
  pub scale_right : lawful_size e.scale ≡ true
  pub code_is_byte : e.code < 256
  pub first_right : lawful_first (e.width / 16777216) ≡ true
  pub escapement_right : lawful_escapement e.escapement ≡ true

-- a record reads as an entry, for any name; of the check sum, that its four bytes are the entry's (rules 6.1, 6.10)
pub record Reads (r : WidthRecord) (e : Entry) : Type 0 where
  pub sum_is : r.checksum ≡ unsigned_at (bytes_of 4 e.checksum) 0 4
  pub scale_is : r.scale ≡ e.scale
  pub name_is : r.name ≡ 0
  pub name_zeros : r.name_bytes ≡ replicate name_size 0
  pub code_is : r.code ≡ e.code
  pub zero_is : r.zero_byte ≡ 0
  pub escapement_is : r.escapement ≡ e.escapement
  pub width_is : r.width ≡ fix_word (e.width / 16777216) (e.width / 65536 % 256) (e.width / 256 % 256) (e.width % 256)

-- what an accepted call makes of a PK file and a scale: the file is the written form of a list of commands that keeps the rules, and has as many packets as there are records; the table's entries are these packets', one for the
-- other; their bytes stand at the area's front, and the rest is as it was; the table check finds this front right, and each record there reads as its entry, its check sum too, where the file is one of bytes (rules 9.1, 9.9, 11.8, 11.12)
pub record Makes (pk : List ℕ) (scale records : ℕ) (before after : List ℕ) : Type 0 where
  pub list : List Command
  pub keeps : FollowsInFont [] list
  pub forms : written list ≡ pk
  pub records_are : records ≡ packets (upon [] list)
  pub entries : List Entry
  pub one_for_one : OneForOne scale (upon [] list) entries
  pub area : after ≡ table_bytes entries ++ drop (width_record_size * records) before
  pub checks : checked_table (take (width_record_size * records) after) ≡ given records
  pub record_reads : (front : List Entry) (e : Entry) (back : List Entry) → entries ≡ front ++ (e ∷ back) → Reads (record_of (take (width_record_size * records) after) (length front)) e
  pub check_sums : Bytes pk → (front : List Entry) (e : Entry) (back : List Entry) → entries ≡ front ++ (e ∷ back)
      → (record_of (take (width_record_size * records) after) (length front)).checksum ≡ e.checksum

-- when a call is not refused: the scale is lawful, the file is a lawful PK file, and the area has room for a record a packet (rules 9.9, 11.8)
abbrev pub Taken : List ℕ → ℕ → ℕ → Type 0
Taken pk scale room = (lawful_size scale ≡ true) × ((lawful : LawfulFont pk) × (width_record_size * packets (upon [] lawful.0) ≤ room))

-- what a list of commands makes, at a scale, into an area of so many bytes (rule 9.9)
abbrev pub made_by : List Command → ℕ → ℕ → Answer (List Entry)
made_by list scale room = refuse_if (not (lawful_size scale)) wrong_scale 0 (with_room room (font_table scale (upon [] list)))

-- ---- refusals, said of the list

-- after the commands before, these are whole and keep the rules (rules 11.4 to 11.6)
pub data KeptInFont : List Command → List Command → Type 0 where
  none_kept : {past : List Command} → KeptInFont past []
  one_kept : {past : List Command} {c : Command} {cs : List Command} → WholeInFont c → font_fault past c ≡ 0 → KeptInFont (c ∷ past) cs → KeptInFont past (c ∷ cs)

-- what is due after some commands, where these bytes follow: the postamble byte is missing, a command's bytes are, or it breaks the rules (rule 11.9)
pub data DueInFont (past : List Command) : List ℕ → ℕ → Type 0 where
  no_postamble : ended past ≡ false → DueInFont past [] font_ends
  cut : {opcode : ℕ} {rest : List ℕ} → length rest < param_bytes opcode rest → DueInFont past (opcode ∷ rest) font_ends
  broken : {opcode : ℕ} {rest : List ℕ} → param_bytes opcode rest ≤ length rest → 0 < font_fault past (taken opcode rest)
      → DueInFont past (opcode ∷ rest) (font_fault past (taken opcode rest))

-- a file begins with the written forms of commands that keep the rules, and right behind them a number is due (rule 11.9)
pub record FontRefused (pk : List ℕ) (number at : ℕ) : Type 0 where
  pub list : List Command
  pub kept : KeptInFont [] list
  pub rest : List ℕ
  pub forms : written list ++ rest ≡ pk
  pub due : DueInFont (upon [] list) rest number
  pub there : at ≡ place (upon [] list)

-- the call is for the font of appendix C's packet, at scale 655,360, with an area of zeros for one record
pub record IsXi (pk : List ℕ) (scale : ℕ) (area : List ℕ) : Type 0 where
  pub pk_is : pk ≡ opening ++ xi ++ (245 ∷ 246 ∷ [])
  pub scale_is : scale ≡ 655360
  pub area_is : area ≡ replicate width_record_size 0

-- e is the number nearest to z 65,536ths, and the upper one where two are as near: 65,536 e is z or up to half a pixel above it, or less than half a pixel below it; the parts of z and e on the sides
-- on which they count (rule 11.7)
pub record NearestPixel (z e : ℤ) : Type 0 where
  pub not_above : 65536 * up e + dn z ≤ up z + 65536 * dn e + 32768
  pub not_below : up z + 65536 * dn e + 32768 < 65536 * up e + dn z + 65536
