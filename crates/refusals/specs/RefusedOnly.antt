-- Which refusals each entry may answer with: the numbers of the printed list, each at the place that the list gives it (the table of section 4 of the
-- rules, and rules 9.2 to 9.12). Assumes nothing.
use Rattle.std.specs.Prelude.{ℕ, ◌*◌, ◌≤◌, ◌<◌, ◌≡◌, List, ◌⊎◌, length}
use Rattle.refusals.specs.Numbers.{file_too_long, file_ends, undefined_opcode, wrong_preamble, no_font, wrong_postamble, wrong_tail, wrong_resolution, unit_out_of_range, wrong_width_table, no_such_page, position_out_of_range, area_too_short, font_ends, misplaced_in_font, wrong_packet, wrong_scale, wrong_pages, named_record}
use Rattle.refusals.specs.Answer.{Answer, refused, given}

-- an answer is a result, or a refusal whose number and place may be (rule 4.3)
abbrev pub RefusedOnly : {A : Type 0} → (ℕ → ℕ → Type 0) → Answer A → Type 0
RefusedOnly May (refused number place) = May number place
RefusedOnly May (given a) = Unit {0}

-- an answer that is a result, or a refusal with any number of the list, which are 1 to 24 (the table of section 4 of the rules)
abbrev pub Listed : {A : Type 0} → Answer A → Type 0
Listed answer = RefusedOnly (λ number place. (1 ≤ number) × (number ≤ 24)) answer

-- of a file: 1 at 0; 2 in the file or at its end; 3 to 10 in the file; 11 in the file or at its end (rules 4.1, 4.2)
abbrev pub FileRefusal : List ℕ → ℕ → ℕ → Type 0
FileRefusal file number place =
    ((number ≡ file_too_long) × (place ≡ 0))
    ⊎ (((number ≡ file_ends) × (place ≤ length file))
    ⊎ (((undefined_opcode ≤ number) × (number ≤ wrong_postamble) × (place < length file)) ⊎ ((number ≡ wrong_tail) × (place ≤ length file))))

-- of one command: 1 at 0; 2 or 3 at the place that is asked (rule 9.3)
abbrev pub CommandRefusal : ℕ → ℕ → ℕ → Type 0
CommandRefusal at number place = ((number ≡ file_too_long) × (place ≡ 0)) ⊎ (((number ≡ file_ends) ⊎ (number ≡ undefined_opcode)) × (place ≡ at))

-- of a font's name: as of the file; 8 at 0 (rule 9.4)
abbrev pub NameRefusal : List ℕ → ℕ → ℕ → Type 0
NameRefusal file number place = FileRefusal file number place ⊎ ((number ≡ no_font) × (place ≡ 0))

-- of K: 12 or 13 at 0 (rule 5.4)
abbrev pub UnitRefusal : ℕ → ℕ → Type 0
UnitRefusal number place = ((number ≡ wrong_resolution) ⊎ (number ≡ unit_out_of_range)) × (place ≡ 0)

-- of a distance: 4 at 0; as of K (rule 9.5)
abbrev pub DistanceRefusal : ℕ → ℕ → Type 0
DistanceRefusal number place = ((number ≡ wrong_preamble) × (place ≡ 0)) ⊎ UnitRefusal number place

-- of one width: 14 at 0 (rule 6.7)
abbrev pub WidthRefusal : ℕ → ℕ → Type 0
WidthRefusal number place = (number ≡ wrong_width_table) × (place ≡ 0)

-- of a width table, whose records have so many bytes: 14 at the first byte of a record that begins in the table (rule 9.6)
abbrev pub TableRefusal : ℕ → List ℕ → ℕ → ℕ → Type 0
TableRefusal size table number place = (number ≡ wrong_width_table) × ((index : ℕ) × (place ≡ index * size)) × (place < length table)

-- of a page: as of the file, of K, and of the table; 15 or 17 at 0; 16 in the file (rule 9.8)
abbrev pub PageRefusal : List ℕ → ℕ → List ℕ → ℕ → ℕ → Type 0
PageRefusal file size table number place =
    FileRefusal file number place
    ⊎ (UnitRefusal number place
    ⊎ (TableRefusal size table number place
    ⊎ ((((number ≡ no_such_page) ⊎ (number ≡ area_too_short)) × (place ≡ 0)) ⊎ ((number ≡ position_out_of_range) × (place < length file)))))

-- of a PK file: 18 in the file or at its end; 19 to 21 in the file (rule 11.9)
abbrev pub FontRefusal : List ℕ → ℕ → ℕ → Type 0
FontRefusal pk number place =
    ((number ≡ font_ends) × (place ≤ length pk)) ⊎ ((misplaced_in_font ≤ number) × (number ≤ wrong_packet) × (place < length pk))

-- of a width table made from one: 22 at 0; as of the file; 17 at 0 (rule 9.9)
abbrev pub MadeRefusal : List ℕ → ℕ → ℕ → Type 0
MadeRefusal pk number place =
    ((number ≡ wrong_scale) × (place ≡ 0)) ⊎ (FontRefusal pk number place ⊎ ((number ≡ area_too_short) × (place ≡ 0)))

-- of a file of chosen pages: as of the file; 23 or 17 at 0 (rule 9.10)
abbrev pub CutRefusal : List ℕ → ℕ → ℕ → Type 0
CutRefusal file number place = FileRefusal file number place ⊎ (((number ≡ wrong_pages) ⊎ (number ≡ area_too_short)) × (place ≡ 0))

-- of bringing a table into the new form: as of that table, whose records have so many bytes; 17 at 0 (rule 9.11)
abbrev pub WidenRefusal : ℕ → List ℕ → ℕ → ℕ → Type 0
WidenRefusal size table number place = TableRefusal size table number place ⊎ ((number ≡ area_too_short) × (place ≡ 0))

-- of bringing a table into the old form: as of that table; 24 at the first byte of a record in the table; 17 at 0 (rule 9.12)
abbrev pub NarrowRefusal : ℕ → List ℕ → ℕ → ℕ → Type 0
NarrowRefusal size table number place =
    TableRefusal size table number place
    ⊎ (((number ≡ named_record) × ((index : ℕ) × (place ≡ index * size)) × (place < length table)) ⊎ ((number ≡ area_too_short) × (place ≡ 0)))
