-- Two fonts of one check sum and scale on one page: the example that tables without names get wrong. Assumes nothing.
use Rattle.std.specs.Prelude.{ℕ, ◌≡◌, refl, List, [], ◌∷◌, ◌++◌, replicate, pos}
use Rattle.refusals.specs.Answer.{given}
use Rattle.numbers.specs.Bytes.{unsigned_at}
use Rattle.names.specs.Names.{sought_name}
use Rattle.units.specs.Rounding.{nearest_whole}
use Rattle.units.specs.Divisor.{common_divisor, divisor_within, lowest}
use Rattle.scaling.specs.Scaling.{halving}
use Rattle.widths.specs.Table.{record_in, checked_from}
use Rattle.widths.specs.LookUp.{walk_from}
use Rattle.commands.specs.Kinds.{kind_of}
use Rattle.commands.specs.Lengths.{lengths, fixed_length, inner_length, size_of}
use Rattle.commands.specs.Commands.{front_after}
use Rattle.list.specs.Rules.{same_bytes}
use Rattle.volume.specs.Judged.{tail, judged_from, judged}
use Rattle.volume.specs.History.{history, history_from}
use Rattle.placements.specs.declared.Record.{Record}
use Rattle.turns.specs.Placing.{Contents, after, placing}
use Rattle.page.specs.Answers.{placed_page}
use Rattle.promises.specs.OldTables.{old_placed_page}

-- a definition of a font of check sum 0 and scale and design size 100, without an area, by its number and the one byte of its name
abbrev pub defining : ℕ → ℕ → List ℕ
defining number letter = 243 ∷ number ∷ 0 ∷ 0 ∷ 0 ∷ 0 ∷ 0 ∷ 0 ∷ 0 ∷ 100 ∷ 0 ∷ 0 ∷ 0 ∷ 100 ∷ 0 ∷ 1 ∷ letter ∷ []

-- fonts 0 and 1, called a and b, and a page that sets the character 65 of a, of b, and of a again
abbrev pub two_fonts : List ℕ
two_fonts =
    (247 ∷ 2 ∷ 0 ∷ 0 ∷ 0 ∷ 254 ∷ 0 ∷ 0 ∷ 0 ∷ 1 ∷ 0 ∷ 0 ∷ 3 ∷ 232 ∷ 0 ∷ [])
    ++ defining 0 97 ++ defining 1 98
    ++ (139 ∷ []) ++ replicate 40 0 ++ (255 ∷ 255 ∷ 255 ∷ 255 ∷ [])
    ++ (171 ∷ 65 ∷ 172 ∷ 65 ∷ 171 ∷ 65 ∷ 140 ∷ [])
    ++ (248 ∷ 0 ∷ 0 ∷ 0 ∷ 49 ∷ 0 ∷ 0 ∷ 0 ∷ 254 ∷ 0 ∷ 0 ∷ 0 ∷ 1 ∷ 0 ∷ 0 ∷ 3 ∷ 232 ∷ []) ++ replicate 8 0 ++ (0 ∷ 0 ∷ 0 ∷ 1 ∷ [])
    ++ defining 0 97 ++ defining 1 98
    ++ (249 ∷ 0 ∷ 0 ∷ 0 ∷ 101 ∷ 2 ∷ [])
    ++ replicate 4 223

-- what stands before the name in a record of either font: check sum 0, scale 100
abbrev pub before : List ℕ
before = 0 ∷ 0 ∷ 0 ∷ 0 ∷ 0 ∷ 0 ∷ 0 ∷ 100 ∷ []

-- what stands behind the name in the record of font a: the code, the zero byte, 3 pixels, and a tenth of the scale
abbrev pub tenth : List ℕ
tenth = 65 ∷ 0 ∷ 0 ∷ 3 ∷ 0 ∷ 1 ∷ 153 ∷ 154 ∷ []

-- the same in the record of font b: 6 pixels, and two tenths
abbrev pub two_tenths : List ℕ
two_tenths = 65 ∷ 0 ∷ 0 ∷ 6 ∷ 0 ∷ 3 ∷ 51 ∷ 52 ∷ []

-- the table has each under its own name
abbrev pub named_table : List ℕ
named_table = before ++ (97 ∷ []) ++ replicate 15 0 ++ tenth ++ before ++ (98 ∷ []) ++ replicate 15 0 ++ two_tenths

-- a table of the old form has room for one of them
abbrev pub spliced_table : List ℕ
spliced_table = before ++ tenth

-- the record of the character at a pixel
abbrev pub figure : ℕ → ℕ → ℕ → Record
figure font hh escapement = record { kind = 1; font = font; page = 1; hh = pos hh; vv = pos 0; content = pos 65; extent = pos escapement }

-- so many figures, none missing, no special
abbrev pub figures : List Record → Contents
figures placements = record { placements = placements; missing_characters = 0; specials = 0 }

-- each font by its own record
pub names_hold : placed_page two_fonts named_table 300 1 60 ≡ given (figures (figure 0 0 3 ∷ figure 1 3 6 ∷ figure 0 9 3 ∷ []))
unfolding unsigned_at sought_name nearest_whole common_divisor divisor_within lowest halving record_in checked_from walk_from kind_of lengths fixed_length inner_length size_of front_after same_bytes tail judged_from judged history history_from after placing
names_hold = refl

-- the old look-up takes the record of font a for font b too: its figure is too narrow, and the one behind it stands three pixels off
pub splicing_shows : old_placed_page two_fonts spliced_table 300 1 60 ≡ given (figures (figure 0 0 3 ∷ figure 1 3 3 ∷ figure 0 6 3 ∷ []))
unfolding unsigned_at nearest_whole common_divisor divisor_within lowest halving record_in checked_from walk_from kind_of lengths fixed_length inner_length size_of front_after same_bytes tail judged_from judged history history_from after placing
splicing_shows = refl

-- ---- calls that bring tables into their other form, with areas of sevens

-- the table of the old form, and an area that just holds it in the new one
pub record IsOldOne (old area : List ℕ) : Type 0 where
  pub old_is : old ≡ spliced_table
  pub area_is : area ≡ replicate 32 7

-- the same table in the new form: sixteen zeros for a name
abbrev pub any_table : List ℕ
any_table = before ++ replicate 16 0 ++ tenth

-- it, and an area that just holds it in the old form
pub record IsNewOne (table area : List ℕ) : Type 0 where
  pub table_is : table ≡ any_table
  pub area_is : area ≡ replicate 16 7

-- the table of two names, and an area without room
pub record IsNamed (table area : List ℕ) : Type 0 where
  pub table_is : table ≡ named_table
  pub area_is : area ≡ []
