-- The printed example: its file, what placing its page gives, and the bytes of its two records. Assumes nothing.
use Rattle.std.specs.Prelude.{ℕ, ◌≡◌, refl, List, [], ◌∷◌, ◌++◌, replicate, ℤ, pos}
use Rattle.refusals.specs.Answer.{given}
use Rattle.numbers.specs.Bytes.{unsigned_at, bytes_of}
use Rattle.units.specs.Rounding.{nearest_whole}
use Rattle.units.specs.Divisor.{common_divisor, divisor_within, lowest}
use Rattle.widths.specs.Table.{checked_from}
use Rattle.commands.specs.Kinds.{kind_of}
use Rattle.commands.specs.Lengths.{lengths, fixed_length, inner_length, size_of}
use Rattle.commands.specs.Commands.{front_after}
use Rattle.list.specs.Rules.{same_bytes}
use Rattle.volume.specs.Judged.{tail, judged_from, judged}
use Rattle.volume.specs.History.{history, history_from}
use Rattle.placements.specs.declared.Record.{Record}
use Rattle.placements.specs.Records.{record_bytes, all_bytes}
use Rattle.turns.specs.Placing.{Contents, after, placing}
use Rattle.page.specs.Answers.{placed_page}

-- the smallest file with six moves by 5, a rule set and a rule put on its page
abbrev pub example : List ℕ
example =
    (247 ∷ 2 ∷ 0 ∷ 0 ∷ 0 ∷ 254 ∷ 0 ∷ 0 ∷ 0 ∷ 1 ∷ 0 ∷ 0 ∷ 3 ∷ 232 ∷ 0 ∷ [])
    ++ (139 ∷ []) ++ replicate 40 0 ++ (255 ∷ 255 ∷ 255 ∷ 255 ∷ [])
    ++ (143 ∷ 5 ∷ 143 ∷ 5 ∷ 143 ∷ 5 ∷ 143 ∷ 5 ∷ 143 ∷ 5 ∷ 143 ∷ 5 ∷ [])
    ++ (132 ∷ 0 ∷ 0 ∷ 0 ∷ 4 ∷ 0 ∷ 0 ∷ 0 ∷ 7 ∷ [])
    ++ (137 ∷ 0 ∷ 0 ∷ 0 ∷ 1 ∷ 0 ∷ 0 ∷ 0 ∷ 1 ∷ [])
    ++ (140 ∷ [])
    ++ (248 ∷ 0 ∷ 0 ∷ 0 ∷ 15 ∷ 0 ∷ 0 ∷ 0 ∷ 254 ∷ 0 ∷ 0 ∷ 0 ∷ 1 ∷ 0 ∷ 0 ∷ 3 ∷ 232 ∷ []) ++ replicate 8 0 ++ (0 ∷ 0 ∷ 0 ∷ 1 ∷ [])
    ++ (249 ∷ 0 ∷ 0 ∷ 0 ∷ 91 ∷ 2 ∷ [])
    ++ replicate 4 223

-- a rule of page 1 with vv 0
abbrev pub rule : ℤ → ℤ → ℤ → Record
rule hh height width = record { kind = 2; font = 0; page = 1; hh = hh; vv = pos 0; content = height; extent = width }

-- its two rules, no missing character, no special
abbrev pub printed : Contents
printed = record { placements = rule (pos 9) (pos 2) (pos 3) ∷ rule (pos 12) (pos 1) (pos 1) ∷ []; missing_characters = 0; specials = 0 }

-- placed by an empty table at 300 dots per inch, into an area that just holds it
pub printed_placed : placed_page example [] 300 1 40 ≡ given printed
unfolding unsigned_at nearest_whole common_divisor divisor_within lowest checked_from kind_of lengths fixed_length inner_length size_of front_after same_bytes tail judged_from judged history history_from after placing
printed_placed = refl

-- the two records as bytes
abbrev pub printed_bytes : List ℕ
printed_bytes =
    (2 ∷ 0 ∷ 0 ∷ 1 ∷ 0 ∷ 0 ∷ 0 ∷ 9 ∷ 0 ∷ 0 ∷ 0 ∷ 0 ∷ 0 ∷ 0 ∷ 0 ∷ 2 ∷ 0 ∷ 0 ∷ 0 ∷ 3 ∷ [])
    ++ (2 ∷ 0 ∷ 0 ∷ 1 ∷ 0 ∷ 0 ∷ 0 ∷ 12 ∷ 0 ∷ 0 ∷ 0 ∷ 0 ∷ 0 ∷ 0 ∷ 0 ∷ 1 ∷ 0 ∷ 0 ∷ 0 ∷ 1 ∷ [])

-- the records' bytes are these
pub printed_bytes_lem : all_bytes printed.placements ≡ printed_bytes
unfolding record_bytes bytes_of
printed_bytes_lem = refl
