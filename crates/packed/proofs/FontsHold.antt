-- The examples on PK files come out as they must. Assumes nothing.
use Rattle.std.specs.Prelude.{◌≡◌, refl, map}
use Rattle.numbers.specs.Bytes.{unsigned_at, bytes_of}
use Rattle.packed.specs.Commands.{form_of, fixed_bytes, counted_bytes}
use Rattle.packed.specs.Packets.{code_in, width_in, escapement_in}
use Rattle.packed.specs.Rules.{font_fault}
use Rattle.packed.specs.Judged.{font_judged_from, font_judged}
use Rattle.packed.specs.Starred.{font_examples, font_found}
use Rattle.widths.specs.Entries.{entry_bytes}

-- the definitions give what they must
pub fonts_hold : map font_found font_examples ≡ map (λ e. e.printed) font_examples
unfolding unsigned_at bytes_of form_of fixed_bytes counted_bytes code_in width_in escapement_in font_fault font_judged_from font_judged entry_bytes
fonts_hold = refl
