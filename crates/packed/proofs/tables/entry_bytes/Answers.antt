-- `packed::tables::entry_bytes` meets its contract. Assumes nothing.
use Prim.Native.Nat.{ℕ, ◌+◌, ◌%◌, ◌^◌}
use mathlib.Core.Path.{◌≡◌, refl, ap, ◌∙◌}
use mathlib.Core.List.{List, ◌++◌}
use native.Mathlib.Nat.{div-div-eq-div-mul}
use lib.ListN.{length, take, drop, set, replicate}
use borrow.Author.Rules.{rules, sfits_of}
use mir.Syntax.{w32, w64}
use mir.Val.{to_z, of_z}
use mir.Facts.{to_z-of_z}
use Rattle.std.specs.Int.{to_be_bytes}
use Rattle.numbers.specs.Bytes.{bytes_of, signed_bytes_of}
use Rattle.numbers.specs.Signs.{to_twos}
use Rattle.widths.specs.Table.{width_record_size}
use Rattle.widths.specs.Entries.{Entry, entry_bytes}
use Rattle.packed.specs.Steps.{entry_from}
use Rattle.packed.proofs.tables.entry_bytes.Goals as goal

four : (n : ℕ) → to_be_bytes w32 n ≡ bytes_of 4 n
unfolding bytes_of
four n = simp div-div-eq-div-mul

-- zeros, with each field put at its place
whole : (e : Entry) (checksum scale escapement width zeros once twice thrice all : List ℕ) (code : ℕ) → once ≡ take 0 zeros ++ checksum ++ drop (0 + length checksum) zeros
    → twice ≡ take 4 once ++ scale ++ drop (4 + length scale) once → thrice ≡ take 26 (set twice 24 code) ++ escapement ++ drop (26 + length escapement) (set twice 24 code)
    → all ≡ take 28 thrice ++ width ++ drop (28 + length width) thrice → zeros ≡ replicate width_record_size 0 → checksum ≡ bytes_of 4 e.checksum → scale ≡ bytes_of 4 e.scale
    → code ≡ e.code % 256 → escapement ≡ signed_bytes_of 2 e.escapement → width ≡ bytes_of 4 e.width → all ≡ entry_bytes e
unfolding entry_bytes bytes_of
whole e checksum scale escapement width zeros once twice thrice all code once_is twice_is thrice_is all_is blank checksum_is scale_is code_is escapement_is width_is =
    rw (all_is, thrice_is, twice_is, once_is, checksum_is, scale_is, code_is, escapement_is, width_is, blank) refl

pub returns : goal.returns
unfolding bytes_of
returns c =
    let a = c.args in
    let escapement : to_z w64 (of_z w64 c.from.result) ≡ a.packet.escapement = to_z-of_z {w = w64} (sfits_of c.from.type_inv) ∙ c.from.ensures ∙ search rules in
    whole
    (entry_from a.checksum a.scale a.packet)
    _
    _
    _
    _
    _
    _
    _
    _
    _
    _
    c.paste.ensures
    c.paste-2.ensures
    c.paste-3.ensures
    c.paste-4.ensures
    refl
    (c.to_be_bytes.ensures ∙ four a.checksum)
    (c.to_be_bytes-2.ensures ∙ four a.scale)
    refl
    (c.to_be_bytes-3.ensures ∙ ap (bytes_of 2) (c.to_twos-escapement.ensures ∙ ap (to_twos (2 ^ 16)) escapement))
    (c.to_be_bytes-4.ensures ∙ four a.packet.width)
