-- Examples on PK files, worked by hand, as entries of a list. Assumes nothing.
use Rattle.std.specs.Prelude.{ℕ, List, [], ◌∷◌, ◌++◌, take, set, replicate}
use Rattle.refusals.specs.Numbers.{area_too_short, font_ends, misplaced_in_font, packet_too_short, wrong_packet, wrong_scale}
use Rattle.refusals.specs.Answer.{Answer, refused, given, and_then}
use Rattle.widths.specs.Entries.{table_bytes}
use Rattle.packed.specs.Table.{table_made}

-- a preamble without a comment: design size 10, check sum 1 2 3 4
abbrev pub opening : List ℕ
opening = 247 ∷ 89 ∷ 0 ∷ 0 ∷ 160 ∷ 0 ∷ 0 ∷ 1 ∷ 2 ∷ 3 ∷ 4 ∷ replicate 8 0

-- the packet of Ξ in appendix C: code 4, width 9 199 28, 25 pixels; 8 bytes of fields and 18 of raster
abbrev pub xi : List ℕ
xi =
    (136 ∷ 26 ∷ 4 ∷ 9 ∷ 199 ∷ 28 ∷ 25 ∷ 20 ∷ 29 ∷ 254 ∷ 28 ∷ [])
    ++ (217 ∷ 226 ∷ 151 ∷ 43 ∷ 30 ∷ 34 ∷ 147 ∷ 36 ∷ 227 ∷ 151 ∷ 78 ∷ 34 ∷ 147 ∷ 44 ∷ 94 ∷ 34 ∷ 151 ∷ 217 ∷ [])

-- an extended packet without raster: code 3, width 0 0 7, 258 pixels
abbrev pub wide : List ℕ
wide = 4 ∷ 0 ∷ 13 ∷ 3 ∷ 0 ∷ 0 ∷ 7 ∷ 1 ∷ 2 ∷ replicate 8 0

-- a long packet without raster: code 2, width 255 255 255 255, dx −1.5 pixels, which is 255 254 128 0
abbrev pub long : List ℕ
long = 7 ∷ 0 ∷ 0 ∷ 0 ∷ 28 ∷ 0 ∷ 0 ∷ 0 ∷ 2 ∷ 255 ∷ 255 ∷ 255 ∷ 255 ∷ 255 ∷ 254 ∷ 128 ∷ 0 ∷ replicate 20 0

-- a special of two bytes, a special without text, yyy and a no-op
abbrev pub between : List ℕ
between = 240 ∷ 2 ∷ 245 ∷ 247 ∷ 241 ∷ 0 ∷ 0 ∷ 244 ∷ 9 ∷ 9 ∷ 9 ∷ 9 ∷ 246 ∷ []

-- the record of a packet at scale 655,360, which is 0 10 0 0, for any name, by what stands behind the name: code, zero, escapement, width
abbrev pub record_for : List ℕ → List ℕ
record_for behind = (1 ∷ 2 ∷ 3 ∷ 4 ∷ 0 ∷ 10 ∷ 0 ∷ 0 ∷ []) ++ replicate 16 0 ++ behind

-- a file, a scale and the area's bytes, and the table's bytes or the refusal
pub record FontExample : Type 0 where
  pub pk : List ℕ
  pub scale : ℕ
  pub room : ℕ
  pub printed : Answer (List ℕ)

-- an example at scale 655,360 with an area of 96 bytes
abbrev pub example : List ℕ → Answer (List ℕ) → FontExample
example pk printed = record { pk = pk; scale = 655360; room = 96; printed = printed }

-- Ξ alone; no packet; three packets with falling codes; Ξ twice; 32,770 pixels; code 258; first width byte 1; an opcode of no command; Ξ cut, without postamble, with a special behind it; another identification; a packet of one byte too few; a scale of 0; an area too short
abbrev pub font_examples : List FontExample
font_examples =
    example (opening ++ xi ++ (245 ∷ 246 ∷ [])) (given (record_for (4 ∷ 0 ∷ 0 ∷ 25 ∷ 0 ∷ 9 ∷ 199 ∷ 28 ∷ [])))
    ∷ example (opening ++ (245 ∷ [])) (given [])
    ∷ example (opening ++ xi ++ between ++ wide ++ long ++ (245 ∷ []))
    (given
    (record_for (2 ∷ 0 ∷ 255 ∷ 255 ∷ 255 ∷ 255 ∷ 255 ∷ 255 ∷ [])
    ++ record_for (3 ∷ 0 ∷ 1 ∷ 2 ∷ 0 ∷ 0 ∷ 0 ∷ 7 ∷ [])
    ++ record_for (4 ∷ 0 ∷ 0 ∷ 25 ∷ 0 ∷ 9 ∷ 199 ∷ 28 ∷ [])))
    ∷ example (opening ++ xi ++ xi ++ (245 ∷ [])) (refused wrong_packet 48)
    ∷ example (opening ++ set wide 7 128 ++ (245 ∷ [])) (refused wrong_packet 19)
    ∷ example (opening ++ set long 7 1 ++ (245 ∷ [])) (refused wrong_packet 19)
    ∷ example (opening ++ set long 9 1 ++ (245 ∷ [])) (refused wrong_packet 19)
    ∷ example (opening ++ (248 ∷ 245 ∷ [])) (refused misplaced_in_font 19)
    ∷ example (opening ++ take 28 xi) (refused font_ends 19)
    ∷ example (opening ++ xi) (refused font_ends 48)
    ∷ example (opening ++ xi ++ (245 ∷ 240 ∷ 0 ∷ [])) (refused misplaced_in_font 49)
    ∷ example (set opening 1 88 ++ (245 ∷ [])) (refused misplaced_in_font 0)
    ∷ example (opening ++ set (take 10 xi) 1 7 ++ (245 ∷ [])) (refused packet_too_short 19)
    ∷ record { pk = []; scale = 0; room = 0; printed = refused wrong_scale 0 }
    ∷ record { pk = opening ++ xi ++ (245 ∷ []); scale = 655360; room = 31; printed = refused area_too_short 0 }
    ∷ []

-- what the definitions give for an example
abbrev pub font_found : FontExample → Answer (List ℕ)
font_found e = and_then (table_made e.pk e.scale e.room) (λ entries. given (table_bytes entries))
