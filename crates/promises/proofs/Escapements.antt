-- The escapement of a long packet is the nearest number of pixels. Assumes nothing.
use Prim.Native.Nat.{ℕ, ◌+◌, ◌/◌}
use mathlib.Core.Path.{◌≡◌}
use mathlib.Core.Bool.{true}
use mathlib.Core.List.{List}
use native.Mathlib.Omega.{arith}
use lib.IntN.{ℤ, pos, negsuc}
use Rattle.numbers.proofs.Signed.{up_neg, dn_neg}
use Rattle.numbers.specs.Bytes.{signed_at}
use Rattle.packed.specs.Packets.{nearest, is_long, escapement_start, escapement_in}
use Rattle.promises.specs.Fonts.{NearestPixel}

pub nearest_pixel : (z : ℤ) → NearestPixel z (nearest z)
nearest_pixel (pos n) = record { not_above = omega arith; not_below = omega arith }
nearest_pixel (negsuc n) =
    let pixels : ℤ = pos ((n + 32768) / 65536) in
    record { not_above = omega (arith, up_neg pixels, dn_neg pixels); not_below = omega (arith, up_neg pixels, dn_neg pixels) }

-- of a long packet: the escapement is dx in pixels
pub long_escapement : (flag : ℕ) (params : List ℕ) → is_long flag ≡ true → NearestPixel (signed_at params (escapement_start flag) 4) (escapement_in flag params)
unfolding escapement_in
long_escapement flag params long = rw long (nearest_pixel (signed_at params (escapement_start flag) 4))
