-- Rounding to whole pixels, worked by hand. Assumes nothing.
use Rattle.std.specs.Prelude.{◌≡◌, refl, pos, negsuc}
use Rattle.packed.specs.Packets.{nearest}

-- halves go up: 0.5 to 1, −0.5 to 0, −1.5 to −1; what is nearer to a number goes there: 0.49 to 0, −0.51 to −1; 32,767.5 to 32,768, −32,768 stays
shown :
    (nearest (pos 32768) ≡ pos 1)
    × (nearest (negsuc 32767) ≡ pos 0)
    × (nearest (negsuc 98303) ≡ negsuc 0)
    × (nearest (pos 32767) ≡ pos 0)
    × (nearest (negsuc 32768) ≡ negsuc 0)
    × (nearest (pos 2147450880) ≡ pos 32768)
    × (nearest (negsuc 2147483647) ≡ negsuc 32767)
shown = (refl, refl, refl, refl, refl, refl, refl)
