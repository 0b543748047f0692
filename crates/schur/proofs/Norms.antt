-- The bits of +∞. Assumes nothing.
use Rattle.std.proofs.Common.{◌≡◌, refl, false}
use lib.Ieee.{inf, binary64, of_bits}

pub infinite : of_bits binary64 0x7ff0_0000_0000_0000 ≡ inf false
unfolding of_bits
infinite = refl
