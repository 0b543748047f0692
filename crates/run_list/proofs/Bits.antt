-- A number's bits as digits. Assumes nothing.
use Rattle.std.proofs.Common.{◌≡◌, refl, List, [], ◌∷◌, ◌++◌, ℕ}
use lib.Ieee.{Float, binary64, to_bits}
use Rattle.text.specs.Hex.{digits}
use Rattle.text.specs.Text.{space}
use Rattle.run_list.specs.Lines.{bits_then}

pub bits_are : (x : Float) (after : List ℕ) (bits : ℕ) (digits' : List ℕ) → bits ≡ to_bits binary64 x → digits' ≡ digits bits → space ∷ [] ++ digits' ++ after ≡ bits_then x after
unfolding bits_then
bits_are x after bits digits' e f = rw (f, e) refl
