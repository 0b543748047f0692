-- Numbers read from a lent slice, and written into one, as c_calls/src/slices.rt does.
use Rattle.std.specs.Prelude.{ℕ, ◌+◌, List, length, Float}
use Rattle.std.proofs.Math.Seq.{paste}
use Rattle.numerics.specs.Vectors.{◌!◌, tabulate}

-- xₛ, xₛ₊₁, …, xₛ₊ₙ₋₁ with s the start; a number past the end of x is NaN
unfoldable pub part : ℕ → ℕ → List Float → List Float
part start n x = tabulate n (λ i. x ! (start + i))

-- `out` with the values in place of its own from `start` on
abbrev pub put : List Float → ℕ → List Float → List Float
put values start out = paste out start values (length values)
