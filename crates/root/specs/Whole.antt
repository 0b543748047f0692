-- The whole number nearest to a square root, by squares alone. docs/SPECIFICATION.md, "Square
-- root".
use Rattle.std.specs.Prelude.{ℕ, ◌+◌, ◌*◌, ◌≤◌, ◌<◌}

-- r is the whole number nearest to √n, for an n above 0: r − 1/2 < √n < r + 1/2. Squared that is
-- r² − r + 1/4 < n < r² + r + 1/4, where n and r are whole and no √n lies half-way.
pub record IsNearestRoot (n r : ℕ) : Type 0 where
  pub above_lower_middle : r * r < n + r
  pub below_upper_middle : n ≤ r * r + r
