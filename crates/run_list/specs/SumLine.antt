-- The line of a list's sums and of its verdict: met by src/lines/sum.rt. docs/SPECIFICATION.md,
-- "List".
use Rattle.std.specs.Prelude.{ℕ, Bool, ◌&&◌, if◌then◌else◌, List, [], ◌∷◌, ◌++◌, ◌==◌}
use Rattle.std.specs.Prelude.{codes, slice_index}
use Rattle.std.specs.Fmt.{decimal}
use Rattle.schur.specs.Reduced.{is_valid}
use Rattle.schur.specs.declared.reduced_system.ReducedSystem.{ReducedSystem}
use Rattle.text.specs.Text.{space, line_feed}
use Rattle.run_list.specs.Lines.{bits_then}

-- `y` if the system is valid, else `n`
abbrev pub validity : Bool → ℕ
validity valid = if valid then slice_index (codes "y") 0 else slice_index (codes "n") 0

-- `u`, the run can be used, if the system is valid and no block is weak; else `x`
abbrev pub verdict : Bool → ℕ → ℕ
verdict valid weak =
    if valid && weak == 0 then slice_index (codes "u") 0 else slice_index (codes "x") 0

-- sum COST SQUARED WEAK VALIDITY VERDICT, of the system after the pose damping; the cost and the
-- squared residual by their bits
unfoldable pub sum_line : ReducedSystem → List ℕ
sum_line s =
    let valid = is_valid s in
    let weak = s.weak_point_count in
    codes "sum" ++ bits_then s.cost [] ++ bits_then s.squared_residual (codes " ") ++ decimal weak
    ++ (space ∷ validity valid ∷ space ∷ verdict valid weak ∷ line_feed ∷ [])
