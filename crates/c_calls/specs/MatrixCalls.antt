-- The outcomes of the calls on matrices, c_calls/src/matrix_calls.rt: row 1 unless every array has
-- its length, then what the call of the same name gives (docs/SPECIFICATION.md, "Point block" and
-- "Solve"). A matrix stands by rows. An inverse is packed: 00, 10, 11, 20, 21, 22.
use Rattle.std.specs.Prelude.{◌&&◌, List, [], ◌∷◌, Float, Ok}
use Rattle.numerics.specs.Vectors.{◌!◌}
use Rattle.refusal.specs.Outcome.{Outcome, outcome}
use Rattle.refusal.specs.Chain.{◌>>=◌, map_ok}
use Rattle.point_block.specs.declared.PointBlockFactor.{PointBlockFactor}
use Rattle.point_block.specs.Damping as PointDamping
use Rattle.point_block.specs.Factor as Factor
use Rattle.point_block.specs.Condition as Condition
use Rattle.point_block.specs.FactorWithRcond as FactorWithRcond
use Rattle.solver.specs.Solver as Solver
use Rattle.point_block.specs.declared.ConditionedFactor.{ConditionedFactor}
use Rattle.c_calls.specs.Outcomes.{if_lengths_fit, has_length}

-- the packed inverse, then rcond
abbrev pub factor_numbers : ConditionedFactor → List Float
factor_numbers f =
    let i = f.factor.inverse in
    i ! 0 ∷ i ! 1 ∷ i ! 2 ∷ i ! 3 ∷ i ! 4 ∷ i ! 5 ∷ f.rcond ∷ []

-- d₀, d₁, d₂ of a block
unfoldable pub damping_diagonal : List Float → List Float → Outcome (List Float)
damping_diagonal matrix out =
    let fits = has_length matrix 9 && has_length out 3 in
    outcome out (if_lengths_fit fits (PointDamping.damping_diagonal matrix))

-- the block with damping · dᵢ added to its diagonal: row 3, then row 10
unfoldable pub damped_matrix : List Float → Float → List Float → Outcome (List Float)
damped_matrix matrix damping out =
    let fits = has_length matrix 9 && has_length out 9 in
    let damped = PointDamping.valid_damping damping >>= PointDamping.damped_matrix matrix in
    outcome out (if_lengths_fit fits damped)

-- the packed inverse of a matrix that is damped already
unfoldable pub factor_damped : List Float → List Float → Outcome (List Float)
factor_damped matrix out =
    let fits = has_length matrix 9 && has_length out 6 in
    let inverse = map_ok (λ (f : PointBlockFactor). f.inverse) (Factor.factor_damped matrix) in
    outcome out (if_lengths_fit fits inverse)

-- the factor with rcond of a block at a damping
unfoldable pub factor_with_rcond : List Float → Float → List Float → Outcome (List Float)
factor_with_rcond matrix damping out =
    let fits = has_length matrix 9 && has_length out 7 in
    let factor = FactorWithRcond.factor_with_rcond matrix damping in
    outcome out (if_lengths_fit fits (map_ok factor_numbers factor))

-- the packed inverse times x
unfoldable pub factor_solve : List Float → List Float → List Float → Outcome (List Float)
factor_solve inverse x out =
    let fits = has_length inverse 6 && has_length x 3 && has_length out 3 in
    outcome out (if_lengths_fit fits (Ok (Factor.solve inverse x)))

-- rcond of a matrix by its packed inverse
unfoldable pub reciprocal_condition_number : List Float → List Float → List Float
    → Outcome (List Float)
reciprocal_condition_number inverse matrix out =
    let fits = has_length inverse 6 && has_length matrix 9 && has_length out 1 in
    let rcond = Condition.reciprocal_condition_number inverse matrix in
    outcome out (if_lengths_fit fits (Ok (rcond ∷ [])))

-- x of the five equations a · x = b
unfoldable pub solve_positive_definite : List Float → List Float → List Float → Outcome (List Float)
solve_positive_definite a b out =
    let fits = has_length a 25 && has_length b 5 && has_length out 5 in
    outcome out (if_lengths_fit fits (Solver.solve_positive_definite a b))
