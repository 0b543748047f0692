-- The row numbers of the refusals, each before its condition. docs/SPECIFICATION.md, "Refusals".
use Rattle.std.specs.Prelude.{ℕ}

-- an array's length does not fit n, the count of points, or its layout
abbrev pub lengths : ℕ
lengths = 1

-- n > 65,535
abbrev pub too_many_points : ℕ
too_many_points = 2

-- the damping is not finite, or below 0
abbrev pub damping : ℕ
damping = 3

-- an inverse standard deviation is not finite, or ≤ 0
abbrev pub inverse_standard_deviation : ℕ
inverse_standard_deviation = 4

-- the baseline is not finite, or ≤ 64ε
abbrev pub baseline : ℕ
baseline = 5

-- a point's coordinate is not finite
abbrev pub point : ℕ
point = 6

-- n < 5
abbrev pub too_few_points : ℕ
too_few_points = 7

-- an observation is not finite
abbrev pub observation : ℕ
observation = 8

-- `pixel_projection` gives none
abbrev pub projection : ℕ
projection = 9

-- the reduced system is not valid; of a call on one block, the block does not factor
abbrev pub not_factored : ℕ
not_factored = 10

-- the 5 by 5 solve gives none
abbrev pub not_solved : ℕ
not_solved = 11

-- `weak_point_count` is above `block_count`
abbrev pub weak_count : ℕ
weak_count = 12

-- the system has 65,535 blocks already
abbrev pub full : ℕ
full = 13

-- the record is longer than 34,559 bytes
abbrev pub record_too_long : ℕ
record_too_long = 14

-- a field of the record is broken
abbrev pub record_form : ℕ
record_form = 15
