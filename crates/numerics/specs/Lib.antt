-- Methods of `f64`, and small vectors. docs/SPECIFICATION.md, "Numbers".
pub mod Binary64
pub mod Classify
pub mod Vectors
pub mod Extrema
