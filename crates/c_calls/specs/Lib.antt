-- The outcomes of the calls of the C interface, the layouts of its arrays, and what a list of adds
-- over C leaves (docs/SPECIFICATION.md, "C interface").
pub mod Slices
pub mod Outcomes
pub mod Layout
pub mod LayoutNumbers
pub mod MatrixCalls
pub mod PointCalls
pub mod SystemCalls
pub mod StepCalls
pub mod AddsOverC
pub mod Zeros
