-- The reduced system, `add` and the point step of schur.rs.
pub mod PoseModel
pub mod PoseDamping
pub mod GradientNorm
pub mod Reduced
pub mod SchurComplement
pub mod BlockElimination
pub mod PointStep
pub mod ReducedAdd
