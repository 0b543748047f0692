-- The block of a point: `linearize_point` of schur.rs.
pub mod Accumulate
pub mod Jacobians
pub mod Loss
pub mod Views
pub mod Linearize
