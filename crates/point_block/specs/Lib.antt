-- The 3 by 3 point block, its damping, its factor and its condition: point_block.rs.
pub mod Cholesky
pub mod Damping
pub mod Factor
pub mod Condition
pub mod FactorWithRcond
