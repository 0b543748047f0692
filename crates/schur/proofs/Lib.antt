-- Laws of the scaled gradient norm, of the reduced Hessian, of the factor of a block
-- and of the counts.
pub mod Norms
pub mod Rows
pub mod FactorCases
pub mod Room
