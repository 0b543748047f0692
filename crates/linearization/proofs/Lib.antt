-- Laws of the block maker.
pub mod Costs
pub mod Tested
