-- Laws of the checks.
mod Parts
pub mod Passed
