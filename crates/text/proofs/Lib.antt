-- Laws of texts put into a buffer, one after the other.
pub mod Puts
pub mod Decimals
pub mod Wrote
