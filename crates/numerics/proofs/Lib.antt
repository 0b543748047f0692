-- Laws of values, of lists of numbers and of the larger and the smaller of two values. Other crates
-- cite those in `pub` modules.
pub mod Values
pub mod Specials
mod AbsLaws
pub mod Order
pub mod Monotone
pub mod Absolute
pub mod Finite
pub mod Fill
pub mod FromFn
mod Products
mod ExtremaLaws
pub mod Laws
pub mod Scaled
