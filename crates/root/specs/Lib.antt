-- What a square root is: of a binary64, and the nearest one of a whole number.
-- docs/SPECIFICATION.md, "Square root".
pub mod Whole
pub mod Root
