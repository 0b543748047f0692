-- Numbers read from lent slices and written to them; what is written is read back; and so a list of
-- adds over the C interface is one of `add`.
pub mod Reading
pub mod Writing
pub mod ReadBack
pub mod ListsOverC
