-- The root's theorem (`Correct`), what leads to it, and laws that callers cite (`Signs`).
mod Whole
mod Patterns
mod Rounded
mod Correct
mod Read
pub mod Signs
