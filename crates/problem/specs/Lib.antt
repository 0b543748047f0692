-- The two-view problem, rows 1 to 9, and the letter of a point.
pub mod Problem
pub mod Checks
pub mod Letters
