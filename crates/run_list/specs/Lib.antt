-- The lines of a list, the list of a record, and the theorems about every list.
-- docs/SPECIFICATION.md, "List".
pub mod Lines
pub mod SumLine
pub mod Lists
pub mod Theorems
