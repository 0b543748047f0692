-- A run record: its fields, its form, what its reader hands out, and the run that it holds.
-- docs/SPECIFICATION.md, "Run record".
pub mod Fields
pub mod Form
pub mod Places
pub mod Reads
pub mod Run
