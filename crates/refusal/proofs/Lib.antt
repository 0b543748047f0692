-- Laws of the first refusal of several.
pub mod Scans
