-- Figures worked out by hand (docs/SPECIFICATION.md, "Worked figures").
pub mod Table
