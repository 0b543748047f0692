-- The system of a problem; the pass over all points, and that none of a valid system is refused;
-- the ways out of a step.
pub mod Blocks
mod Passes
pub mod PointStepsLaws
mod Whole
