-- The whole step: kernel/two_view/optimizer.rs.
pub mod PoseStep
pub mod Assembly
pub mod PointSteps
pub mod Step
pub mod Results
