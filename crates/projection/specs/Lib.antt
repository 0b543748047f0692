-- The pixel half of projection.rs, and a point in the second camera's frame.
pub mod PixelProjection
pub mod CameraFrame
