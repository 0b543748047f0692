-- Laws of the projection, which other crates cite (`Laws`), and the theorem on a pose that is
-- not finite.
pub mod Laws
mod Front
mod CameraFrameLaws
