use Rattle.projection.proofs.CameraFrameLaws.{not_projectable}
use Rattle.projection.proofs.camera_frame.non_finite_pose_is_not_projectable.Goals as goal

pub returns : goal.returns
returns c = not_projectable
