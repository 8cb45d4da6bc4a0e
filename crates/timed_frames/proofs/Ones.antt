-- A frame with readings inside allows one result, one memory, one identification page and one output.
use Rattle.laws.specs.One.{OneResult, OneExit, same}
use Rattle.timed_frames.proofs.timed_frame.Kinds as timed-frame
use Rattle.timed_frames.proofs.timed_frame.Reads as timed-frame-reads

pub timed_frame_one : OneResult timed-frame.ps timed-frame.r timed-frame-reads.Post
timed_frame_one κs a z z' e e' p q = same p.0 q.0

pub timed_frame_memory : OneExit timed-frame.ps timed-frame.r timed-frame-reads.Post (λ κs e. e.1.0.now)
timed_frame_memory κs a z z' e e' p q = same p.1.1.0 q.1.1.0

pub timed_frame_identification : OneExit timed-frame.ps timed-frame.r timed-frame-reads.Post (λ κs e. e.1.1.0.now)
timed_frame_identification κs a z z' e e' p q = same p.1.1.1.0 q.1.1.1.0

pub timed_frame_output : OneExit timed-frame.ps timed-frame.r timed-frame-reads.Post (λ κs e. e.1.1.1.1.1.1.1.1.1.0.now)
timed_frame_output κs a z z' e e' p q = same p.1.1.1.1 q.1.1.1.1
