-- A frame allows one result and one output.
use Rattle.laws.specs.One.{OneResult, OneExit, same}
use Rattle.frames.proofs.frame.Kinds as frame
use Rattle.frames.proofs.frame.Reads as frame-reads
use Rattle.frames.proofs.sent.wren.Kinds as wren
use Rattle.frames.proofs.sent.wren.Reads as wren-reads
use Rattle.frames.proofs.sent.write.Kinds as write
use Rattle.frames.proofs.sent.write.Reads as write-reads

pub frame_one : OneResult frame.ps frame.r frame-reads.Post
frame_one κs a z z' e e' p q = same p.0 q.0

pub frame_output : OneExit frame.ps frame.r frame-reads.Post (λ κs e. e.1.1.1.1.1.1.0.now)
frame_output κs a z z' e e' p q = same p.1.1.1 q.1.1.1

-- ---- inner calls

pub wren_one : OneResult wren.ps wren.r wren-reads.Post
wren_one κs a z z' e e' p q = same p q

pub write_one_law : OneResult write.ps write.r write-reads.Post
write_one_law κs a z z' e e' p q = same p q
