-- The public call allows one result, one memory, one identification page and one output.
use Rattle.laws.specs.One.{OneResult, OneExit, same}
use Rattle.lists.proofs.listed.play.Kinds as play
use Rattle.lists.proofs.listed.play.Reads as play-reads

pub play_one : OneResult play.ps play.r play-reads.Post
play_one κs a z z' e e' p q = same p.0 q.0

pub play_memory_law : OneExit play.ps play.r play-reads.Post (λ κs e. e.1.0.now)
play_memory_law κs a z z' e e' p q = same p.1.1.0 q.1.1.0

pub play_identification_law : OneExit play.ps play.r play-reads.Post (λ κs e. e.1.1.0.now)
play_identification_law κs a z z' e e' p q = same p.1.1.1.0 q.1.1.1.0

pub play_output_law : OneExit play.ps play.r play-reads.Post (λ κs e. e.1.1.1.1.0.now)
play_output_law κs a z z' e e' p q = same p.1.1.1.1 q.1.1.1.1
