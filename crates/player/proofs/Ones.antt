-- Each public call allows one result.
use Rattle.laws.specs.One.{OneResult, same}
use Rattle.player.proofs.start.Kinds as start
use Rattle.player.proofs.start.Reads as start-reads
use Rattle.player.proofs.memory.Kinds as memory
use Rattle.player.proofs.memory.Reads as memory-reads
use Rattle.player.proofs.identification.Kinds as identification
use Rattle.player.proofs.identification.Reads as identification-reads
use Rattle.player.proofs.Player.in_ranges.Kinds as in-ranges
use Rattle.player.proofs.Player.in_ranges.Reads as in-ranges-reads

pub start_one : OneResult start.ps start.r start-reads.Post
start_one κs a z z' e e' p q = same p q

pub memory_one : OneResult memory.ps memory.r memory-reads.Post
memory_one κs a z z' e e' p q = same p.0 q.0

pub identification_one : OneResult identification.ps identification.r identification-reads.Post
identification_one κs a z z' e e' p q = same p.0 q.0

pub in_ranges_one : OneResult in-ranges.ps in-ranges.r in-ranges-reads.Post
in_ranges_one κs a z z' e e' p q = same p q
