-- Each call allows one result.
use Rattle.laws.specs.One.{OneResult, same}
use Rattle.laying.proofs.lay.Kinds as lay
use Rattle.laying.proofs.lay.Reads as lay-reads
use Rattle.laying.proofs.over.Kinds as over
use Rattle.laying.proofs.over.Reads as over_reads

pub lay_one : OneResult lay.ps lay.r lay-reads.Post
lay_one κs a z z' e e' p q = same p.0 q.0

pub over_one : OneResult over.ps over.r over_reads.Post
over_one κs a z z' e e' p q = same p q
