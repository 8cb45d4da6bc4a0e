-- Each call allows one result, and one memory and one identification page.
use Rattle.laws.specs.One.{OneResult, OneExit, same}
use Rattle.cuts.proofs.cutting.cut.Kinds as cut
use Rattle.cuts.proofs.cutting.cut.Reads as cut-reads
use Rattle.cuts.proofs.cutting.cut_core.Kinds as cut-core
use Rattle.cuts.proofs.cutting.cut_core.Reads as cut-core-reads

pub cut_one : OneResult cut.ps cut.r cut-reads.Post
cut_one κs a z z' e e' p q = same p.0 q.0

pub cut_memory_law : OneExit cut.ps cut.r cut-reads.Post (λ κs e. e.1.1.0.now)
cut_memory_law κs a z z' e e' p q = same p.1.1.0 q.1.1.0

pub cut_identification_law : OneExit cut.ps cut.r cut-reads.Post (λ κs e. e.1.1.1.0.now)
cut_identification_law κs a z z' e e' p q = same p.1.1.1 q.1.1.1

-- the inner call
pub cut_core_one : OneResult cut-core.ps cut-core.r cut-core-reads.Post
cut_core_one κs a z z' e e' p q = same p.0 q.0

pub cut_core_memory : OneExit cut-core.ps cut-core.r cut-core-reads.Post (λ κs e. e.1.1.0.now)
cut_core_memory κs a z z' e e' p q = same p.1.0 q.1.0

pub cut_core_identification : OneExit cut-core.ps cut-core.r cut-core-reads.Post (λ κs e. e.1.1.1.0.now)
cut_core_identification κs a z z' e e' p q = same p.1.1 q.1.1
