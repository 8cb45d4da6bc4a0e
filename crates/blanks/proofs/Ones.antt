-- Each call allows one result, and one memory where it is lent one.
use Rattle.laws.specs.One.{OneResult, OneExit, same}
use Rattle.blanks.proofs.blanks.Kinds as blanks
use Rattle.blanks.proofs.blanks.Reads as blanks-reads
use Rattle.blanks.proofs.store_counting.Kinds as store-counting
use Rattle.blanks.proofs.store_counting.Reads as store-counting-reads

pub blanks_one : OneResult blanks.ps blanks.r blanks-reads.Post
blanks_one κs a z z' e e' p q = same p q

pub store_counting_one : OneResult store-counting.ps store-counting.r store-counting-reads.Post
store_counting_one κs a z z' e e' p q = same p.0 q.0

pub store_counting_memory : OneExit store-counting.ps store-counting.r store-counting-reads.Post (λ κs e. e.1.1.1.1.0.now)
store_counting_memory κs a z z' e e' p q = same p.1 q.1
