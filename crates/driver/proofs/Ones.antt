-- The public call allows one result, and leaves one memory and one identification page.
use Rattle.laws.specs.One.{OneResult, OneExit, same}
use Rattle.driver.proofs.write.Kinds as write
use Rattle.driver.proofs.write.Reads as write-reads
use Rattle.driver.proofs.Sent.of.Kinds as sent-of
use Rattle.driver.proofs.Sent.of.Reads as sent-of-reads
use Rattle.driver.proofs.answers.RunErrorNumbered.number.Kinds as run-error-number
use Rattle.driver.proofs.answers.RunErrorNumbered.number.Reads as run-error-number-reads

pub write_one_law : OneResult write.ps write.r write-reads.Post
write_one_law κs a z z' e e' p q = same p.0 q.0

pub write_memory : OneExit write.ps write.r write-reads.Post (λ κs e. e.1.0.now)
write_memory κs a z z' e e' p q = same p.1.1.1.1.0 q.1.1.1.1.0

pub write_identification : OneExit write.ps write.r write-reads.Post (λ κs e. e.1.1.0.now)
write_identification κs a z z' e e' p q = same p.1.1.1.1.1 q.1.1.1.1.1

-- ---- inner calls

pub sent_of_one : OneResult sent-of.ps sent-of.r sent-of-reads.Post
sent_of_one κs a z z' e e' p q = same p q

pub run_error_number_one : OneResult run-error-number.ps run-error-number.r run-error-number-reads.Post
run_error_number_one κs a z z' e e' p q = same p q
