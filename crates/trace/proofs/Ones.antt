-- Each public call allows one result; and one memory, one identification page and one output where it is lent them.
use Rattle.laws.specs.One.{OneResult, OneExit, same}
use Rattle.trace.proofs.public.feed.Kinds as feed
use Rattle.trace.proofs.public.feed.Reads as feed-reads
use Rattle.trace.proofs.public.finish.Kinds as finish
use Rattle.trace.proofs.public.finish.Reads as finish-reads
use Rattle.trace.proofs.FeedErrorNumbered.number.Kinds as feed-error-number
use Rattle.trace.proofs.FeedErrorNumbered.number.Reads as feed-error-number-reads

pub feed_one : OneResult feed.ps feed.r feed-reads.Post
feed_one κs a z z' e e' p q = same p.0 q.0

pub feed_memory_law : OneExit feed.ps feed.r feed-reads.Post (λ κs e. e.1.0.now)
feed_memory_law κs a z z' e e' p q = same p.1.1.0 q.1.1.0

pub feed_identification_law : OneExit feed.ps feed.r feed-reads.Post (λ κs e. e.1.1.0.now)
feed_identification_law κs a z z' e e' p q = same p.1.1.1.0 q.1.1.1.0

pub feed_output_law : OneExit feed.ps feed.r feed-reads.Post (λ κs e. e.1.1.1.1.0.now)
feed_output_law κs a z z' e e' p q = same p.1.1.1.1.0 q.1.1.1.1.0

pub finish_one : OneResult finish.ps finish.r finish-reads.Post
finish_one κs a z z' e e' p q = same p.0 q.0

pub finish_output : OneExit finish.ps finish.r finish-reads.Post (λ κs e. e.1.0.now)
finish_output κs a z z' e e' p q = same p.1.1.0 q.1.1.0

-- ---- inner calls

pub feed_error_number_one : OneResult feed-error-number.ps feed-error-number.r feed-error-number-reads.Post
feed_error_number_one κs a z z' e e' p q = same p q
