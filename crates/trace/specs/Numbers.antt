-- What a chunk and the end of a text are answered with, and its number.
use Rattle.std.specs.Prelude.{ℕ, Result}
use Rattle.codes.specs.Refusals.{refusal_number, number_by}
use Rattle.trace.specs.declared.FeedError.{FeedError}
use Rattle.trace.specs.declared.FeedError.TheVariants.{BadLine, Refused}

-- 11 from the bad line on
abbrev pub feed_error_number : FeedError → ℕ
feed_error_number BadLine = 11
feed_error_number (Refused r) = refusal_number r

abbrev pub FeedReply : Type 0
FeedReply = Result (Unit {0}) FeedError

abbrev pub feed_reply_number : FeedReply → ℕ
feed_reply_number = number_by feed_error_number
