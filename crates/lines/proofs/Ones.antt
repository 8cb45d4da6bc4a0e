-- Each call allows one result, and one content of what it is lent to write.
use Rattle.laws.specs.One.{OneResult, same}
use Rattle.lines.proofs.Line.next.Kinds as line-next
use Rattle.lines.proofs.Line.next.Reads as line-next-reads
use Rattle.lines.proofs.Line.closing.Kinds as line-closing
use Rattle.lines.proofs.Line.closing.Reads as line-closing-reads
use Rattle.lines.proofs.Line.event.Kinds as line-event
use Rattle.lines.proofs.Line.event.Reads as line-event-reads
use Rattle.lines.proofs.Line.fits.Kinds as line-fits
use Rattle.lines.proofs.Line.fits.Reads as line-fits-reads
use Rattle.lines.proofs.Line.ended.Kinds as line-ended
use Rattle.lines.proofs.Line.ended.Reads as line-ended-reads
use Rattle.lines.proofs.levels.level_kind.Kinds as level-kind
use Rattle.lines.proofs.levels.level_kind.Reads as level-kind-reads
use Rattle.lines.proofs.levels.level_event.Kinds as level-event
use Rattle.lines.proofs.levels.level_event.Reads as level-event-reads
use Rattle.lines.proofs.Line.is_fresh.Kinds as line-is-fresh
use Rattle.lines.proofs.Line.is_fresh.Reads as line-is-fresh-reads
use Rattle.lines.proofs.Line.past_line.Kinds as line-past-line
use Rattle.lines.proofs.Line.past_line.Reads as line-past-line-reads

pub line_next_one : OneResult line-next.ps line-next.r line-next-reads.Post
line_next_one κs a z z' e e' p q = same p q

pub line_closing_one : OneResult line-closing.ps line-closing.r line-closing-reads.Post
line_closing_one κs a z z' e e' p q = same p q

pub line_event_one : OneResult line-event.ps line-event.r line-event-reads.Post
line_event_one κs a z z' e e' p q = same p q

pub line_fits_one : OneResult line-fits.ps line-fits.r line-fits-reads.Post
line_fits_one κs a z z' e e' p q = same p q

pub line_ended_one : OneResult line-ended.ps line-ended.r line-ended-reads.Post
line_ended_one κs a z z' e e' p q = same p q

pub level_kind_one : OneResult level-kind.ps level-kind.r level-kind-reads.Post
level_kind_one κs a z z' e e' p q = same p q

pub level_event_one : OneResult level-event.ps level-event.r level-event-reads.Post
level_event_one κs a z z' e e' p q = same p q

pub line_is_fresh_one : OneResult line-is-fresh.ps line-is-fresh.r line-is-fresh-reads.Post
line_is_fresh_one κs a z z' e e' p q = same p q

pub line_past_line_one : OneResult line-past-line.ps line-past-line.r line-past-line-reads.Post
line_past_line_one κs a z z' e e' p q = same p q
