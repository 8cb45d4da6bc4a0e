-- Each call allows one result.
use Rattle.laws.specs.One.{OneResult, same}
use Rattle.events.proofs.are_events.Kinds as are-events
use Rattle.events.proofs.are_events.Reads as are-events-reads
use Rattle.events.proofs.event_of.Kinds as event-of
use Rattle.events.proofs.event_of.Reads as event-of-reads

pub are_events_one : OneResult are-events.ps are-events.r are-events-reads.Post
are_events_one κs a z z' e e' p q = same p q

pub event_of_one : OneResult event-of.ps event-of.r event-of-reads.Post
event_of_one κs a z z' e e' p q = same p q
