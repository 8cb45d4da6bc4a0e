use Rattle.std.proofs.Common.{arith}
use Rattle.std.proofs.lemmas.Grind.{common_steps}
use Rattle.events.proofs.Numbers.{none_are, more_are, none_of}
use Rattle.events.proofs.are_events.Goals as goal

pub loop-event-init : goal.loop-event-init
loop-event-init c = none_are

pub loop-event-preserved : goal.loop-event-preserved
loop-event-preserved c = grind (arith, common_steps, more_are, none_of)
