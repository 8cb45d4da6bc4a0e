use Rattle.std.proofs.Common.{◌≤◌}
use Rattle.duel.proofs.schedules.scheduled.Given as goal

abbrev pub invariant-loop-i : goal.invariant-loop-i
invariant-loop-i l = l.moment.at ≤ l.most
