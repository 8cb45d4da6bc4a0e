use Rattle.laws.specs.Pick.{call_yes, arms}
use Rattle.chip.specs.Records.{own_part}
use Rattle.chip.proofs.Numbers.{started}
use Rattle.chip.proofs.Core.protected_from.Goals as goal

pub returns-then-in_ranges : goal.returns-then-in_ranges
returns-then-in_ranges c =
    started (own_part c.args.self) c.args.self
    (call_yes _ c.in_ranges.ensures c.if-in_ranges.true (rw c.lowest.ensures))

pub returns : goal.returns
returns c = started (own_part c.args.self) c.args.self (search arms)
