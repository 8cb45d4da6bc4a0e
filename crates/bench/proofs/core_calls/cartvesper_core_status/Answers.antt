use Rattle.laws.specs.Pick.{call_yes, call_no}
use Rattle.bench.proofs.core_calls.cartvesper_core_status.Goals as goal

pub returns-then-in_ranges : goal.returns-then-in_ranges
returns-then-in_ranges c =
    call_yes _ c.in_ranges.ensures c.if-in_ranges.true
    (rw (c.from.ensures, c.wide.ensures, c.status.ensures))

pub returns : goal.returns
returns c = call_no _ c.in_ranges.ensures c.if-in_ranges.false c.from-2.ensures
