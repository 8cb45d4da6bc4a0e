use Rattle.std.proofs.Common.{refl}
use Rattle.laws.specs.Pick.{call_yes, call_no}
use Rattle.pins.proofs.Device.checked.Goals as goal

pub returns-then-in_ranges : goal.returns-then-in_ranges
returns-then-in_ranges c = call_yes _ c.in_ranges.ensures c.if-in_ranges.true refl

pub returns : goal.returns
returns c = call_no _ c.in_ranges.ensures c.if-in_ranges.false refl
