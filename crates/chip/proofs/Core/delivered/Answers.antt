use Rattle.std.proofs.Common.{refl}
use Rattle.laws.specs.Pick.{call_yes, call_no}
use Rattle.chip.proofs.Core.delivered.Goals as goal

pub returns-then-is_part : goal.returns-then-is_part
returns-then-is_part c =
    call_yes _ c.is_part.ensures c.if-is_part.true
    (rw (c.quiet.ensures, c.size_of.ensures.value) refl)

pub returns : goal.returns
returns c =
    call_no _ c.is_part.ensures c.if-is_part.false
    (rw (c.quiet-2.ensures, c.size_of-2.ensures.value) refl)
