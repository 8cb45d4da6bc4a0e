use mathlib.Core.Path.{refl}
use Rattle.laws.specs.Pick.{le_so, gt_so}
use Rattle.bench.proofs.frame_call.cartvesper_frame.Goals as goal

pub returns-then-w-le1-clause-value : goal.returns-then-w-le1-clause-value
returns-then-w-le1-clause-value c =
    le_so _ c.if-w-le1.true
    (rw (c.from.ensures, c.frame.ensures.value))

pub returns-then-w-le1-clause-out_after : goal.returns-then-w-le1-clause-out_after
returns-then-w-le1-clause-out_after c = le_so _ c.if-w-le1.true c.frame.ensures.out_after

pub returns-clause-value : goal.returns-clause-value
returns-clause-value c = gt_so _ c.if-w-le1.false (rw c.bad_level.ensures)

pub returns-clause-out_after : goal.returns-clause-out_after
returns-clause-out_after c = gt_so _ c.if-w-le1.false refl
