use Rattle.std.proofs.Common.{refl, ap, ◌∙◌}
use Rattle.laws.specs.Pick.{eq_so, ne_so}
use Rattle.chip.specs.Records.{without_cycle}
use Rattle.chip.proofs.Core.ended.Goals as goal

pub returns-then-kind : goal.returns-then-kind
returns-then-kind c =
    c.without_cycle.ensures
    ∙ ap without_cycle (eq_so _ c.if-kind.true c.with_status.ensures)

pub returns-then-kind-2 : goal.returns-then-kind-2
returns-then-kind-2 c =
    c.without_cycle-then-kind-2.ensures
    ∙ ap without_cycle
    (ne_so _ c.if-kind.false (eq_so _ c.if-kind-2.true c.with_lock.ensures))

pub returns : goal.returns
returns c =
    c.without_cycle-2.ensures
    ∙ ap without_cycle (ne_so _ c.if-kind.false (ne_so _ c.if-kind-2.false refl))
