use Rattle.std.proofs.Common.{ap, ◌∙◌}
use Rattle.laws.specs.Pick.{call_yes, call_no}
use Rattle.chip.specs.Records.{with_cycle}
use Rattle.chip.specs.declared.Waiting.{Waiting}
use Rattle.chip.proofs.Core.begin_identification.Goals as goal

pub returns-then-picks_lock : goal.returns-then-picks_lock
returns-then-picks_lock c =
    let self = c.args.self in
    c.with_cycle.ensures
    ∙ ap (λ (w : Waiting). with_cycle w self)
    (call_yes _ c.picks_lock.ensures c.if-picks_lock.true c.for_lock.ensures)

pub returns : goal.returns
returns c =
    let self = c.args.self in
    c.with_cycle-2.ensures
    ∙ ap (λ (w : Waiting). with_cycle w self)
    (call_no _ c.picks_lock.ensures c.if-picks_lock.false c.for_identification.ensures)
