use Rattle.std.proofs.Common.{not, ◌&&◌, ap₂}
use Rattle.laws.specs.Pick.{call_yes, call_no}
use Rattle.cuts.proofs.down.cut_waits.Goals as goal

pub returns-then-has : goal.returns-then-has
returns-then-has c = call_yes _ c.has.ensures c.if-has.true (rw c.cut_status.ensures)

pub returns-then-has-chosen : goal.returns-then-has-chosen
returns-then-has-chosen c =
    call_no _ c.has.ensures c.if-has.false
    (call_yes _ (ap₂ (λ u t. u && not t) c.has-2.ensures c.chosen.ensures) c.if-has-chosen.true c.nothing.ensures)

pub returns : goal.returns
returns c =
    call_no _ c.has.ensures c.if-has.false
    (call_no _ (ap₂ (λ u t. u && not t) c.has-2.ensures c.chosen.ensures) c.if-has-chosen.false (rw c.cut_latch-waits.ensures))
