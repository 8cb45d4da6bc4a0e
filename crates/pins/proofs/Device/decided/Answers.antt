use mathlib.Core.Path.{refl, ap, ◌∙◌}
use Rattle.laws.specs.Pick.{call_yes, call_no}
use Rattle.codes.specs.Verdicts.{is_executed}
use Rattle.pins.proofs.Device.decided.Goals as goal

pub returns-then-is_executed : goal.returns-then-is_executed
returns-then-is_executed c =
    call_yes _ (c.is_executed.ensures ∙ ap is_executed c.verdict_now.ensures) c.if-is_executed.true
    c.executed_now.ensures

pub returns : goal.returns
returns c = call_no _ (c.is_executed.ensures ∙ ap is_executed c.verdict_now.ensures) c.if-is_executed.false refl
