use mathlib.Core.Path.{refl, ap, ◌∙◌}
use Rattle.laws.specs.Pick.{call_yes, call_no}
use Rattle.codes.specs.Verdicts.{is_executed}
use Rattle.lists.proofs.Front.wel_after.Goals as goal

pub returns-then-is_executed : goal.returns-then-is_executed
returns-then-is_executed c = call_yes _ (c.is_executed.ensures ∙ ap is_executed c.judge-verdict.ensures) c.if-is_executed.true refl

pub returns-else-is_executed : goal.returns-else-is_executed
returns-else-is_executed c = call_no _ (c.is_executed.ensures ∙ ap is_executed c.judge-verdict.ensures) c.if-is_executed.false refl
