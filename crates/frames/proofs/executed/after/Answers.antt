use mathlib.Core.Path.{refl, ap, sym, ◌∙◌}
use Rattle.laws.specs.Pick.{yes_so, no_so}
use Rattle.codes.specs.Verdicts.{is_executed}
use Rattle.frames.proofs.executed.after.Goals as goal

pub returns-then-is_executed : goal.returns-then-is_executed
returns-then-is_executed c =
    yes_so _ (ap is_executed (sym c.verdict_of.ensures) ∙ sym c.is_executed.ensures ∙ c.if-is_executed.true)
    c.execute.ensures

pub returns : goal.returns
returns c = no_so _ (ap is_executed (sym c.verdict_of.ensures) ∙ sym c.is_executed.ensures ∙ c.if-is_executed.false) refl
