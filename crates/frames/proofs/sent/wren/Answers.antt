use mathlib.Core.Bool.{Bool, false}
use mathlib.Core.Path.{◌≡◌, ap, sym, ◌∙◌}
use Rattle.laws.specs.Pick.{at_yes, at_no}
use Rattle.codes.specs.Status.{on}
use Rattle.codes.specs.Verdicts.{verdict, is_executed}
use Rattle.codes.specs.declared.Verdict.{Verdict}
use Rattle.chip.specs.declared.Core.{Core}
use Rattle.codes.specs.declared.Instruction.TheVariants.{Wren}
use Rattle.chip.specs.Records.{own_part, running}
use Rattle.frames.proofs.Sending.{on_wren, wren_left}
use Rattle.frames.proofs.sent.wren.Goals as goal

-- the verdict that is asked
found : (core : Core) (asked : Verdict) (r : Bool) → asked ≡ verdict (own_part core) Wren 0 0 8 r (on core.wel) false false false
    → r ≡ running core → asked ≡ on_wren (own_part core) core
found core asked r e f = e ∙ ap (λ (ran : Bool). verdict (own_part core) Wren 0 0 8 ran (on core.wel) false false false) f

pub returns-then-is_executed : goal.returns-then-is_executed
returns-then-is_executed c =
    let core = c.args.core in
    let yes = sym (ap is_executed (found core _ _ c.judge-verdict.ensures c.running.ensures)) ∙ sym c.is_executed.ensures ∙ c.if-is_executed.true in
    c.with_wel.ensures ∙ sym (wren_left (own_part core) core ∙ at_yes _ _ yes)

pub returns : goal.returns
returns c =
    let core = c.args.core in
    let no = sym (ap is_executed (found core _ _ c.judge-verdict.ensures c.running.ensures)) ∙ sym c.is_executed.ensures ∙ c.if-is_executed.false in
    sym (wren_left (own_part core) core ∙ at_no _ _ no)
