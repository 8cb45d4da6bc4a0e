use mathlib.Core.Path.{sym, ◌∙◌}
use native.Mathlib.Omega.{arith}
use Rattle.printing.proofs.Puts.{digits_none, digits_turn}
use Rattle.printing.proofs.digits.put_digits.Goals as goal

pub loop-i-preserved : goal.loop-i-preserved
loop-i-preserved c =
    let l = c.loop-i in
    digits_turn l.out c.args.at l.i l.rest (omega arith) (omega arith) ∙ l.invariant

pub returns : goal.returns
returns c =
    let l = c.loop-i in
    sym (digits_none l.out c.args.at l.i l.rest (omega arith)) ∙ l.invariant
