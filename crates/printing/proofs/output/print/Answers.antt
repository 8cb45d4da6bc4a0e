-- By the side of the choice that the test for room takes.
use mathlib.Core.Path.{refl, sym, ◌∙◌}
use native.Mathlib.Omega.{arith}
use Rattle.laws.specs.Pick.{yes_so, no_so}
use Rattle.printing.proofs.output.print.Goals as goal

pub returns-then-has_lines-clause-out_after : goal.returns-then-has_lines-clause-out_after
returns-then-has_lines-clause-out_after c =
    let x = c.put_lines in
    let room = sym c.has_lines.ensures ∙ c.if-has_lines.true in
    yes_so _ room x.ensures.out_after

pub returns-then-has_lines-clause-value : goal.returns-then-has_lines-clause-value
returns-then-has_lines-clause-value c =
    let x = c.put_lines in
    let room = sym c.has_lines.ensures ∙ c.if-has_lines.true in
    (yes_so _ room x.ensures.value.0, x.ensures.value.1)

pub returns-clause-out_after : goal.returns-clause-out_after
returns-clause-out_after c =
    let none = sym c.has_lines.ensures ∙ c.if-has_lines.false in
    no_so _ none refl

pub returns-clause-value : goal.returns-clause-value
returns-clause-value c =
    let none = sym c.has_lines.ensures ∙ c.if-has_lines.false in
    (no_so _ none refl, omega arith)
