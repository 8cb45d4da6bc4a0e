use mathlib.Core.Path.{refl, sym, ◌∙◌}
use Rattle.laws.specs.Pick.{yes_so, no_so, eq_so, ne_so}
use Rattle.edges.proofs.falling.level_of.Goals as goal

pub returns-then-bit_of-eq1 : goal.returns-then-bit_of-eq1
returns-then-bit_of-eq1 c =
    let b = sym c.bit_of.ensures ∙ c.if-bit_of-eq1.true in
    yes_so _ c.if-s-held.true (eq_so _ (rw c.saturating_sub.ensures at b) refl)

pub returns-then-s-held : goal.returns-then-s-held
returns-then-s-held c =
    yes_so _ c.if-s-held.true (ne_so _ (λ e. c.if-bit_of-eq1.false (c.bit_of.ensures ∙ (rw c.saturating_sub.ensures e))) refl)

pub returns : goal.returns
returns c = no_so _ c.if-s-held.false refl
