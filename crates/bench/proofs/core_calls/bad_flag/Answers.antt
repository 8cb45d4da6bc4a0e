use mathlib.Core.Path.{refl, sym, ◌∙◌}
use Rattle.laws.specs.Pick.{eq_so, ne_so}
use Rattle.bench.proofs.core_calls.bad_flag.Goals as goal

pub returns-then-size-size_of : goal.returns-then-size-size_of
returns-then-size-size_of c = eq_so _ (c.if-size-size_of.true ∙ c.size_of.ensures.value) refl

pub returns : goal.returns
returns c = ne_so _ (λ e. c.if-size-size_of.false (e ∙ sym c.size_of.ensures.value)) refl
