-- By the side of the choice that each test takes.
use mathlib.Core.Path.{refl}
use native.Mathlib.Omega.{arith}
use Rattle.laws.specs.Pick.{eq_so, ne_so}
use Rattle.intel_hex.proofs.public.check_record.Goals as goal

pub returns-then-cells-size_of : goal.returns-then-cells-size_of
returns-then-cells-size_of c = ne_so _ (λ e. omega (arith, e, c.size_of.ensures.value)) refl

pub returns : goal.returns
returns c = eq_so _ (omega (arith, c.size_of.ensures.value)) c.checked.ensures
