use Rattle.std.proofs.Common.{refl}
use Rattle.laws.specs.Pick.{eq_so, ne_so}
use Rattle.chip.proofs.Core.store_identification.Goals as goal

pub returns-then-self : goal.returns-then-self
returns-then-self c = eq_so _ c.if-self.true c.store.ensures

pub returns-else-self : goal.returns-else-self
returns-else-self c = ne_so _ c.if-self.false refl
