use mathlib.Core.Path.{sym, ◌∙◌}
use borrow.Author.Tests.{eq-eqb, ne_eqb}
use Rattle.laws.specs.Pick.{at_yes, at_no}
use Rattle.laws.specs.Bits.{bit_read}
use Rattle.latch.proofs.lay.laid_byte.Goals as goal

pub returns-then-word-place-eq1 : goal.returns-then-word-place-eq1
returns-then-word-place-eq1 c = sym (at_yes _ _ (sym (bit_read c.args.word c.args.place) ∙ eq-eqb _ _ c.if-word-place-eq1.true))

pub returns-else-word-place-eq1 : goal.returns-else-word-place-eq1
returns-else-word-place-eq1 c = sym (at_no _ _ (sym (bit_read c.args.word c.args.place) ∙ ne_eqb _ _ c.if-word-place-eq1.false))
