use Rattle.laws.specs.Pick.{eq_so, ne_so}
use Rattle.edges.specs.Rising.{whole_byte}
use Rattle.edges.proofs.Frame.whole_byte.Goals as goal

pub returns-then-self-eq0 : goal.returns-then-self-eq0
unfolding whole_byte
returns-then-self-eq0 c = eq_so _ c.if-self-eq0.true (rw (c.with_code.ensures, c.with_byte.ensures))

pub returns : goal.returns
unfolding whole_byte
returns c = ne_so _ c.if-self-eq0.false (rw (c.taking.ensures, c.decode.ensures, c.with_byte-2.ensures))
